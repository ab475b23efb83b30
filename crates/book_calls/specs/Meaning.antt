-- The call that a line asks for, by its words. Faults are found from left to right. Assumes nothing.
use Rattle.std.specs.Prelude.{ℕ, cond, List, [], ◌∷◌, Some, None, Ok, Err, codes, Option, Result}
use Rattle.std.specs.Option.{ok_or}
use Rattle.std.specs.Str.{bytes_eq}
use Rattle.order.specs.declared.Kind.{Kind}
use Rattle.order.specs.declared.Kind.TheVariants.{AtAuction, Limit}
use Rattle.order.specs.declared.Side.{Side}
use Rattle.order.specs.declared.Side.TheVariants.{Buy, Sell}
use Rattle.words.specs.Cutting.{and_then, nothing_after, number_in}
use Rattle.book_calls.specs.declared.BookCall.{BookCall}
use Rattle.book_calls.specs.declared.BookCall.TheVariants.{Put, Replace, Cut}
use Rattle.book_calls.specs.declared.faults.CallFault.{CallFault}
use Rattle.book_calls.specs.declared.faults.CallFault.TheVariants.{UnknownWord, WordMissing, WordTooMany, BadNumber, BadSide, BadPrice}

-- the entry number, broker or shares that a word names
abbrev pub numeral_in : List ℕ → Result ℕ CallFault
numeral_in word = ok_or (number_in word) BadNumber

-- the price that a word names
abbrev pub price_in : List ℕ → Result ℕ CallFault
price_in word = ok_or (number_in word) BadPrice

-- a side is `buy` or `sell`
abbrev pub side_in : List ℕ → Result Side CallFault
side_in word =
    cond (bytes_eq word (codes "buy")) (Ok Buy)
    (cond (bytes_eq word (codes "sell")) (Ok Sell)
    (Err BadSide))

-- an order names its limit, or `at-auction`
abbrev pub kind_in : List ℕ → Result Kind CallFault
kind_in word = cond (bytes_eq word (codes "at-auction")) (Ok AtAuction) (and_then (price_in word) (λ p. Ok (Limit p)))

-- ---- put NUMBER BROKER SIDE SHARES KIND

-- after the shares: the limit or `at-auction`
abbrev pub put_kind : ℕ → ℕ → Side → ℕ → List (List ℕ) → Result BookCall CallFault
put_kind number broker side shares [] = Err WordMissing
put_kind number broker side shares (w ∷ ws) =
    and_then (kind_in w) (λ kind. nothing_after WordTooMany (Put (record { number = number; broker = broker; side = side; kind = kind; shares = shares })) ws)

-- after the side: the shares
abbrev pub put_shares : ℕ → ℕ → Side → List (List ℕ) → Result BookCall CallFault
put_shares number broker side [] = Err WordMissing
put_shares number broker side (w ∷ ws) = and_then (numeral_in w) (λ shares. put_kind number broker side shares ws)

-- after the broker: the side
abbrev pub put_side : ℕ → ℕ → List (List ℕ) → Result BookCall CallFault
put_side number broker [] = Err WordMissing
put_side number broker (w ∷ ws) = and_then (side_in w) (λ side. put_shares number broker side ws)

-- after the entry number: the broker
abbrev pub put_broker : ℕ → List (List ℕ) → Result BookCall CallFault
put_broker number [] = Err WordMissing
put_broker number (w ∷ ws) = and_then (numeral_in w) (λ broker. put_side number broker ws)

-- after `put`: the entry number
abbrev pub put_line : List (List ℕ) → Result BookCall CallFault
put_line [] = Err WordMissing
put_line (w ∷ ws) = and_then (numeral_in w) (λ number. put_broker number ws)

-- ---- replace OLD NUMBER SHARES PRICE, where the price may be left out

-- after the shares: the new price, or nothing
abbrev pub replace_price : ℕ → ℕ → ℕ → List (List ℕ) → Result BookCall CallFault
replace_price old number shares [] = Ok (Replace old (record { number = number; price = None; shares = shares }))
replace_price old number shares (w ∷ ws) =
    and_then (price_in w) (λ p. nothing_after WordTooMany (Replace old (record { number = number; price = Some p; shares = shares })) ws)

-- after the new number: the shares
abbrev pub replace_shares : ℕ → ℕ → List (List ℕ) → Result BookCall CallFault
replace_shares old number [] = Err WordMissing
replace_shares old number (w ∷ ws) = and_then (numeral_in w) (λ shares. replace_price old number shares ws)

-- after the old number: the new one
abbrev pub replace_number : ℕ → List (List ℕ) → Result BookCall CallFault
replace_number old [] = Err WordMissing
replace_number old (w ∷ ws) = and_then (numeral_in w) (λ number. replace_shares old number ws)

-- after `replace`: the old number
abbrev pub replace_line : List (List ℕ) → Result BookCall CallFault
replace_line [] = Err WordMissing
replace_line (w ∷ ws) = and_then (numeral_in w) (λ old. replace_number old ws)

-- ---- cut NUMBER SHARES

-- after the entry number: the shares
abbrev pub cut_shares : ℕ → List (List ℕ) → Result BookCall CallFault
cut_shares number [] = Err WordMissing
cut_shares number (w ∷ ws) = and_then (numeral_in w) (λ shares. nothing_after WordTooMany (Cut number shares) ws)

-- after `cut`: the entry number
abbrev pub cut_line : List (List ℕ) → Result BookCall CallFault
cut_line [] = Err WordMissing
cut_line (w ∷ ws) = and_then (numeral_in w) (λ number. cut_shares number ws)

-- ---- a line

-- the call that the first word names, and what follows it
abbrev pub call_named : List ℕ → List (List ℕ) → Result BookCall CallFault
call_named word ws =
    cond (bytes_eq word (codes "put")) (put_line ws)
    (cond (bytes_eq word (codes "replace")) (replace_line ws)
    (cond (bytes_eq word (codes "cut")) (cut_line ws)
    (Err UnknownWord)))

-- a line with no word asks for nothing
abbrev pub call_in : List (List ℕ) → Result (Option BookCall) CallFault
call_in [] = Ok None
call_in (w ∷ ws) = and_then (call_named w ws) (λ call. Ok (Some call))
