-- What a line says, by its words. Faults are found from left to right. Assumes nothing.
use Rattle.std.specs.Prelude.{ℕ, cond, ◌&&◌, List, [], ◌∷◌, Some, None, Ok, Err, codes, Option, Result, nat_le}
use Rattle.std.specs.Str.{bytes_eq}
use Rattle.ladder.specs.Prices.{legal}
use Rattle.order.specs.declared.Kind.{Kind}
use Rattle.order.specs.declared.Kind.TheVariants.{AtAuction, Limit}
use Rattle.order.specs.declared.Side.{Side}
use Rattle.order.specs.declared.Side.TheVariants.{Buy, Sell}
use Rattle.order_text.specs.declared.faults.Fault.{Fault}
use Rattle.order_text.specs.declared.faults.Fault.TheVariants.{UnknownWord, WordMissing, WordTooMany, BadShares, BadPrice, PriceNotLegal}
use Rattle.order_text.specs.declared.Saying.{Saying}
use Rattle.order_text.specs.declared.Saying.TheVariants.{Nothing, Close, Trade}
use Rattle.words.specs.Cutting.{and_then, nothing_after, number_in}

-- a number of shares lies from 1 to 30,000,000
abbrev pub as_shares : Option ℕ → Result ℕ Fault
as_shares None = Err BadShares
as_shares (Some n) = cond (nat_le 1 n && nat_le n 30000000) (Ok n) (Err BadShares)

-- the shares that a word names
abbrev pub shares_in : List ℕ → Result ℕ Fault
shares_in word = as_shares (number_in word)

module _ (prices : List ℕ) where
  -- a number is a price where it is a legal one
  abbrev pub as_price : Option ℕ → Result ℕ Fault
  as_price None = Err BadPrice
  as_price (Some p) = cond (legal p prices) (Ok p) (Err PriceNotLegal)

  -- the price that a word names
  abbrev pub price_in : List ℕ → Result ℕ Fault
  price_in word = as_price (number_in word)

  -- an order names its limit, or `at-auction`
  abbrev pub kind_in : List ℕ → Result Kind Fault
  kind_in word = cond (bytes_eq word (codes "at-auction")) (Ok AtAuction) (and_then (price_in word) (λ p. Ok (Limit p)))

  -- after `close`: a price
  abbrev pub close_line : List (List ℕ) → Result Saying Fault
  close_line [] = Err WordMissing
  close_line (w ∷ ws) = and_then (price_in w) (λ p. nothing_after WordTooMany (Close p) ws)

  -- after the shares of an order: its price
  abbrev pub kind_line : Side → ℕ → List (List ℕ) → Result Saying Fault
  kind_line side shares [] = Err WordMissing
  kind_line side shares (w ∷ ws) = and_then (kind_in w) (λ kind. nothing_after WordTooMany (Trade side shares kind) ws)

  -- after `buy` or `sell`: shares, and then a price
  abbrev pub trade_line : Side → List (List ℕ) → Result Saying Fault
  trade_line side [] = Err WordMissing
  trade_line side (w ∷ ws) = and_then (shares_in w) (λ shares. kind_line side shares ws)

  -- a line with no word says nothing
  abbrev pub line_says : List (List ℕ) → Result Saying Fault
  line_says [] = Ok Nothing
  line_says (w ∷ ws) =
      cond (bytes_eq w (codes "close")) (close_line ws)
      (cond (bytes_eq w (codes "buy")) (trade_line Buy ws)
      (cond (bytes_eq w (codes "sell")) (trade_line Sell ws)
      (Err UnknownWord)))
