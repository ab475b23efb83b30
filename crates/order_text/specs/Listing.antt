-- The plain text of a request: a closing price, and then its orders, one to a line. Assumes nothing.
use Rattle.std.specs.Prelude.{◌≡◌, ℕ, ◌+◌, ◌<◌, ◌≤◌, true, List, [], ◌∷◌, ◌++◌, Some, None, Ok, codes, decimal, Option, Result}
use Rattle.std.specs.List.{flat_map}
use Rattle.ladder.specs.Prices.{legal}
use Rattle.order.specs.declared.Kind.{Kind}
use Rattle.order.specs.declared.Kind.TheVariants.{AtAuction, Limit}
use Rattle.order.specs.declared.Order.{Order}
use Rattle.order.specs.declared.Side.{Side}
use Rattle.order.specs.declared.Side.TheVariants.{Buy, Sell}
use Rattle.order_text.specs.declared.reading.ReadError.{ReadError}
use Rattle.order_text.specs.declared.reading.Request.{Request}
use Rattle.order_text.specs.Asking.{Asked, Gives}

-- the word for each side
abbrev pub side_word : Side → List ℕ
side_word Buy = codes "buy"
side_word Sell = codes "sell"

-- the word for each kind of price
abbrev pub kind_word : Kind → List ℕ
kind_word AtAuction = codes "at-auction"
kind_word (Limit price) = decimal price

-- an order as its line says it: side, shares and price, with a space between
abbrev pub order_words : Order → List ℕ
order_words o = side_word o.side ++ (32 ∷ (decimal o.shares ++ (32 ∷ kind_word o.kind)))

-- the line of an order
abbrev pub order_line : Order → List ℕ
order_line o = order_words o ++ (10 ∷ [])

-- a closing price as its line says it
abbrev pub close_words : ℕ → List ℕ
close_words price = codes "close" ++ (32 ∷ decimal price)

-- the line of a closing price, if there is one
abbrev pub close_text : Option ℕ → List ℕ
close_text None = []
close_text (Some price) = close_words price ++ (10 ∷ [])

-- the plain text of a request
abbrev pub request_text : Asked → List ℕ
request_text a = close_text a.close ++ flat_map order_line a.orders

module _ (prices : List ℕ) where
  -- a legal price of at most eight digits
  abbrev pub Legal : ℕ → Type 0
  Legal price = (price < 100000000) × (legal price prices ≡ true)

  -- an order's price, if it names one, is legal
  abbrev pub LegalKind : Kind → Type 0
  LegalKind AtAuction = Unit {0}
  LegalKind (Limit price) = Legal price

  -- an order that can be number `n`
  pub record Good (n : ℕ) (o : Order) : Type 0 where
    pub number : o.number ≡ n
    pub broker : o.broker ≡ 1
    pub some : 1 ≤ o.shares
    pub most : o.shares ≤ 30000000
    pub price : LegalKind o.kind
    pub room : n ≤ 512

  -- each order is good, from number `n` on
  abbrev pub AllGood : ℕ → List Order → Type 0
  AllGood n [] = Unit {0}
  AllGood n (o ∷ more) = Good n o × AllGood (n + 1) more

  -- a closing price, if there is one, is legal
  abbrev pub LegalClose : Option ℕ → Type 0
  LegalClose None = Unit {0}
  LegalClose (Some price) = Legal price

  -- what can be asked for
  pub record Proper (a : Asked) : Type 0 where
    pub orders : AllGood 1 a.orders
    pub close : LegalClose a.close

  -- the plain text of all that can be asked for is read as just that
  abbrev pub ReadsBack : List ℕ → Result Request ReadError → Type 0
  ReadsBack text r = (a : Asked) → Proper a → text ≡ request_text a → Gives (Ok a) r
