-- Eight small books with the price that each must open at. Assumes nothing.
use Rattle.std.specs.Prelude.{◌≡◌, ℕ, List, [], ◌∷◌, Some, None, Option, All}
use Rattle.order.specs.declared.Side.{Side}
use Rattle.order.specs.declared.Side.TheVariants.{Buy, Sell}
use Rattle.order.specs.declared.Kind.{Kind}
use Rattle.order.specs.declared.Kind.TheVariants.{AtAuction, Limit}
use Rattle.order.specs.declared.Order.{Order}
use Rattle.auction.specs.declared.AuctionPrice.{AuctionPrice}
use Rattle.auction.specs.Rules.{thousandths, auction_price}

-- a book, a closing price and the answer
pub record Worked : Type 0 where
  pub close : Option ℕ
  pub orders : List Order
  pub answer : Option AuctionPrice

abbrev order : ℕ → Side → Kind → ℕ → Order
order number side kind shares = record { number = number; broker = 1; side = side; kind = kind; shares = shares }

abbrev struck : ℕ → ℕ → Option AuctionPrice
struck price matched = Some (record { price = price; matched = matched })

abbrev opens : Option ℕ → List Order → Option AuctionPrice → Worked
opens close orders answer = record { close = close; orders = orders; answer = answer }

-- the closing price of all but one
abbrev close_10000 : Option ℕ
close_10000 = Some 10_000

-- without orders there is no price
abbrev pub no_orders : Worked
no_orders = opens close_10000 [] None

-- a buy below the sell reaches nothing: no price
abbrev pub out_of_reach : Worked
out_of_reach = opens close_10000 (order 1 Buy (Limit 9_990) 100 ∷ order 2 Sell (Limit 10_000) 100 ∷ []) None

-- more demand at each price, at-auction shares counted: the highest
abbrev pub more_demand : Worked
more_demand =
    opens close_10000
    (order 1 Buy (Limit 10_020) 300 ∷ order 2 Buy AtAuction 100 ∷ order 3 Sell (Limit 9_980) 200 ∷ [])
    (struck 10_020 200)

-- more supply at each price: the lowest
abbrev pub more_supply : Worked
more_supply = opens close_10000 (order 1 Buy (Limit 10_020) 300 ∷ order 2 Sell (Limit 9_980) 400 ∷ []) (struck 9_980 300)

-- demand and supply level, one price closer to the closing price: the closer
abbrev level_book : List Order
level_book = order 1 Buy (Limit 10_040) 200 ∷ order 2 Sell (Limit 9_970) 200 ∷ []

abbrev pub one_closer : Worked
one_closer = opens close_10000 level_book (struck 9_970 200)

-- both as close: the higher
abbrev pub as_close : Worked
as_close = opens close_10000 (order 1 Buy (Limit 10_020) 200 ∷ order 2 Sell (Limit 9_980) 200 ∷ []) (struck 10_020 200)

-- no closing price: the highest
abbrev pub no_close : Worked
no_close = opens None level_book (struck 10_040 200)

-- only prices that orders name: 10,000, and not 10,020 between them
abbrev pub named_only : Worked
named_only =
    opens close_10000
    (order 1 Buy (Limit 10_000) 100 ∷ order 2 Buy (Limit 10_060) 100 ∷ order 3 Sell (Limit 9_980) 100 ∷ order 4 Sell (Limit 10_040) 100 ∷ [])
    (struck 10_000 100)

abbrev pub worked_books : List Worked
worked_books = no_orders ∷ out_of_reach ∷ more_demand ∷ more_supply ∷ one_closer ∷ as_close ∷ no_close ∷ named_only ∷ []

-- the book opens as the table says
abbrev pub Opens : Worked → Type 0
Opens w = auction_price thousandths w.close w.orders ≡ w.answer

abbrev pub AllOpen : Type 0
AllOpen = All Opens worked_books
