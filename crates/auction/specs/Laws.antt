-- What the auction price promises, in the market's words. Assumes nothing.
use Rattle.std.specs.Prelude.{◌≡◌, ℕ, ◌≤◌, List, Option, MatchOption}
use Rattle.order.specs.declared.Order.{Order}
use Rattle.price_rows.specs.Reach.{matched, surplus, Names, Reaches, Spans}
use Rattle.auction.specs.declared.AuctionPrice.{AuctionPrice}

-- the best price of the orders
pub record Best (orders : List Order) (struck : AuctionPrice) : Type 0 where
  -- a limit buy reaches a limit sell, and the price lies from the lowest limit sell to the highest limit buy
  pub reaches : Reaches orders
  pub spans : Spans orders struck.price
  -- an order names it
  pub named : Names orders struck.price
  -- it carries the shares that it matches
  pub carries : struck.matched ≡ matched orders struck.price
  -- no price of that range, named by an order or not, matches more
  pub most : (price : ℕ) → Spans orders price → matched orders price ≤ struck.matched
  -- no candidate that matches as many leaves less
  pub least : (price : ℕ) → Spans orders price → Names orders price → matched orders price ≡ struck.matched → surplus orders struck.price ≤ surplus orders price

-- there is a price exactly when a limit buy reaches a limit sell, and it is the best
abbrev pub BestPrice : List Order → Option AuctionPrice → Type 0
BestPrice orders answer = MatchOption answer (Reaches orders → ⊥) (Best orders)
