-- The auction price of a book, and when two books open alike. Assumes nothing.
use Rattle.std.specs.Prelude.{ℕ, Bool, true, false, ◌&&◌, List, Some, None, Option, ◌==◌}
use Rattle.order.specs.declared.Order.{Order}
use Rattle.auction.specs.declared.AuctionPrice.{AuctionPrice}
use Rattle.auction.specs.Rules.{thousandths, auction_price}

-- the price at which these resting orders open
abbrev pub opening_price : Option ℕ → List Order → Option AuctionPrice
opening_price close orders = auction_price thousandths close orders

-- the same price with the same matched shares, or no price on either side
abbrev pub same_price : Option AuctionPrice → Option AuctionPrice → Bool
same_price None None = true
same_price None (Some q) = false
same_price (Some p) None = false
same_price (Some p) (Some q) = p.price == q.price && p.matched == q.matched
