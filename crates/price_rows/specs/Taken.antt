-- Which orders an auction takes. Assumes nothing.
use Rattle.std.specs.Prelude.{◌≡◌, ◌<◌, List, length, Ok, Err, Result}
use Rattle.order.specs.declared.Order.{Order}
use Rattle.price_rows.specs.declared.AuctionError.{AuctionError}
use Rattle.price_rows.specs.declared.AuctionError.TheVariants.{TooManyOrders, NoMemory}
use Rattle.price_rows.specs.declared.orders.AuctionOrders.{AuctionOrders}

-- the orders of an auction are those of a list, unless there are over 512
abbrev pub TakesFew : List Order → Result AuctionOrders AuctionError → Type 0
TakesFew list (Ok taken) = taken.orders.now ≡ list
TakesFew list (Err TooManyOrders) = 512 < length list
TakesFew list (Err NoMemory) = ⊥
