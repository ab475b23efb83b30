use Rattle.std.proofs.Common.{◌≡◌, take, filter, fold, []}
use Rattle.price_rows.specs.Amounts.{with_price, named_prices, in_range}
use Rattle.price_rows.proofs.orders.AuctionOrders.candidates.Given as goal

abbrev pub invariant-loop-o : goal.invariant-loop-o
invariant-loop-o l = l.prices.keys ≡ fold with_price [] (filter (in_range l.self.orders.now) (named_prices (take l.o-index l.self.orders.now)))
