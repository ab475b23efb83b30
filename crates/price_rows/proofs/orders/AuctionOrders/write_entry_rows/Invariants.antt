use Rattle.std.proofs.Common.{◌≡◌, ◌≤◌, length, map, take, filter}
use Rattle.price_rows.specs.Amounts.{row_at, named_prices, in_range}
use Rattle.price_rows.proofs.orders.AuctionOrders.write_entry_rows.Given as goal

abbrev pub invariant-loop-o : goal.invariant-loop-o
invariant-loop-o l = record {
  few : length l.rows.items ≤ l.o-index;
  so_far : l.rows.items ≡ map (row_at l.self.orders.now) (filter (in_range l.self.orders.now) (named_prices (take l.o-index l.self.orders.now)));
}
