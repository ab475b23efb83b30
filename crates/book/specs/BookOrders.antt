-- The orders of a book that an iterator has still to give. Assumes nothing.
use Rattle.std.specs.Prelude.{List, drop}
use Rattle.order.specs.declared.Order.{Order}
use Rattle.book.specs.declared.BookOrders.{BookOrders}

-- the resting orders from the next place on
abbrev pub orders_left : {B : Type 0} → (B → List Order) → BookOrders B → List Order
orders_left resting s = drop s.next (resting s.book.now)
