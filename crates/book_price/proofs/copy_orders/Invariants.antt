use Rattle.std.proofs.Common.{◌≡◌, ◌++◌}
use Rattle.book.specs.BookOrders.{orders_left}
use Rattle.book_price.proofs.copy_orders.Given as goal

-- what is copied and what is still to come are the book's orders
abbrev pub invariant-loop-order : goal.invariant-loop-order
invariant-loop-order g l = record {
  can_next : (goal.iterator-loop-order g).can_next l.order-iterator;
  finite : (goal.iterator-loop-order g).is_finite l.order-iterator;
  all : l.rows.items ++ orders_left g.B.Book.resting l.order-iterator ≡ g.B.Book.resting l.book;
}
