use Rattle.std.proofs.Common.{◌≡◌, ◌+◌}
use Rattle.book.specs.BookOrders.{orders_left}
use Rattle.capped_book.specs.Caps.{held_by}
use Rattle.capped_book.proofs.held.Given as goal

-- what is counted and what is still to come are the broker's orders of the book
abbrev pub invariant-loop-order : goal.invariant-loop-order
invariant-loop-order g l = record {
  can_next : (goal.iterator-loop-order g).can_next l.order-iterator;
  finite : (goal.iterator-loop-order g).is_finite l.order-iterator;
  all : l.n + held_by l.broker (orders_left g.B.Book.resting l.order-iterator) ≡ held_by l.broker (g.B.Book.resting l.book);
}
