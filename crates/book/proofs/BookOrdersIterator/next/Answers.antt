use Rattle.book.proofs.Walking.{none_left, first_left}
use Rattle.book.proofs.BookOrdersIterator.next.Goals as goal

pub returns-in_err-order-clause-steps : goal.returns-in_err-order-clause-steps
returns-in_err-order-clause-steps g c =
    let none = none_left (g.B.Book.resting c.args.self.now.book.now) c.args.self.now.next c.get.result c.get.ensures c.in_err-order.was in
    rw c.from_residual.ensures (none, none)

pub returns-clause-steps : goal.returns-clause-steps
returns-clause-steps g c = first_left (g.B.Book.resting c.args.self.now.book.now) c.args.self.now.next c.get.result c.get.ensures c.in_ok-order.order c.in_ok-order.was
