use Rattle.std.proofs.Common.{eqb, arith}
use Rattle.std.proofs.lemmas.List.Sums.{count_by-le-length}
use Rattle.capped_book.proofs.held.Goals as goal

-- a broker has no more orders than the book, which has 512 at most
pub overflow_add-n : goal.overflow_add-n
overflow_add-n g c =
    let xs = g.B.Book.resting c.args.book.now in
    grind (arith, c.loop-order.invariant.all, count_by-le-length (λ o. eqb o.broker c.args.broker) xs, (g.B.Book.kept c.args.book.now).few, c.from-n.ensures)
