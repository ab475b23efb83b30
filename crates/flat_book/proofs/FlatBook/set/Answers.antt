use Rattle.std.proofs.Common.{◌<◌, ap, ◌∙◌, arith, length-take-le}
use lib.Seq.{take-set-lt}
use Rattle.book.specs.Books.{in_entry_order}
use Rattle.flat_book.proofs.FlatBook.set.Goals as goal

pub invariant_of-self-clause-ordered : goal.invariant_of-self-clause-ordered
invariant_of-self-clause-ordered c =
    let b = c.args.self.now in
    let at : c.args.at < b.count = omega (arith, length-take-le b.count b.rows.now b.within, c.requires.taken) in
    ap in_entry_order (take-set-lt b.count b.rows.now c.args.at c.args.order at) ∙ c.requires.ordered

pub returns-clause-list : goal.returns-clause-list
returns-clause-list c =
    let b = c.args.self.now in
    take-set-lt b.count b.rows.now c.args.at c.args.order (omega (arith, length-take-le b.count b.rows.now b.within, c.requires.taken))
