use Rattle.std.proofs.Common.{◌-◌, ◌<◌, take, ap, ◌∙◌, arith, length-take-le}
use Rattle.book.specs.Books.{in_entry_order}
use Rattle.flat_book.specs.Flat.{flat_resting}
use Rattle.flat_book.proofs.Placing.{ordered_removed}
use Rattle.flat_book.proofs.Shifting.{closed_up}
use Rattle.flat_book.proofs.FlatBook.remove.Goals as goal

pub invariant_of-self-clause-ordered : goal.invariant_of-self-clause-ordered
invariant_of-self-clause-ordered c =
    let b = c.args.self.now in
    let at : c.args.at < b.count = omega (arith, length-take-le b.count b.rows.now b.within) in
    ap in_entry_order (ap (take (b.count - 1)) c.copy_within.ensures.after ∙ closed_up b.rows.now c.args.at b.count at b.within)
    ∙ ordered_removed (flat_resting b) c.args.at (omega (arith, length-take-le b.count b.rows.now b.within)) b.ordered

pub returns-clause-list : goal.returns-clause-list
returns-clause-list c =
    let b = c.args.self.now in
    let at : c.args.at < b.count = omega (arith, length-take-le b.count b.rows.now b.within) in
    ap (take (b.count - 1)) c.copy_within.ensures.after ∙ closed_up b.rows.now c.args.at b.count at b.within
