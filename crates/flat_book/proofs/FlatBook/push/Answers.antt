use Rattle.std.proofs.Common.{take, ap, ◌∙◌, arith}
use Rattle.std.proofs.lemmas.List.{take_more_set}
use Rattle.book.specs.Books.{in_entry_order}
use Rattle.book.proofs.Keeping.{ordered_put}
use Rattle.flat_book.proofs.FlatBook.push.Goals as goal

pub invariant_of-self-clause-ordered : goal.invariant_of-self-clause-ordered
invariant_of-self-clause-ordered c =
    let b = c.args.self.now in
    ap in_entry_order (take_more_set b.rows.now b.count c.args.order (omega arith)) ∙ ordered_put c.args.order (take b.count b.rows.now) b.ordered c.requires.above
