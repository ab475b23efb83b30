use Rattle.std.proofs.Common.{◌-◌, length, ap, ◌∙◌}
use Rattle.std.specs.List.{slice_get}
use Rattle.book.specs.Books.{above_last}
use Rattle.book.proofs.Numbers.{last_decides}
use Rattle.flat_book.specs.Flat.{flat_resting}
use Rattle.flat_book.proofs.FlatBook.is_above.Goals as goal

pub returns : goal.returns
returns c =
    let b = c.args.self.now in
    c.above_last.ensures
    ∙ ap (above_last c.args.number) (c.copied.ensures ∙ c.last.ensures.value ∙ ap (λ xs. slice_get xs (length xs - 1)) c.taken.ensures)
    ∙ last_decides c.args.number (flat_resting b) b.ordered
