use Rattle.std.proofs.Common.{◌-◌, ap, ◌∙◌}
use Rattle.std.specs.List.{slice_get}
use Rattle.book.specs.Books.{above_last}
use Rattle.book.proofs.Numbers.{last_decides}
use Rattle.book.proofs.last.Goals as goal

pub returns : goal.returns
returns g c number =
    let xs = g.B.Book.resting c.args.book.now in
    ap (above_last number) (c.get.ensures ∙ ap (slice_get xs) (c.saturating_sub.ensures ∙ ap (λ n. n - 1) c.count.ensures))
    ∙ last_decides number xs (g.B.Book.kept c.args.book.now).rising
