use Rattle.std.proofs.Common.{◌≡◌, true, ◌++◌, ◌∷◌, [], Some, sym, ap, ◌∙◌}
use Rattle.std.specs.List.{remove}
use Rattle.book.specs.Books.{above_all}
use Rattle.flat_book.specs.Flat.{flat_resting, place_of}
use Rattle.flat_book.proofs.Changing.{blank, above_from_checks, above_removed, checked_by_place, moved_row}
use Rattle.flat_book.proofs.FlatBookBook.replace.Goals as goal

pub push-requires-clause-above : goal.push-requires-clause-above
push-requires-clause-above c =
    let xs = flat_resting c.args.self.now in
    let above : above_all c.args.new.number xs ≡ true = sym c.is_above-above.ensures ∙ above_from_checks c.is_above-above.result c.args.new.shares c.place_of.result c.in_ok-at.ensures.0 in
    ap (λ o. above_all o.number (flat_resting c.remove.new.self)) c.of.ensures ∙ ap (above_all c.args.new.number) c.remove.ensures.list ∙ above_removed c.args.new.number xs c.in_ok-at.at above

pub returns-clause-list : goal.returns-clause-list
returns-clause-list c =
    let b = c.args.self.now in
    let xs = flat_resting b in
    let checks = checked_by_place c.args.old xs c.args.new c.place_of.result c.is_above-above.result c.place_of.ensures.value c.is_above-above.ensures in
    let found : place_of c.args.old xs ≡ Some c.in_ok-at.at = sym c.place_of.ensures.value ∙ c.in_ok-at.ensures.1 in
    c.push.ensures.list
    ∙ ap (λ ys. ys ++ c.of.result ∷ []) c.remove.ensures.list
    ∙ ap (λ o. remove xs c.in_ok-at.at ++ o ∷ []) c.of.ensures
    ∙ moved_row c.args.old b c.in_ok-at.at found c.args.new blank (sym checks ∙ c.in_ok-at.ensures.0)
