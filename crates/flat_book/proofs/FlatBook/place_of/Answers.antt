use Rattle.std.proofs.Common.{◌≡◌, sym, ap, ◌∙◌, subst, rules}
use Rattle.std.proofs.lemmas.List.Sorted.{answers_always}
use Rattle.book.proofs.Numbers.{Rising, rises}
use Rattle.flat_book.specs.Flat.{flat_resting, place_of}
use Rattle.flat_book.proofs.Changing.{none_in_rows, some_in_rows}
use Rattle.flat_book.proofs.Searching.{searched_place}
use Rattle.flat_book.proofs.FlatBook.place_of.Goals as goal

-- the closure gives an order's number
pub returns : goal.returns
returns c =
    let b = c.args.self.now in
    let rising = subst Rising (sym c.taken.ensures) (rises (flat_resting b) b.ordered) in
    let found = c.binary_search_by_key.ensures in
    let by_number = found.position (λ o. o.number) (answers_always _ _ _ (λ f a r g called. search rules)) in
    let is : c.ok.result ≡ place_of c.args.number (flat_resting b) =
    c.ok.ensures.value
    ∙ searched_place c.args.number c.taken.result.now c.binary_search_by_key.result rising found.bound by_number
    ∙ ap (place_of c.args.number) c.taken.ensures in
    record { value = is; none = none_in_rows c.args.number b c.ok.result is; some = some_in_rows c.args.number b c.ok.result is }
