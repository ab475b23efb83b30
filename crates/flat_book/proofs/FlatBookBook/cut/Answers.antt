use Rattle.std.proofs.Common.{◌≡◌, Some, None, sym, ap, ◌∙◌}
use Rattle.book.specs.Books.{in_entry_order}
use Rattle.book.proofs.Keeping.{ordered_cut}
use Rattle.flat_book.specs.Flat.{flat_resting, place_of}
use Rattle.flat_book.proofs.Changing.{blank, row_cut, row_cut_list}
use Rattle.flat_book.proofs.FlatBookBook.cut.Goals as goal

pub set-requires-clause-ordered : goal.set-requires-clause-ordered
set-requires-clause-ordered c =
    let b = c.args.self.now in
    let found : place_of c.args.number (flat_resting b) ≡ Some c.in_ok-at.at = sym c.place_of.ensures.value ∙ c.in_ok-at.ensures.ok_part in
    ap in_entry_order (row_cut c.args.number b c.in_ok-at.at found c.args.shares blank c.in_ok-order.order c.in_ok-order.ensures.1 (Some c.in-Some.left) (sym c.in-Some.is ∙ c.left_of.ensures))
    ∙ ordered_cut c.args.number c.args.shares (flat_resting b) b.ordered

pub returns-in-Some-clause-list : goal.returns-in-Some-clause-list
returns-in-Some-clause-list c =
    let b = c.args.self.now in
    let found : place_of c.args.number (flat_resting b) ≡ Some c.in_ok-at.at = sym c.place_of.ensures.value ∙ c.in_ok-at.ensures.ok_part in
    c.set.ensures.list
    ∙ row_cut_list c.args.number b c.in_ok-at.at found c.args.shares blank c.in_ok-order.order c.in_ok-order.ensures.1 (Some c.in-Some.left) (sym c.in-Some.is ∙ c.left_of.ensures) c.in_ok-order.ensures.0

pub returns-in-None-clause-list : goal.returns-in-None-clause-list
returns-in-None-clause-list c =
    let b = c.args.self.now in
    let found : place_of c.args.number (flat_resting b) ≡ Some c.in_ok-at.at = sym c.place_of.ensures.value ∙ c.in_ok-at.ensures.ok_part in
    c.remove.ensures.list
    ∙ row_cut_list c.args.number b c.in_ok-at.at found c.args.shares blank c.in_ok-order.order c.in_ok-order.ensures.1 None (sym c.in-None.is ∙ c.left_of.ensures) c.in_ok-order.ensures.0
