-- What the rows hold after a change, and why a change is refused, as a book's list says it. Assumes nothing.
use Rattle.std.proofs.Common.{◌≡◌, ℕ, zero, suc, ◌<◌, Bool, true, false, List, [], ◌∷◌, ◌++◌, get_or, is_some, Some, None, Option, sym, refl, ap, ◌∙◌, arith, length-take, get_or-take}
use Rattle.std.specs.List.{remove, HoldsAt}
use Rattle.std.specs.Option.{IfSome, IfNone}
use Rattle.std.proofs.lemmas.Bool.{and_parts, and_from}
use Rattle.order.specs.declared.Order.{Order}
use Rattle.order.specs.declared.Side.TheVariants.{Buy}
use Rattle.order.specs.declared.Kind.TheVariants.{AtAuction}
use Rattle.book.specs.declared.Replacement.{Replacement}
use Rattle.book.specs.Refusals.{replace_checks, cut_checks}
use Rattle.book.specs.Books.{order_of, above_all, unless, replaced, replace_refusal, replace_list, moved_to_end, left_of, cut_refusal, cut_list, cut_down}
use Rattle.book.proofs.Numbers.{rises}
use Rattle.flat_book.specs.declared.FlatBook.{FlatBook}
use Rattle.flat_book.specs.Flat.{flat_resting, place_of}
use Rattle.flat_book.proofs.Placing.{first_place, none_found, some_found, left_at, dropped_at, cut_at}

-- what a read of a row falls back to
abbrev pub blank : Order
blank = record { number = 0; broker = 0; side = Buy; kind = AtAuction; shares = 0 }

-- the checks that a replacement passes say that its number is above all
pub above_from_checks : {X : Type 0} (above : Bool) (shares : ℕ) (old : Option X) → replace_checks above shares old ≡ None → above ≡ true
above_from_checks true shares old e = refl
above_from_checks false shares old e = absurd (let z : ◌≡◌ {A = ℕ} 0 1 = cc in omega arith)

-- a number above all is above all but one
pub above_removed : (number : ℕ) (xs : List Order) (k : ℕ) → above_all number xs ≡ true → above_all number (remove xs k) ≡ true
above_removed number [] zero e = refl
above_removed number [] (suc k) e = refl
above_removed number (x ∷ xs) zero e = (and_parts _ (above_all number xs) e).1
above_removed number (x ∷ xs) (suc k) e = let parts = and_parts _ (above_all number xs) e in and_from _ _ parts.0 (above_removed number xs k parts.1)

module _ (n : ℕ) (xs : List Order) where
  -- a number has a place exactly if its order rests
  rests : (place : Option ℕ) → place ≡ place_of n xs → is_some place ≡ is_some (order_of n xs)
  rests None is = sym (ap is_some (none_found n xs (sym is)))
  rests (Some k) is = sym (some_found n xs k (sym is)).rests

  -- the checks look at no more of the old order than that it rests
  pub checked_by_place : (new : Replacement) (place : Option ℕ) (above : Bool) → place ≡ place_of n xs → above ≡ above_all new.number xs → replace_checks above new.shares place ≡ replace_refusal n new xs
  checked_by_place new place above is tells =
      go place (order_of n xs) (rests place is) ∙ ap (λ b. replace_checks b new.shares (order_of n xs)) tells
    where
      go : (p : Option ℕ) (o : Option Order) → is_some p ≡ is_some o → replace_checks above new.shares p ≡ replace_checks above new.shares o
      go None None e = refl
      go None (Some o) e = absurd (let z : ◌≡◌ {A = ℕ} 0 1 = cc in omega arith)
      go (Some k) None e = absurd (let z : ◌≡◌ {A = ℕ} 0 1 = cc in omega arith)
      go (Some k) (Some o) e = refl

-- the place of a number among the rows that are taken
module _ (n : ℕ) (b : FlatBook) (at : ℕ) (found : place_of n (flat_resting b) ≡ Some at) where
  pub place_in_rows : at < b.count
  place_in_rows = omega (arith, length-take b.count b.rows.now, (some_found n (flat_resting b) at found).within)

  -- the order in that row is the one of the number
  pub row_found : (d : Order) → order_of n (flat_resting b) ≡ Some (get_or b.rows.now at d)
  row_found d = (some_found n (flat_resting b) at found).order d ∙ ap Some (get_or-take b.count b.rows.now at d place_in_rows)

  -- closing up the row, and the order at the end as its replacement
  pub moved_row : (new : Replacement) (d : Order) → replace_refusal n new (flat_resting b) ≡ None → remove (flat_resting b) at ++ replaced new (get_or b.rows.now at d) ∷ [] ≡ replace_list n new (flat_resting b)
  moved_row new d passes =
      let xs = flat_resting b in
      ap (λ k. remove xs k ++ replaced new (get_or b.rows.now at d) ∷ []) (some_found n xs at found).place
      ∙ ap (λ ys. ys ++ replaced new (get_or b.rows.now at d) ∷ []) (sym (dropped_at n xs (rises xs b.ordered) (some_found n xs at found).rests))
      ∙ ap (λ f. moved_to_end n new f xs) (sym (row_found d))
      ∙ ap (λ r. unless r (moved_to_end n new (order_of n xs) xs) xs) (sym passes)

  -- the checks of a cut look at the order in that row
  row_checked : (shares : ℕ) (d : Order) → cut_refusal n shares (flat_resting b) ≡ cut_checks (Some (get_or b.rows.now at d)) shares
  row_checked shares d = ap (λ f. cut_checks f shares) (row_found d)

  -- what is left of the order, in its row or with the row closed up
  module _ (shares : ℕ) (d o : Order) (there : Some (get_or b.rows.now at d) ≡ Some o) (left : Option Order) (leaves : left ≡ left_of shares o) where
    pub row_cut : left_at at left (flat_resting b) ≡ cut_down n shares (flat_resting b)
    row_cut =
        let xs = flat_resting b in
        ap (λ k. left_at k left xs) (some_found n xs at found).place
        ∙ ap (λ l. left_at (first_place n xs) l xs) leaves
        ∙ sym (cut_at n shares o xs (row_found d ∙ there))

    pub row_cut_list : cut_checks (Some (get_or b.rows.now at d)) shares ≡ None → left_at at left (flat_resting b) ≡ cut_list n shares (flat_resting b)
    row_cut_list passes = row_cut ∙ ap (λ r. unless r (cut_down n shares (flat_resting b)) (flat_resting b)) (sym (row_checked shares d ∙ passes))

-- what the rows say of a number that has no place, and of one that has
pub none_in_rows : (n : ℕ) (b : FlatBook) (place : Option ℕ) → place ≡ place_of n (flat_resting b) → IfNone place (order_of n (flat_resting b) ≡ None)
none_in_rows n b None is = none_found n (flat_resting b) (sym is)
none_in_rows n b (Some k) is = tt

pub some_in_rows : (n : ℕ) (b : FlatBook) (place : Option ℕ) → place ≡ place_of n (flat_resting b) → IfSome place (HoldsAt (λ o. order_of n (flat_resting b) ≡ Some o) b.rows.now)
some_in_rows n b None is = tt
some_in_rows n b (Some k) is = λ d. row_found n b k (sym is) d
