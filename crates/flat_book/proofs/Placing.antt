-- The place of an order in its list, and what a change there leaves. Assumes nothing.
use Rattle.std.proofs.Common.{◌≡◌, ℕ, zero, suc, ◌+◌, ◌<◌, ◌≤◌, Bool, true, false, cond, not, eqb, List, [], ◌∷◌, ◌++◌, length, get_or, set, is_some, Some, None, Option, All, sym, refl, ap, ◌∙◌, ⊎_elim, one-add, arith}
use Rattle.std.specs.Option.{option_to_list}
use Rattle.std.specs.List.{remove, slice_get, position_or_len}
use Rattle.std.proofs.lemmas.Bool.{both_ways, cases_lt, eqb-true, lt-ltb, le-ltb}
use Rattle.std.proofs.lemmas.Bool.Decides.{nat_tests}
use Rattle.std.proofs.lemmas.List.Elements.{All-head, All-tail}
use Rattle.std.proofs.lemmas.List.Folds.{find_at}
use Rattle.std.proofs.lemmas.List.Quantifiers.{all_pairs_remove}
use Rattle.std.proofs.lemmas.Option.{slice_get_past, slice_get-get_or}
use Rattle.order.specs.declared.Order.{Order}
use Rattle.book.specs.Books.{order_of, dropped, left_of, cut_down, in_entry_order}
use Rattle.book.proofs.Numbers.{Rising, rising_first, rising_rest, rises, in_order}
use Rattle.flat_book.specs.Flat.{place_of}

-- the place of the order of a number, or the count where it does not rest
abbrev pub first_place : ℕ → List Order → ℕ
first_place n xs = position_or_len (λ o. eqb o.number n) xs

-- the list with what is left of the order at a place
abbrev pub left_at : ℕ → Option Order → List Order → List Order
left_at at None orders = remove orders at
left_at at (Some left) orders = set orders at left

there : (xs : List Order) (k : ℕ) → k < length xs → is_some (slice_get xs k) ≡ true
there [] k lt = absurd (omega arith)
there (x ∷ xs) zero lt = refl
there (x ∷ xs) (suc k) lt = there xs k (omega arith)

-- a place that is found lies within the list, and its order is the one of the number
pub record Found (n : ℕ) (xs : List Order) (k : ℕ) : Type 0 where
  pub place : k ≡ first_place n xs
  pub within : k < length xs
  pub rests : is_some (order_of n xs) ≡ true
  pub order : (d : Order) → order_of n xs ≡ Some (get_or xs k d)

module _ (n : ℕ) (xs : List Order) where
  placed : first_place n xs < length xs → place_of n xs ≡ Some (first_place n xs)
  placed lt = ap (λ b. cond b (Some (first_place n xs)) None) (lt-ltb (first_place n xs) (length xs) lt)

  not_placed : length xs ≤ first_place n xs → place_of n xs ≡ None
  not_placed le = ap (λ b. cond b (Some (first_place n xs)) None) (le-ltb (first_place n xs) (length xs) le)

  pub none_found : place_of n xs ≡ None → order_of n xs ≡ None
  none_found none =
      ⊎_elim (λ lt. absurd (both_ways (is_some (place_of n xs)) (ap is_some none) (ap is_some (placed lt))))
      (λ le. find_at (λ o. eqb o.number n) xs ∙ slice_get_past xs (first_place n xs) le)
      (cases_lt (first_place n xs) (length xs))

  pub some_found : (k : ℕ) → place_of n xs ≡ Some k → Found n xs k
  some_found k some =
      ⊎_elim (λ lt. let is : k ≡ first_place n xs = let both = sym some ∙ placed lt in cc in record {
        place = is;
        within = omega arith;
        rests = ap is_some (find_at (λ o. eqb o.number n) xs) ∙ there xs (first_place n xs) lt;
        order = λ d. find_at (λ o. eqb o.number n) xs ∙ slice_get-get_or xs (first_place n xs) d lt ∙ ap (λ j. Some (get_or xs j d)) (sym is);
      })
      (λ le. absurd (both_ways (is_some (place_of n xs)) (ap is_some (not_placed le)) (ap is_some some)))
      (cases_lt (first_place n xs) (length xs))

-- taking one out leaves a list whose numbers rise
pub ordered_removed : (xs : List Order) (k : ℕ) → k < length xs → in_entry_order xs ≡ true → in_entry_order (remove xs k) ≡ true
ordered_removed xs k lt ordered =
    in_order (remove xs k) (all_pairs_remove (λ x y. x.number < y.number) xs k lt (rises xs ordered))

-- one place further on
later_place : {X : Type 0} (x : X) (xs : List X) (k : ℕ) → remove (x ∷ xs) (1 + k) ≡ x ∷ remove xs k
later_place x xs k = ap (remove (x ∷ xs)) (one-add k)

-- nothing else is dropped where all numbers are above
all_stay : (n : ℕ) (xs : List Order) → All (λ o. n < o.number) xs → dropped n xs ≡ xs
all_stay n [] h = refl
all_stay n (x ∷ xs) h =
    let less : n < x.number = All-head (λ o. n < o.number) x xs h in
    let ne : eqb x.number n ≡ false = grind (arith, nat_tests) in
    ap (λ b. cond (not b) (x ∷ dropped n xs) (dropped n xs)) ne ∙ ap (λ ys. x ∷ ys) (all_stay n xs (All-tail (λ o. n < o.number) x xs h))

-- dropping an order closes up its place
pub dropped_at : (n : ℕ) (xs : List Order) → Rising xs → is_some (order_of n xs) ≡ true → dropped n xs ≡ remove xs (first_place n xs)
dropped_at n [] r e = refl
dropped_at n (x ∷ xs) r e = go (eqb x.number n) refl (dropped_at n xs (rising_rest x xs r)) e
  where
    go : (b : Bool) → eqb x.number n ≡ b → (is_some (order_of n xs) ≡ true → dropped n xs ≡ remove xs (first_place n xs)) → is_some (cond b (Some x) (order_of n xs)) ≡ true → cond (not b) (x ∷ dropped n xs) (dropped n xs) ≡ remove (x ∷ xs) (cond (not b) (1 + first_place n xs) 0)
    go true is rest f = all_stay n xs (λ k d lt. omega (arith, eqb-true x.number n is, rising_first x xs r k d lt))
    go false is rest f = ap (λ ys. x ∷ ys) (rest f) ∙ sym (later_place x xs (first_place n xs))

-- cutting changes what stands at its place
pub cut_at : (n shares : ℕ) (o : Order) (xs : List Order) → order_of n xs ≡ Some o → cut_down n shares xs ≡ left_at (first_place n xs) (left_of shares o) xs
cut_at n shares o [] e = absurd (let z : ◌≡◌ {A = ℕ} 0 1 = cc in omega arith)
cut_at n shares o (x ∷ xs) e = go (eqb x.number n) (cut_at n shares o xs) e
  where
    here : (left : Option Order) → option_to_list left ++ xs ≡ left_at 0 left (x ∷ xs)
    here None = refl
    here (Some y) = refl

    there : (left : Option Order) → x ∷ left_at (first_place n xs) left xs ≡ left_at (1 + first_place n xs) left (x ∷ xs)
    there None = sym (later_place x xs (first_place n xs))
    there (Some y) = sym (ap (λ k. set (x ∷ xs) k y) (one-add (first_place n xs)))

    go : (b : Bool) → (order_of n xs ≡ Some o → cut_down n shares xs ≡ left_at (first_place n xs) (left_of shares o) xs) → cond b (Some x) (order_of n xs) ≡ Some o → cond b (option_to_list (left_of shares x) ++ xs) (x ∷ cut_down n shares xs) ≡ left_at (cond (not b) (1 + first_place n xs) 0) (left_of shares o) (x ∷ xs)
    go true rest f = let same : x ≡ o = cc in here (left_of shares x) ∙ ap (λ y. left_at 0 (left_of shares y) (x ∷ xs)) same
    go false rest f = ap (λ ys. x ∷ ys) (rest f) ∙ there (left_of shares o)
