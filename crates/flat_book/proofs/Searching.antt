-- Where an entry number stands in a list whose numbers rise, and what a binary search for it finds. Assumes nothing.
use Rattle.std.proofs.Common.{◌≡◌, ℕ, ◌<◌, ◌≤◌, true, false, eqb, ltb, cond, List, [], ◌∷◌, length, get_or, Some, None, Ok, Err, Result, sym, refl, ap, ◌∙◌, ⊎_elim, arith}
use Rattle.std.specs.Result.{result_ok}
use Rattle.std.specs.List.{position_or_len}
use Rattle.std.specs.List.Sorted.{IsBinarySearchResult, IsSearchInRange}
use Rattle.std.specs.Ordering.{nat_cmp, ordering_index}
use Rattle.std.specs.declared.cmp.Ordering.TheVariants.{Less, Equal, Greater}
use Rattle.std.proofs.lemmas.Bool.{cases_lt, lt-ltb, le-ltb}
use Rattle.std.proofs.lemmas.Bool.Decides.{nat_tests}
use Rattle.std.proofs.lemmas.List.Sums.{position_or_len_is}
use Rattle.order.specs.declared.Order.{Order}
use Rattle.book.proofs.Numbers.{Rising}
use Rattle.flat_book.specs.Flat.{place_of}

less : (a n : ℕ) → nat_cmp a n ≡ Less → eqb a n ≡ false
less a n e = grind (arith, nat_tests)

greater : (a n : ℕ) → nat_cmp a n ≡ Greater → eqb a n ≡ false
greater a n e = grind (arith, nat_tests)

equal : (a n : ℕ) → nat_cmp a n ≡ Equal → a ≡ n
equal a n e = grind (arith, nat_tests)

lower : (a n : ℕ) → a < n → eqb a n ≡ false
lower a n lt = grind (arith, nat_tests)

same : (a n : ℕ) → a ≡ n → eqb a n ≡ true
same a n e = grind (arith, nat_tests)

higher : (a b n : ℕ) → a ≤ b → ordering_index (nat_cmp a n) ≤ ordering_index (nat_cmp b n)
higher a b n le = grind (arith, nat_tests)

-- the order at a place is the one of its number
stands_at : (n : ℕ) (xs : List Order) (k : ℕ) → Rising xs → k < length xs → ((d : Order) → (get_or xs k d).number ≡ n) → place_of n xs ≡ Some k
stands_at n [] k r lt at = absurd (omega arith)
stands_at n (x ∷ xs) k r lt at =
    let ys : List Order = x ∷ xs in
    let is : position_or_len (λ o. eqb o.number n) ys ≡ k =
    position_or_len_is (λ o. eqb o.number n) ys k x (omega arith)
    (λ j before. lower (get_or ys j x).number n (omega (arith, r j k x before lt, at x)))
    (λ _. same (get_or ys k x).number n (at x)) in
    ap (λ m. cond (ltb m (length ys)) (Some m) None) is ∙ ap (λ b. cond b (Some k) None) (lt-ltb k (length ys) lt)

-- a number that no order has stands nowhere
stands_nowhere : (n : ℕ) (xs : List Order) → ((k : ℕ) (d : Order) → k < length xs → eqb (get_or xs k d).number n ≡ false) → place_of n xs ≡ None
stands_nowhere n [] none = refl
stands_nowhere n (x ∷ xs) none =
    let ys : List Order = x ∷ xs in
    let is : position_or_len (λ o. eqb o.number n) ys ≡ length ys =
    position_or_len_is (λ o. eqb o.number n) ys (length ys) x (omega arith) (λ k lt. none k x lt) (λ lt. absurd (omega arith)) in
    ap (λ m. cond (ltb m (length ys)) (Some m) None) is ∙ ap (λ b. cond b (Some (length ys)) None) (le-ltb (length ys) (length ys) (omega arith))

-- a binary search by number finds the place
pub searched_place : (n : ℕ) (xs : List Order) (r : Result ℕ ℕ) → Rising xs → IsSearchInRange r (length xs) → IsBinarySearchResult (λ o. nat_cmp o.number n) xs r → result_ok r ≡ place_of n xs
searched_place n xs (Ok k) rising within found = sym (stands_at n xs k rising within (λ d. equal (get_or xs k d).number n (found d)))
searched_place n xs (Err k) rising within found = sym (stands_nowhere n xs none)
  where
    no_fall : (a b : ℕ) (d : Order) → a ≤ b → b < length xs → (get_or xs a d).number ≤ (get_or xs b d).number
    no_fall a b d le lt =
        ⊎_elim (λ before. omega (arith, rising a b d before lt))
        (λ after. let one : a ≡ b = omega arith in let same' = ap (λ m. (get_or xs m d).number) one in omega arith)
        (cases_lt a b)

    none : (j : ℕ) (d : Order) → j < length xs → eqb (get_or xs j d).number n ≡ false
    none j d lt =
        let parted = found (λ a b e le end. higher (get_or xs a e).number (get_or xs b e).number n (no_fall a b e le end)) in
        ⊎_elim (λ before. less (get_or xs j d).number n (parted.0 j d (omega arith) before))
        (λ after. greater (get_or xs j d).number n (parted.1 j d after lt))
        (cases_lt j k)
