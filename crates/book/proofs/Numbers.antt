-- Entry numbers that rise. Assumes nothing.
use Rattle.std.proofs.Common.{◌≡◌, ℕ, zero, suc, ◌-◌, ◌<◌, true, eqb, ltb, leb, List, [], ◌∷◌, ◌++◌, length, get_or, None, All, AllPairs, refl, ap, ◌∙◌, arith}
use Rattle.order.specs.declared.Order.{Order}
use Rattle.std.specs.Option.{option_to_list}
use Rattle.std.specs.List.{slice_get}
use Rattle.std.proofs.lemmas.List.Elements.{All-cons, All-head, All-tail}
use Rattle.std.proofs.lemmas.List.Kept.{AllPairs-cons}
use Rattle.std.proofs.lemmas.List.Sums.{AllPass-from_list_all, list_all-from_AllPass}
use Rattle.std.proofs.lemmas.Bool.{and_parts, and_from, ltb-true, lt-ltb, cond_both}
use Rattle.std.proofs.lemmas.Bool.Decides.{nat_tests}
use Rattle.book.specs.Books.{below_all, in_entry_order, above_all, above_last, left_of, cut_down}

-- each number is below all that follow, as facts
abbrev pub Rising : List Order → Type 0
Rising orders = AllPairs (λ o later. o.number < later.number) orders

-- the first of a rising list is below the others, and they rise
pub rising_first : (x : Order) (xs : List Order) → Rising (x ∷ xs) → All (λ o. x.number < o.number) xs
rising_first x xs r k d lt = r zero (suc k) d (omega arith) (omega arith)

pub rising_rest : (x : Order) (xs : List Order) → Rising (x ∷ xs) → Rising xs
rising_rest x xs r i j d lt within = r (suc i) (suc j) d (omega arith) (omega arith)

-- the tests, as facts of each order
below_each : (n : ℕ) (xs : List Order) → below_all n xs ≡ true → All (λ o. n < o.number) xs
below_each n xs e k d lt = ltb-true n (get_or xs k d).number (AllPass-from_list_all (λ o. ltb n o.number) xs e k d lt)

each_below : (n : ℕ) (xs : List Order) → All (λ o. n < o.number) xs → below_all n xs ≡ true
each_below n xs h = list_all-from_AllPass (λ o. ltb n o.number) xs (λ k d lt. lt-ltb n (get_or xs k d).number (h k d lt))

pub rises : (xs : List Order) → in_entry_order xs ≡ true → Rising xs
rises [] e = λ i j d lt within. absurd (omega arith)
rises (x ∷ xs) e =
    let parts = and_parts (below_all x.number xs) (in_entry_order xs) e in
    AllPairs-cons (λ o later. o.number < later.number) x xs (below_each x.number xs parts.0) (rises xs parts.1)

pub in_order : (xs : List Order) → Rising xs → in_entry_order xs ≡ true
in_order [] r = refl
in_order (x ∷ xs) r = and_from _ _ (each_below x.number xs (rising_first x xs r)) (in_order xs (rising_rest x xs r))

-- in a rising list the last number decides
last_of_rising : (n : ℕ) (xs : List Order) → Rising xs → above_last n (slice_get xs (length xs - 1)) ≡ above_all n xs
last_of_rising n [] r = refl
last_of_rising n (x ∷ []) r = grind (arith, nat_tests)
last_of_rising n (x ∷ y ∷ ys) r =
    let rest : above_last n (slice_get (y ∷ ys) (length (y ∷ ys) - 1)) ≡ above_all n (y ∷ ys) = last_of_rising n (y ∷ ys) (rising_rest x (y ∷ ys) r) in
    let less : x.number < y.number = r 0 1 x (omega arith) (omega arith) in
    let at : length (x ∷ y ∷ ys) - 1 ≡ suc (length (y ∷ ys) - 1) = omega arith in
    ap (λ k. above_last n (slice_get (x ∷ y ∷ ys) k)) at ∙ rest ∙ grind (arith, nat_tests)

pub last_decides : (n : ℕ) (xs : List Order) → in_entry_order xs ≡ true → above_last n (slice_get xs (length xs - 1)) ≡ above_all n xs
last_decides n xs e = last_of_rising n xs (rises xs e)

pub above_each : (n : ℕ) (xs : List Order) → above_all n xs ≡ true → All (λ o. o.number < n) xs
above_each n xs e k d lt = ltb-true (get_or xs k d).number n (AllPass-from_list_all (λ o. ltb o.number n) xs e k d lt)

-- a cut changes no number
above_left : (m shares : ℕ) (x : Order) (xs : List Order) → m < x.number → All (λ o. m < o.number) xs → All (λ o. m < o.number) (option_to_list (left_of shares x) ++ xs)
above_left m shares x xs here later =
    cond_both (leb x.shares shares) None _ (λ r. All (λ o. m < o.number) (option_to_list r ++ xs)) (λ e. later) (λ e. All-cons (λ o. m < o.number) _ xs here later)

above_cut : (m n shares : ℕ) (xs : List Order) → All (λ o. m < o.number) xs → All (λ o. m < o.number) (cut_down n shares xs)
above_cut m n shares [] h = h
above_cut m n shares (x ∷ xs) h =
    let here = All-head (λ o. m < o.number) x xs h in
    let later = All-tail (λ o. m < o.number) x xs h in
    cond_both (eqb x.number n) _ _ (All (λ o. m < o.number))
    (λ e. above_left m shares x xs here later)
    (λ e. All-cons (λ o. m < o.number) x (cut_down n shares xs) here (above_cut m n shares xs later))

pub rising_cut : (n shares : ℕ) (xs : List Order) → Rising xs → Rising (cut_down n shares xs)
rising_cut n shares [] r = r
rising_cut n shares (x ∷ xs) r =
    let first = rising_first x xs r in
    let rest = rising_rest x xs r in
    cond_both (eqb x.number n) _ _ Rising
    (λ e. cond_both (leb x.shares shares) None _ (λ left. Rising (option_to_list left ++ xs))
    (λ f. rest)
    (λ f. AllPairs-cons (λ o later. o.number < later.number) _ xs first rest))
    (λ e. AllPairs-cons (λ o later. o.number < later.number) x (cut_down n shares xs)
    (above_cut x.number n shares xs first) (rising_cut n shares xs rest))
