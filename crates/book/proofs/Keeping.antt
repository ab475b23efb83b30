-- Each change keeps entry order, and only a put makes the list longer. Assumes nothing.
use Rattle.std.proofs.Common.{◌≡◌, ℕ, ◌<◌, ◌≤◌, Bool, true, false, cond, not, eqb, leb, List, [], ◌∷◌, ◌++◌, length, is_some, Some, None, ap, arith}
use Rattle.std.specs.Option.{option_to_list}
use Rattle.std.proofs.lemmas.List.{length_push}
use Rattle.std.proofs.lemmas.List.Elements.{All-filter}
use Rattle.std.proofs.lemmas.List.Kept.{AllPairs-filter}
use Rattle.std.proofs.lemmas.List.Quantifiers.{all_pairs_push}
use Rattle.std.proofs.lemmas.List.Sums.{length-filter, count_by-le-length}
use Rattle.std.proofs.lemmas.Bool.{cond_both}
use Rattle.order.specs.declared.Order.{Order}
use Rattle.book.specs.declared.Replacement.{Replacement}
use Rattle.book.specs.Books.{in_entry_order, order_of, above_all, dropped, replaced, moved_to_end, cut_down}
use Rattle.book.proofs.Numbers.{rises, in_order, above_each, rising_cut}

pub ordered_put : (o : Order) (xs : List Order) → in_entry_order xs ≡ true → above_all o.number xs ≡ true → in_entry_order (xs ++ o ∷ []) ≡ true
ordered_put o xs ordered above =
    in_order (xs ++ o ∷ [])
    (all_pairs_push (λ x y. x.number < y.number) xs o (rises xs ordered) (above_each o.number xs above))

pub ordered_moved : (old : ℕ) (new : Replacement) (o : Order) (xs : List Order) → in_entry_order xs ≡ true → above_all new.number xs ≡ true → in_entry_order (moved_to_end old new (Some o) xs) ≡ true
ordered_moved old new o xs ordered above =
    in_order (dropped old xs ++ replaced new o ∷ [])
    (all_pairs_push (λ x y. x.number < y.number) (dropped old xs) (replaced new o)
    (AllPairs-filter (λ x y. x.number < y.number) _ xs (rises xs ordered))
    (All-filter _ (λ x. x.number < new.number) xs (above_each new.number xs above)))

pub ordered_cut : (n shares : ℕ) (xs : List Order) → in_entry_order xs ≡ true → in_entry_order (cut_down n shares xs) ≡ true
ordered_cut n shares xs ordered = in_order (cut_down n shares xs) (rising_cut n shares xs (rises xs ordered))

-- dropping an order that rests leaves fewer
fewer_dropped : (n : ℕ) (xs : List Order) → is_some (order_of n xs) ≡ true → length (dropped n xs) < length xs
fewer_dropped n [] e = absurd (let z : ◌≡◌ {A = ℕ} 0 1 = cc in omega arith)
fewer_dropped n (x ∷ xs) e = go (eqb x.number n) (λ f. fewer_dropped n xs f) e
  where
    go : (b : Bool) → (is_some (order_of n xs) ≡ true → length (dropped n xs) < length xs) → is_some (cond b (Some x) (order_of n xs)) ≡ true → length (cond (not b) (x ∷ dropped n xs) (dropped n xs)) < length (x ∷ xs)
    go true rest f = let stays : Order → Bool = λ o. not (eqb o.number n) in omega (arith, length-filter stays xs, count_by-le-length stays xs)
    go false rest f = omega (arith, rest f)

pub few_moved : (old : ℕ) (new : Replacement) (o : Order) (xs : List Order) → order_of old xs ≡ Some o → length (moved_to_end old new (Some o) xs) ≤ length xs
few_moved old new o xs found = omega (arith, length_push (dropped old xs) (replaced new o), fewer_dropped old xs (ap is_some found))

pub few_cut : (n shares : ℕ) (xs : List Order) → length (cut_down n shares xs) ≤ length xs
few_cut n shares [] = omega arith
few_cut n shares (x ∷ xs) =
    let rest = few_cut n shares xs in
    cond_both (eqb x.number n) _ _ (λ ys. length ys ≤ length (x ∷ xs))
    (λ e. cond_both (leb x.shares shares) None _ (λ left. length (option_to_list left ++ xs) ≤ length (x ∷ xs)) (λ f. omega arith) (λ f. omega arith))
    (λ e. omega arith)
