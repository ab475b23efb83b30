-- What the k-th question answers. That it answers the k-th below the count, and nobody past it, are the library's lemmas
-- `slice_get-get_or` and `slice_get_past`. Assumes nothing.
use Rattle.std.proofs.Common.{◌≡◌, ℕ, zero, suc, ◌+◌, ◌<◌, List, [], ◌∷◌, ◌++◌, length, take, None, sym, refl, ap, ◌∙◌, append-nil, le_of_suc-le-suc, arith}
use lib.Seq.{take-nil}
use Rattle.std.specs.List.{slice_get}
use Rattle.std.specs.Option.{option_to_list}
use Rattle.order.specs.declared.Order.{Order}

-- there is an order at each place below the count
pub nth_none : (xs : List Order) (k : ℕ) → k < length xs → slice_get xs k ≡ None → ⊥
nth_none [] k h e = omega (arith, h)
nth_none (x ∷ xs) zero h e = let z : ◌≡◌ {A = ℕ} 0 1 = cc in omega arith
nth_none (x ∷ xs) (suc k) h e = nth_none xs k (le_of_suc-le-suc h) e

-- one order more of a list, as the k-th question answers it
pub take_nth : (xs : List Order) (k : ℕ) → take (k + 1) xs ≡ take k xs ++ option_to_list (slice_get xs k)
take_nth [] k = take-nil (k + 1) ∙ sym (append-nil (take k []) ∙ take-nil k)
take_nth (x ∷ xs) zero = refl
take_nth (x ∷ xs) (suc k) =
    let on : suc k + 1 ≡ suc (k + 1) = omega arith in
    ap (λ n. take n (x ∷ xs)) on ∙ ap (λ ys. x ∷ ys) (take_nth xs k)
