-- The orders of a list that are left from a place on. Assumes nothing.
use Rattle.std.proofs.Common.{◌≡◌, ℕ, zero, suc, ◌+◌, List, [], ◌∷◌, drop, Some, None, Option, sym, ap, ◌∙◌, arith}
use lib.Seq.{drop-nil}
use Rattle.std.specs.List.{slice_get}
use Rattle.order.specs.declared.Order.{Order}

-- where there is no order at a place, none is left
none_at : (xs : List Order) (k : ℕ) → slice_get xs k ≡ None → drop k xs ≡ []
none_at [] k e = drop-nil k
none_at (x ∷ xs) zero e = absurd (let z : ◌≡◌ {A = ℕ} 0 1 = cc in omega arith)
none_at (x ∷ xs) (suc k) e = none_at xs k e

-- an order that is there is the first of those that are left
some_at : (xs : List Order) (k : ℕ) (o : Order) → slice_get xs k ≡ Some o → drop k xs ≡ o ∷ drop (suc k) xs
some_at [] k o e = absurd (let z : ◌≡◌ {A = ℕ} 0 1 = cc in omega arith)
some_at (x ∷ xs) zero o e = let same : x ≡ o = cc in ap (λ y. y ∷ xs) same
some_at (x ∷ xs) (suc k) o e = some_at xs k o e

-- the same of an answer to the question for a place
module _ (xs : List Order) (k : ℕ) (got : Option Order) (asked : got ≡ slice_get xs k) where
  pub none_left : got ≡ None → drop k xs ≡ []
  none_left is = none_at xs k (sym asked ∙ is)

  pub first_left : (o : Order) → got ≡ Some o → drop k xs ≡ o ∷ drop (k + 1) xs
  first_left o is =
      let on : suc k ≡ k + 1 = omega arith in
      some_at xs k o (sym asked ∙ is) ∙ ap (λ n. o ∷ drop n xs) on
