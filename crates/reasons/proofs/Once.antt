-- A price stands once in a rising list that has it. Assumes nothing.
use Rattle.std.proofs.Common.{◌≡◌, ℕ, ◌+◌, ◌<◌, Bool, true, false, cond, eqb, List, [], ◌∷◌, All, AllPairs, map, count_by, sym, refl, ap, ◌∙◌, inl, inr, arith}
use Rattle.std.specs.List.{Contains}
use Rattle.std.proofs.lemmas.List.Elements.{All-head, All-tail, All-contains}
use Rattle.std.proofs.lemmas.List.Sums.{sum_by-cons}
use Rattle.std.proofs.lemmas.Bool.{eq-eqb, ne_eqb}
use Rattle.price_rows.proofs.Members.{Contains-nil, Contains-cons_cases}
use Rattle.price_rows.proofs.Rising.{rising_first, rising_rest}

count_cons : {X : Type 0} (t : X → Bool) (x : X) (xs : List X) (b : Bool) → t x ≡ b → count_by t (x ∷ xs) ≡ cond b 1 0 + count_by t xs
count_cons t x xs b e = sum_by-cons (λ y. cond (t y) 1 0) x xs ∙ ap (λ c. cond c 1 0 + count_by t xs) e

-- the same count of what a list is made from
pub count_map : {X Y : Type 0} (f : X → Y) (t : Y → Bool) (u : X → Bool) → ((x : X) → t (f x) ≡ u x) → (xs : List X) → count_by t (map f xs) ≡ count_by u xs
count_map f t u same [] = refl
count_map f t u same (x ∷ xs) =
    count_cons t (f x) (map f xs) (u x) (same x) ∙ ap (λ n. cond (u x) 1 0 + n) (count_map f t u same xs) ∙ sym (count_cons u x xs (u x) refl)

none_below : (q : ℕ) (ps : List ℕ) → All (λ p. q < p) ps → count_by (λ p. eqb p q) ps ≡ 0
none_below q [] all = refl
none_below q (p ∷ ps) all =
    let rest = none_below q ps (All-tail (λ x. q < x) p ps all) in
    let here = count_cons (λ p. eqb p q) p ps false (ne_eqb p q (λ e. omega (arith, All-head (λ x. q < x) p ps all))) in
    omega (arith, here, rest)

pub once : (q : ℕ) (ps : List ℕ) → AllPairs (λ x y. x < y) ps → Contains ps q → count_by (λ p. eqb p q) ps ≡ 1
once q [] rises h = absurd (Contains-nil q h)
once q (p ∷ ps) rises h =
    elim (Contains-cons_cases p q ps h) [
      | inl e ↦
          let here = count_cons (λ p. eqb p q) p ps true (eq-eqb p q e) in
          let rest = none_below q ps (λ k d lt. omega (arith, e, rising_first p ps rises k d lt)) in
          omega (arith, here, rest)
      | inr later ↦
          let l : p < q = All-contains (λ x. p < x) ps q (rising_first p ps rises) later in
          let here = count_cons (λ p. eqb p q) p ps false (ne_eqb p q (λ e. omega (arith, l))) in
          let rest = once q ps (rising_rest p ps rises) later in
          omega (arith, here, rest)
    ]
