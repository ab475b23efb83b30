-- Rows that close up. Assumes nothing.
use Rattle.std.proofs.Common.{◌≡◌, ℕ, suc, ◌+◌, ◌-◌, ◌<◌, ◌≤◌, List, ◌++◌, length, take, drop, sym, ap, ◌∙◌, arith, length-drop, take-take}
use lib.Seq.{paste, take-paste}
use Rattle.std.specs.List.{remove}
use Rattle.std.proofs.lemmas.List.{drop-take}

-- moving what follows a row onto it removes it from the front that is taken
pub closed_up : {X : Type 0} (xs : List X) (at n : ℕ) → at < n → n ≤ length xs → take (n - 1) (paste xs at (drop (at + 1) xs) (n - (at + 1))) ≡ remove (take n xs) at
closed_up xs at n lt le =
    let rest : ℕ = n - (at + 1) in
    let here : n - 1 ≡ at + rest = omega arith in
    let end : n ≡ suc at + rest = omega arith in
    let next : at + 1 ≡ suc at = omega arith in
    ap (λ k. take k (paste xs at (drop (at + 1) xs) rest)) here
    ∙ take-paste xs at (drop (at + 1) xs) rest (omega arith) (omega (arith, length-drop (at + 1) xs))
    ∙ ap (λ k. take at xs ++ take rest (drop k xs)) next
    ∙ ap (λ ys. ys ++ take rest (drop (suc at) xs)) (sym (take-take at n xs (omega arith)))
    ∙ ap (λ ys. take at (take n xs) ++ ys) (sym (drop-take (suc at) rest xs) ∙ ap (λ k. drop (suc at) (take k xs)) (sym end))
