-- A number at the right of its column, as the options of a format write it. Assumes nothing.
use Rattle.std.specs.Prelude.{◌≡◌, ℕ, zero, suc, ◌-◌, ◌^◌, List, [], ◌∷◌, ◌++◌, length, replicate, false, decimal, refl}
use Rattle.std.proofs.Common.{ap, ◌∙◌, ap₂, append-nil, arith}
use Rattle.std.specs.List.{repeat}
use Rattle.std.specs.Fmt.{char_count, padded_integral, styled_decimal, format_spec}

repeat_one : (k x : ℕ) → repeat k (x ∷ []) ≡ replicate k x
repeat_one zero x = refl
repeat_one (suc k) x = ap (λ xs. x ∷ xs) (repeat_one k x)

minus_itself : (k : ℕ) → k - k ≡ 0
minus_itself k = omega arith

-- blanks, nothing more, the digits, and no blanks after them
plain : (ds : List ℕ) (k m : ℕ) → m ≡ k → (repeat m (32 ∷ []) ++ [] ++ [] ++ []) ++ (ds ++ repeat (m - m) (32 ∷ [])) ≡ replicate k 32 ++ ds
plain ds k m e =
    ap₂ ◌++◌ (append-nil _ ∙ append-nil _ ∙ append-nil _ ∙ repeat_one m 32 ∙ ap (λ j. replicate j 32) e)
    (ap (λ j. ds ++ repeat j (32 ∷ [])) (minus_itself m) ∙ append-nil ds)

-- digits under the options `>11`
right : (ds : List ℕ) → padded_integral (format_spec 32 3 0 11 (2 ^ 64 - 1)) false [] ds ≡ replicate (11 - length ds) 32 ++ ds
unfolding padded_integral lib.Utf8.encode char_count
right ds = plain ds (11 - length ds) (11 - length ds - 0 - 0) (omega arith)

pub column_right : (n : ℕ) → styled_decimal (format_spec 32 3 0 11 (2 ^ 64 - 1)) n ≡ replicate (11 - length (decimal n)) 32 ++ decimal n
column_right n = right (decimal n)
