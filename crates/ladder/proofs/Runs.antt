-- Rounding within one run of prices a step apart.
use Rattle.std.proofs.Common.{◌≡◌, ℕ, zero, suc, ◌+◌, ◌-◌, ◌*◌, ◌%◌, ◌<◌, ◌≤◌, leb, List, All, ◌∷◌, ◌++◌, Some, sym, ap, ◌∙◌, inl, inr, mod-eq_of_lt, mul-suc, arith}
use native.Mathlib.Nat.{mod-eq-sub-mod, mod_self, zero-mod}
use Rattle.std.specs.Int.{next_multiple_of}
use Rattle.std.proofs.lemmas.Bool.{le-leb, lt-leb, cases_lt}
use Rattle.ladder.specs.Prices.{prices_from, highest_at_or_below, lowest_at_or_above}
use Rattle.ladder.specs.Sound.{run_above, run_starts}
use Rattle.ladder.proofs.Rounding.{find_last-cons, none_at_or_below}

-- a step on, the remainder is the same
remainder_on : (n a d : ℕ) → a + d ≤ n → (n - (a + d)) % d ≡ (n - a) % d
remainder_on n a d h =
    let more : d ≤ n - a = omega arith in
    let same : n - (a + d) ≡ n - a - d = omega arith in
    ap (λ m. m % d) same ∙ sym (mod-eq-sub-mod more)

-- within the first step, the remainder is the distance from the start
remainder_first : (n a d : ℕ) → n < a + d → a ≤ n → (n - a) % d ≡ n - a
remainder_first n a d h more = let lt : n - a < d = omega arith in mod-eq_of_lt lt

-- rounding down within a run
pub run_down : (n a d k : ℕ) → 0 < d → a ≤ n → n < a + d * k → highest_at_or_below n (prices_from a d k) ≡ Some (n - (n - a) % d)
run_down n a d zero pos low high = absurd (omega arith)
run_down n a d (suc k) pos low high =
    elim (cases_lt n (a + d)) [
      | inl lt ↦
          let first : a ≡ n - (n - a) % d = omega (arith, remainder_first n a d lt low) in
          let above : All (λ q. n < q) (prices_from (a + d) d k) = λ i e less. omega (arith, run_above (a + d) d k i e less) in
          find_last-cons (λ q. leb q n) a (prices_from (a + d) d k)
          ∙ rw (none_at_or_below n (prices_from (a + d) d k) above, le-leb a n low) (ap Some first)
      | inr le ↦
          let within : n < a + d + d * k = omega (arith, mul-suc d k) in
          find_last-cons (λ q. leb q n) a (prices_from (a + d) d k)
          ∙ rw (run_down n (a + d) d k pos le within) (ap (λ m. Some (n - m)) (remainder_on n a d le))
    ]

-- a number at or below the start rounds up to it
run_first : (n a d k e : ℕ) (zs : List ℕ) → n ≤ a → e ≡ a + d * k → lowest_at_or_above n (prices_from a d k ++ e ∷ zs) ≡ Some a
run_first n a d k e zs le is = ap (lowest_at_or_above n) (run_starts a d k e zs is).1 ∙ rw (le-leb n a le)

-- a run's start rounds up to itself
up_at_start : (n a d : ℕ) → 0 < d → n ≡ a → a ≡ a + next_multiple_of (n - a) d
up_at_start n a d pos same =
    let none : n - a ≡ 0 = omega arith in
    let whole : d - 0 ≡ d = omega arith in
    rw (none, zero-mod d, whole, mod_self d) (omega arith)

-- within the first step, the price a step on is the next
up_in_first : (n a d : ℕ) → a < n → n < a + d → a + d ≡ a + next_multiple_of (n - a) d
up_in_first n a d more lt =
    let low : a ≤ n = omega arith in
    let left : d - (n - a) < d = omega arith in
    rw (remainder_first n a d lt low, mod-eq_of_lt left) (omega arith)

-- a step on, a number rounds up alike
up_on : (n a d : ℕ) → a + d ≤ n → a + d + next_multiple_of (n - (a + d)) d ≡ a + next_multiple_of (n - a) d
up_on n a d le = omega (arith, ap (λ m. (d - m) % d) (remainder_on n a d le))

-- rounding up within a run, and up to the price that follows it
pub run_up : (n a d k e : ℕ) (zs : List ℕ) → 0 < d → a ≤ n → n ≤ e → e ≡ a + d * k → lowest_at_or_above n (prices_from a d k ++ e ∷ zs) ≡ Some (a + next_multiple_of (n - a) d)
run_up n a d zero e zs pos low high is = run_first n a d zero e zs (omega arith) is ∙ ap Some (up_at_start n a d pos (omega arith))
run_up n a d (suc k) e zs pos low high is =
    let on : e ≡ a + d + d * k = omega (arith, mul-suc d k) in
    elim (cases_lt a n) [
      | inl more ↦ rw (lt-leb n a more) (elim (cases_lt n (a + d)) [
        | inl lt ↦ run_first n (a + d) d k e zs (omega arith) on ∙ ap Some (up_in_first n a d more lt)
        | inr le ↦ run_up n (a + d) d k e zs pos le high on ∙ ap Some (up_on n a d le)
      ])
      | inr le ↦ run_first n a d (suc k) e zs le is ∙ ap Some (up_at_start n a d pos (omega arith))
    ]
