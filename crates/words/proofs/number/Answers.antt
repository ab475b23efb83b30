use Rattle.std.proofs.Common.{ℕ, ◌^◌, ◌<◌, ◌≤◌, arith}
use native.Mathlib.Nat.{pow-le-pow_right}
use Rattle.words.proofs.number.Goals as goal

-- before the last of at most eight digits
small : (n i k : ℕ) → n < 10 ^ i → i < k → k ≤ 8 → n < 10000000
small n i k h lt le =
    let seven : i ≤ 7 = omega arith in
    let ten : 0 < 10 = omega arith in
    let most : 10 ^ i ≤ 10 ^ 7 = pow-le-pow_right ten seven in
    omega arith

pub overflow_mul-n : goal.overflow_mul-n
overflow_mul-n c = omega (arith, small c.loop-b.n c.loop-b.b-index _ c.loop-b.invariant.small c.loop-b-test.true c.if-word-gt-MOST_DIGITS.false)

pub overflow_add-n : goal.overflow_add-n
overflow_add-n c = omega (arith, small c.loop-b.n c.loop-b.b-index _ c.loop-b.invariant.small c.loop-b-test.true c.if-word-gt-MOST_DIGITS.false)
