-- What makes a table of bands a ladder, and that the even and the banded ladder are ones. It stands here, and not among
-- the proofs, since a ladder hands out its own proof of what it owes. Assumes nothing.
use Rattle.std.specs.Prelude.{◌≡◌, ℕ, zero, suc, ◌+◌, ◌-◌, ◌*◌, ◌/◌, ◌%◌, ◌<◌, ◌≤◌, Bool, true, ◌&&◌, List, [], ◌∷◌, ◌++◌, length, ◌==◌, nat_le, nat_lt, refl, All}
use Rattle.std.proofs.Common.{sym, ap, ◌∙◌, subst, mul-suc, mul-le-mul, arith, lit≤}
use Rattle.std.proofs.Math.Nat.{div-add-mod, mul-div_cancel_left, mul-mod_right}
use Rattle.std.proofs.lemmas.List.Elements.{All-nil, All-cons, All-tail, All-append}
use Rattle.std.proofs.lemmas.List.Kept.{AllPairs-cons}
use Rattle.std.proofs.lemmas.Bool.{le-leb, lt-ltb, ltb-true, leb-true, eqb-true, eq-eqb, and_parts}
use Rattle.ladder.specs.Bands.{band, end_before, prices_of, first_band, higher_bands, last_price, banded_prices}
use Rattle.ladder.specs.Prices.{Rising, Lawful, price_limit, prices_from, even_prices}
use Rattle.ladder.specs.declared.Band.{Band}

-- the first of a rising list is below the others, and they rise
pub rising_first : (p : ℕ) (ps : List ℕ) → Rising (p ∷ ps) → All (λ q. p < q) ps
rising_first p ps r k e lt = r zero (suc k) e (omega arith) (omega arith)

pub rising_rest : (p : ℕ) (ps : List ℕ) → Rising (p ∷ ps) → Rising ps
rising_rest p ps r i j e lt within = r (suc i) (suc j) e (omega arith) (omega arith)

-- a run's prices are at or above its start
pub run_above : (a d k : ℕ) → All (λ q. a ≤ q) (prices_from a d k)
run_above a d zero i e lt = absurd (omega arith)
run_above a d (suc k) zero e lt = omega arith
run_above a d (suc k) (suc i) e lt = omega (arith, run_above (a + d) d k i e (omega arith))

-- a run's prices are below the price that would follow it
pub run_below : (a d k : ℕ) → 0 < d → All (λ q. q < a + d * k) (prices_from a d k)
run_below a d zero pos i e lt = absurd (omega arith)
run_below a d (suc k) pos zero e lt = omega (arith, mul-suc d k)
run_below a d (suc k) pos (suc i) e lt = omega (arith, mul-suc d k, run_below (a + d) d k pos i e (omega arith))

-- a run rises
pub run_rising : (a d k : ℕ) → 0 < d → Rising (prices_from a d k)
run_rising a d zero pos = λ i j e lt within. absurd (omega arith)
run_rising a d (suc k) pos =
    AllPairs-cons (λ p q. p < q) a (prices_from (a + d) d k)
    (λ i e lt. omega (arith, run_above (a + d) d k i e lt))
    (run_rising (a + d) d k pos)

-- a run that goes on begins with its start
pub run_starts : (a d k e : ℕ) (zs : List ℕ) → e ≡ a + d * k → (ws : List ℕ) × (prices_from a d k ++ e ∷ zs ≡ a ∷ ws)
run_starts a d zero e zs is = (zs, ap (λ p. p ∷ zs) (let z : e ≡ a = omega arith in z))
run_starts a d (suc k) e zs is = (prices_from (a + d) d k ++ e ∷ zs, refl)

-- one more price at the end of a run
pub run_more : (a d k : ℕ) → prices_from a d (suc k) ≡ prices_from a d k ++ (a + d * k) ∷ []
run_more a d zero = ap (λ p. p ∷ []) (omega arith)
run_more a d (suc k) =
    ap (λ ps. a ∷ ps)
    (run_more (a + d) d k ∙ ap (λ p. prices_from (a + d) d k ++ p ∷ []) (let z : a + d + d * k ≡ a + d * suc k = omega (arith, mul-suc d k) in z))

-- no band starts past its end, each ends whole steps from its start, and steps are from 1 to the last price
abbrev pub sound : List Band → ℕ → Bool
sound [] last = true
sound (b ∷ rest) last =
    let end = end_before rest last in
    nat_lt 0 b.step && (nat_le b.step last && (nat_le b.start end && ((end - b.start) % b.step == 0 && sound rest last)))

-- how many prices a band has
abbrev pub count : Band → ℕ → ℕ
count b end = (end - b.start) / b.step

-- the prices of a table's first band
abbrev pub run : Band → List Band → ℕ → List ℕ
run b rest last = prices_from b.start b.step (count b (end_before rest last))

-- what a sound table says of its first band
pub record First (b : Band) (rest : List Band) (last : ℕ) : Type 0 where
  pub step_positive : 0 < b.step
  pub step_low : b.step ≤ last
  pub start_below : b.start ≤ end_before rest last
  pub whole_steps : end_before rest last ≡ b.start + b.step * count b (end_before rest last)
  pub no_remainder : (end_before rest last - b.start) % b.step ≡ 0
  pub rest_sound : sound rest last ≡ true

pub first : (b : Band) (rest : List Band) (last : ℕ) → sound (b ∷ rest) last ≡ true → First b rest last
first b rest last h =
    let end = end_before rest last in
    let a = and_parts (nat_lt 0 b.step) _ h in
    let s = and_parts (nat_le b.step last) _ a.1 in
    let k = and_parts (nat_le b.start end) _ s.1 in
    let m = and_parts ((end - b.start) % b.step == 0) (sound rest last) k.1 in
    let below : b.start ≤ end = leb-true b.start end k.0 in
    let whole : (end - b.start) % b.step ≡ 0 = eqb-true ((end - b.start) % b.step) 0 m.0 in
    record {
      step_positive = ltb-true 0 b.step a.0;
      step_low = leb-true b.step last s.0;
      start_below = below;
      whole_steps = omega (arith, div-add-mod (end - b.start) b.step);
      no_remainder = whole;
      rest_sound = m.1;
    }

-- the table's prices are at or above its first start
pub table_above : (bs : List Band) (last : ℕ) → sound bs last ≡ true → All (λ q. end_before bs last ≤ q) (prices_of bs last)
table_above [] last ok = All-cons (λ q. last ≤ q) last [] (omega arith) (All-nil (λ q. last ≤ q))
table_above (b ∷ rest) last ok =
    let f = first b rest last ok in
    All-append (λ q. b.start ≤ q) (run b rest last) (prices_of rest last)
    (run_above b.start b.step (count b (end_before rest last)))
    (λ i e lt. omega (arith, f.start_below, table_above rest last f.rest_sound i e lt))

-- a band's prices are below its end
pub band_below : (b : Band) (rest : List Band) (last : ℕ) → First b rest last → All (λ q. q < end_before rest last) (run b rest last)
band_below b rest last f i e lt =
    omega (arith, f.whole_steps, run_below b.start b.step (count b (end_before rest last)) f.step_positive i e lt)

-- the first start is at or below the last price
pub start_low : (bs : List Band) (last : ℕ) → sound bs last ≡ true → end_before bs last ≤ last
start_low [] last ok = omega arith
start_low (b ∷ rest) last ok =
    let f = first b rest last ok in
    omega (arith, f.start_below, start_low rest last f.rest_sound)

-- the table's prices are at or below its last price
pub table_below : (bs : List Band) (last : ℕ) → sound bs last ≡ true → All (λ q. q ≤ last) (prices_of bs last)
table_below [] last ok = All-cons (λ q. q ≤ last) last [] (omega arith) (All-nil (λ q. q ≤ last))
table_below (b ∷ rest) last ok =
    let f = first b rest last ok in
    All-append (λ q. q ≤ last) (run b rest last) (prices_of rest last)
    (λ i e lt. omega (arith, start_low rest last f.rest_sound, band_below b rest last f i e lt))
    (table_below rest last f.rest_sound)

-- two rising lists rise in a row, if e lies above the first and not above the second
rising_append : (e : ℕ) (xs ys : List ℕ) → Rising xs → Rising ys → All (λ q. q < e) xs → All (λ q. e ≤ q) ys → Rising (xs ++ ys)
rising_append e [] ys rx ry below above = ry
rising_append e (x ∷ xs) ys rx ry below above =
    let less : x < e = below 0 x (omega arith) in
    AllPairs-cons (λ p q. p < q) x (xs ++ ys)
    (All-append (λ q. x < q) xs ys (rising_first x xs rx) (λ i d lt. omega (arith, above i d lt)))
    (rising_append e xs ys (rising_rest x xs rx) ry (All-tail (λ q. q < e) x xs below) above)

pub table_rising : (bs : List Band) (last : ℕ) → sound bs last ≡ true → Rising (prices_of bs last)
table_rising [] last ok = λ i j e lt within. absurd (omega arith)
table_rising (b ∷ rest) last ok =
    let f = first b rest last ok in
    rising_append (end_before rest last) (run b rest last) (prices_of rest last)
    (run_rising b.start b.step (count b (end_before rest last)) f.step_positive)
    (table_rising rest last f.rest_sound) (band_below b rest last f) (table_above rest last f.rest_sound)

-- the table's prices begin with its first start
pub table_starts : (bs : List Band) (last : ℕ) → sound bs last ≡ true → (ws : List ℕ) × (prices_of bs last ≡ end_before bs last ∷ ws)
table_starts [] last ok = ([], refl)
table_starts (b ∷ rest) last ok =
    let f = first b rest last ok in
    let s = table_starts rest last f.rest_sound in
    let r = run_starts b.start b.step (count b (end_before rest last)) (end_before rest last) s.0 f.whole_steps in
    (r.0, ap (λ ps. run b rest last ++ ps) s.1 ∙ r.1)

-- two facts of every price, as one
pub all_both : (P Q : ℕ → Type 0) (xs : List ℕ) → All P xs → All Q xs → All (λ q. P q × Q q) xs
all_both P Q xs p q i e lt = (p i e lt, q i e lt)

-- what every ladder keeps, of a sound table
pub table_lawful : (b : Band) (rest : List Band) (last : ℕ) → sound (b ∷ rest) last ≡ true → 1 ≤ b.start → last ≤ price_limit → Lawful (prices_of (b ∷ rest) last)
table_lawful b rest last ok low high =
    let s = table_starts (b ∷ rest) last ok in
    record {
      rising = table_rising (b ∷ rest) last ok;
      never_empty = subst (λ (ps : List ℕ). 0 < length ps) (sym s.1) (omega arith);
      within = all_both (λ q. 1 ≤ q) (λ q. q ≤ price_limit) (prices_of (b ∷ rest) last)
          (λ i e lt. omega (arith, table_above (b ∷ rest) last ok i e lt))
          (λ i e lt. omega (arith, table_below (b ∷ rest) last ok i e lt));
    }

-- the distance from the first multiple to the last
above_first : (s k : ℕ) → s * suc k - s ≡ s * k
above_first s k = omega (arith, mul-suc s k)

-- the first multiple is at or below the last
pub first_low : (s n : ℕ) → 1 ≤ n → s ≤ s * n
first_low s zero count = absurd (omega arith)
first_low s (suc k) count = omega (arith, mul-suc s k)

pub even_table : (s n : ℕ) → 1 ≤ s → 1 ≤ n → even_prices s n ≡ prices_of (band s s ∷ []) (s * n)
even_table s zero step count = absurd (omega arith)
even_table s (suc k) step count =
    let steps : k ≡ (s * suc k - s) / s = sym (ap (λ m. m / s) (above_first s k) ∙ mul-div_cancel_left k step) in
    let end : s + s * k ≡ s * suc k = omega (arith, mul-suc s k) in
    run_more s s k ∙ ap (λ p. prices_from s s k ++ p ∷ []) end ∙ ap (λ c. prices_from s s c ++ (s * suc k) ∷ []) steps

pub even_sound : (s n : ℕ) → 1 ≤ s → 1 ≤ n → sound (band s s ∷ []) (s * n) ≡ true
even_sound s zero step count = absurd (omega arith)
even_sound s (suc k) step count =
    let low : s ≤ s * suc k = first_low s (suc k) count in
    let whole : (s * suc k - s) % s ≡ 0 = ap (λ m. m % s) (above_first s k) ∙ mul-mod_right s k in
    rw (lt-ltb 0 s step, le-leb s (s * suc k) low, eq-eqb ((s * suc k - s) % s) 0 whole)

-- the even ladder keeps the meaning
pub even_lawful : (s n : ℕ) → (1 ≤ s) × (s ≤ 10000) → (1 ≤ n) × (n ≤ 1000) → Lawful (even_prices s n)
even_lawful s n step count =
    subst (λ (ps : List ℕ). Lawful ps) (sym (even_table s n step.0 count.0))
    (table_lawful (band s s) [] (s * n) (even_sound s n step.0 count.0) step.0 (mul-le-mul step.1 count.1))

-- the banded ladder's table passes the test, so it keeps the meaning
pub banded_sound : sound (first_band ∷ higher_bands) last_price ≡ true
banded_sound = refl

pub banded_lawful : Lawful banded_prices
unfolding banded_prices
banded_lawful = table_lawful first_band higher_bands last_price banded_sound (lit≤ tt) (lit≤ tt)
