-- Rounding over the prices of any sound table of bands.
use Rattle.std.proofs.Common.{◌≡◌, ℕ, ◌+◌, ◌-◌, ◌%◌, ◌<◌, ◌≤◌, min, max, true, leb, List, [], ◌∷◌, ◌++◌, Some, None, All, sym, refl, ap, ◌∙◌, subst, inl, inr, arith}
use Rattle.std.specs.Int.{next_multiple_of}
use Rattle.std.proofs.lemmas.List.Folds.{find-append}
use Rattle.std.proofs.lemmas.Bool.{le-leb, lt-leb, cases_lt}
use Rattle.ladder.specs.Bands.{end_before, prices_of, band_holding}
use Rattle.ladder.specs.Prices.{highest_at_or_below, lowest_at_or_above}
use Rattle.ladder.specs.declared.Band.{Band}
use Rattle.ladder.proofs.Rounding.{highest_append, none_at_or_below, none_at_or_above}
use Rattle.ladder.specs.Sound.{sound, count, run, First, first, table_above, table_below, band_below, table_starts, start_low}
use Rattle.ladder.proofs.Runs.{run_down, run_up}

-- what the code computes in a band
abbrev rounded_down : Band → ℕ → ℕ
rounded_down b n = n - (n - b.start) % b.step

abbrev rounded_up : Band → ℕ → ℕ
rounded_up b n = b.start + next_multiple_of (n - b.start) b.step

-- below the next start, the band stays
holding_stays : (b : Band) (rest : List Band) (last n : ℕ) → sound rest last ≡ true → n < end_before rest last → band_holding b rest n ≡ b
holding_stays b [] last n ok lt = refl
holding_stays b (c ∷ rest) last n ok lt =
    let f = first c rest last ok in
    rw (lt-leb c.start n lt) (holding_stays b rest last n f.rest_sound (omega (arith, f.start_below)))

-- rounding down below a band's end
band_down : (b : Band) (rest : List Band) (last n : ℕ) → First b rest last → b.start ≤ n → n < end_before rest last → highest_at_or_below n (prices_of (b ∷ rest) last) ≡ Some (rounded_down b n)
band_down b rest last n f low lt =
    let above : All (λ q. n < q) (prices_of rest last) = λ i e less. omega (arith, table_above rest last f.rest_sound i e less) in
    highest_append n (run b rest last) (prices_of rest last)
    ∙ rw (none_at_or_below n (prices_of rest last) above) (run_down n b.start b.step (count b (end_before rest last)) f.step_positive low (omega (arith, f.whole_steps)))

-- rounding down within a table, where m is n, or the last price if n is past it
table_down : (b : Band) (rest : List Band) (last n m : ℕ) → sound (b ∷ rest) last ≡ true → b.start ≤ n → m ≡ min n last → highest_at_or_below n (prices_of (b ∷ rest) last) ≡ Some (rounded_down (band_holding b rest m) m)
table_down b [] last n m ok low is =
    let f = first b [] last ok in
    elim (cases_lt n last) [
      | inl lt ↦ let same : m ≡ n = omega arith in rw same (band_down b [] last n f low lt)
      | inr le ↦
          let top : m ≡ last = omega arith in
          highest_append n (run b [] last) (last ∷ []) ∙ rw (le-leb last n le, top, f.no_remainder) (ap Some (omega arith))
    ]
table_down b (c ∷ rest) last n m ok low is =
    let f = first b (c ∷ rest) last ok in
    let next : c.start ≤ last = start_low (c ∷ rest) last f.rest_sound in
    elim (cases_lt n c.start) [
      | inl lt ↦
          let same : m ≡ n = omega arith in
          rw (same, holding_stays b (c ∷ rest) last n f.rest_sound lt) (band_down b (c ∷ rest) last n f low lt)
      | inr le ↦
          let past : c.start ≤ m = omega arith in
          highest_append n (run b (c ∷ rest) last) (prices_of (c ∷ rest) last)
          ∙ rw (table_down c rest last n m f.rest_sound le is, le-leb c.start m past, band_holding)
    ]

-- rounding up, up to a band's end
band_up : (b : Band) (rest : List Band) (last n : ℕ) → First b rest last → b.start ≤ n → n ≤ end_before rest last → lowest_at_or_above n (prices_of (b ∷ rest) last) ≡ Some (rounded_up b n)
band_up b rest last n f low le =
    let s = table_starts rest last f.rest_sound in
    ap (λ ps. lowest_at_or_above n (run b rest last ++ ps)) s.1
    ∙ run_up n b.start b.step (count b (end_before rest last)) (end_before rest last) s.0 f.step_positive low le f.whole_steps

-- rounding up within a table
table_up : (b : Band) (rest : List Band) (last n : ℕ) → sound (b ∷ rest) last ≡ true → b.start ≤ n → n ≤ last → lowest_at_or_above n (prices_of (b ∷ rest) last) ≡ Some (rounded_up (band_holding b rest n) n)
table_up b [] last n ok low high = band_up b [] last n (first b [] last ok) low high
table_up b (c ∷ rest) last n ok low high =
    let f = first b (c ∷ rest) last ok in
    elim (cases_lt n c.start) [
      | inl lt ↦ rw (holding_stays b (c ∷ rest) last n f.rest_sound lt) (band_up b (c ∷ rest) last n f low (omega arith))
      | inr le ↦
          let below : All (λ q. q < n) (run b (c ∷ rest) last) = λ i e less. omega (arith, band_below b (c ∷ rest) last f i e less) in
          find-append (leb n) (run b (c ∷ rest) last) (prices_of (c ∷ rest) last)
          ∙ rw (none_at_or_above n (run b (c ∷ rest) last) below, le-leb c.start n le, band_holding) (table_up c rest last n f.rest_sound le high)
    ]

module _ (b : Band) (rest : List Band) (last : ℕ) (ok : sound (b ∷ rest) last ≡ true) where
  -- below the first start nothing is at or below
  pub table_down_none : (n : ℕ) → n < b.start → highest_at_or_below n (prices_of (b ∷ rest) last) ≡ None
  table_down_none n lt =
      none_at_or_below n (prices_of (b ∷ rest) last) (λ i e less. omega (arith, table_above (b ∷ rest) last ok i e less))

  pub table_down_at : (n m : ℕ) (h : Band) → b.start ≤ n → m ≡ min n last → h ≡ band_holding b rest m → Some (m - (m - h.start) % h.step) ≡ highest_at_or_below n (prices_of (b ∷ rest) last)
  table_down_at n m h low is held = rw held (sym (table_down b rest last n m ok low is))

  -- above the last price nothing is at or above
  pub table_up_none : (n : ℕ) → last < n → lowest_at_or_above n (prices_of (b ∷ rest) last) ≡ None
  table_up_none n lt =
      none_at_or_above n (prices_of (b ∷ rest) last) (λ i e less. omega (arith, table_below (b ∷ rest) last ok i e less))

  -- a number below the first start rounds up as the first start does
  same_at_max : (n : ℕ) → lowest_at_or_above n (prices_of (b ∷ rest) last) ≡ lowest_at_or_above (max n b.start) (prices_of (b ∷ rest) last)
  same_at_max n =
      elim (cases_lt n b.start) [
        | inl lt ↦
            let top : max n b.start ≡ b.start = omega arith in
            let le : n ≤ b.start = omega arith in
            let low : max n b.start ≤ b.start = omega arith in
            let s = table_starts (b ∷ rest) last ok in
            subst (λ (ps : List ℕ). lowest_at_or_above n ps ≡ lowest_at_or_above (max n b.start) ps) (sym s.1)
            (rw (le-leb n b.start le, le-leb (max n b.start) b.start low))
        | inr le ↦ ap (λ m. lowest_at_or_above m (prices_of (b ∷ rest) last)) (let z : n ≡ max n b.start = omega arith in z)
      ]

  pub table_up_at : (n m : ℕ) (h : Band) → n ≤ last → m ≡ max n b.start → h ≡ band_holding b rest m → Some (h.start + next_multiple_of (m - h.start) h.step) ≡ lowest_at_or_above n (prices_of (b ∷ rest) last)
  table_up_at n m h high is held =
      rw (held, is)
      (sym (same_at_max n ∙ table_up b rest last (max n b.start) ok (omega arith) (omega (arith, start_low (b ∷ rest) last ok))))
