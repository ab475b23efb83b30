-- The highest band that starts at or below a number.
use Rattle.std.proofs.Common.{◌≡◌, ℕ, ◌<◌, ◌≤◌, Bool, true, false, cond, leb, reverse, List, [], ◌∷◌, Some, None, Option, refl, ap, ◌∙◌}
use Rattle.std.specs.List.{find}
use Rattle.std.specs.Option.{unwrap_or, option_or}
use Rattle.ladder.proofs.Rounding.{find_last-cons}
use Rattle.std.proofs.lemmas.Bool.{leb-true, cond_both}
use Rattle.ladder.specs.Bands.{band_holding}
use Rattle.ladder.specs.Sound.{sound, first}
use Rattle.ladder.specs.declared.Band.{Band}

or_last : (o : Option Band) (t : Bool) (b c : Band) → unwrap_or (option_or o (cond t (Some c) None)) b ≡ unwrap_or o (cond t c b)
or_last (Some x) t b c = refl
or_last None true b c = refl
or_last None false b c = refl

-- it starts at or below n, if the first band does
pub holding_starts : (b : Band) (rest : List Band) (n : ℕ) → b.start ≤ n → (band_holding b rest n).start ≤ n
holding_starts b [] n low = low
holding_starts b (c ∷ rest) n low =
    holding_starts (cond (leb c.start n) c b) rest n
    (cond_both (leb c.start n) c b (λ h. h.start ≤ n) (λ t. leb-true c.start n t) (λ _. low))

-- its step is one of the table's
pub holding_steps : (b : Band) (rest : List Band) (last n : ℕ) → (0 < b.step) × (b.step ≤ last) → sound rest last ≡ true → (0 < (band_holding b rest n).step) × ((band_holding b rest n).step ≤ last)
holding_steps b [] last n own ok = own
holding_steps b (c ∷ rest) last n own ok =
    let f = first c rest last ok in
    holding_steps (cond (leb c.start n) c b) rest last n
    (cond_both (leb c.start n) c b (λ h. (0 < h.step) × (h.step ≤ last)) (λ _. (f.step_positive, f.step_low)) (λ _. own)) f.rest_sound

-- sought from above, and from below
pub holding-find : (b : Band) (rest : List Band) (n : ℕ) → unwrap_or (find (λ c. leb c.start n) (reverse rest)) b ≡ band_holding b rest n
holding-find b [] n = refl
holding-find b (c ∷ rest) n =
    ap (λ o. unwrap_or o b) (find_last-cons (λ d. leb d.start n) c rest)
    ∙ or_last (find (λ d. leb d.start n) (reverse rest)) (leb c.start n) b c
    ∙ holding-find (cond (leb c.start n) c b) rest n
