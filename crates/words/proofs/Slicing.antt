-- The first line of a text, and the first word of a line. Assumes nothing.
use Rattle.std.proofs.Common.{◌≡◌, ℕ, ◌+◌, ◌≤◌, Bool, true, false, cond, not, ltb, List, [], ◌∷◌, length, get_or, take, drop, Some, None, Option, unwrap_or, sym, refl, ap, ◌∙◌, inl, inr, one-add, add-one, arith, drop-cons}
use Rattle.std.proofs.Math.Seq.{take-length, drop-length}
use Rattle.std.specs.List.{slice_split, onto_first, position, position_or_len, before_first, after_first}
use Rattle.std.proofs.lemmas.Bool.{cases_Bool, cases_lt, cond-true, cond-false, le-ltb, lt-ltb, not-true}
use Rattle.std.proofs.lemmas.Option.{cond_some, none-some}
use Rattle.std.specs.Bool.{then_some}
use Rattle.std.proofs.lemmas.List.{length-take-le}
use Rattle.std.proofs.lemmas.List.Sums.{prefix_len-le-length}
use Rattle.std.proofs.lemmas.List.Splits.{slice_split_first}
use Rattle.std.proofs.lemmas.List.Quantifiers.{position-Some}
use denote.Ref.{Bor}
use Rattle.words.specs.Cutting.{newline, blank, without_empty, lines, lines_left, words}

-- the pieces after the first, where `bs` begins with the byte that ends the first
abbrev pub after : (ℕ → Bool) → List ℕ → List (List ℕ)
after p [] = []
after p (b ∷ bs) = slice_split p bs

module _ (p : ℕ → Bool) where
  pub split_front : (bs : List ℕ) → slice_split p bs ≡ before_first p bs ∷ after p (drop (position_or_len p bs) bs)
  split_front [] = refl
  split_front (b ∷ bs) =
      elim (p b) as (λ t. cond t ([] ∷ slice_split p bs) (onto_first b (slice_split p bs)) ≡ take (cond (not t) (1 + position_or_len p bs) 0) (b ∷ bs) ∷ after p (drop (cond (not t) (1 + position_or_len p bs) 0) (b ∷ bs)))
      [ true ↦ refl | false ↦ rw one-add (ap (onto_first b) (split_front bs)) ]

  stops_at_end : (bs : List ℕ) → position p bs ≡ None → position_or_len p bs ≡ length bs
  stops_at_end bs e =
      elim (cases_lt (position_or_len p bs) (length bs)) [
        | inl lt ↦ absurd (none-some _ (sym e ∙ cond-true _ _ _ (lt-ltb _ _ lt)))
        | inr ge ↦ omega (arith, prefix_len-le-length (λ b. not (p b)) bs)
      ]

  pub position-unwrap_or : (bs : List ℕ) → unwrap_or (position p bs) (length bs) ≡ position_or_len p bs
  position-unwrap_or bs =
      elim (cases_lt (position_or_len p bs) (length bs)) [
        | inl lt ↦ ap (λ r. unwrap_or r (length bs)) (cond-true _ _ _ (lt-ltb _ _ lt))
        | inr ge ↦ ap (λ r. unwrap_or r (length bs)) (cond-false _ _ _ (le-ltb _ _ ge)) ∙ omega (arith, prefix_len-le-length (λ b. not (p b)) bs)
      ]

  -- no byte passes
  pub split_none : (bs : List ℕ) → position p bs ≡ None → slice_split p bs ≡ bs ∷ []
  split_none bs e = split_front bs ∙ rw (stops_at_end bs e) (rw (take-length, drop-length) refl)

-- the lines are the first and those of what follows it, if a newline ends it
pub lines_cut : (text line : List ℕ) (rest : Bor (List ℕ)) (r : Option (Bor (List ℕ))) → line ≡ before_first newline text → rest.now ≡ after_first newline text → r ≡ then_some (ltb (length line) (length text)) rest → lines text ≡ line ∷ lines_left r
lines_cut text line rest r is follows left =
    let n = position_or_len newline text in
    let least : n ≤ length text = prefix_len-le-length (λ b. not (newline b)) text in
    let long : length line ≡ n = ap length is ∙ length-take-le n text least in
    elim (cases_lt n (length text)) [
      | inl lt ↦
          slice_split_first newline text 0 lt
          ∙ sym (ap (λ o. line ∷ lines_left o) (left ∙ ap (λ t. then_some t rest) (lt-ltb (length line) (length text) (omega arith))) ∙ (λ i. is i ∷ lines (follows i)))
      | inr ge ↦
          let whole : line ≡ text = is ∙ rw (let z : n ≡ length text = omega arith in z) (take-length text) in
          split_none newline text (cond-false _ _ _ (le-ltb n (length text) ge))
          ∙ sym (ap (λ o. line ∷ lines_left o) (left ∙ ap (λ t. then_some t rest) (le-ltb (length line) (length text) (omega arith))) ∙ ap (λ l. l ∷ []) whole)
    ]

-- ---- words, where blanks are passed over

abbrev pub nonblank : ℕ → Bool
nonblank b = not (blank b)

skip : (bs : List ℕ) → words bs ≡ words (drop (position_or_len nonblank bs) bs)
skip [] = refl
skip (b ∷ bs) = elim (cases_Bool (blank b)) [ inl e ↦ rw e (rw one-add (skip bs)) | inr e ↦ rw e (rw e refl) ]

-- what follows a word
after_word : (bs : List ℕ) → without_empty (after blank (drop (position_or_len blank bs) bs)) ≡ words (drop (position_or_len blank bs) bs)
after_word [] = refl
after_word (b ∷ bs) = elim (cases_Bool (blank b)) [ inl e ↦ rw e (rw e refl) | inr e ↦ rw e (rw one-add (after_word bs)) ]

word_first : (b : ℕ) (bs : List ℕ) → blank b ≡ false → words (b ∷ bs) ≡ before_first blank (b ∷ bs) ∷ words (drop (position_or_len blank (b ∷ bs)) (b ∷ bs))
word_first b bs e = rw e (rw one-add (ap (λ ts. without_empty (onto_first b ts)) (split_front blank bs) ∙ ap (λ ts. (b ∷ before_first blank bs) ∷ ts) (after_word bs)))

pub word_none : (bs : List ℕ) → position nonblank bs ≡ None → words bs ≡ []
word_none bs e = skip bs ∙ rw (stops_at_end nonblank bs e) (rw drop-length refl)

pub word_some : (bs : List ℕ) (n : ℕ) → position nonblank bs ≡ Some n → words bs ≡ before_first blank (drop n bs) ∷ words (drop (position_or_len blank (drop n bs)) (drop n bs))
word_some bs n e =
    let at = cond_some _ _ _ e in
    let yes = position-Some nonblank bs n 0 e in
    let first : drop n bs ≡ get_or bs n 0 ∷ drop (n + 1) bs = rw add-one (drop-cons bs n 0 yes.0) in
    skip bs ∙ rw at.1 (rw first (word_first (get_or bs n 0) (drop (n + 1) bs) (not-true _ yes.1)))
