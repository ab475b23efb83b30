-- Rounding over any list of prices, and what it means on a rising one.
use Rattle.std.proofs.Common.{◌≡◌, ℕ, ◌<◌, ◌≤◌, Bool, true, cond, eqb, leb, ◌⊎◌, List, [], ◌∷◌, ◌++◌, reverse, Some, None, Decides, Option, All, sym, refl, ap, ◌∙◌, subst, inl, inr, ⊎_elim, arith, nat_eq}
use Rattle.std.specs.Option.{option_eq, option_or}
use Rattle.std.specs.List.{find}
use Rattle.std.proofs.lemmas.List.{reverse-append}
use Rattle.std.proofs.lemmas.List.Elements.{All-head, All-tail}
use Rattle.std.proofs.lemmas.List.Folds.{find-append}
use Rattle.std.proofs.lemmas.Grind.{reverse_onto}
use Rattle.std.proofs.lemmas.Bool.{le-leb, lt-leb, cases_lt, eqb-true, eq-eqb, or_cases, or_left, or_right, both_ways, false≢true}
use Rattle.std.proofs.lemmas.Bool.Decides.{same_from_decides}
use Rattle.ladder.specs.Prices.{Rising, legal, highest_at_or_below, lowest_at_or_above}
use Rattle.ladder.specs.Nearest.{Legal, NearestBelow, NearestAbove}
use Rattle.ladder.specs.Sound.{rising_first, rising_rest}

-- the last that passes: of the rest, or else the first
pub find_last-cons : {X : Type 0} (p : X → Bool) (x : X) (xs : List X) → find p (reverse (x ∷ xs)) ≡ option_or (find p (reverse xs)) (cond (p x) (Some x) None)
find_last-cons p x xs = ap (find p) (reverse_onto xs x []) ∙ find-append p (reverse xs) (x ∷ [])

-- the highest of two lists in a row is that of the second, if it has one
pub highest_append : (n : ℕ) (xs ys : List ℕ) → highest_at_or_below n (xs ++ ys) ≡ option_or (highest_at_or_below n ys) (highest_at_or_below n xs)
highest_append n xs ys =
    ap (find (λ p. leb p n)) (reverse-append xs ys) ∙ find-append (λ p. leb p n) (reverse ys) (reverse xs)

-- prices above n give nothing at or below it
pub none_at_or_below : (n : ℕ) (xs : List ℕ) → All (λ q. n < q) xs → highest_at_or_below n xs ≡ None
none_at_or_below n [] above = refl
none_at_or_below n (x ∷ xs) above =
    find_last-cons (λ p. leb p n) x xs
    ∙ rw (none_at_or_below n xs (All-tail (λ q. n < q) x xs above), lt-leb x n (All-head (λ q. n < q) x xs above))

-- prices below n give nothing at or above it
pub none_at_or_above : (n : ℕ) (xs : List ℕ) → All (λ q. q < n) xs → lowest_at_or_above n xs ≡ None
none_at_or_above n [] below = refl
none_at_or_above n (x ∷ xs) below =
    rw (none_at_or_above n xs (All-tail (λ q. q < n) x xs below), lt-leb n x (All-head (λ q. q < n) x xs below))

-- a legal price is the list's first, or stands in the rest
legal_cases : (q x : ℕ) (xs : List ℕ) → Legal q (x ∷ xs) → (q ≡ x) ⊎ Legal q xs
legal_cases q x xs h = ⊎_elim (λ e. inl (eqb-true q x e)) (λ r. inr r) (or_cases (eqb q x) (legal q xs) h)

legal_first : (x : ℕ) (xs : List ℕ) → Legal x (x ∷ xs)
legal_first x xs = or_left (eqb x x) (legal x xs) (eq-eqb x x refl)

legal_rest : (q x : ℕ) (xs : List ℕ) → Legal q xs → Legal q (x ∷ xs)
legal_rest q x xs h = or_right (eqb q x) (legal q xs) h

-- what holds of every price holds of a legal one
pub legal_all : (P : ℕ → Type 0) (q : ℕ) (xs : List ℕ) → All P xs → Legal q xs → P q
legal_all P q [] all h = absurd (false≢true h)
legal_all P q (x ∷ xs) all h = elim (legal_cases q x xs h) [ inl e ↦ subst P (sym e) (All-head P x xs all) | inr r ↦ legal_all P q xs (All-tail P x xs all) r ]

-- the answer at or below n on a rising list, by whether it is there
abbrev Lower : ℕ → List ℕ → Option ℕ → Type 0
Lower n xs None = (q : ℕ) → Legal q xs → n < q
Lower n xs (Some p) = Legal p xs × (p ≤ n) × ((q : ℕ) → Legal q xs → p < q → n < q)

-- one more price before a list: the list's answer stands, or else the price is tried
lower_more : (n x : ℕ) (xs : List ℕ) (o : Option ℕ) → All (λ q. x < q) xs → Lower n xs o → Lower n (x ∷ xs) (option_or o (cond (leb x n) (Some x) None))
lower_more n x xs (Some p) above h =
    let higher : x < p = legal_all (λ q. x < q) p xs above h.0 in (
      legal_rest p x xs h.0,
      h.1,
      λ q l more. elim (legal_cases q x xs l) [ inl e ↦ absurd (omega arith) | inr r ↦ h.2 q r more ],
    )
lower_more n x xs None above h =
    elim (cases_lt n x) [
      | inl lt ↦ rw (lt-leb x n lt) (λ q l. elim (legal_cases q x xs l) [ inl e ↦ omega arith | inr r ↦ h q r ])
      | inr le ↦ rw (le-leb x n le) (
        legal_first x xs,
        le,
        λ q l more. elim (legal_cases q x xs l) [ inl e ↦ absurd (omega arith) | inr r ↦ h q r ],
      )
    ]

lower : (n : ℕ) (xs : List ℕ) → Rising xs → Lower n xs (highest_at_or_below n xs)
lower n [] rising = λ q l. absurd (false≢true l)
lower n (x ∷ xs) rising =
    rw (find_last-cons (λ p. leb p n) x xs)
    (lower_more n x xs (highest_at_or_below n xs) (rising_first x xs rising) (lower n xs (rising_rest x xs rising)))

nearest_lower : (n : ℕ) (xs : List ℕ) (o : Option ℕ) → Lower n xs o → NearestBelow n xs o
nearest_lower n xs (Some p) h = record {
  found = λ q e. let same : p ≡ q = cc in subst (λ (r : ℕ). Legal r xs × (r ≤ n) × ((q : ℕ) → Legal q xs → r < q → n < q)) same h;
  absent = λ e. cc;
  none_below = λ none. absurd (omega (arith, none p h.0, h.1));
  legal_stays = λ l. ap Some (elim (cases_lt p n) [ inl lt ↦ absurd (omega (arith, h.2 n l lt)) | inr le ↦ omega (arith, h.1) ]);
}
nearest_lower n xs None h = record {
  found = λ q e. cc;
  absent = λ e. h;
  none_below = λ none. refl;
  legal_stays = λ l. absurd (omega (arith, h n l));
}

-- on a rising list, rounding down gives the nearest legal price below
pub nearest_below : (n : ℕ) (xs : List ℕ) → Rising xs → NearestBelow n xs (highest_at_or_below n xs)
nearest_below n xs rising = nearest_lower n xs (highest_at_or_below n xs) (lower n xs rising)

-- the answer at or above n on a rising list, by whether it is there
abbrev Upper : ℕ → List ℕ → Option ℕ → Type 0
Upper n xs None = (q : ℕ) → Legal q xs → q < n
Upper n xs (Some p) = Legal p xs × (n ≤ p) × ((q : ℕ) → Legal q xs → q < p → q < n)

-- a price below n before a list leaves the list's answer
upper_more : (n x : ℕ) (xs : List ℕ) (o : Option ℕ) → x < n → Upper n xs o → Upper n (x ∷ xs) o
upper_more n x xs (Some p) lt h = (
  legal_rest p x xs h.0,
  h.1,
  λ q l less. elim (legal_cases q x xs l) [ inl e ↦ omega arith | inr r ↦ h.2 q r less ],
)
upper_more n x xs None lt h = λ q l. elim (legal_cases q x xs l) [ inl e ↦ omega arith | inr r ↦ h q r ]

upper : (n : ℕ) (xs : List ℕ) → Rising xs → Upper n xs (lowest_at_or_above n xs)
upper n [] rising = λ q l. absurd (false≢true l)
upper n (x ∷ xs) rising =
    elim (cases_lt x n) [
      | inl lt ↦ rw (lt-leb n x lt) (upper_more n x xs (lowest_at_or_above n xs) lt (upper n xs (rising_rest x xs rising)))
      | inr le ↦ rw (le-leb n x le) (
        legal_first x xs,
        le,
        λ q l less. elim (legal_cases q x xs l) [
          | inl e ↦ absurd (omega arith)
          | inr r ↦ absurd (omega (arith, legal_all (λ q. x < q) q xs (rising_first x xs rising) r))
        ],
      )
    ]

nearest_upper : (n : ℕ) (xs : List ℕ) (o : Option ℕ) → Upper n xs o → NearestAbove n xs o
nearest_upper n xs (Some p) h = record {
  found = λ q e. let same : p ≡ q = cc in subst (λ (r : ℕ). Legal r xs × (n ≤ r) × ((q : ℕ) → Legal q xs → q < r → q < n)) same h;
  absent = λ e. cc;
  none_above = λ none. absurd (omega (arith, none p h.0, h.1));
  legal_stays = λ l. ap Some (elim (cases_lt n p) [ inl lt ↦ absurd (omega (arith, h.2 n l lt)) | inr le ↦ omega (arith, h.1) ]);
}
nearest_upper n xs None h = record {
  found = λ q e. cc;
  absent = λ e. h;
  none_above = λ none. refl;
  legal_stays = λ l. absurd (omega (arith, h n l));
}

-- on a rising list, rounding up gives the nearest legal price above
pub nearest_above : (n : ℕ) (xs : List ℕ) → Rising xs → NearestAbove n xs (lowest_at_or_above n xs)
nearest_above n xs rising = nearest_upper n xs (lowest_at_or_above n xs) (upper n xs rising)

-- what `==` tells of an answer and a price
answers : (p : ℕ) (r : Bool) (o : Option ℕ) → r ≡ option_eq nat_eq o (Some p) → Decides r (o ≡ Some p)
answers p r (Some x) h = (λ t. ap Some (eqb-true x p (sym h ∙ t)), λ e. let same : x ≡ p = cc in h ∙ eq-eqb x p same)
answers p r None h = (λ t. absurd (both_ways r h t), λ e. cc)

-- a price is legal where it rounds down to itself
pub legal_by_rounding : (p : ℕ) (xs : List ℕ) (r : Bool) (o : Option ℕ) → NearestBelow p xs o → r ≡ option_eq nat_eq o (Some p) → r ≡ legal p xs
legal_by_rounding p xs r o near h =
    same_from_decides r (legal p xs) (answers p r o h) (near.legal_stays, λ e. (near.found p e).0)
