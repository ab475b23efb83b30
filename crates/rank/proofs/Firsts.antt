-- The first of a list leads it. Assumes nothing.
use Rattle.std.proofs.Common.{◌≡◌, ℕ, Bool, true, false, cond, List, [], ◌∷◌, ◌++◌, Some, None, fold, Option, sym, refl, ap, ◌∙◌, subst, inl, inr, arith}
use Rattle.std.proofs.lemmas.List.Elements.{Contains-push, Contains-push_cases, Contains-append_left}
use Rattle.std.proofs.lemmas.List.{append-nil, append_assoc}
use Rattle.std.proofs.lemmas.Bool.{cases_Bool, both_ways}
use Rattle.rank.specs.Ranked.{Lawful, better, first_of, NoneCounts, Leads, IsFirst}

module _ {X : Type 0} (counts : X → Bool) where
  -- one thing more that does not count
  none_more : (xs : List X) (x : X) → counts x ≡ false → NoneCounts counts xs → NoneCounts counts (xs ++ x ∷ [])
  none_more xs x out none y h = elim (Contains-push_cases xs x y h) [ inl old ↦ none y old | inr e ↦ ap counts (sym e) ∙ out ]

module _ {X : Type 0} (counts : X → Bool) (ahead : X → X → Bool) (key : X → List ℕ) (laws : Lawful ahead key) where
  -- nothing is ahead of itself
  not_itself : (x : X) → ahead x x ≡ false
  not_itself x = laws.level x x refl

  -- the leader stays where one thing more does not count or is not ahead
  stays : (xs : List X) (b x : X) → (counts x ≡ true → ahead x b ≡ false) → Leads counts ahead xs b → Leads counts ahead (xs ++ x ∷ []) b
  stays xs b x behind leads =
      record {
        listed = Contains-append_left xs (x ∷ []) b leads.listed;
        counted = leads.counted;
        unbeaten = λ y h c. elim (Contains-push_cases xs x y h) [ inl old ↦ leads.unbeaten y old c | inr e ↦ ap (λ z. ahead z b) (sym e) ∙ behind (ap counts e ∙ c) ];
      }

  -- who is ahead of the leader leads
  takes_over : (xs : List X) (b x : X) → counts x ≡ true → ahead x b ≡ true → Leads counts ahead xs b → Leads counts ahead (xs ++ x ∷ []) x
  takes_over xs b x cx wins leads =
      record {
        listed = Contains-push xs x;
        counted = cx;
        unbeaten = λ y h c. elim (Contains-push_cases xs x y h) [ inl old ↦ beaten y (leads.unbeaten y old c) | inr e ↦ ap (λ z. ahead z x) (sym e) ∙ not_itself x ];
      }
    where
      beaten : (y : X) → ahead y b ≡ false → ahead y x ≡ false
      beaten y behind = elim (cases_Bool (ahead y x)) [ inl yes' ↦ absurd (both_ways (ahead y b) behind (laws.chains y x b yes' wins)) | inr e ↦ e ]

  -- the first that counts leads
  begins : (xs : List X) (x : X) → counts x ≡ true → NoneCounts counts xs → Leads counts ahead (xs ++ x ∷ []) x
  begins xs x cx none =
      record {
        listed = Contains-push xs x;
        counted = cx;
        unbeaten = λ y h c. elim (Contains-push_cases xs x y h) [ inl old ↦ absurd (both_ways (counts y) (none y old) c) | inr e ↦ ap (λ z. ahead z x) (sym e) ∙ not_itself x ];
      }

  leads_more : (xs : List X) (best : Option X) (x : X) → IsFirst counts ahead xs best → IsFirst counts ahead (xs ++ x ∷ []) (better counts ahead best x)
  leads_more xs None x none = go (counts x) refl
    where
      go : (t : Bool) → counts x ≡ t → IsFirst counts ahead (xs ++ x ∷ []) (cond t (Some x) None)
      go true e = begins xs x e none
      go false e = none_more counts xs x e none
  leads_more xs (Some b) x leads = go (counts x) (ahead x b) refl refl
    where
      go : (t u : Bool) → counts x ≡ t → ahead x b ≡ u → IsFirst counts ahead (xs ++ x ∷ []) (cond t (cond u (Some x) (Some b)) (Some b))
      go true true e f = takes_over xs b x e f leads
      go true false e f = stays xs b x (λ _. f) leads
      go false u e f = stays xs b x (λ c. absurd (both_ways (counts x) e c)) leads

  leads_on : (seen xs : List X) (best : Option X) → IsFirst counts ahead seen best → IsFirst counts ahead (seen ++ xs) (fold (better counts ahead) best xs)
  leads_on seen [] best is = subst (λ l. IsFirst counts ahead l best) (sym (append-nil seen)) is
  leads_on seen (x ∷ xs) best is =
      subst (λ l. IsFirst counts ahead l (fold (better counts ahead) (better counts ahead best x) xs)) (append_assoc seen (x ∷ []) xs)
      (leads_on (seen ++ x ∷ []) xs (better counts ahead best x) (leads_more seen best x is))

  -- the first of a list is what its name says
  pub first_leads : (xs : List X) (r : Option X) → r ≡ first_of counts ahead xs → IsFirst counts ahead xs r
  first_leads xs r is = subst (IsFirst counts ahead xs) (sym is) (leads_on [] xs None (λ x h. absurd (omega (arith, h.1))))
