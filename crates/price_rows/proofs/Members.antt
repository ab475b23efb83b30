-- What stands in a list, and what a filter and a map keep of it. Assumes nothing.
use Rattle.std.proofs.Common.{◌≡◌, ℕ, zero, suc, ◌<◌, Bool, true, false, cond, ◌⊎◌, List, [], ◌∷◌, map, length, get_or, filter, sym, refl, ap, ◌∙◌, inl, inr, le_of_suc-le-suc, arith}
use Rattle.std.specs.List.{Contains}
use Rattle.std.proofs.lemmas.Bool.{both_ways}

module _ {X : Type 0} where
  pub Contains-nil : (x : X) → Contains [] x → ⊥
  Contains-nil x h = omega (arith, h.1)

  -- the first of a list
  pub Contains-first : (y x : X) (xs : List X) → y ≡ x → Contains (y ∷ xs) x
  Contains-first y x xs same = (0, omega arith, same)

  pub Contains-here : (x : X) (xs : List X) → Contains (x ∷ xs) x
  Contains-here x xs = Contains-first x x xs refl

  pub Contains-there : (y x : X) (xs : List X) → Contains xs x → Contains (y ∷ xs) x
  Contains-there y x xs h = (suc h.0, omega (arith, h.1), h.2)

  pub Contains-cons_cases : (y x : X) (xs : List X) → Contains (y ∷ xs) x → (y ≡ x) ⊎ Contains xs x
  Contains-cons_cases y x xs h = go h.0 h.1 h.2
    where
      go : (k : ℕ) → k < length (y ∷ xs) → get_or (y ∷ xs) k x ≡ x → (y ≡ x) ⊎ Contains xs x
      go zero l e = inl e
      go (suc k) l e = inr (k, le_of_suc-le-suc l, e)

  module _ (t : X → Bool) where
    pub Contains-from_filter : (xs : List X) (x : X) → Contains (filter t xs) x → Contains xs x × (t x ≡ true)
    Contains-from_filter [] x h = absurd (Contains-nil x h)
    Contains-from_filter (y ∷ xs) x h = go (Contains-from_filter xs x) (t y) refl h
      where
        go : (Contains (filter t xs) x → Contains xs x × (t x ≡ true)) → (b : Bool) → t y ≡ b → Contains (cond b (y ∷ filter t xs) (filter t xs)) x → Contains (y ∷ xs) x × (t x ≡ true)
        go rest true e k =
            elim (Contains-cons_cases y x (filter t xs) k) [
              | inl same ↦ (Contains-first y x xs same, ap t (sym same) ∙ e)
              | inr later ↦ (Contains-there y x xs (rest later).0, (rest later).1)
            ]
        go rest false e k = (Contains-there y x xs (rest k).0, (rest k).1)

    pub Contains-filter : (xs : List X) (x : X) → Contains xs x → t x ≡ true → Contains (filter t xs) x
    Contains-filter [] x h e = absurd (Contains-nil x h)
    Contains-filter (y ∷ xs) x h e = go (λ later. Contains-filter xs x later e) (t y) refl
      where
        go : (Contains xs x → Contains (filter t xs) x) → (b : Bool) → t y ≡ b → Contains (cond b (y ∷ filter t xs) (filter t xs)) x
        go rest true f = elim (Contains-cons_cases y x xs h) [ inl same ↦ Contains-first y x _ same | inr later ↦ Contains-there y x (filter t xs) (rest later) ]
        go rest false f = elim (Contains-cons_cases y x xs h) [ inl same ↦ absurd (both_ways (t x) (ap t (sym same) ∙ f) e) | inr later ↦ rest later ]

module _ {X Y : Type 0} (f : X → Y) where
  pub Contains-from_map : (xs : List X) (y : Y) → Contains (map f xs) y → (x : X) × Contains xs x × (f x ≡ y)
  Contains-from_map [] y h = absurd (Contains-nil y h)
  Contains-from_map (x ∷ xs) y h =
      elim (Contains-cons_cases (f x) y (map f xs) h) [
        | inl same ↦ (x, Contains-here x xs, same)
        | inr later ↦ let r = Contains-from_map xs y later in (r.0, Contains-there x r.0 xs r.1, r.2)
      ]

  pub Contains-map : (xs : List X) (x : X) → Contains xs x → Contains (map f xs) (f x)
  Contains-map [] x h = absurd (Contains-nil x h)
  Contains-map (z ∷ xs) x h = elim (Contains-cons_cases z x xs h) [ inl same ↦ Contains-first (f z) (f x) _ (ap f same) | inr later ↦ Contains-there (f z) (f x) (map f xs) (Contains-map xs x later) ]
