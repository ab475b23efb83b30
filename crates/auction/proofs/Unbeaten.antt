-- Tests of all of a list, and whom none of it beats. Assumes nothing.
use Rattle.std.specs.Prelude.{◌≡◌, Bool, true, false, not, List, [], ◌∷◌, Some, None, slice_index_or, refl}
use Rattle.std.specs.List.{Contains, list_all}
use Rattle.std.proofs.lemmas.List.Elements.{All-contains, Contains-get_or}
use Rattle.std.proofs.lemmas.List.Sums.{AllPass-from_list_all, list_all-from_AllPass}
use Rattle.std.proofs.lemmas.Bool.{not-true, not_from_false}
use Rattle.price_rows.proofs.Members.{Contains-here, Contains-nil, Contains-from_filter, Contains-filter}
use Rattle.auction.specs.Rules.{unbeaten, first_left}

module _ {X : Type 0} where
  module _ (t : X → Bool) where
    pub all_contained : (xs : List X) → list_all t xs ≡ true → (x : X) → Contains xs x → t x ≡ true
    all_contained xs e x h = All-contains (λ y. t y ≡ true) xs x (AllPass-from_list_all t xs e) h

    pub all_from_contained : (xs : List X) → ((x : X) → Contains xs x → t x ≡ true) → list_all t xs ≡ true
    all_from_contained xs all = list_all-from_AllPass t xs (λ k d within. all (slice_index_or xs k d) (Contains-get_or xs k d within))

  module _ (beats : X → X → Bool) where
    pub unbeaten_has : (xs : List X) (x : X) → Contains (unbeaten beats xs) x → Contains xs x × ((y : X) → Contains xs y → beats y x ≡ false)
    unbeaten_has xs x h =
        let k = Contains-from_filter (λ z. list_all (λ y. not (beats y z)) xs) xs x h in
        (k.0, λ y m. not-true (beats y x) (all_contained (λ y. not (beats y x)) xs k.1 y m))

    pub has_unbeaten : (xs : List X) (x : X) → Contains xs x → ((y : X) → Contains xs y → beats y x ≡ false) → Contains (unbeaten beats xs) x
    has_unbeaten xs x h all =
        Contains-filter (λ z. list_all (λ y. not (beats y z)) xs) xs x h (all_from_contained (λ y. not (beats y x)) xs (λ y m. not_from_false (beats y x) (all y m)))

  -- the first of what is left
  pub first_left_none : (xs : List X) → ((x : X) → Contains xs x → ⊥) → first_left xs ≡ None
  first_left_none [] none = refl
  first_left_none (x ∷ xs) none = absurd (none x (Contains-here x xs))

  pub first_left_some : (xs : List X) (x : X) → Contains xs x → (h : X) × (first_left xs ≡ Some h) × Contains xs h
  first_left_some [] x m = absurd (Contains-nil x m)
  first_left_some (y ∷ xs) x m = (y, refl, Contains-here y xs)
