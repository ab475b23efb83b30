-- The range and the candidates in terms of the orders. Assumes nothing.
use Rattle.std.proofs.Common.{◌≡◌, ℕ, Bool, true, false, cond, ◌⊎◌, List, [], ◌∷◌, Some, None, fold, Option, sym, refl, ap, ◌∙◌, subst, inl, inr, arith}
use Rattle.std.specs.List.{Contains}
use Rattle.std.proofs.lemmas.List.Elements.{Contains-append_left, Contains-append_right, Contains-append_cases}
use Rattle.std.proofs.lemmas.Bool.{and_parts, and_from, leb-true, le-leb, both_ways}
use Rattle.std.proofs.lemmas.Bool.Decides.{nat_tests}
use Rattle.order.specs.declared.Side.{Side}
use Rattle.order.specs.declared.Side.TheVariants.{Buy, Sell}
use Rattle.order.specs.declared.Kind.{Kind}
use Rattle.order.specs.declared.Kind.TheVariants.{AtAuction, Limit}
use Rattle.order.specs.declared.Order.{Order}
use Rattle.order.specs.Orders.{same_side, within_limit, better_limit}
use Rattle.price_rows.specs.Amounts.{better_of, best_with, best_limit, reached_by, in_range, named_by, named_prices, named_in_range, candidates}
use Rattle.price_rows.specs.Reach.{Rests, Names, Spans}
use Rattle.price_rows.proofs.Members.{Contains-here, Contains-there, Contains-nil, Contains-cons_cases, Contains-from_filter, Contains-filter}
use Rattle.price_rows.proofs.Rising.{rising_has, has_rising}

pub rests_here : (o : Order) (os : List Order) (side : Side) (p : ℕ) → o.side ≡ side → o.kind ≡ Limit p → Rests (o ∷ os) side p
rests_here o os side p s k = (o, Contains-here o os, s, k)

pub rests_there : (o : Order) (os : List Order) (side : Side) (p : ℕ) → Rests os side p → Rests (o ∷ os) side p
rests_there o os side p r = (r.0, Contains-there o r.0 os r.1, r.2, r.3)

pub rests_cons : (o : Order) (os : List Order) (side : Side) (p : ℕ) → Rests (o ∷ os) side p → ((o.side ≡ side) × (o.kind ≡ Limit p)) ⊎ Rests os side p
rests_cons o os side p r =
    elim (Contains-cons_cases o r.0 os r.1) [
      | inl e ↦ inl (ap (λ x. x.side) e ∙ r.2, ap (λ x. x.kind) e ∙ r.3)
      | inr later ↦ inr (r.0, later, r.2, r.3)
    ]

same_side_true : (a b : Side) → same_side a b ≡ true → b ≡ a
same_side_true Buy Buy e = refl
same_side_true Buy Sell e = absurd (both_ways true (sym e) refl)
same_side_true Sell Buy e = absurd (both_ways true (sym e) refl)
same_side_true Sell Sell e = refl

same_side_self : (a b : Side) → b ≡ a → same_side a b ≡ true
same_side_self Buy b e = ap (same_side Buy) e
same_side_self Sell b e = ap (same_side Sell) e

-- a limit order of this side trades at the price
pub record Reached (os : List Order) (side : Side) (price : ℕ) : Type 0 where
  pub limit : ℕ
  pub rests : Rests os side limit
  pub within : within_limit side limit price ≡ true

module _ (side : Side) (price : ℕ) where
  -- one limit more
  better_from : (best : Option ℕ) (k : Kind) → reached_by side (better_of side best k) price ≡ true → (reached_by side best price ≡ true) ⊎ ((l : ℕ) × (k ≡ Limit l) × (within_limit side l price ≡ true))
  better_from best AtAuction e = inl e
  better_from None (Limit l) e = inr (l, refl, e)
  better_from (Some b) (Limit l) e = go (better_limit side l b) e
    where
      go : (t : Bool) → reached_by side (cond t (Some l) (Some b)) price ≡ true → (within_limit side b price ≡ true) ⊎ ((m : ℕ) × (Limit l ≡ Limit m) × (within_limit side m price ≡ true))
      go true f = inr (l, refl, f)
      go false f = inl f

  best_from : (best : Option ℕ) (o : Order) → reached_by side (best_with side best o) price ≡ true → (reached_by side best price ≡ true) ⊎ ((l : ℕ) × (o.side ≡ side) × (o.kind ≡ Limit l) × (within_limit side l price ≡ true))
  best_from best o e = go (same_side side o.side) refl e
    where
      go : (t : Bool) → same_side side o.side ≡ t → reached_by side (cond t (better_of side best o.kind) best) price ≡ true → (reached_by side best price ≡ true) ⊎ ((l : ℕ) × (o.side ≡ side) × (o.kind ≡ Limit l) × (within_limit side l price ≡ true))
      go true s f = elim (better_from best o.kind f) [ inl g ↦ inl g | inr g ↦ inr (g.0, same_side_true side o.side s, g.1, g.2) ]
      go false s f = inl f

  reached_from : (os : List Order) (best : Option ℕ) → reached_by side (fold (best_with side) best os) price ≡ true → (reached_by side best price ≡ true) ⊎ Reached os side price
  reached_from [] best e = inl e
  reached_from (o ∷ os) best e =
      elim (reached_from os (best_with side best o) e) [
        | inl f ↦ elim (best_from best o f) [ inl g ↦ inl g | inr g ↦ inr (record { limit = g.0; rests = rests_here o os side g.0 g.1 g.2; within = g.3 }) ]
        | inr r ↦ inr (record { limit = r.limit; rests = rests_there o os side r.limit r.rests; within = r.within })
      ]

-- a better limit trades wherever a worse one does
better_trades : (side : Side) (b l price : ℕ) (t : Bool) → better_limit side l b ≡ t → (within_limit side b price ≡ true) ⊎ (within_limit side l price ≡ true) → reached_by side (cond t (Some l) (Some b)) price ≡ true
better_trades Buy b l price true e (inl w) = grind (arith, nat_tests)
better_trades Buy b l price true e (inr w) = w
better_trades Buy b l price false e (inl w) = w
better_trades Buy b l price false e (inr w) = grind (arith, nat_tests)
better_trades Sell b l price true e (inl w) = grind (arith, nat_tests)
better_trades Sell b l price true e (inr w) = w
better_trades Sell b l price false e (inl w) = w
better_trades Sell b l price false e (inr w) = grind (arith, nat_tests)

module _ (side : Side) (price : ℕ) where
  better_to : (best : Option ℕ) (k : Kind) → (reached_by side best price ≡ true) ⊎ ((l : ℕ) × (k ≡ Limit l) × (within_limit side l price ≡ true)) → reached_by side (better_of side best k) price ≡ true
  better_to best AtAuction (inl e) = e
  better_to best AtAuction (inr g) = let e = g.1 in let z : ◌≡◌ {A = ℕ} 0 1 = cc in absurd (omega arith)
  better_to None (Limit m) (inl e) = absurd (both_ways true (sym e) refl)
  better_to None (Limit m) (inr g) = let e = g.1 in let z : m ≡ g.0 = cc in ap (λ l. within_limit side l price) z ∙ g.2
  better_to (Some b) (Limit m) (inl e) = better_trades side b m price (better_limit side m b) refl (inl e)
  better_to (Some b) (Limit m) (inr g) =
      let e = g.1 in let z : m ≡ g.0 = cc in better_trades side b m price (better_limit side m b) refl (inr (ap (λ l. within_limit side l price) z ∙ g.2))

  best_to : (best : Option ℕ) (o : Order) → (reached_by side best price ≡ true) ⊎ ((l : ℕ) × (o.side ≡ side) × (o.kind ≡ Limit l) × (within_limit side l price ≡ true)) → reached_by side (best_with side best o) price ≡ true
  best_to best o (inl e) = go (same_side side o.side)
    where
      go : (t : Bool) → reached_by side (cond t (better_of side best o.kind) best) price ≡ true
      go true = better_to best o.kind (inl e)
      go false = e
  best_to best o (inr g) =
      ap (λ t. reached_by side (cond t (better_of side best o.kind) best) price) (same_side_self side o.side g.1)
      ∙ better_to best o.kind (inr (g.0, g.2, g.3))

  reached_to : (os : List Order) (best : Option ℕ) → (reached_by side best price ≡ true) ⊎ Reached os side price → reached_by side (fold (best_with side) best os) price ≡ true
  reached_to [] best (inl e) = e
  reached_to [] best (inr r) = absurd (Contains-nil r.rests.0 r.rests.1)
  reached_to (o ∷ os) best (inl e) = reached_to os (best_with side best o) (inl (best_to best o (inl e)))
  reached_to (o ∷ os) best (inr r) =
      elim (rests_cons o os side r.limit r.rests) [
        | inl e ↦ reached_to os (best_with side best o) (inl (best_to best o (inr (r.limit, e.0, e.1, r.within))))
        | inr later ↦ reached_to os (best_with side best o) (inr (record { limit = r.limit; rests = later; within = r.within }))
      ]

-- the range is what lies from a limit sell to a limit buy
module _ (os : List Order) (price : ℕ) where
  pub range_spans : in_range os price ≡ true → Spans os price
  range_spans e =
      let parts = and_parts (reached_by Sell (best_limit Sell os) price) (reached_by Buy (best_limit Buy os) price) e in
      go (reached_from Sell price os None parts.0) (reached_from Buy price os None parts.1)
    where
      go : (false ≡ true) ⊎ Reached os Sell price → (false ≡ true) ⊎ Reached os Buy price → Spans os price
      go (inl f) b = absurd (both_ways true (sym f) refl)
      go (inr s) (inl f) = absurd (both_ways true (sym f) refl)
      go (inr s) (inr b) = record { buy = b.limit; sell = s.limit; buys = b.rests; sells = s.rests; above = leb-true s.limit price s.within; below = leb-true price b.limit b.within }

  pub spans_range : Spans os price → in_range os price ≡ true
  spans_range s =
      and_from (reached_by Sell (best_limit Sell os) price) (reached_by Buy (best_limit Buy os) price)
      (reached_to Sell price os None (inr (record { limit = s.sell; rests = s.sells; within = le-leb s.sell price s.above })))
      (reached_to Buy price os None (inr (record { limit = s.buy; rests = s.buys; within = le-leb price s.buy s.below })))

-- the prices that limit orders name
named_kind : (k : Kind) (p : ℕ) → Contains (named_by k) p → k ≡ Limit p
named_kind AtAuction p h = absurd (Contains-nil p h)
named_kind (Limit q) p h = elim (Contains-cons_cases q p [] h) [ inl e ↦ ap Limit e | inr none ↦ absurd (Contains-nil p none) ]

kind_named : (k : Kind) (p : ℕ) → k ≡ Limit p → Contains (named_by k) p
kind_named k p e = subst (λ j. Contains (named_by j) p) (sym e) (Contains-here p [])

side_of : (o : Order) (os : List Order) (p : ℕ) (s : Side) → o.side ≡ s → o.kind ≡ Limit p → Names (o ∷ os) p
side_of o os p Buy s k = inl (rests_here o os Buy p s k)
side_of o os p Sell s k = inr (rests_here o os Sell p s k)

pub named_names : (os : List Order) (p : ℕ) → Contains (named_prices os) p → Names os p
named_names [] p h = absurd (Contains-nil p h)
named_names (o ∷ os) p h = go (named_names os p) (Contains-append_cases (named_by o.kind) (named_prices os) p h)
  where
    go : (Contains (named_prices os) p → Names os p) → Contains (named_by o.kind) p ⊎ Contains (named_prices os) p → Names (o ∷ os) p
    go rest (inl here) = side_of o os p o.side refl (named_kind o.kind p here)
    go rest (inr later) = elim (rest later) [ inl b ↦ inl (rests_there o os Buy p b) | inr s ↦ inr (rests_there o os Sell p s) ]

rests_named : (os : List Order) (side : Side) (p : ℕ) → Rests os side p → Contains (named_prices os) p
rests_named [] side p r = absurd (Contains-nil r.0 r.1)
rests_named (o ∷ os) side p r =
    elim (rests_cons o os side p r) [
      | inl e ↦ Contains-append_left (named_by o.kind) (named_prices os) p (kind_named o.kind p e.1)
      | inr later ↦ Contains-append_right (named_by o.kind) (named_prices os) p (rests_named os side p later)
    ]

-- a candidate is a price of the range that an order names
module _ (os : List Order) (p : ℕ) where
  pub candidate_from : Contains (candidates os) p → Spans os p × Names os p
  candidate_from h =
      let k = Contains-from_filter (in_range os) (named_prices os) p (rising_has (named_in_range os) p h) in
      (range_spans os p k.1, named_names os p k.0)

  pub candidate_to : Spans os p → Names os p → Contains (candidates os) p
  candidate_to s n =
      let m : Contains (named_prices os) p = elim n [ inl b ↦ rests_named os Buy p b | inr c ↦ rests_named os Sell p c ] in
      has_rising (named_in_range os) p (Contains-filter (in_range os) (named_prices os) p m (spans_range os p s))
