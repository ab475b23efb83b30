-- From any price of the range upwards there is one that an order names and that matches no less. Assumes nothing.
use Rattle.std.proofs.Common.{◌≡◌, ℕ, zero, suc, ◌+◌, ◌≤◌, cond, ◌&&◌, ◌⊎◌, List, [], ◌∷◌, sum_by, sym, refl, ap, ◌∙◌, subst, inl, inr, arith}
use Rattle.std.specs.List.{Contains}
use Rattle.std.proofs.lemmas.List.Sums.{sum_by-cons}
use Rattle.std.proofs.lemmas.Bool.{cases_eq}
use Rattle.std.proofs.lemmas.Bool.Decides.{nat_tests}
use Rattle.order.specs.declared.Side.{Side}
use Rattle.order.specs.declared.Side.TheVariants.{Buy, Sell}
use Rattle.order.specs.declared.Kind.{Kind}
use Rattle.order.specs.declared.Kind.TheVariants.{AtAuction, Limit}
use Rattle.order.specs.declared.Order.{Order}
use Rattle.order.specs.Orders.{same_side, takes}
use Rattle.price_rows.specs.Amounts.{shares_of, demand, supply}
use Rattle.price_rows.specs.Reach.{matched, Rests, Names, Spans}
use Rattle.price_rows.proofs.Members.{Contains-here, Contains-there, Contains-nil}
use Rattle.price_rows.proofs.Reaching.{rests_here, rests_there, rests_cons}

-- sums whose parts do not fall
sum_rises : {X : Type 0} (f g : X → ℕ) (xs : List X) → ((x : X) → Contains xs x → f x ≤ g x) → sum_by f xs ≤ sum_by g xs
sum_rises f g [] each = omega arith
sum_rises f g (x ∷ xs) each =
    let rest = sum_rises f g xs (λ y h. each y (Contains-there x y xs h)) in
    let here = each x (Contains-here x xs) in
    omega (arith, sum_by-cons f x xs, sum_by-cons g x xs)

-- no sell is lost one step up, and no buy but one whose limit is the price itself
sells_stay : (s : Side) (k : Kind) (p n : ℕ) → cond (same_side Sell s && takes s k p) n 0 ≤ cond (same_side Sell s && takes s k (p + 1)) n 0
sells_stay Buy k p n = omega arith
sells_stay Sell AtAuction p n = omega arith
sells_stay Sell (Limit l) p n = grind (arith, nat_tests)

buys_stay : (s : Side) (k : Kind) (p n : ℕ) → (s ≡ Buy → k ≡ Limit p → ⊥) → cond (same_side Buy s && takes s k p) n 0 ≤ cond (same_side Buy s && takes s k (p + 1)) n 0
buys_stay Sell k p n other = omega arith
buys_stay Buy AtAuction p n other = omega arith
buys_stay Buy (Limit l) p n other = elim (cases_eq l p) [ inl e ↦ absurd (other refl (ap Limit e)) | inr ne ↦ grind (arith, nat_tests) ]

module _ (os : List Order) (p : ℕ) where
  supply_rises : supply os p ≤ supply os (p + 1)
  supply_rises = sum_rises (shares_of Sell p) (shares_of Sell (p + 1)) os (λ o h. sells_stay o.side o.kind p o.shares)

  demand_stays : (Rests os Buy p → ⊥) → demand os p ≤ demand os (p + 1)
  demand_stays none = sum_rises (shares_of Buy p) (shares_of Buy (p + 1)) os (λ o h. buys_stay o.side o.kind p o.shares (λ s k. none (o, h, s, k)))

  matched_rises : (Rests os Buy p → ⊥) → matched os p ≤ matched os (p + 1)
  matched_rises none = let d = demand_stays none in let s = supply_rises in omega arith

-- whether a limit buy stands at exactly this price
buy_at : (o : Order) (p : ℕ) (s : Side) (k : Kind) → o.side ≡ s → o.kind ≡ k → ((o.side ≡ Buy) × (o.kind ≡ Limit p)) ⊎ ((o.side ≡ Buy) × (o.kind ≡ Limit p) → ⊥)
buy_at o p Sell k s e = inr (λ r. let h = r.0 in let z : ◌≡◌ {A = ℕ} 0 1 = cc in omega arith)
buy_at o p Buy AtAuction s e = inr (λ r. let h = r.1 in let z : ◌≡◌ {A = ℕ} 0 1 = cc in omega arith)
buy_at o p Buy (Limit l) s e = elim (cases_eq l p) [ inl f ↦ inl (s, e ∙ ap Limit f) | inr ne ↦ inr (λ r. let h = r.1 in let z : l ≡ p = cc in ne z) ]

rests_or_not : (os : List Order) (p : ℕ) → Rests os Buy p ⊎ (Rests os Buy p → ⊥)
rests_or_not [] p = inr (λ r. Contains-nil r.0 r.1)
rests_or_not (o ∷ os) p = go (rests_or_not os p) (buy_at o p o.side o.kind refl refl)
  where
    go : Rests os Buy p ⊎ (Rests os Buy p → ⊥) → ((o.side ≡ Buy) × (o.kind ≡ Limit p)) ⊎ ((o.side ≡ Buy) × (o.kind ≡ Limit p) → ⊥) → Rests (o ∷ os) Buy p ⊎ (Rests (o ∷ os) Buy p → ⊥)
    go rest (inl e) = inl (rests_here o os Buy p e.0 e.1)
    go (inl r) (inr ne) = inl (rests_there o os Buy p r)
    go (inr nr) (inr ne) = inr (λ r. elim (rests_cons o os Buy p r) [ inl e ↦ ne e | inr later ↦ nr later ])

-- a price that an order names, of the range, and that matches no less
pub record Higher (os : List Order) (p : ℕ) : Type 0 where
  pub price : ℕ
  pub spans : Spans os price
  pub names : Names os price
  pub no_less : matched os p ≤ matched os price

climb : (os : List Order) (k p : ℕ) (s : Spans os p) → s.buy ≤ p + k → Higher os p
climb os zero p s near =
    let e : s.buy ≡ p = omega (arith, s.below) in
    record { price = p; spans = s; names = inl (subst (Rests os Buy) e s.buys); no_less = omega arith }
climb os (suc k) p s near =
    elim (rests_or_not os p) [
      | inl r ↦ record { price = p; spans = s; names = inl r; no_less = omega arith }
      | inr none ↦
          elim (cases_eq p s.buy) [
            | inl e ↦ absurd (none (subst (Rests os Buy) (sym e) s.buys))
            | inr ne ↦
                let up : Spans os (p + 1) = record { buy = s.buy; sell = s.sell; buys = s.buys; sells = s.sells; above = omega (arith, s.above); below = omega (arith, s.below, ne) } in
                let h = climb os k (p + 1) up (omega arith) in
                let m = matched_rises os p none in
                record { price = h.price; spans = h.spans; names = h.names; no_less = omega (arith, h.no_less) }
          ]
    ]

pub higher : (os : List Order) (p : ℕ) → Spans os p → Higher os p
higher os p s = climb os s.buy p s (omega arith)
