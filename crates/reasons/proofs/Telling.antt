-- The explanation tells the truth. Assumes nothing.
use Rattle.std.proofs.Common.{◌≡◌, ℕ, ◌-◌, Bool, true, false, cond, eqb, ltb, List, [], ◌∷◌, map, Some, None, count_by, Option, sym, refl, ap, ◌∙◌, subst, inl, inr, arith}
use Rattle.std.specs.Option.{option_map}
use Rattle.std.specs.List.{Contains, list_all}
use Rattle.std.proofs.lemmas.Bool.{ltb-true, ltb-false, lt-ltb, le-ltb, eqb-true, eqb-false, or_cases, and_parts, both_ways, cases_Bool}
use Rattle.order.specs.declared.Side.TheVariants.{Buy, Sell}
use Rattle.order.specs.declared.Order.{Order}
use Rattle.price_rows.specs.declared.PriceRow.{PriceRow}
use Rattle.auction.specs.declared.ThirdRule.{ThirdRule}
use Rattle.auction.specs.declared.ThirdRule.TheVariants.{DemandExceeds, SupplyExceeds, ClosestTo, NoClosingPrice}
use Rattle.price_rows.specs.Amounts.{row_at, matched_in, surplus_in, candidates}
use Rattle.price_rows.specs.Rows.{rows_of}
use Rattle.auction.specs.Rules.{unbeaten, first_left, matches_more, leaves_less, left_by_two, exceeds, by_closing_price, thousandths, preferred, wins_third, settled, struck_row, priced, auction_price}
use Rattle.auction.specs.Decided.{by_case}
use Rattle.price_rows.specs.Reach.{matched, surplus}
use Rattle.price_rows.proofs.Members.{Contains-here, Contains-from_map, Contains-map}
use Rattle.auction.proofs.Unbeaten.{all_contained, all_from_contained, unbeaten_has, has_unbeaten}
use Rattle.price_rows.proofs.Rising.{candidates_rise}
use Rattle.auction.specs.PriceLaws.{same_price}
use Rattle.auction.proofs.Chosen.{Tops, left_ties, ties_left}
use Rattle.auction.proofs.Deciding.{row_is}
use Rattle.price_rows.proofs.Reaching.{candidate_from}
use Rattle.auction.proofs.BestPrice.{row_has, row_price}
use Rattle.reasons.specs.declared.Verdict.TheVariants.{Struck, MatchesLess, LeavesMore, LostByThird}
use Rattle.reasons.specs.declared.Candidate.{Candidate}
use Rattle.reasons.specs.Verdicts.{verdict_of, candidate_of, judged, explained}
use Rattle.reasons.specs.Truth.{is_struck, Ties, MoreDemand, MoreSupply, Applies, Loses, Says, TrueOf, Explains, ExplainsPrice}
use Rattle.reasons.proofs.Once.{count_map, once}

first_left_has : {X : Type 0} (xs : List X) (h : X) → first_left xs ≡ Some h → Contains xs h
first_left_has [] h e = let z : ◌≡◌ {A = ℕ} 0 1 = cc in absurd (omega arith)
first_left_has (x ∷ xs) h e = let same : x ≡ h = cc in subst (Contains (x ∷ xs)) same (Contains-here x xs)

-- what the first two rules leave tops the rows
left_tops : (rows : List PriceRow) (x : PriceRow) → Contains (left_by_two rows) x → Tops rows x
left_tops rows x h =
    let two = unbeaten_has leaves_less (unbeaten matches_more rows) x h in
    let one = unbeaten_has matches_more rows x two.0 in
    record {
      listed = one.0;
      most = λ y m. ltb-false (matched_in x) (matched_in y) (one.1 y m);
      least = λ y m e.
          let y_most = has_unbeaten matches_more rows y m (λ z k. let t = ltb-false (matched_in x) (matched_in z) (one.1 z k) in le-ltb (matched_in y) (matched_in z) (omega (arith, t, e))) in
          ltb-false (surplus_in y) (surplus_in x) (two.1 y y_most);
    }

-- a verdict strikes exactly at the struck price
strikes : (b c d : Bool) (m n : ℕ) (third : ThirdRule) → is_struck (cond b Struck (cond c (MatchesLess m) (cond d (LeavesMore n) (LostByThird third)))) ≡ b
strikes true c d m n third = refl
strikes false true d m n third = refl
strikes false false true m n third = refl
strikes false false false m n third = refl

module _ (close : Option ℕ) (os : List Order) (x : PriceRow) (struck : struck_row thousandths close os ≡ Some x) where
  abbrev third : ThirdRule
  third = settled close os

  final_x : Contains (unbeaten (wins_third thousandths third) (left_by_two (rows_of os))) x
  final_x = first_left_has (unbeaten (wins_third thousandths third) (left_by_two (rows_of os))) x struck

  left_x : Contains (left_by_two (rows_of os)) x
  left_x = (unbeaten_has (wins_third thousandths third) (left_by_two (rows_of os)) x final_x).0

  unbeaten_x : (y : PriceRow) → Contains (left_by_two (rows_of os)) y → wins_third thousandths third y x ≡ false
  unbeaten_x = (unbeaten_has (wins_third thousandths third) (left_by_two (rows_of os)) x final_x).1

  tops : Tops (rows_of os) x
  tops = left_tops (rows_of os) x left_x

  x_is : x ≡ row_at os x.price
  x_is = row_is os x tops.listed

  -- a price that ties with the struck one is left by the first two rules, and what they leave ties
  tied_left : (p : ℕ) → Ties close os (priced x) p → Contains (left_by_two (rows_of os)) (row_at os p)
  tied_left p t = ties_left (rows_of os) x tops (row_at os p) (row_has os p t.spans t.names) t.as_many (t.as_much ∙ sym (ap surplus_in x_is))

  left_tied : (r : PriceRow) → Contains (left_by_two (rows_of os)) r → Ties close os (priced x) r.price × (r ≡ row_at os r.price)
  left_tied r h =
      let t = left_ties (rows_of os) x tops r h in
      let c = candidate_from os r.price (row_price os r t.0) in
      let is = row_is os r t.0 in
      (record { spans = c.0; names = c.1; as_many = ap matched_in (sym is) ∙ t.1; as_much = ap surplus_in (sym is) ∙ t.2 ∙ ap surplus_in x_is }, is)

  demand_from : list_all (exceeds Buy) (left_by_two (rows_of os)) ≡ true → MoreDemand close os (priced x)
  demand_from e p t = ltb-true _ _ (all_contained (exceeds Buy) (left_by_two (rows_of os)) e (row_at os p) (tied_left p t))

  supply_from : list_all (exceeds Sell) (left_by_two (rows_of os)) ≡ true → MoreSupply close os (priced x)
  supply_from e p t = ltb-true _ _ (all_contained (exceeds Sell) (left_by_two (rows_of os)) e (row_at os p) (tied_left p t))

  demand_to : MoreDemand close os (priced x) → list_all (exceeds Buy) (left_by_two (rows_of os)) ≡ true
  demand_to more = all_from_contained (exceeds Buy) (left_by_two (rows_of os)) (λ r h. let t = left_tied r h in ap (exceeds Buy) t.1 ∙ lt-ltb _ _ (more r.price t.0))

  supply_to : MoreSupply close os (priced x) → list_all (exceeds Sell) (left_by_two (rows_of os)) ≡ true
  supply_to more = all_from_contained (exceeds Sell) (left_by_two (rows_of os)) (λ r h. let t = left_tied r h in ap (exceeds Sell) t.1 ∙ lt-ltb _ _ (more r.price t.0))

  applies : Applies close os (priced x) third
  applies = go (list_all (exceeds Buy) (left_by_two (rows_of os))) (list_all (exceeds Sell) (left_by_two (rows_of os))) close refl refl refl
    where
      go : (b s : Bool) (c : Option ℕ) → list_all (exceeds Buy) (left_by_two (rows_of os)) ≡ b → list_all (exceeds Sell) (left_by_two (rows_of os)) ≡ s → close ≡ c → Applies close os (priced x) (cond b DemandExceeds (cond s SupplyExceeds (by_closing_price c)))
      go true s c e f g = demand_from e
      go false true c e f g = supply_from f
      go false false None e f g = (g, (λ m. both_ways _ e (demand_to m)), (λ m. both_ways _ f (supply_to m)))
      go false false (Some c) e f g = (g, (λ m. both_ways _ e (demand_to m)), (λ m. both_ways _ f (supply_to m)))

  loses : (t : ThirdRule) (p : ℕ) → preferred thousandths t x.price p ≡ true → Loses close os (priced x) t p
  loses DemandExceeds p e = ltb-true p x.price e
  loses SupplyExceeds p e = ltb-true x.price p e
  loses NoClosingPrice p e = ltb-true p x.price e
  loses (ClosestTo c) p e =
      elim (or_cases _ _ e) [
        | inl nearer ↦ inl (ltb-true (thousandths x.price c) (thousandths p c) nearer)
        | inr level ↦ let both = and_parts _ _ level in inr (eqb-true (thousandths x.price c) (thousandths p c) both.0, ltb-true p x.price both.1)
      ]

  module _ (r : PriceRow) (h : Contains (rows_of os) r) where
    r_is : r ≡ row_at os r.price
    r_is = row_is os r h

    same_matched : matched_in r ≡ matched os r.price
    same_matched = ap matched_in r_is

    same_surplus : surplus_in r ≡ surplus os r.price
    same_surplus = ap surplus_in r_is

    beaten : eqb r.price x.price ≡ false → matched_in r ≡ matched_in x → surplus_in r ≡ surplus_in x → preferred thousandths third x.price r.price ≡ true
    beaten other m s =
        let left = ties_left (rows_of os) x tops r h m s in
        elim (cases_Bool (preferred thousandths third x.price r.price)) [
          | inl e ↦ e
          | inr e ↦ absurd (eqb-false r.price x.price other (same_price thousandths third r.price x.price (unbeaten_x r left) e))
        ]

    says : Says close os (priced x) (verdict_of (by_case third x) r) r.price
    says = go (eqb r.price x.price) (ltb (matched_in r) (matched_in x)) (ltb (surplus_in x) (surplus_in r)) refl refl refl
      where
        go : (b c d : Bool) → eqb r.price x.price ≡ b → ltb (matched_in r) (matched_in x) ≡ c → ltb (surplus_in x) (surplus_in r) ≡ d → Says close os (priced x) (cond b Struck (cond c (MatchesLess (matched_in x - matched_in r)) (cond d (LeavesMore (surplus_in r - surplus_in x)) (LostByThird third)))) r.price
        go true c d e f g = eqb-true r.price x.price e
        go false true d e f g = let less = ltb-true (matched_in r) (matched_in x) f in (omega (arith, same_matched), omega arith)
        go false false true e f g =
            let up = ltb-false (matched_in r) (matched_in x) f in
            let m : matched_in r ≡ matched_in x = omega (arith, up, tops.most r h) in
            let more = ltb-true (surplus_in x) (surplus_in r) g in
            (sym same_matched ∙ m, omega (arith, same_surplus, ap surplus_in x_is, more), omega (arith, more))
        go false false false e f g =
            let up = ltb-false (matched_in r) (matched_in x) f in
            let m : matched_in r ≡ matched_in x = omega (arith, up, tops.most r h) in
            let down = ltb-false (surplus_in x) (surplus_in r) g in
            let s : surplus_in r ≡ surplus_in x = omega (arith, down, tops.least r h m) in
            ((left_tied r (ties_left (rows_of os) x tops r h m s)).0, applies, loses third r.price (beaten e m s))

    pub told : TrueOf close os (priced x) (candidate_of (by_case third x) r)
    told =
        let c = candidate_from os r.price (row_price os r h) in
        record { spans = c.0; names = c.1; row = r_is; matches = same_matched; leaves = same_surplus; verdict = says }

  told_has : (c : Candidate) → Contains (map (candidate_of (by_case third x)) (rows_of os)) c → TrueOf close os (priced x) c
  told_has c h =
      let m = Contains-from_map (candidate_of (by_case third x)) (rows_of os) c h in
      subst (TrueOf close os (priced x)) m.2 (told m.0 m.1)

  strikes_at : (p : ℕ) → is_struck (verdict_of (by_case third x) (row_at os p)) ≡ eqb p x.price
  strikes_at p =
      strikes (eqb p x.price) (ltb (matched os p) (matched_in x)) (ltb (surplus_in x) (surplus os p))
      (matched_in x - matched os p) (surplus os p - surplus_in x) third

  one_struck : count_by (λ c. is_struck c.verdict) (map (candidate_of (by_case third x)) (rows_of os)) ≡ 1
  one_struck =
      count_map (candidate_of (by_case third x)) (λ c. is_struck c.verdict) (λ r. is_struck (verdict_of (by_case third x) r)) (λ r. refl) (rows_of os)
      ∙ count_map (row_at os) (λ r. is_struck (verdict_of (by_case third x) r)) (λ p. eqb p x.price) strikes_at (candidates os)
      ∙ once x.price (candidates os) (candidates_rise os) (row_price os x tops.listed)

  explains : Explains close os (priced x) (map (candidate_of (by_case third x)) (rows_of os))
  explains = record {
    one_struck = one_struck;
    each = told_has;
    all = λ p s n. (candidate_of (by_case third x) (row_at os p), Contains-map (candidate_of (by_case third x)) (rows_of os) (row_at os p) (row_has os p s n), refl);
  }

explains_price : (close : Option ℕ) (os : List Order) → ExplainsPrice close os (auction_price thousandths close os) (explained close os)
explains_price close os = go (struck_row thousandths close os) refl
  where
    go : (r : Option PriceRow) → struck_row thousandths close os ≡ r → ExplainsPrice close os (option_map priced r) (judged (option_map (by_case (settled close os)) r) (rows_of os))
    go None e = refl
    go (Some x) e = explains close os x e

pub truth_of : (close : Option ℕ) (os : List Order) (told : List Candidate) → told ≡ explained close os → ExplainsPrice close os (auction_price thousandths close os) told
truth_of close os list is = subst (ExplainsPrice close os (auction_price thousandths close os)) (sym is) (explains_price close os)
