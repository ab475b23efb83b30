-- What the code finds by price rank is the decision of the three rules. Assumes nothing.
use Rattle.std.proofs.Common.{◌≡◌, ℕ, cond, List, Some, None, Option, sym, ap, ◌∙◌, subst, ap₂}
use Rattle.std.specs.Option.{option_map}
use Rattle.std.specs.List.{Contains}
use Rattle.rank.specs.Ranked.{NoneCounts, Leads}
use Rattle.order.specs.declared.Side.TheVariants.{Buy, Sell}
use Rattle.order.specs.declared.Order.{Order}
use Rattle.price_rows.specs.declared.PriceRow.{PriceRow}
use Rattle.auction.specs.declared.ThirdRule.{ThirdRule}
use Rattle.auction.specs.declared.ThirdRule.TheVariants.{DemandExceeds, SupplyExceeds}
use Rattle.price_rows.specs.Amounts.{row_at, named_in_range, candidates}
use Rattle.price_rows.specs.Rows.{rows_of, entry_rows}
use Rattle.auction.specs.Rules.{exceeds, by_closing_price, third_at_ties, thousandths, row_ahead, settled, struck_row}
use Rattle.auction.specs.Decided.{by_case, decision}
use Rattle.price_rows.proofs.Members.{Contains-from_map, Contains-map}
use Rattle.price_rows.proofs.Rising.{rising_has, has_rising}
use Rattle.auction.proofs.Chosen.{any_row, leads_tops, all_left, chosen_none, chosen_some}

module _ (os : List Order) where
  -- the rows of the candidates and those in entry order are the same rows
  pub to_rows : (r : PriceRow) → Contains (entry_rows os) r → Contains (rows_of os) r
  to_rows r h =
      let m = Contains-from_map (row_at os) (named_in_range os) r h in
      subst (Contains (rows_of os)) m.2 (Contains-map (row_at os) (candidates os) m.0 (has_rising (named_in_range os) m.0 m.1))

  pub from_rows : (r : PriceRow) → Contains (rows_of os) r → Contains (entry_rows os) r
  from_rows r h =
      let m = Contains-from_map (row_at os) (candidates os) r h in
      subst (Contains (entry_rows os)) m.2 (Contains-map (row_at os) (named_in_range os) m.0 (rising_has (named_in_range os) m.0 m.1))

  -- a row is known by its price
  pub row_is : (r : PriceRow) → Contains (rows_of os) r → r ≡ row_at os r.price
  row_is r h =
      let m = Contains-from_map (row_at os) (candidates os) r h in
      sym m.2 ∙ ap (λ x. row_at os x.price) m.2

  pub same_row : (a b : PriceRow) → Contains (rows_of os) a → Contains (rows_of os) b → a.price ≡ b.price → a ≡ b
  same_row a b ha hb e = row_is a ha ∙ ap (row_at os) e ∙ sym (row_is b hb)

  module _ (close : Option ℕ) where
    pub settled_is : (third : ThirdRule) (b : PriceRow) → Leads any_row (row_ahead thousandths third) (entry_rows os) b → third_at_ties close b (entry_rows os) ≡ settled close os
    settled_is third b leads =
        let tops = leads_tops thousandths third (entry_rows os) (rows_of os) b from_rows (to_rows b leads.listed) leads in
        let buys = all_left (entry_rows os) (rows_of os) to_rows from_rows (exceeds Buy) b tops in
        let sells = all_left (entry_rows os) (rows_of os) to_rows from_rows (exceeds Sell) b tops in
        ap₂ (λ s t. cond s DemandExceeds (cond t SupplyExceeds (by_closing_price close))) (sym buys) (sym sells)

    pub decision_none : NoneCounts any_row (entry_rows os) → None ≡ decision close os
    decision_none none = sym (ap (option_map (by_case (settled close os))) (chosen_none (entry_rows os) (rows_of os) to_rows from_rows thousandths (settled close os) none))

    pub decision_some : (third : ThirdRule) (x : PriceRow) → third ≡ settled close os → Leads any_row (row_ahead thousandths third) (entry_rows os) x → Some (by_case third x) ≡ decision close os
    decision_some third x e leads =
        let at : Leads any_row (row_ahead thousandths (settled close os)) (entry_rows os) x = subst (λ t. Leads any_row (row_ahead thousandths t) (entry_rows os) x) e leads in
        let chosen : struck_row thousandths close os ≡ Some x = chosen_some (entry_rows os) (rows_of os) to_rows from_rows thousandths (settled close os) x same_row at in
        ap (λ t. Some (by_case t x)) e ∙ sym (ap (option_map (by_case (settled close os))) chosen)
