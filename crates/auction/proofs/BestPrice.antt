-- The auction price is the best, by any distance of the third rule. Assumes nothing.
use Rattle.std.proofs.Common.{◌≡◌, ℕ, ◌≤◌, List, Some, None, Option, sym, refl, ap, subst, inl, arith}
use Rattle.std.specs.Option.{option_map}
use Rattle.std.specs.List.{Contains}
use Rattle.std.proofs.lemmas.Bool.{true≢false}
use Rattle.rank.specs.Ranked.{first_of, IsFirst}
use Rattle.rank.proofs.Firsts.{first_leads}
use Rattle.order.specs.declared.Order.{Order}
use Rattle.price_rows.specs.declared.PriceRow.{PriceRow}
use Rattle.price_rows.specs.Amounts.{row_at, matched_in, surplus_in, candidates}
use Rattle.price_rows.specs.Rows.{rows_of}
use Rattle.auction.specs.Rules.{settled, row_ahead, row_key, struck_row, priced, auction_price}
use Rattle.price_rows.specs.Reach.{surplus, Names, Reaches, Spans}
use Rattle.auction.specs.Laws.{Best, BestPrice}
use Rattle.price_rows.proofs.Members.{Contains-from_map, Contains-map}
use Rattle.auction.proofs.Chosen.{any_row, Tops, leads_tops, chosen_none, chosen_some}
use Rattle.auction.specs.PriceLaws.{price_lawful}
use Rattle.auction.proofs.Deciding.{row_is, same_row}
use Rattle.price_rows.proofs.Reaching.{candidate_from, candidate_to}
use Rattle.price_rows.proofs.Climb.{higher}

module _ (os : List Order) where
  pub row_has : (p : ℕ) → Spans os p → Names os p → Contains (rows_of os) (row_at os p)
  row_has p s n = Contains-map (row_at os) (candidates os) p (candidate_to os p s n)

  pub row_price : (r : PriceRow) → Contains (rows_of os) r → Contains (candidates os) r.price
  row_price r h =
      let m = Contains-from_map (row_at os) (candidates os) r h in
      subst (Contains (candidates os)) (ap (λ x. x.price) m.2) m.1

  -- where there is no row, no limit buy reaches a limit sell
  none_reaches : ((r : PriceRow) → Contains (rows_of os) r → ⊥) → Reaches os → ⊥
  none_reaches none r =
      let s : Spans os r.buy = record { buy = r.buy; sell = r.sell; buys = r.buys; sells = r.sells; above = r.reach; below = omega arith } in
      none (row_at os r.buy) (row_has r.buy s (inl r.buys))

  -- a row that tops all is the best
  tops_best : (x : PriceRow) → Tops (rows_of os) x → Best os (priced x)
  tops_best x tops =
      let c = candidate_from os x.price (row_price x tops.listed) in
      let is = row_is os x tops.listed in
      let span = c.0 in
      record {
        reaches = record { buy = span.buy; sell = span.sell; buys = span.buys; sells = span.sells; reach = omega (arith, span.above, span.below) };
        spans = span;
        named = c.1;
        carries = ap matched_in is;
        most = λ p s. let h = higher os p s in let t = tops.most (row_at os h.price) (row_has h.price h.spans h.names) in omega (arith, h.no_less, t);
        least = λ p s n e. let t = tops.least (row_at os p) (row_has p s n) e in subst (λ m. m ≤ surplus os p) (ap surplus_in is) t;
      }

  module _ (distance : ℕ → ℕ → ℕ) (close : Option ℕ) where
    itself : (r : PriceRow) → Contains (rows_of os) r → Contains (rows_of os) r
    itself r h = h

    struck_best : (first : Option PriceRow) → IsFirst any_row (row_ahead distance (settled close os)) (rows_of os) first → BestPrice os (auction_price distance close os)
    struck_best None none =
        let e : struck_row distance close os ≡ None = chosen_none (rows_of os) (rows_of os) itself itself distance (settled close os) none in
        subst (λ r. BestPrice os (option_map priced r)) (sym e) (none_reaches (λ r h. true≢false (none r h)))
    struck_best (Some x) leads =
        let e : struck_row distance close os ≡ Some x = chosen_some (rows_of os) (rows_of os) itself itself distance (settled close os) x (same_row os) leads in
        subst (λ r. BestPrice os (option_map priced r)) (sym e) (tops_best x (leads_tops distance (settled close os) (rows_of os) (rows_of os) x itself leads.listed leads))

    pub best_price : BestPrice os (auction_price distance close os)
    best_price =
        struck_best (first_of any_row (row_ahead distance (settled close os)) (rows_of os))
        (first_leads any_row (row_ahead distance (settled close os)) row_key (price_lawful distance (settled close os)) (rows_of os) _ refl)
