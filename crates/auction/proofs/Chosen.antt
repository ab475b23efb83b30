-- The first by price rank is what the three rules leave. Assumes nothing.
use Rattle.std.specs.Prelude.{◌≡◌, ℕ, ◌≤◌, Bool, true, false, not, ◌&&◌, ◌||◌, List, Some, None, ◌==◌, refl}
use Rattle.std.proofs.Common.{sym, ap, ◌∙◌, arith}
use Rattle.std.specs.List.{Contains, list_all}
use Rattle.std.proofs.lemmas.Bool.{true≢false, le-ltb, ltb-false, eqb-true}
use Rattle.std.proofs.lemmas.Bool.Decides.{nat_tests}
use Rattle.rank.specs.Ranked.{NoneCounts, Leads}
use Rattle.price_rows.specs.declared.PriceRow.{PriceRow}
use Rattle.auction.specs.declared.ThirdRule.{ThirdRule}
use Rattle.price_rows.specs.Amounts.{matched_in, surplus_in}
use Rattle.auction.specs.Rules.{unbeaten, first_left, matches_more, leaves_less, left_by_two, wins_third, row_ahead, at_ties}
use Rattle.auction.specs.PriceLaws.{behind, same_price}
use Rattle.auction.proofs.Unbeaten.{all_contained, all_from_contained, unbeaten_has, has_unbeaten, first_left_none, first_left_some}

-- every row counts
abbrev pub any_row : PriceRow → Bool
any_row row = true

-- `x` matches most of the rows, and of those that match as many it leaves least
pub record Tops (rows : List PriceRow) (x : PriceRow) : Type 0 where
  pub listed : Contains rows x
  pub most : (y : PriceRow) → Contains rows y → matched_in y ≤ matched_in x
  pub least : (y : PriceRow) → Contains rows y → matched_in y ≡ matched_in x → surplus_in x ≤ surplus_in y

module _ (distance : ℕ → ℕ → ℕ) (third : ThirdRule) where
  pub leads_behind : (rows : List PriceRow) (x y : PriceRow) → Leads any_row (row_ahead distance third) rows x → Contains rows y → (matched_in y ≤ matched_in x) × (matched_in y ≡ matched_in x → surplus_in x ≤ surplus_in y) × (matched_in y ≡ matched_in x → surplus_in y ≡ surplus_in x → wins_third distance third y x ≡ false)
  leads_behind rows x y leads h = behind (matched_in y) (matched_in x) (surplus_in y) (surplus_in x) (wins_third distance third y x) (leads.unbeaten y h refl)

  -- who leads by price rank tops the rows, in any list of the same rows
  pub leads_tops : (rows others : List PriceRow) (x : PriceRow) → ((y : PriceRow) → Contains others y → Contains rows y) → Contains others x → Leads any_row (row_ahead distance third) rows x → Tops others x
  leads_tops rows others x back h leads =
      record {
        listed = h;
        most = λ y m. (leads_behind rows x y leads (back y m)).0;
        least = λ y m. (leads_behind rows x y leads (back y m)).1;
      }

module _ (rows : List PriceRow) (x : PriceRow) (tops : Tops rows x) where
  most_has : Contains (unbeaten matches_more rows) x
  most_has = has_unbeaten matches_more rows x tops.listed (λ y m. le-ltb (matched_in x) (matched_in y) (tops.most y m))

  -- what the first two rules leave matches as many as `x` and leaves as much
  pub left_ties : (r : PriceRow) → Contains (left_by_two rows) r → Contains rows r × (matched_in r ≡ matched_in x) × (surplus_in r ≡ surplus_in x)
  left_ties r h =
      let two = unbeaten_has leaves_less (unbeaten matches_more rows) r h in
      let one = unbeaten_has matches_more rows r two.0 in
      let up : matched_in x ≤ matched_in r = ltb-false (matched_in r) (matched_in x) (one.1 x tops.listed) in
      let down = tops.most r one.0 in
      let m : matched_in r ≡ matched_in x = omega arith in
      let less : surplus_in r ≤ surplus_in x = ltb-false (surplus_in x) (surplus_in r) (two.1 x most_has) in
      let more = tops.least r one.0 m in
      let s : surplus_in r ≡ surplus_in x = omega arith in
      (one.0, m, s)

  pub ties_left : (r : PriceRow) → Contains rows r → matched_in r ≡ matched_in x → surplus_in r ≡ surplus_in x → Contains (left_by_two rows) r
  ties_left r h m s =
      has_unbeaten leaves_less (unbeaten matches_more rows) r
      (has_unbeaten matches_more rows r h (λ y k. let t = tops.most y k in le-ltb (matched_in r) (matched_in y) (omega arith)))
      (λ y k.
      let one = unbeaten_has matches_more rows y k in
      let up : matched_in x ≤ matched_in y = ltb-false (matched_in y) (matched_in x) (one.1 x tops.listed) in
      let down = tops.most y one.0 in
      let e : matched_in y ≡ matched_in x = omega arith in
      let t = tops.least y one.0 e in
      le-ltb (surplus_in y) (surplus_in r) (omega arith))

same_bool : (a b : Bool) → (a ≡ true → b ≡ true) → (b ≡ true → a ≡ true) → a ≡ b
same_bool true b f g = sym (f refl)
same_bool false true f g = g refl
same_bool false false f g = refl

-- the test at each row that ties with `b`, one way and the other
at_ties_tied : (test : PriceRow → Bool) (b r : PriceRow) → at_ties test b r ≡ true → matched_in r ≡ matched_in b → surplus_in r ≡ surplus_in b → test r ≡ true
at_ties_tied test b r e m s = grind (arith, nat_tests)

-- `rows` and `others` hold the same rows
module _ (rows others : List PriceRow) (to : (r : PriceRow) → Contains rows r → Contains others r) (back : (r : PriceRow) → Contains others r → Contains rows r) where
  -- a test of all that the first two rules leave is one of the rows that tie with one that tops them
  pub all_left : (test : PriceRow → Bool) (b : PriceRow) → Tops others b → list_all test (left_by_two others) ≡ list_all (at_ties test b) rows
  all_left test b tops =
      same_bool (list_all test (left_by_two others)) (list_all (at_ties test b) rows)
      (λ e. all_from_contained (at_ties test b) rows (λ r h. go r h e (matched_in r == matched_in b) (surplus_in r == surplus_in b) refl refl))
      (λ e. all_from_contained test (left_by_two others) (λ r h.
      let t = left_ties others b tops r h in
      at_ties_tied test b r (all_contained (at_ties test b) rows e r (back r t.0)) t.1 t.2))
    where
      go : (r : PriceRow) → Contains rows r → list_all test (left_by_two others) ≡ true → (c d : Bool) → (matched_in r == matched_in b) ≡ c → (surplus_in r == surplus_in b) ≡ d → (not (c && d) || test r) ≡ true
      go r h e true true f g = all_contained test (left_by_two others) e r (ties_left others b tops r (to r h) (eqb-true (matched_in r) (matched_in b) f) (eqb-true (surplus_in r) (surplus_in b) g))
      go r h e true false f g = refl
      go r h e false d f g = refl

  module _ (distance : ℕ → ℕ → ℕ) (third : ThirdRule) where
    -- what the three rules leave
    abbrev final : List PriceRow
    final = unbeaten (wins_third distance third) (left_by_two others)

    pub chosen_none : NoneCounts any_row rows → first_left final ≡ None
    chosen_none none =
        first_left_none final (λ r h.
        let left = (unbeaten_has (wins_third distance third) (left_by_two others) r h).0 in
        let two = (unbeaten_has leaves_less (unbeaten matches_more others) r left).0 in
        let one = (unbeaten_has matches_more others r two).0 in
        true≢false (none r (back r one)))

    pub chosen_some : (x : PriceRow) → ((a b : PriceRow) → Contains others a → Contains others b → a.price ≡ b.price → a ≡ b) → Leads any_row (row_ahead distance third) rows x → first_left final ≡ Some x
    chosen_some x same_row leads =
        let tops = leads_tops distance third rows others x back (to x leads.listed) leads in
        let x_left = ties_left others x tops x tops.listed refl refl in
        let x_final = has_unbeaten (wins_third distance third) (left_by_two others) x x_left (λ y h.
        let t = left_ties others x tops y h in
        (leads_behind distance third rows x y leads (back y t.0)).2 t.1 t.2) in
        let first = first_left_some final x x_final in
        let h = first.0 in
        let h_final = unbeaten_has (wins_third distance third) (left_by_two others) h first.2 in
        let h_ties = left_ties others x tops h h_final.0 in
        let h_behind = (leads_behind distance third rows x h leads (back h h_ties.0)).2 h_ties.1 h_ties.2 in
        let price = same_price distance third h.price x.price h_behind (h_final.1 x x_left) in
        first.1 ∙ ap Some (same_row h x h_ties.0 tops.listed price)
