-- The three rules of the auction price. Assumes nothing.
use Rattle.std.specs.Prelude.{ℕ, ◌+◌, ◌-◌, Bool, cond, not, ◌&&◌, ◌||◌, List, [], ◌∷◌, Some, None, filter, Option, ◌==◌, nat_lt}
use Rattle.std.specs.Option.{option_map}
use Rattle.std.specs.List.{list_all}
use Rattle.order.specs.declared.Side.{Side}
use Rattle.order.specs.declared.Side.TheVariants.{Buy, Sell}
use Rattle.order.specs.declared.Order.{Order}
use Rattle.price_rows.specs.declared.PriceRow.{PriceRow}
use Rattle.auction.specs.declared.ThirdRule.{ThirdRule}
use Rattle.auction.specs.declared.ThirdRule.TheVariants.{DemandExceeds, SupplyExceeds, ClosestTo, NoClosingPrice}
use Rattle.auction.specs.declared.AuctionPrice.{AuctionPrice}
use Rattle.price_rows.specs.Amounts.{matched_in, surplus_in}
use Rattle.price_rows.specs.Rows.{rows_of}

-- those of the list that none of it beats
abbrev pub unbeaten : {X : Type 0} → (X → X → Bool) → List X → List X
unbeaten beats xs = filter (λ x. list_all (λ y. not (beats y x)) xs) xs

-- the first of what is left
abbrev pub first_left : {X : Type 0} → List X → Option X
first_left [] = None
first_left (x ∷ xs) = Some x

-- the first rule: most matched
abbrev pub matches_more : PriceRow → PriceRow → Bool
matches_more a b = nat_lt (matched_in b) (matched_in a)

-- the second rule: of those, least surplus
abbrev pub leaves_less : PriceRow → PriceRow → Bool
leaves_less a b = nat_lt (surplus_in a) (surplus_in b)

-- more shares on this side than on the other
abbrev pub exceeds : Side → PriceRow → Bool
exceeds Buy row = nat_lt row.supply row.demand
exceeds Sell row = nat_lt row.demand row.supply

-- the third rule's case where neither side exceeds the other at each price
abbrev pub by_closing_price : Option ℕ → ThirdRule
by_closing_price (Some close) = ClosestTo close
by_closing_price None = NoClosingPrice

-- the third rule's case, settled over the rows that the first two leave: demand exceeds supply at each, supply exceeds
-- demand at each, or neither
abbrev pub third_rule : Option ℕ → List PriceRow → ThirdRule
third_rule close rows =
    cond (list_all (exceeds Buy) rows) DemandExceeds (cond (list_all (exceeds Sell) rows) SupplyExceeds (by_closing_price close))

-- the distance between two prices, in thousandths
abbrev pub thousandths : ℕ → ℕ → ℕ
thousandths p q = (p - q) + (q - p)

-- the rows that the first two rules leave
abbrev pub left_by_two : List PriceRow → List PriceRow
left_by_two rows = unbeaten leaves_less (unbeaten matches_more rows)

-- the third rule's case for these orders
abbrev pub settled : Option ℕ → List Order → ThirdRule
settled close orders = third_rule close (left_by_two (rows_of orders))

-- a row's price with the shares that it matches
abbrev pub priced : PriceRow → AuctionPrice
priced row = record { price = row.price; matched = matched_in row }

-- by which distance two prices are compared is a parameter of what follows
module _ (distance : ℕ → ℕ → ℕ) where
  -- the third rule: p is taken before q
  abbrev pub preferred : ThirdRule → ℕ → ℕ → Bool
  preferred DemandExceeds p q = nat_lt q p
  preferred SupplyExceeds p q = nat_lt p q
  preferred (ClosestTo close) p q = nat_lt (distance p close) (distance q close) || (distance p close == distance q close && nat_lt q p)
  preferred NoClosingPrice p q = nat_lt q p

  abbrev pub wins_third : ThirdRule → PriceRow → PriceRow → Bool
  wins_third third a b = preferred third a.price b.price

  -- the row that all three rules leave
  abbrev pub struck_row : Option ℕ → List Order → Option PriceRow
  struck_row close orders = first_left (unbeaten (wins_third (settled close orders)) (left_by_two (rows_of orders)))

  -- the auction price with the shares that it matches; none where there is no candidate
  abbrev pub auction_price : Option ℕ → List Order → Option AuctionPrice
  auction_price close orders = option_map priced (struck_row close orders)

  -- the price rank: the three rules one after the other, the third's case settled beforehand
  abbrev pub row_ahead : ThirdRule → PriceRow → PriceRow → Bool
  row_ahead third a b =
      matches_more a b
      || (matched_in a == matched_in b && (leaves_less a b || (surplus_in a == surplus_in b && wins_third third a b)))

-- all that the price rank compares
abbrev pub row_key : PriceRow → List ℕ
row_key row = matched_in row ∷ surplus_in row ∷ row.price ∷ []

-- whether two rows match as many and leave as much
abbrev pub ties : PriceRow → PriceRow → Bool
ties a b = matched_in a == matched_in b && surplus_in a == surplus_in b

-- the test at a row, if it ties with `b`
abbrev pub at_ties : (PriceRow → Bool) → PriceRow → PriceRow → Bool
at_ties test b row = not (ties row b) || test row

-- the third rule's case, told by the rows that tie with `best`
abbrev pub third_at_ties : Option ℕ → PriceRow → List PriceRow → ThirdRule
third_at_ties close best rows =
    cond (list_all (at_ties (exceeds Buy) best) rows) DemandExceeds (cond (list_all (at_ties (exceeds Sell) best) rows) SupplyExceeds (by_closing_price close))
