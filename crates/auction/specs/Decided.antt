-- The answers of the crate. Assumes nothing.
use Rattle.std.specs.Prelude.{ℕ, cond, List, length, Ok, Err, Option, Result, nat_le}
use Rattle.std.specs.Option.{option_map}
use Rattle.order.specs.declared.Order.{Order}
use Rattle.price_rows.specs.declared.PriceRow.{PriceRow}
use Rattle.auction.specs.declared.ThirdRule.{ThirdRule}
use Rattle.auction.specs.declared.Decision.{Decision}
use Rattle.auction.specs.declared.AuctionPrice.{AuctionPrice}
use Rattle.price_rows.specs.declared.AuctionError.{AuctionError}
use Rattle.price_rows.specs.declared.AuctionError.TheVariants.{TooManyOrders}
use Rattle.auction.specs.Rules.{thousandths, settled, struck_row, auction_price}

-- the struck row with the case of the third rule
abbrev pub by_case : ThirdRule → PriceRow → Decision
by_case third row = record { row = row; third = third }

-- the decision on these orders; none where there is no candidate
abbrev pub decision : Option ℕ → List Order → Option Decision
decision close orders = option_map (by_case (settled close orders)) (struck_row thousandths close orders)

-- the answer where there are at most 512 orders, else the refusal
abbrev pub for_few : {X : Type 0} → List Order → X → Result X AuctionError
for_few orders x = cond (nat_le (length orders) 512) (Ok x) (Err TooManyOrders)

-- the decision, and the auction price by the distance in thousandths, as they are answered
abbrev pub decision_answer : Option ℕ → List Order → Result (Option Decision) AuctionError
decision_answer close orders = for_few orders (decision close orders)

abbrev pub price_answer : Option ℕ → List Order → Result (Option AuctionPrice) AuctionError
price_answer close orders = for_few orders (auction_price thousandths close orders)
