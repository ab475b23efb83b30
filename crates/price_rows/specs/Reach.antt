-- What a price matches and leaves, and where it lies among the limit orders. Assumes nothing.
use Rattle.std.specs.Prelude.{◌≡◌, ℕ, ◌≤◌, ◌⊎◌, List}
use Rattle.std.specs.List.{Contains}
use Rattle.order.specs.declared.Side.{Side}
use Rattle.order.specs.declared.Side.TheVariants.{Buy, Sell}
use Rattle.order.specs.declared.Kind.TheVariants.{Limit}
use Rattle.order.specs.declared.Order.{Order}
use Rattle.price_rows.specs.Amounts.{row_at, matched_in, surplus_in}

abbrev pub matched : List Order → ℕ → ℕ
matched orders price = matched_in (row_at orders price)

abbrev pub surplus : List Order → ℕ → ℕ
surplus orders price = surplus_in (row_at orders price)

-- a limit order of this side at this price is among the orders
abbrev pub Rests : List Order → Side → ℕ → Type 0
Rests orders side price = (o : Order) × Contains orders o × (o.side ≡ side) × (o.kind ≡ Limit price)

-- a limit order names the price
abbrev pub Names : List Order → ℕ → Type 0
Names orders price = Rests orders Buy price ⊎ Rests orders Sell price

-- a limit buy reaches a limit sell priced no higher
pub record Reaches (orders : List Order) : Type 0 where
  pub buy : ℕ
  pub sell : ℕ
  pub buys : Rests orders Buy buy
  pub sells : Rests orders Sell sell
  pub reach : sell ≤ buy

-- the price lies between a limit sell and a limit buy, that is from the lowest limit sell to the highest limit buy
pub record Spans (orders : List Order) (price : ℕ) : Type 0 where
  pub buy : ℕ
  pub sell : ℕ
  pub buys : Rests orders Buy buy
  pub sells : Rests orders Sell sell
  pub above : sell ≤ price
  pub below : price ≤ buy
