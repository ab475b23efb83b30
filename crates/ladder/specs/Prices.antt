-- What a price ladder is: a rising list of legal prices, in thousandths of a dollar.
use Rattle.std.specs.Prelude.{ℕ, zero, suc, ◌+◌, ◌<◌, ◌≤◌, min, max, Bool, false, ◌||◌, List, [], ◌∷◌, length, reverse, Option, ◌==◌, nat_le, All, AllPairs}
use Rattle.std.specs.List.{find}

-- each price is below all that follow it
abbrev pub Rising : List ℕ → Type 0
Rising prices = AllPairs (λ p q. p < q) prices

-- no legal price is above this
abbrev pub price_limit : ℕ
price_limit = 10_000_000

-- what every ladder keeps
pub record Lawful (prices : List ℕ) : Type 0 where
  pub rising : Rising prices
  pub never_empty : 0 < length prices
  pub within : All (λ p. (1 ≤ p) × (p ≤ price_limit)) prices

-- the price stands in the list
abbrev pub legal : ℕ → List ℕ → Bool
legal price [] = false
legal price (p ∷ ps) = price == p || legal price ps

-- the last of the rising prices that is at or below n
abbrev pub highest_at_or_below : ℕ → List ℕ → Option ℕ
highest_at_or_below n prices = find (λ p. nat_le p n) (reverse prices)

-- the first of the rising prices that is at or above n
abbrev pub lowest_at_or_above : ℕ → List ℕ → Option ℕ
lowest_at_or_above n prices = find (nat_le n) prices

-- start, start + step, and so on: count prices
abbrev pub prices_from : ℕ → ℕ → ℕ → List ℕ
prices_from start step zero = []
prices_from start step (suc count) = start ∷ prices_from (start + step) step count

-- the multiples of the step, from step to step × count
abbrev pub even_prices : ℕ → ℕ → List ℕ
even_prices step count = prices_from step step count

-- a number moved to the nearest bound of its range
abbrev pub clamped : ℕ → ℕ → ℕ → ℕ
clamped low high n = max low (min high n)
