-- What the nearest legal prices of a number are, in the words of the market.
use Rattle.std.specs.Prelude.{◌≡◌, ℕ, ◌<◌, ◌≤◌, true, List, Some, None, Option}
use Rattle.ladder.specs.Prices.{legal}

-- the price is one of the ladder's
abbrev pub Legal : ℕ → List ℕ → Type 0
Legal price prices = legal price prices ≡ true

-- the answer at or below n
pub record NearestBelow (n : ℕ) (prices : List ℕ) (answer : Option ℕ) : Type 0 where
  -- an answer is legal, at or below n, and no legal price lies between it and n
  pub found : (p : ℕ) → answer ≡ Some p → Legal p prices × (p ≤ n) × ((q : ℕ) → Legal q prices → p < q → n < q)
  -- it is absent only where no legal price is at or below n
  pub absent : answer ≡ None → (q : ℕ) → Legal q prices → n < q
  -- where no legal price is at or below n, it is absent
  pub none_below : ((q : ℕ) → Legal q prices → n < q) → answer ≡ None
  -- a legal price is its own answer
  pub legal_stays : Legal n prices → answer ≡ Some n

-- the answer at or above n
pub record NearestAbove (n : ℕ) (prices : List ℕ) (answer : Option ℕ) : Type 0 where
  -- an answer is legal, at or above n, and no legal price lies between n and it
  pub found : (p : ℕ) → answer ≡ Some p → Legal p prices × (n ≤ p) × ((q : ℕ) → Legal q prices → q < p → q < n)
  -- it is absent only where no legal price is at or above n
  pub absent : answer ≡ None → (q : ℕ) → Legal q prices → q < n
  -- where no legal price is at or above n, it is absent
  pub none_above : ((q : ℕ) → Legal q prices → q < n) → answer ≡ None
  -- a legal price is its own answer
  pub legal_stays : Legal n prices → answer ≡ Some n
