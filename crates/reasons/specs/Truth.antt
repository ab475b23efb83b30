-- What an explanation promises: one candidate is struck, and each verdict is true. Assumes nothing.
use Rattle.std.specs.Prelude.{◌≡◌, ℕ, ◌+◌, ◌<◌, Bool, true, false, ◌⊎◌, List, [], Some, None, count_by, Option, MatchOption}
use Rattle.std.specs.List.{Contains}
use Rattle.order.specs.declared.Order.{Order}
use Rattle.auction.specs.declared.AuctionPrice.{AuctionPrice}
use Rattle.auction.specs.declared.ThirdRule.{ThirdRule}
use Rattle.auction.specs.declared.ThirdRule.TheVariants.{DemandExceeds, SupplyExceeds, ClosestTo, NoClosingPrice}
use Rattle.price_rows.specs.Amounts.{demand, supply, row_at}
use Rattle.auction.specs.Rules.{thousandths}
use Rattle.price_rows.specs.Reach.{matched, surplus, Names, Spans}
use Rattle.reasons.specs.declared.Verdict.{Verdict}
use Rattle.reasons.specs.declared.Verdict.TheVariants.{Struck, MatchesLess, LeavesMore, LostByThird}
use Rattle.reasons.specs.declared.Candidate.{Candidate}

abbrev pub is_struck : Verdict → Bool
is_struck Struck = true
is_struck (MatchesLess n) = false
is_struck (LeavesMore n) = false
is_struck (LostByThird third) = false

module _ (close : Option ℕ) (orders : List Order) (struck : AuctionPrice) where
  -- the price is a candidate that matches as many as the struck price and leaves as much
  pub record Ties (price : ℕ) : Type 0 where
    pub spans : Spans orders price
    pub names : Names orders price
    pub as_many : matched orders price ≡ struck.matched
    pub as_much : surplus orders price ≡ surplus orders struck.price

  -- at each such price there is more demand, or more supply
  abbrev pub MoreDemand : Type 0
  MoreDemand = (price : ℕ) → Ties price → supply orders price < demand orders price

  abbrev pub MoreSupply : Type 0
  MoreSupply = (price : ℕ) → Ties price → demand orders price < supply orders price

  -- the case of the third rule that applies
  abbrev pub Applies : ThirdRule → Type 0
  Applies DemandExceeds = MoreDemand
  Applies SupplyExceeds = MoreSupply
  Applies (ClosestTo price) = (close ≡ Some price) × (MoreDemand → ⊥) × (MoreSupply → ⊥)
  Applies NoClosingPrice = (close ≡ None) × (MoreDemand → ⊥) × (MoreSupply → ⊥)

  -- by that case the struck price is taken before this one
  abbrev pub Loses : ThirdRule → ℕ → Type 0
  Loses DemandExceeds price = price < struck.price
  Loses SupplyExceeds price = struck.price < price
  Loses (ClosestTo c) price =
      (thousandths struck.price c < thousandths price c)
      ⊎ ((thousandths struck.price c ≡ thousandths price c) × (price < struck.price))
  Loses NoClosingPrice price = price < struck.price

  -- what a verdict says of a candidate beside the struck price
  abbrev pub Says : Verdict → ℕ → Type 0
  Says Struck price = price ≡ struck.price
  Says (MatchesLess n) price = (matched orders price + n ≡ struck.matched) × (0 < n)
  Says (LeavesMore n) price =
      (matched orders price ≡ struck.matched) × (surplus orders price ≡ surplus orders struck.price + n) × (0 < n)
  Says (LostByThird third) price = Ties price × Applies third × Loses third price

  -- a candidate told truly: its amounts are those of its price, and its verdict holds
  pub record TrueOf (c : Candidate) : Type 0 where
    pub spans : Spans orders c.row.price
    pub names : Names orders c.row.price
    pub row : c.row ≡ row_at orders c.row.price
    pub matches : c.matched ≡ matched orders c.row.price
    pub leaves : c.surplus ≡ surplus orders c.row.price
    pub verdict : Says c.verdict c.row.price

  pub record Explains (told : List Candidate) : Type 0 where
    -- exactly one candidate is struck
    pub one_struck : count_by (λ c. is_struck c.verdict) told ≡ 1
    -- each is told truly
    pub each : (c : Candidate) → Contains told c → TrueOf c
    -- and none is left out
    pub all : (price : ℕ) → Spans orders price → Names orders price → (c : Candidate) × Contains told c × (c.row.price ≡ price)

-- the explanation of an auction price: nothing where there is none
abbrev pub ExplainsPrice : Option ℕ → List Order → Option AuctionPrice → List Candidate → Type 0
ExplainsPrice close orders price told = MatchOption price (told ≡ []) (λ struck. Explains close orders struck told)
