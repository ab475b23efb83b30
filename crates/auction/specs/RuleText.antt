-- The third rule's case in words. Assumes nothing.
use Rattle.std.specs.Prelude.{ℕ, List, ◌++◌, codes, decimal}
use Rattle.auction.specs.declared.ThirdRule.{ThirdRule}
use Rattle.auction.specs.declared.ThirdRule.TheVariants.{DemandExceeds, SupplyExceeds, ClosestTo, NoClosingPrice}

abbrev pub third_text : ThirdRule → List ℕ
third_text DemandExceeds = codes "demand exceeds supply at each, so the highest wins"
third_text SupplyExceeds = codes "supply exceeds demand at each, so the lowest wins"
third_text (ClosestTo price) = codes "the closest to the closing price " ++ (decimal price ++ codes " wins, the higher of two as close")
third_text NoClosingPrice = codes "without a closing price the highest wins"
