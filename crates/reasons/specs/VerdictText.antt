-- Whether a price won, and if not why, in words. Assumes nothing.
use Rattle.std.specs.Prelude.{ℕ, List, ◌++◌, codes, decimal}
use Rattle.auction.specs.RuleText.{third_text}
use Rattle.reasons.specs.declared.Verdict.{Verdict}
use Rattle.reasons.specs.declared.Verdict.TheVariants.{Struck, MatchesLess, LeavesMore, LostByThird}

abbrev pub verdict_text : Verdict → List ℕ
verdict_text Struck = codes "struck"
verdict_text (MatchesLess n) = codes "lost: matches " ++ (decimal n ++ codes " less")
verdict_text (LeavesMore n) = codes "lost: matches as many and leaves " ++ (decimal n ++ codes " more")
verdict_text (LostByThird rule) = codes "lost: equal on both, and " ++ third_text rule
