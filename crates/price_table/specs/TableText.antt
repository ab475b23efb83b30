-- The text of a report, from its candidate prices. Assumes nothing.
use Rattle.std.specs.Prelude.{ℕ, ◌-◌, List, [], ◌∷◌, ◌++◌, length, replicate, codes, decimal}
use Rattle.std.specs.List.{flat_map}
use Rattle.reasons.specs.declared.Candidate.{Candidate}
use Rattle.reasons.specs.declared.Verdict.{Verdict}
use Rattle.reasons.specs.declared.Verdict.TheVariants.{Struck, MatchesLess, LeavesMore, LostByThird}
use Rattle.reasons.specs.VerdictText.{verdict_text}

-- so many blanks
abbrev pub blanks_text : ℕ → List ℕ
blanks_text n = replicate n 32

-- a number at the right of a column of twelve, with one blank before it at least
abbrev pub column_text : ℕ → List ℕ
column_text n = codes " " ++ (blanks_text (11 - length (decimal n)) ++ decimal n)

-- the line of one candidate price
abbrev pub row_text : Candidate → List ℕ
row_text c = column_text c.row.price ++ (column_text c.row.demand ++ (column_text c.row.supply ++ (column_text c.matched ++ (column_text c.surplus ++ (codes "  " ++ (verdict_text c.verdict ++ codes "\n"))))))

-- what stands below the table of a price: an empty line, the price and its shares, if it is struck
abbrev pub struck_text : Verdict → ℕ → ℕ → List ℕ
struck_text Struck price matched = codes "\nauction price " ++ (decimal price ++ (codes ", matched " ++ (decimal matched ++ codes "\n")))
struck_text (MatchesLess n) price matched = []
struck_text (LeavesMore n) price matched = []
struck_text (LostByThird rule) price matched = []

-- the same of a candidate
abbrev pub end_text : Candidate → List ℕ
end_text c = struck_text c.verdict c.row.price c.matched

-- the names of the columns
abbrev pub header_text : List ℕ
header_text = codes "       price      demand      supply     matched     surplus  verdict\n"

-- the whole report
abbrev pub table_text : List Candidate → List ℕ
table_text [] = codes "no price: no limit buy reaches a limit sell\n"
table_text (c ∷ cs) = (header_text ++ flat_map row_text (c ∷ cs)) ++ flat_map end_text (c ∷ cs)
