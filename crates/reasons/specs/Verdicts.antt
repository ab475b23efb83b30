-- Every candidate with its verdict. Assumes nothing.
use Rattle.std.specs.Prelude.{◌≡◌, ℕ, ◌-◌, ◌<◌, ◌≤◌, cond, List, [], map, length, Some, None, Ok, Err, vec_items, Option, Result, Vec, ◌==◌, nat_lt}
use Rattle.std.specs.declared.alloc.Global.{Global}
use Rattle.order.specs.declared.Order.{Order}
use Rattle.price_rows.specs.declared.PriceRow.{PriceRow}
use Rattle.auction.specs.declared.Decision.{Decision}
use Rattle.price_rows.specs.declared.AuctionError.{AuctionError}
use Rattle.price_rows.specs.declared.AuctionError.TheVariants.{TooManyOrders, NoMemory}
use Rattle.price_rows.specs.Amounts.{matched_in, surplus_in}
use Rattle.price_rows.specs.Rows.{rows_of}
use Rattle.auction.specs.Decided.{decision}
use Rattle.reasons.specs.declared.Verdict.{Verdict}
use Rattle.reasons.specs.declared.Verdict.TheVariants.{Struck, MatchesLess, LeavesMore, LostByThird}
use Rattle.reasons.specs.declared.Candidate.{Candidate}

-- why a row won or lost, beside the struck row
abbrev pub verdict_of : Decision → PriceRow → Verdict
verdict_of d r =
    cond (r.price == d.row.price) Struck
    (cond (nat_lt (matched_in r) (matched_in d.row)) (MatchesLess (matched_in d.row - matched_in r))
    (cond (nat_lt (surplus_in d.row) (surplus_in r)) (LeavesMore (surplus_in r - surplus_in d.row))
    (LostByThird d.third)))

abbrev pub candidate_of : Decision → PriceRow → Candidate
candidate_of d r = record { row = r; matched = matched_in r; surplus = surplus_in r; verdict = verdict_of d r }

-- the rows with their verdicts; none where nothing is struck
abbrev pub judged : Option Decision → List PriceRow → List Candidate
judged None rows = []
judged (Some d) rows = map (candidate_of d) rows

-- the candidates of these orders in rising price, each with its verdict
abbrev pub explained : Option ℕ → List Order → List Candidate
explained close orders = judged (decision close orders) (rows_of orders)

-- that list, unless memory fails; a refusal exactly where there are over 512 orders
abbrev pub Explained : Option ℕ → List Order → Result (Vec Candidate Global) AuctionError → Type 0
Explained close orders (Ok told) = (length orders ≤ 512) × (vec_items told ≡ explained close orders)
Explained close orders (Err TooManyOrders) = 512 < length orders
Explained close orders (Err NoMemory) = length orders ≤ 512
