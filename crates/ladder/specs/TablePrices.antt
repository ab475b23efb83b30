-- The prices of a table of bands as the code holds it. Assumes nothing.
use Rattle.std.specs.Prelude.{ℕ, List, ◌∷◌}
use Rattle.ladder.specs.Bands.{prices_of}
use Rattle.ladder.specs.declared.Bands.{Bands}

abbrev pub table_prices : Bands → List ℕ
table_prices b = prices_of (b.first ∷ b.higher.now) b.last
