-- The banded ladder's table: where each band starts, and the step between its prices.
use Rattle.std.specs.Prelude.{ℕ, ◌-◌, ◌/◌, cond, nat_le, List, [], ◌∷◌, ◌++◌}
use Rattle.ladder.specs.Prices.{prices_from}
use Rattle.ladder.specs.declared.Band.{Band}

-- a band by its start and its step
abbrev pub band : ℕ → ℕ → Band
band start step = record { start = start; step = step }

-- where a band ends: at the start of the next one, or at the last price
abbrev pub end_before : List Band → ℕ → ℕ
end_before [] last = last
end_before (next ∷ rest) last = next.start

-- the prices of a table: each band goes by its step from its start up to its end, and the last price closes the list
abbrev pub prices_of : List Band → ℕ → List ℕ
prices_of [] last = last ∷ []
prices_of (b ∷ rest) last =
    prices_from b.start b.step ((end_before rest last - b.start) / b.step) ++ prices_of rest last

-- the last band of the table that starts at or below n, or `found` where none does
abbrev pub band_holding : Band → List Band → ℕ → Band
band_holding found [] n = found
band_holding found (b ∷ rest) n = band_holding (cond (nat_le b.start n) b found) rest n

-- the first band
abbrev pub first_band : Band
first_band = band 10 1

-- the bands above it
abbrev pub higher_bands : List Band
higher_bands =
    band 250 5 ∷
    band 500 10 ∷
    band 10_000 20 ∷
    band 20_000 50 ∷
    band 100_000 100 ∷
    band 200_000 200 ∷
    band 500_000 500 ∷
    band 1_000_000 1_000 ∷
    band 2_000_000 2_000 ∷
    band 5_000_000 5_000 ∷ []

-- the last price of the table
abbrev pub last_price : ℕ
last_price = 9_995_000

-- the prices of the banded ladder
unfoldable pub banded_prices : List ℕ
banded_prices = prices_of (first_band ∷ higher_bands) last_price
