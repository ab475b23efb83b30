use Rattle.ladder.specs.Bands.{banded_prices}
use Rattle.ladder.proofs.banded.BandedLadderLadder.round_down.Goals as goal

pub returns : goal.returns
unfolding banded_prices
returns c = c.round_down.ensures
