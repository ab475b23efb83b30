use Rattle.ladder.specs.Bands.{banded_prices}
use Rattle.ladder.proofs.banded.BandedLadderLadder.round_up.Goals as goal

pub returns : goal.returns
unfolding banded_prices
returns c = c.round_up.ensures
