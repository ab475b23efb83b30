use Rattle.ladder.proofs.Rounding.{nearest_below, nearest_above}
use Rattle.ladder.proofs.nearest.Goals as goal

pub returns-clause-below : goal.returns-clause-below
returns-clause-below g c =
    let ladder = c.args.ladder.now in
    rw c.round_down.ensures (nearest_below c.args.n (g.L.Ladder.prices ladder) (g.L.Ladder.lawful ladder).rising)

pub returns-clause-above : goal.returns-clause-above
returns-clause-above g c =
    let ladder = c.args.ladder.now in
    rw c.round_up.ensures (nearest_above c.args.n (g.L.Ladder.prices ladder) (g.L.Ladder.lawful ladder).rising)
