use Rattle.std.proofs.Common.{subst, sym}
use Rattle.ladder.specs.Nearest.{NearestBelow}
use Rattle.ladder.proofs.Rounding.{nearest_below, legal_by_rounding}
use Rattle.ladder.proofs.Ladder.is_legal.Goals as goal

pub returns : goal.returns
returns g c =
    let price = c.args.price in
    let ladder = c.args.self.now in
    let prices = g.Self.Ladder.prices ladder in
    let near = subst (NearestBelow price prices) (sym c.round_down.ensures) (nearest_below price prices (g.Self.Ladder.lawful ladder).rising) in
    legal_by_rounding price prices c.eq.result c.round_down.result near c.eq.ensures
