use Rattle.std.proofs.Common.{◌∷◌, sym, arith}
use Rattle.ladder.specs.Sound.{start_low}
use Rattle.ladder.proofs.Tables.{table_down_none, table_down_at}
use Rattle.ladder.proofs.Bands.round_down.Goals as goal

pub returns-then-n-self : goal.returns-then-n-self
returns-then-n-self c =
    let b = c.args.self.now in
    sym (table_down_none b.first b.higher.now b.last b.sound c.args.n c.if-n-self.true)

pub overflow_sub-result : goal.overflow_sub-result
overflow_sub-result c =
    let b = c.args.self.now in
    omega (arith, start_low (b.first ∷ b.higher.now) b.last b.sound)

pub returns : goal.returns
returns c =
    let b = c.args.self.now in
    table_down_at b.first b.higher.now b.last b.sound c.args.n _ _ c.if-n-self.false c.min-n.ensures c.band_at-band.ensures.holds
