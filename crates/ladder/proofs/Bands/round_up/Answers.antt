use Rattle.std.proofs.Common.{◌+◌, ◌∷◌, Some, sym, ap, ◌∙◌, arith}
use Rattle.ladder.specs.Sound.{start_low}
use Rattle.ladder.proofs.Tables.{table_up_none, table_up_at}
use Rattle.ladder.proofs.Bands.round_up.Goals as goal

pub returns-then-n-self : goal.returns-then-n-self
returns-then-n-self c =
    let b = c.args.self.now in
    sym (table_up_none b.first b.higher.now b.last b.sound c.args.n c.if-n-self.true)

pub next_multiple_of-requires-clause-fits : goal.next_multiple_of-requires-clause-fits
next_multiple_of-requires-clause-fits c =
    let b = c.args.self.now in
    omega (arith, start_low (b.first ∷ b.higher.now) b.last b.sound)

pub overflow_add-result : goal.overflow_add-result
overflow_add-result c =
    let b = c.args.self.now in
    omega (arith, start_low (b.first ∷ b.higher.now) b.last b.sound)

pub returns : goal.returns
returns c =
    let b = c.args.self.now in
    let h = c.band_at-band.result in
    ap (λ m. Some (h.start + m)) c.next_multiple_of.ensures.value
    ∙ table_up_at b.first b.higher.now b.last b.sound c.args.n _ _ c.if-n-self.false c.max-n.ensures c.band_at-band.ensures.holds
