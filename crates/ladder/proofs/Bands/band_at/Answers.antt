use Rattle.std.proofs.Common.{ap, ◌∙◌}
use Rattle.std.specs.Option.{unwrap_or}
use Rattle.ladder.specs.Sound.{first}
use Rattle.ladder.proofs.Holding.{holding-find, holding_starts, holding_steps}
use Rattle.ladder.proofs.Bands.band_at.Goals as goal

pub returns : goal.returns
returns c =
    let b = c.args.self.now in
    let n = c.args.n in
    let f = first b.first b.higher.now b.last b.sound in
    let holds = c.unwrap_or.ensures ∙ ap (λ o. unwrap_or o b.first) c.highest_band.ensures ∙ holding-find b.first b.higher.now n in
    record {
      holds = holds;
      starts = rw holds (holding_starts b.first b.higher.now n);
      steps = rw holds (holding_steps b.first b.higher.now b.last n (f.step_positive, f.step_low) f.rest_sound);
    }
