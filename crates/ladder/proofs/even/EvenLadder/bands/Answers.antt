use Rattle.std.proofs.Common.{sym}
use Rattle.ladder.specs.Sound.{even_table}
use Rattle.ladder.proofs.even.EvenLadder.bands.Goals as goal

pub returns : goal.returns
returns c = let l = c.args.self.now in sym (even_table l.step l.count l.step_range.0 l.count_range.0)
