use Rattle.std.proofs.Common.{Ok, rules}
use Rattle.order_text.proofs.Back.{reads_back}
use Rattle.order_text.proofs.reading.read.Goals as goal

pub returns-in_err-request-clause-back : goal.returns-in_err-request-clause-back
returns-in_err-request-clause-back g c = reads_back (g.L.Ladder.prices c.args.ladder.now) c.args.text.now c.from_residual.result (search rules)

pub returns-clause-back : goal.returns-clause-back
returns-clause-back g c = reads_back (g.L.Ladder.prices c.args.ladder.now) c.args.text.now (Ok c.loop-i.request) (search rules)
