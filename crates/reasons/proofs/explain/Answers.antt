use Rattle.std.proofs.Common.{rules}
use Rattle.reasons.proofs.Telling.{truth_of}
use Rattle.reasons.proofs.explain.Goals as goal

pub returns-clause-truth : goal.returns-clause-truth
returns-clause-truth c = truth_of c.args.close c.args.orders.now _ (search rules)
