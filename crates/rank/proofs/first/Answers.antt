use Rattle.rank.proofs.Firsts.{first_leads}
use Rattle.rank.proofs.first.Goals as goal

pub returns-clause-leads : goal.returns-clause-leads
returns-clause-leads g c = first_leads _ _ _ (g.met.R.Rank.lawful c.args.rank.now) _ _ c.best_of.ensures
