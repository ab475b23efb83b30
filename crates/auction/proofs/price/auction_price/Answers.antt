use Rattle.std.proofs.Common.{rules}
use Rattle.auction.proofs.Answering.{best_answered}
use Rattle.auction.proofs.price.auction_price.Goals as goal

pub returns-clause-best : goal.returns-clause-best
returns-clause-best c = best_answered c.args.close c.args.orders.now c.map.result (search rules)
