use Rattle.std.proofs.Common.{arith}
use Rattle.std.proofs.lemmas.Grind.{common_steps}
use Rattle.price_rows.proofs.Rising.{insert_key-with_price}
use Rattle.price_rows.proofs.orders.AuctionOrders.candidates.Goals as goal

pub loop-o-preserved : goal.loop-o-preserved
loop-o-preserved c = grind (arith, common_steps, insert_key-with_price)
