use Rattle.std.proofs.Common.{◌<◌, ◌≤◌, length, Err, ap, subst, arith}
use Rattle.order_text.specs.Asking.{asked}
use Rattle.order_text.proofs.Few.{few_orders}
use Rattle.reasons.specs.Verdicts.{Explained}
use Rattle.price_report.proofs.report.Goals as goal

pub unreachable-requires : goal.unreachable-requires
unreachable-requires g c =
    let request = c.in_ok-request.request in
    let few : length (asked request).orders ≤ 512 = few_orders (g.L.Ladder.prices c.args.ladder.now) c.args.text.now (asked request) c.in_ok-request.ensures.value in
    let refused = c.in-Err-TooManyOrders in
    let many : 512 < length c.as_slice.result.now = subst (λ e. Explained request.close c.as_slice.result.now (Err e)) refused.field-0-is refused.ensures.value in
    omega (arith, few, many, ap length c.as_slice.ensures.value)
