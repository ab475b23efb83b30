use Rattle.std.proofs.Common.{◌≡◌, ap, ◌∙◌, subst}
use Rattle.rank.specs.Ranked.{NoneCounts, Leads}
use Rattle.auction.specs.declared.ThirdRule.TheVariants.{NoClosingPrice}
use Rattle.auction.specs.Rules.{third_at_ties, thousandths, row_ahead, settled}
use Rattle.auction.proofs.Chosen.{any_row}
use Rattle.auction.proofs.Deciding.{settled_is, decision_none, decision_some}
use Rattle.auction.proofs.price.decide_rows.Goals as goal

pub returns-in_err-best : goal.returns-in_err-best
returns-in_err-best c os e =
    c.from_residual.ensures ∙ decision_none os c.args.close (subst (NoneCounts any_row) e c.in_err-best.ensures.leads)

pub returns-in_err-row : goal.returns-in_err-row
returns-in_err-row c os e =
    c.from_residual-in_err-row.ensures ∙ decision_none os c.args.close (subst (NoneCounts any_row) e c.in_err-row.ensures.leads)

pub returns : goal.returns
returns c os e =
    let close = c.args.close in
    let best = c.in_ok-best.best in
    let third = c.third_rule-third.result in
    let leads : Leads any_row (row_ahead thousandths NoClosingPrice) _ best = subst (λ rows. Leads any_row (row_ahead thousandths NoClosingPrice) rows best) e c.in_ok-best.ensures.leads in
    let is : third ≡ settled close os = c.third_rule-third.ensures ∙ ap (third_at_ties close best) e ∙ settled_is os close NoClosingPrice best leads in
    decision_some os close third _ is (subst (λ rows. Leads any_row (row_ahead thousandths third) rows c.in_ok-row.row) e c.in_ok-row.ensures.leads)
