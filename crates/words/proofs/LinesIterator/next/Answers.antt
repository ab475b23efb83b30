use Rattle.std.proofs.Common.{length, sym, ap, ◌∙◌, arith}
use Rattle.std.proofs.lemmas.Grind.{common_steps}
use Rattle.words.specs.Cutting.{lines_left}
use Rattle.words.proofs.Slicing.{lines_cut}
use Rattle.words.proofs.LinesIterator.next.Goals as goal

pub returns-clause-steps : goal.returns-clause-steps
returns-clause-steps c =
    let cut = c.cut_line in
    sym c.self.view_is ∙ ap lines_left c.in_ok-text.was
    ∙ lines_cut c.in_ok-text.text.now cut.result.0.now cut.result.1 _ cut.ensures.line cut.ensures.rest c.then_some-self-inside.ensures

pub returns-clause-goes : goal.returns-clause-goes
returns-clause-goes c = let less = ap length (returns-clause-steps c) in grind (arith, common_steps)
