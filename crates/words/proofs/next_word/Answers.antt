use Rattle.std.proofs.Common.{◌≡◌, ◌-◌, ◌∷◌, length, take, drop, unwrap_or, sym, ap, ◌∙◌}
use Rattle.std.proofs.lemmas.List.{take_rest}
use Rattle.std.specs.List.{position_or_len}
use Rattle.words.specs.Cutting.{blank, words}
use Rattle.words.proofs.Slicing.{position-unwrap_or, word_none, word_some}
use Rattle.words.proofs.next_word.Goals as goal

pub returns-in_err-from : goal.returns-in_err-from
returns-in_err-from c = rw c.from_residual.ensures (word_none c.args.text.now (sym c.word_start.ensures ∙ c.in_err-from.was))

pub returns : goal.returns
returns c =
    let text = c.args.text.now in
    let n = c.in_ok-from.field-0 in
    let from = take (length text - n) (drop n text) in
    let is : from ≡ drop n text = take_rest text n in
    let end : c.unwrap_or.result ≡ position_or_len blank (drop n text) =
    c.unwrap_or.ensures ∙ ap (λ r. unwrap_or r (length from)) c.word_end.ensures ∙ position-unwrap_or blank from ∙ ap (position_or_len blank) is in
    let front = c.split_at.ensures.front ∙ (λ j. take (end j) (is j)) in
    let back = c.split_at.ensures.back ∙ (λ j. drop (end j) (is j)) in
    word_some text n (sym c.word_start.ensures ∙ c.in_ok-from.was) ∙ sym (λ i. front i ∷ words (back i))
