use Rattle.std.proofs.Common.{◌++◌, ap, ◌∙◌, subst, codes}
use Rattle.std.specs.Fmt.{HasWritten, styled_decimal}
use Rattle.price_table.proofs.Columns.{column_right}
use Rattle.price_table.proofs.ColumnDisplay.fmt.Goals as goal

pub returns-clause-writes : goal.returns-clause-writes
returns-clause-writes g c plain ok =
    let n = c.args.self.now.0 in
    subst (λ bs. HasWritten g.W.Write.write_str_gives c.args.f.now bs c.write.new.self)
    (ap (λ l. codes " " ++ styled_decimal l n) c.laid_out.ensures ∙ ap (λ t. codes " " ++ t) (column_right n))
    (c.write.ensures.writes plain ok)
