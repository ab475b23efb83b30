use Rattle.std.proofs.Common.{arith}
use Rattle.std.proofs.lemmas.List.Splits.{length-slice_split}
use Rattle.std.proofs.lemmas.List.Sums.{count_by-le-length}
use Rattle.words.specs.Cutting.{newline}
use Rattle.words.proofs.Lines.new.Goals as goal

pub returns-clause-fits : goal.returns-clause-fits
returns-clause-fits c = omega (arith, length-slice_split newline c.args.text.now, count_by-le-length newline c.args.text.now)
