use Rattle.std.proofs.Common.{◌≡◌, ◌^◌, ◌<◌, drop}
use Rattle.words.specs.Cutting.{read_on}
use Rattle.words.proofs.number.Given as goal

abbrev pub invariant-loop-b : goal.invariant-loop-b
invariant-loop-b l = record { small : l.n < 10 ^ l.b-index; reads : read_on l.n (drop l.b-index l.word) ≡ read_on 0 l.word }
