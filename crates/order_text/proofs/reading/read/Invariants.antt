use Rattle.std.proofs.Common.{◌≡◌, ◌+◌}
use Rattle.std.specs.Iterator.Adapters.{enumerate_source, enumerate_count}
use Rattle.order_text.specs.Asking.{with_lines, read_text, asked}
use Rattle.order_text.proofs.reading.read.Given as goal

abbrev pub invariant-loop-i : goal.invariant-loop-i
invariant-loop-i g l =
    let prices = g.L.Ladder.prices l.ladder in record {
      can : (goal.iterator-loop-i g).can_next l.i-iterator;
      finite : (goal.iterator-loop-i g).is_finite l.i-iterator;
      reads : with_lines prices (enumerate_count l.i-iterator + 1) (asked l.request) (enumerate_source l.i-iterator) ≡ read_text prices l.text;
    }
