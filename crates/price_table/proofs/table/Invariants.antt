use Rattle.std.proofs.Common.{◌≡◌, ◌++◌, take, string_bytes}
use Rattle.std.specs.List.{flat_map}
use Rattle.price_table.specs.TableText.{header_text, row_text, end_text}
use Rattle.price_table.proofs.table.Given as goal

abbrev pub invariant-rows : goal.invariant-rows
invariant-rows l = string_bytes l.text ≡ header_text ++ flat_map row_text (take l.candidate-index l.candidates)

abbrev pub invariant-ends : goal.invariant-ends
invariant-ends l = string_bytes l.text ≡ (header_text ++ flat_map row_text l.candidates) ++ flat_map end_text (take l.candidate-index l.candidates)
