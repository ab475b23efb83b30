-- The report on the orders of a text. Assumes nothing.
use Rattle.std.specs.Prelude.{◌≡◌, ℕ, List, Ok, Err, string_bytes, Result, String}
use Rattle.std.specs.declared.alloc.Global.{Global}
use Rattle.words.specs.Cutting.{and_then}
use Rattle.order_text.specs.declared.faults.BadLine.{BadLine}
use Rattle.order_text.specs.declared.reading.ReadError.{ReadError}
use Rattle.order_text.specs.declared.reading.ReadError.TheVariants.{Bad, NoMemory}
use Rattle.order_text.specs.Asking.{Asked, read_text}
use Rattle.reasons.specs.Verdicts.{explained}
use Rattle.price_table.specs.TableText.{table_text}

-- the table of what a text asks for
abbrev pub table_of : Asked → List ℕ
table_of a = table_text (explained a.close a.orders)

-- the report on a text, over a ladder with these prices: its table, or its first bad line
abbrev pub report_of : List ℕ → List ℕ → Result (List ℕ) BadLine
report_of prices text = and_then (read_text prices text) (λ a. Ok (table_of a))

-- the answer is the one of the definition, unless memory fails
abbrev pub Reports : Result (List ℕ) BadLine → Result (String Global) ReadError → Type 0
Reports s (Ok text) = s ≡ Ok (string_bytes text)
Reports s (Err (Bad line)) = s ≡ Err line
Reports s (Err NoMemory) = Unit {0}
