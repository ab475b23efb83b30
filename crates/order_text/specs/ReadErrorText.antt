-- Why a text is not read, in words. Assumes nothing.
use Rattle.std.specs.Prelude.{ℕ, List, codes}
use Rattle.order_text.specs.FaultText.{bad_line_text}
use Rattle.order_text.specs.declared.reading.ReadError.{ReadError}
use Rattle.order_text.specs.declared.reading.ReadError.TheVariants.{Bad, NoMemory}

abbrev pub read_error_text : ReadError → List ℕ
read_error_text (Bad bad) = bad_line_text bad
read_error_text NoMemory = codes "there is not enough memory"
