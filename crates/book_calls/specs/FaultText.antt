-- The message for a line that is refused. Assumes nothing.
use Rattle.std.specs.Prelude.{ℕ, List, codes}
use Rattle.book_calls.specs.declared.faults.CallFault.{CallFault}
use Rattle.book_calls.specs.declared.faults.CallFault.TheVariants.{UnknownWord, WordMissing, WordTooMany, BadNumber, BadSide, BadPrice}

-- what is wrong with the line
abbrev pub fault_text : CallFault → List ℕ
fault_text UnknownWord = codes "the first word is not put, replace or cut"
fault_text WordMissing = codes "a word is missing"
fault_text WordTooMany = codes "there is a word too many"
fault_text BadNumber = codes "a word is not a number of at most eight digits"
fault_text BadSide = codes "the side is not buy or sell"
fault_text BadPrice = codes "the price is not a number of at most eight digits (a put may also say at-auction)"
