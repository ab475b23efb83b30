-- The message for a line that is refused. Assumes nothing.
use Rattle.std.specs.Prelude.{ℕ, List, ◌++◌, codes, decimal}
use Rattle.order_text.specs.declared.faults.BadLine.{BadLine}
use Rattle.order_text.specs.declared.faults.Fault.{Fault}
use Rattle.order_text.specs.declared.faults.Fault.TheVariants.{UnknownWord, WordMissing, WordTooMany, BadShares, BadPrice, PriceNotLegal, SecondClose, TooManyOrders}

-- what is wrong with the line
abbrev pub fault_text : Fault → List ℕ
fault_text UnknownWord = codes "the first word is not close, buy or sell"
fault_text WordMissing = codes "a word is missing"
fault_text WordTooMany = codes "there is a word too many"
fault_text BadShares = codes "the shares are not a number from 1 to 30000000"
fault_text BadPrice = codes "the price is not a number of at most eight digits (an order may also say at-auction)"
fault_text PriceNotLegal = codes "the price is not a legal price"
fault_text SecondClose = codes "there is a closing price already"
fault_text TooManyOrders = codes "there are 512 orders already"

-- the same, with the line's number
abbrev pub bad_line_text : BadLine → List ℕ
bad_line_text b = codes "line " ++ (decimal b.line ++ (codes ": " ++ (fault_text b.fault ++ codes "\n")))
