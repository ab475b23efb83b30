-- What a call touches. Assumes nothing.
use Rattle.std.specs.Prelude.{◌≡◌, ℕ, Bool, false, ◌||◌, List, ◌==◌}
use Rattle.order.specs.declared.Order.{Order}
use Rattle.book.specs.Books.{order_of}
use Rattle.book_calls.specs.declared.BookCall.{BookCall}
use Rattle.book_calls.specs.declared.BookCall.TheVariants.{Put, Replace, Cut}

-- whether a call names this number
abbrev pub call_names : BookCall → ℕ → Bool
call_names (Put o) number = o.number == number
call_names (Replace old new) number = old == number || new.number == number
call_names (Cut cut shares) number = cut == number

-- a call touches no order that it does not name: what rests under any other number is as it was
abbrev pub TouchesOnlyNamed : BookCall → List Order → List Order → Type 0
TouchesOnlyNamed call before after = (number : ℕ) → call_names call number ≡ false → order_of number after ≡ order_of number before
