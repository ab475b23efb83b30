-- What a call does to a book. Assumes nothing.
use Rattle.std.specs.Prelude.{List, Option}
use Rattle.order.specs.declared.Order.{Order}
use Rattle.book.specs.declared.BookRefusal.{BookRefusal}
use Rattle.book.specs.Books.{PlaceRule, put_refusal, put_list, replace_refusal, replace_list, cut_refusal, cut_list}
use Rattle.book_calls.specs.declared.BookCall.{BookCall}
use Rattle.book_calls.specs.declared.BookCall.TheVariants.{Put, Replace, Cut}

-- why the book refuses the call, if it does
abbrev pub call_refusal : PlaceRule → BookCall → List Order → Option BookRefusal
call_refusal rule (Put o) orders = put_refusal rule o orders
call_refusal rule (Replace old new) orders = replace_refusal old new orders
call_refusal rule (Cut number shares) orders = cut_refusal number shares orders

-- the resting orders after the call
abbrev pub call_list : PlaceRule → BookCall → List Order → List Order
call_list rule (Put o) orders = put_list rule o orders
call_list rule (Replace old new) orders = replace_list old new orders
call_list rule (Cut number shares) orders = cut_list number shares orders
