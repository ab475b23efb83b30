-- What a text asks for, line by line. Assumes nothing.
use Rattle.std.specs.Prelude.{◌≡◌, ℕ, ◌+◌, cond, List, [], ◌∷◌, ◌++◌, length, Some, None, Ok, Err, vec_items, Option, Result, nat_lt}
use Rattle.order.specs.declared.Kind.{Kind}
use Rattle.order.specs.declared.Order.{Order}
use Rattle.order.specs.declared.Side.{Side}
use Rattle.order_text.specs.declared.faults.BadLine.{BadLine}
use Rattle.order_text.specs.declared.faults.Fault.{Fault}
use Rattle.order_text.specs.declared.faults.Fault.TheVariants.{SecondClose, TooManyOrders}
use Rattle.order_text.specs.declared.reading.ReadError.{ReadError}
use Rattle.order_text.specs.declared.reading.ReadError.TheVariants.{Bad, NoMemory}
use Rattle.order_text.specs.declared.reading.Request.{Request}
use Rattle.order_text.specs.declared.Saying.{Saying}
use Rattle.order_text.specs.declared.Saying.TheVariants.{Nothing, Close, Trade}
use Rattle.words.specs.Cutting.{and_then, lines, words, said}
use Rattle.order_text.specs.Meaning.{line_says}

-- the orders so far, and the closing price
pub record Asked : Type 0 where
  pub orders : List Order
  pub close : Option ℕ

-- before the first line
abbrev pub nothing_asked : Asked
nothing_asked = record { orders = []; close = None }

-- orders are numbered from 1 as they come; the broker makes no difference to the price
abbrev pub entry : List Order → Side → ℕ → Kind → Order
entry orders side shares kind = record { number = length orders + 1; broker = 1; side = side; kind = kind; shares = shares }

-- one closing price at most
abbrev pub with_close : List Order → Option ℕ → ℕ → Result Asked Fault
with_close orders None price = Ok (record { orders = orders; close = Some price })
with_close orders (Some before) price = Err SecondClose

-- what is asked once a line has said more; 512 orders at most
abbrev pub with_saying : Asked → Saying → Result Asked Fault
with_saying a Nothing = Ok a
with_saying a (Close price) = with_close a.orders a.close price
with_saying a (Trade side shares kind) =
    cond (nat_lt (length a.orders) 512)
    (Ok (record { orders = a.orders ++ (entry a.orders side shares kind ∷ []); close = a.close }))
    (Err TooManyOrders)

-- a fault with the number of its line
abbrev pub at_line : ℕ → Result Asked Fault → Result Asked BadLine
at_line n (Ok a) = Ok a
at_line n (Err fault) = Err (record { line = n; fault = fault })

module _ (prices : List ℕ) where
  -- what line `n` adds
  abbrev pub with_line : ℕ → Asked → List ℕ → Result Asked BadLine
  with_line n a line = at_line n (and_then (line_says prices (words (said line))) (with_saying a))

  -- what the lines from `n` on add, up to the first that is refused
  abbrev pub with_lines : ℕ → Asked → List (List ℕ) → Result Asked BadLine
  with_lines n a [] = Ok a
  with_lines n a (line ∷ more) = and_then (with_line n a line) (λ b. with_lines (n + 1) b more)

  -- what the text asks for, or its first bad line
  abbrev pub read_text : List ℕ → Result Asked BadLine
  read_text text = with_lines 1 nothing_asked (lines text)

-- what a request holds
abbrev pub asked : Request → Asked
asked q = record { orders = vec_items q.orders; close = q.close }

-- the answer is the one of the definition, unless memory fails
abbrev pub Gives : Result Asked BadLine → Result Request ReadError → Type 0
Gives s (Ok q) = s ≡ Ok (asked q)
Gives s (Err (Bad b)) = s ≡ Err b
Gives s (Err NoMemory) = Unit {0}
