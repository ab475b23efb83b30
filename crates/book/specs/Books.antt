-- What a book is: the orders at rest in rising entry number, and a place rule. Assumes nothing.
use Rattle.std.specs.Prelude.{◌≡◌, ℕ, ◌-◌, ◌≤◌, min, Bool, true, cond, not, ◌&&◌, List, [], ◌∷◌, ◌++◌, length, Some, None, Ok, Err, filter, find, Option, Result, ◌==◌, nat_le, nat_lt}
use Rattle.std.proofs.Common.{arith}
use Rattle.std.specs.List.{list_all}
use Rattle.std.specs.Option.{option_to_list}
use Rattle.order.specs.declared.Kind.{Kind}
use Rattle.order.specs.declared.Kind.TheVariants.{AtAuction, Limit}
use Rattle.order.specs.declared.Order.{Order}
use Rattle.book.specs.declared.BookRefusal.{BookRefusal}
use Rattle.book.specs.declared.Replacement.{Replacement}
use Rattle.book.specs.Refusals.{put_checks, replace_checks, cut_checks}

-- a number of places for each broker, worked out from the list of resting orders
abbrev pub PlaceRule : Type 0
PlaceRule = List Order → ℕ → ℕ

-- the number is below that of every order
abbrev pub below_all : ℕ → List Order → Bool
below_all number orders = list_all (λ o. nat_lt number o.number) orders

-- each entry number is below all that follow
abbrev pub in_entry_order : List Order → Bool
in_entry_order [] = true
in_entry_order (o ∷ os) = below_all o.number os && in_entry_order os

-- What every book owes of its list and its place rule.
pub record Kept (orders : List Order) (rule : PlaceRule) : Type 0 where
  -- entry numbers rise
  pub rising : in_entry_order orders ≡ true
  -- no book holds over 512 orders
  pub few : length orders ≤ 512
  -- and no broker has more places than 512 less the count, whatever the list
  pub bounded : (list : List Order) (broker : ℕ) → rule list broker ≤ 512 - length list

-- ---- questions

-- the order of a number
abbrev pub order_of : ℕ → List Order → Option Order
order_of number orders = find (λ o. o.number == number) orders

-- the number is above that of every resting order
abbrev pub above_all : ℕ → List Order → Bool
above_all number orders = list_all (λ o. nat_lt o.number number) orders

-- the same, looking at the last resting order alone
abbrev pub above_last : ℕ → Option Order → Bool
above_last number None = true
above_last number (Some last) = nat_lt last.number number

-- ---- changes

-- an answer: done, unless something refuses
abbrev pub answer : Option BookRefusal → Result (Unit {0}) BookRefusal
answer None = Ok tt
answer (Some refusal) = Err refusal

-- the list at exit: changed, unless something refuses
abbrev pub unless : Option BookRefusal → List Order → List Order → List Order
unless None after before = after
unless (Some refusal) after before = before

-- putting adds the order at the end
abbrev pub put_refusal : PlaceRule → Order → List Order → Option BookRefusal
put_refusal rule o orders = put_checks (above_all o.number orders) o.shares (rule orders o.broker)

abbrev pub put_list : PlaceRule → Order → List Order → List Order
put_list rule o orders = unless (put_refusal rule o orders) (orders ++ o ∷ []) orders

-- all but the order of this number
abbrev pub dropped : ℕ → List Order → List Order
dropped number orders = filter (λ o. not (o.number == number)) orders

-- a limit order takes the price that is given, if any; an at-auction order has none to change
abbrev pub repriced : Option ℕ → Kind → Kind
repriced price AtAuction = AtAuction
repriced None (Limit own) = Limit own
repriced (Some given) (Limit own) = Limit given

-- the order under its new number, price and shares
abbrev pub replaced : Replacement → Order → Order
replaced new o = record { number = new.number; broker = o.broker; side = o.side; kind = repriced new.price o.kind; shares = new.shares }

-- replacing drops the order and adds it at the end, replaced
abbrev pub replace_refusal : ℕ → Replacement → List Order → Option BookRefusal
replace_refusal old new orders = replace_checks (above_all new.number orders) new.shares (order_of old orders)

abbrev pub moved_to_end : ℕ → Replacement → Option Order → List Order → List Order
moved_to_end old new None orders = orders
moved_to_end old new (Some o) orders = dropped old orders ++ replaced new o ∷ []

abbrev pub replace_list : ℕ → Replacement → List Order → List Order
replace_list old new orders = unless (replace_refusal old new orders) (moved_to_end old new (order_of old orders) orders) orders

-- the order with so many shares less; none where no shares are left
abbrev pub left_of : ℕ → Order → Option Order
left_of shares o =
    cond (nat_le o.shares shares) None
    (Some (record { number = o.number; broker = o.broker; side = o.side; kind = o.kind; shares = o.shares - shares }))

-- cutting takes shares off the order of a number, and drops it where none are left
abbrev pub cut_refusal : ℕ → ℕ → List Order → Option BookRefusal
cut_refusal number shares orders = cut_checks (order_of number orders) shares

abbrev pub cut_down : ℕ → ℕ → List Order → List Order
cut_down number shares [] = []
cut_down number shares (o ∷ os) = cond (o.number == number) (option_to_list (left_of shares o) ++ os) (o ∷ cut_down number shares os)

abbrev pub cut_list : ℕ → ℕ → List Order → List Order
cut_list number shares orders = unless (cut_refusal number shares orders) (cut_down number shares orders) orders

-- ---- the place rule of a book over rows of memory

-- the lesser of the rows and 512, less the count
abbrev pub free_rows : ℕ → ℕ → ℕ
free_rows rows count = min rows 512 - count

-- each broker's places over this many rows
abbrev pub row_places : ℕ → PlaceRule
row_places rows orders broker = free_rows rows (length orders)

pub row_places_bounded : (rows : ℕ) (orders : List Order) (broker : ℕ) → row_places rows orders broker ≤ 512 - length orders
row_places_bounded rows orders broker = omega arith
