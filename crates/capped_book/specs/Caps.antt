-- A cap on every broker's resting orders. Assumes nothing.
use Rattle.std.specs.Prelude.{◌≡◌, ℕ, ◌-◌, min, List, count_by, nat_eq}
use Rattle.std.proofs.Common.{arith}
use Rattle.order.specs.declared.Order.{Order}
use Rattle.book.specs.Books.{PlaceRule, Kept}

-- how many of the orders are this broker's
abbrev pub held_by : ℕ → List Order → ℕ
held_by broker orders = count_by (λ o. nat_eq o.broker broker) orders

-- the lesser of the places below and the cap less the broker's resting orders, never under 0
abbrev pub capped_places : ℕ → ℕ → ℕ → ℕ
capped_places below limit held = min below (limit - held)

abbrev pub capped_rule : ℕ → PlaceRule → PlaceRule
capped_rule limit rule orders broker = capped_places (rule orders broker) limit (held_by broker orders)

-- to a broker, a rule gives what the lesser of two caps would give over the rule below
abbrev pub CapsAsLesser : ℕ → ℕ → PlaceRule → PlaceRule → Type 0
CapsAsLesser lower upper below rule = (orders : List Order) (broker : ℕ) → rule orders broker ≡ capped_rule (min lower upper) below orders broker

-- a cap gives no places, so what the book below owes, the capped book keeps
abbrev pub capped_kept : (limit : ℕ) (orders : List Order) (rule : PlaceRule) → Kept orders rule → Kept orders (capped_rule limit rule)
capped_kept limit orders rule kept = record {
  rising = kept.rising;
  few = kept.few;
  bounded = λ list broker. omega (arith, kept.bounded list broker);
}
