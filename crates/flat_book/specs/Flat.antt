-- What a flat book means. Assumes nothing.
use Rattle.std.specs.Prelude.{ℕ, ◌<◌, List, length, min, take, position, Option, ◌==◌}
use Rattle.std.proofs.Common.{arith, length-take}
use Rattle.order.specs.declared.Order.{Order}
use Rattle.book.specs.Books.{PlaceRule, Kept, row_places, row_places_bounded}
use Rattle.flat_book.specs.declared.FlatBook.{FlatBook}

-- the orders in its rows that are taken
abbrev pub flat_resting : FlatBook → List Order
flat_resting b = take b.count b.rows.now

-- the lesser of the rows and 512, less the count
abbrev pub flat_rule : FlatBook → PlaceRule
flat_rule b = row_places (length b.rows.now)

-- what it owes, it holds
abbrev pub flat_kept : (b : FlatBook) → Kept (flat_resting b) (flat_rule b)
flat_kept b = record { rising = b.ordered; few = omega (arith, length-take b.count b.rows.now, b.few); bounded = row_places_bounded (length b.rows.now) }

-- a row is free, and fewer than 512 are taken
abbrev pub HasRoom : FlatBook → Type 0
HasRoom b = b.count < min (length b.rows.now) 512

-- the place of the order of this number, if it rests
abbrev pub place_of : ℕ → List Order → Option ℕ
place_of number orders = position (λ o. o.number == number) orders
