-- The rows of the candidates. Assumes nothing.
use Rattle.std.specs.Prelude.{◌≡◌, ◌<◌, ◌≤◌, List, map, length, Ok, Err, vec_items, Result, Vec}
use Rattle.std.specs.declared.alloc.Global.{Global}
use Rattle.arrayvec.specs.ArrayVec.{ArrayVec}
use Rattle.order.specs.declared.Order.{Order}
use Rattle.price_rows.specs.declared.PriceRow.{PriceRow}
use Rattle.price_rows.specs.declared.AuctionError.{AuctionError}
use Rattle.price_rows.specs.declared.AuctionError.TheVariants.{TooManyOrders, NoMemory}
use Rattle.price_rows.specs.Amounts.{row_at, named_in_range, candidates}

-- the rows of all candidates, in rising price
abbrev pub rows_of : List Order → List PriceRow
rows_of orders = map (row_at orders) (candidates orders)

-- the same rows as those of the candidates, in entry order and with repeats
abbrev pub entry_rows : List Order → List PriceRow
entry_rows orders = map (row_at orders) (named_in_range orders)

-- the rows of all candidates, unless memory fails; a refusal exactly where there are over 512 orders
abbrev pub RowsAnswered : List Order → Result (Vec PriceRow Global) AuctionError → Type 0
RowsAnswered orders (Ok rows) = (length orders ≤ 512) × (vec_items rows ≡ rows_of orders)
RowsAnswered orders (Err TooManyOrders) = 512 < length orders
RowsAnswered orders (Err NoMemory) = length orders ≤ 512

-- the rows in entry order; a refusal exactly where there are over 512 orders
abbrev pub RowsEntered : List Order → Result (ArrayVec PriceRow) AuctionError → Type 0
RowsEntered orders (Ok rows) = (length orders ≤ 512) × (rows.items ≡ entry_rows orders)
RowsEntered orders (Err TooManyOrders) = 512 < length orders
RowsEntered orders (Err NoMemory) = ⊥

-- lent rows become the rows in entry order; a refusal, exactly where there are over 512 orders, leaves them as they were
abbrev pub RowsWritten : List Order → ArrayVec PriceRow → ArrayVec PriceRow → Result (Unit {0}) AuctionError → Type 0
RowsWritten orders before after (Ok done) = (length orders ≤ 512) × (after.items ≡ entry_rows orders)
RowsWritten orders before after (Err TooManyOrders) = (512 < length orders) × (after ≡ before)
RowsWritten orders before after (Err NoMemory) = ⊥
