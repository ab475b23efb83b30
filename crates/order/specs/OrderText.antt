-- How a side and a kind are shown. Assumes nothing.
use Rattle.std.specs.Prelude.{ℕ, cond, List, Ok, Err, Result, codes, decimal}
use Rattle.std.specs.Str.{bytes_eq}
use Rattle.order.specs.declared.Side.{Side}
use Rattle.order.specs.declared.Side.TheVariants.{Buy, Sell}
use Rattle.order.specs.declared.UnknownSide.{UnknownSide}
use Rattle.order.specs.declared.Kind.{Kind}
use Rattle.order.specs.declared.Kind.TheVariants.{AtAuction, Limit}

abbrev pub side_text : Side → List ℕ
side_text Buy = codes "buy"
side_text Sell = codes "sell"

-- what is wrong with a word that names none
abbrev pub unknown_side_text : List ℕ
unknown_side_text = codes "the side is not buy or sell"

-- the side that a word names
abbrev pub side_of : List ℕ → Result Side UnknownSide
side_of word =
    cond (bytes_eq word (codes "buy")) (Ok Buy)
    (cond (bytes_eq word (codes "sell")) (Ok Sell)
    (Err (record {})))

-- a limit order is shown by its price, an at-auction order by that word; how a word and a price are written is given
abbrev pub kind_written : (List ℕ → List ℕ) → (ℕ → List ℕ) → Kind → List ℕ
kind_written word price AtAuction = word (codes "at-auction")
kind_written word price (Limit limit) = price limit

-- the same with nothing around it
abbrev pub kind_text : Kind → List ℕ
kind_text kind = kind_written (λ word. word) decimal kind
