-- What an order accepts, and which of two orders of a side goes ahead. Assumes nothing.
use Rattle.std.specs.Prelude.{ℕ, Bool, true, false, ◌&&◌, ◌||◌, List, [], ◌∷◌, Option, ◌==◌, nat_le, nat_lt}
use Rattle.rank.specs.Ranked.{first_of, IsFirst}
use Rattle.order.specs.declared.Side.{Side}
use Rattle.order.specs.declared.Side.TheVariants.{Buy, Sell}
use Rattle.order.specs.declared.Kind.{Kind}
use Rattle.order.specs.declared.Kind.TheVariants.{AtAuction, Limit}
use Rattle.order.specs.declared.Order.{Order}

-- whether two sides are one
abbrev pub same_side : Side → Side → Bool
same_side Buy Buy = true
same_side Buy Sell = false
same_side Sell Buy = false
same_side Sell Sell = true

-- an order of this side that names `limit` trades at `price`: a buy no dearer, a sell no cheaper
abbrev pub within_limit : Side → ℕ → ℕ → Bool
within_limit Buy limit price = nat_le price limit
within_limit Sell limit price = nat_le limit price

-- an order of this side and kind trades at `price`; an at-auction order does at any
abbrev pub takes : Side → Kind → ℕ → Bool
takes side AtAuction price = true
takes side (Limit limit) price = within_limit side limit price

-- the order would trade at the price
abbrev pub accepts : Order → ℕ → Bool
accepts o price = takes o.side o.kind price

-- the better of two limits for their side: a buy's is higher, a sell's lower
abbrev pub better_limit : Side → ℕ → ℕ → Bool
better_limit Buy p q = nat_lt q p
better_limit Sell p q = nat_lt p q

-- kind before price before entry number: at-auction before limit, then the better limit, then the earlier entry
abbrev pub served_before : Side → Kind → Kind → Bool → Bool
served_before side AtAuction AtAuction earlier = earlier
served_before side AtAuction (Limit q) earlier = true
served_before side (Limit p) AtAuction earlier = false
served_before side (Limit p) (Limit q) earlier = better_limit side p q || (p == q && earlier)

-- the buy rank at Buy, the sell rank at Sell
abbrev pub order_ahead : Side → Order → Order → Bool
order_ahead side a b = served_before side a.kind b.kind (nat_lt a.number b.number)

-- all that the ranks compare: kind, price and entry number
abbrev pub kind_key : Kind → ℕ → List ℕ
kind_key AtAuction number = 0 ∷ 0 ∷ number ∷ []
kind_key (Limit p) number = 1 ∷ p ∷ number ∷ []

abbrev pub order_key : Order → List ℕ
order_key o = kind_key o.kind o.number

-- the order of this side that is served first, in a list that may hold both sides
abbrev pub first_ranked : Side → List Order → Option Order
first_ranked side orders = first_of (λ o. same_side side o.side) (order_ahead side) orders

-- what that order is: of the list and of the side, and no order of the side is ahead of it
abbrev pub ServedFirst : Side → List Order → Option Order → Type 0
ServedFirst side orders answer = IsFirst (λ o. same_side side o.side) (order_ahead side) orders answer
