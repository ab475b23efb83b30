-- A price that is answered is the best. Assumes nothing.
use Rattle.std.proofs.Common.{◌≡◌, ℕ, Bool, true, false, cond, leb, List, length, Ok, Err, Option, Result, sym, subst, arith}
use Rattle.order.specs.declared.Order.{Order}
use Rattle.price_rows.specs.declared.AuctionError.{AuctionError}
use Rattle.price_rows.specs.declared.AuctionError.TheVariants.{TooManyOrders}
use Rattle.auction.specs.declared.AuctionPrice.{AuctionPrice}
use Rattle.auction.specs.Rules.{thousandths, auction_price}
use Rattle.auction.specs.Decided.{for_few, price_answer}
use Rattle.auction.specs.Laws.{BestPrice}
use Rattle.auction.proofs.BestPrice.{best_price}

-- an answer is the one for few orders
pub few_is : {X : Type 0} (os : List Order) (y x : X) → Ok y ≡ for_few os x → y ≡ x
few_is {X} os y x answered = go (leb (length os) 512) answered
  where
    go : (t : Bool) → Ok y ≡ cond {A = Result X AuctionError} t (Ok x) (Err TooManyOrders) → y ≡ x
    go true e = cc
    go false e = let z : ◌≡◌ {A = ℕ} 0 1 = cc in absurd (omega arith)

pub best_answered : (close : Option ℕ) (os : List Order) (price : Option AuctionPrice) → Ok price ≡ price_answer close os → BestPrice os price
best_answered close os price answered =
    subst (BestPrice os) (sym (few_is os price (auction_price thousandths close os) answered)) (best_price os thousandths close)
