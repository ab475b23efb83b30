-- Why there is no answer, in words. Assumes nothing.
use Rattle.std.specs.Prelude.{ℕ, List, codes}
use Rattle.price_rows.specs.declared.AuctionError.{AuctionError}
use Rattle.price_rows.specs.declared.AuctionError.TheVariants.{TooManyOrders, NoMemory}

abbrev pub auction_error_text : AuctionError → List ℕ
auction_error_text TooManyOrders = codes "there are more than 512 orders"
auction_error_text NoMemory = codes "there is not enough memory"
