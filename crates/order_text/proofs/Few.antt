-- A text that is read asks for at most 512 orders. Assumes nothing.
use Rattle.std.proofs.Common.{◌≡◌, ℕ, ◌+◌, ◌≤◌, Bool, true, false, cond, ltb, List, [], ◌∷◌, ◌++◌, length, Some, None, Ok, Err, Option, Result, refl, subst, arith}
use Rattle.std.proofs.lemmas.List.{length_push}
use Rattle.std.proofs.lemmas.Bool.{ltb-true}
use Rattle.order.specs.declared.Kind.{Kind}
use Rattle.order.specs.declared.Side.{Side}
use Rattle.order_text.specs.declared.faults.BadLine.{BadLine}
use Rattle.order_text.specs.declared.faults.Fault.{Fault}
use Rattle.order_text.specs.declared.faults.Fault.TheVariants.{TooManyOrders}
use Rattle.order_text.specs.declared.Saying.{Saying}
use Rattle.order_text.specs.declared.Saying.TheVariants.{Nothing, Close, Trade}
use Rattle.words.specs.Cutting.{and_then, lines, words, said}
use Rattle.order_text.specs.Meaning.{line_says}
use Rattle.order_text.specs.Asking.{Asked, nothing_asked, entry, with_close, with_saying, at_line, with_line, with_lines, read_text}

abbrev Few : Asked → Type 0
Few a = length a.orders ≤ 512

same_ok : {A B : Type 0} (a b : A) → ◌≡◌ {A = Result A B} (Ok a) (Ok b) → a ≡ b
same_ok a b e = cc

not_ok : {A B : Type 0} (e : B) (b : A) → ◌≡◌ {A = Result A B} (Err e) (Ok b) → ⊥
not_ok e b is = let z : ◌≡◌ {A = ℕ} 0 1 = cc in omega arith

module _ (a : Asked) (few : Few a) where
  close_few : (n price : ℕ) (close : Option ℕ) (b : Asked) → at_line n (with_close a.orders close price) ≡ Ok b → Few b
  close_few n price None b e = subst Few (same_ok _ b e) few
  close_few n price (Some before) b e = absurd (not_ok _ b e)

  trade_few : (n shares : ℕ) (side : Side) (kind : Kind) (b : Asked) (t : Bool) → ltb (length a.orders) 512 ≡ t → at_line n (cond {A = Result Asked Fault} t (Ok (record { orders = a.orders ++ (entry a.orders side shares kind ∷ []); close = a.close })) (Err TooManyOrders)) ≡ Ok b → Few b
  trade_few n shares side kind b true room e =
      subst Few (same_ok _ b e) (omega (arith, length_push a.orders (entry a.orders side shares kind), ltb-true (length a.orders) 512 room))
  trade_few n shares side kind b false room e = absurd (not_ok _ b e)

  saying_few : (n : ℕ) (saying : Saying) (b : Asked) → at_line n (with_saying a saying) ≡ Ok b → Few b
  saying_few n Nothing b e = subst Few (same_ok a b e) few
  saying_few n (Close price) b e = close_few n price a.close b e
  saying_few n (Trade side shares kind) b e = trade_few n shares side kind b (ltb (length a.orders) 512) refl e

  line_few : (n : ℕ) (said_so : Result Saying Fault) (b : Asked) → at_line n (and_then said_so (with_saying a)) ≡ Ok b → Few b
  line_few n (Ok saying) b e = saying_few n saying b e
  line_few n (Err fault) b e = absurd (not_ok _ b e)

module _ (prices : List ℕ) where
  lines_few : (ls : List (List ℕ)) (n : ℕ) (a b : Asked) → Few a → with_lines prices n a ls ≡ Ok b → Few b
  lines_few [] n a b few e = subst Few (same_ok a b e) few
  lines_few (l ∷ ls) n a b few e = go (λ c. lines_few ls (n + 1) c b) (with_line prices n a l) refl e
    where
      go : ((c : Asked) → Few c → with_lines prices (n + 1) c ls ≡ Ok b → Few b) → (r : Result Asked BadLine) → with_line prices n a l ≡ r → and_then r (λ c. with_lines prices (n + 1) c ls) ≡ Ok b → Few b
      go rest (Ok c) is f = rest c (line_few a few n (line_says prices (words (said l))) c is) f
      go rest (Err bad) is f = absurd (not_ok bad b f)

  pub few_orders : (text : List ℕ) (a : Asked) → read_text prices text ≡ Ok a → length a.orders ≤ 512
  few_orders text a e = lines_few (lines text) 1 nothing_asked a (omega arith) e
