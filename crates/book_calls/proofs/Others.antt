-- No change touches an order that it does not name. Assumes nothing.
use Rattle.std.proofs.Common.{◌≡◌, ℕ, ◌-◌, Bool, true, false, cond, not, eqb, leb, List, [], ◌∷◌, ◌++◌, Some, None, Option, sym, refl, ap, ◌∙◌}
use Rattle.std.specs.Option.{option_to_list}
use Rattle.std.proofs.lemmas.Bool.{cond_both, eqb-true, or_parts}
use Rattle.order.specs.declared.Order.{Order}
use Rattle.book.specs.declared.BookRefusal.{BookRefusal}
use Rattle.book.specs.declared.Replacement.{Replacement}
use Rattle.book.specs.Books.{PlaceRule, order_of, dropped, replaced, moved_to_end, left_of, cut_down, unless, put_refusal, put_list, replace_refusal, replace_list, cut_refusal, cut_list}
use Rattle.book_calls.specs.declared.BookCall.{BookCall}
use Rattle.book_calls.specs.declared.BookCall.TheVariants.{Put, Replace, Cut}
use Rattle.book_calls.specs.Calls.{call_list}
use Rattle.book_calls.specs.Touching.{TouchesOnlyNamed}

module _ (n : ℕ) where
  -- an order of another number at the end
  at_end : (o : Order) (xs : List Order) → eqb o.number n ≡ false → order_of n (xs ++ o ∷ []) ≡ order_of n xs
  at_end o [] e = ap (λ b. cond b (Some o) None) e
  at_end o (x ∷ xs) e = ap (λ r. cond (eqb x.number n) (Some x) r) (at_end o xs e)

  -- dropping the order of another number
  not_dropped : (old : ℕ) (xs : List Order) → eqb old n ≡ false → order_of n (dropped old xs) ≡ order_of n xs
  not_dropped old [] e = refl
  not_dropped old (x ∷ xs) e = go (eqb x.number old) refl (not_dropped old xs e)
    where
      go : (b : Bool) → eqb x.number old ≡ b → order_of n (dropped old xs) ≡ order_of n xs → order_of n (cond (not b) (x ∷ dropped old xs) (dropped old xs)) ≡ order_of n (x ∷ xs)
      go true is rest = rest ∙ sym (ap (λ b. cond b (Some x) (order_of n xs)) (ap (λ m. eqb m n) (eqb-true x.number old is) ∙ e))
      go false is rest = ap (λ r. cond (eqb x.number n) (Some x) r) rest

  -- cutting the order of another number
  not_cut : (m shares : ℕ) (xs : List Order) → eqb m n ≡ false → order_of n (cut_down m shares xs) ≡ order_of n xs
  not_cut m shares [] e = refl
  not_cut m shares (x ∷ xs) e = go (eqb x.number m) refl (not_cut m shares xs e)
    where
      -- the order with fewer shares
      y : Order
      y = record { number = x.number; broker = x.broker; side = x.side; kind = x.kind; shares = x.shares - shares }

      left : eqb x.number n ≡ false → order_of n (option_to_list (left_of shares x) ++ xs) ≡ order_of n xs
      left other = cond_both (leb x.shares shares) None (Some y) (λ r. order_of n (option_to_list r ++ xs) ≡ order_of n xs) (λ f. refl) (λ f. ap (λ b. cond b (Some y) (order_of n xs)) other)

      go : (b : Bool) → eqb x.number m ≡ b → order_of n (cut_down m shares xs) ≡ order_of n xs → order_of n (cond b (option_to_list (left_of shares x) ++ xs) (x ∷ cut_down m shares xs)) ≡ order_of n (x ∷ xs)
      go true is rest =
          let other : eqb x.number n ≡ false = ap (λ k. eqb k n) (eqb-true x.number m is) ∙ e in
          left other ∙ sym (ap (λ b. cond b (Some x) (order_of n xs)) other)
      go false is rest = ap (λ r. cond (eqb x.number n) (Some x) r) rest

  -- a refusal touches nothing
  unless_same : (r : Option BookRefusal) (after before : List Order) → order_of n after ≡ order_of n before → order_of n (unless r after before) ≡ order_of n before
  unless_same None after before e = e
  unless_same (Some f) after before e = refl

  put_others : (rule : PlaceRule) (o : Order) (xs : List Order) → eqb o.number n ≡ false → order_of n (put_list rule o xs) ≡ order_of n xs
  put_others rule o xs e = unless_same (put_refusal rule o xs) (xs ++ o ∷ []) xs (at_end o xs e)

  replace_others : (old : ℕ) (new : Replacement) (xs : List Order) → eqb old n ≡ false → eqb new.number n ≡ false → order_of n (replace_list old new xs) ≡ order_of n xs
  replace_others old new xs e f = unless_same (replace_refusal old new xs) (moved_to_end old new (order_of old xs) xs) xs (moved (order_of old xs))
    where
      moved : (found : Option Order) → order_of n (moved_to_end old new found xs) ≡ order_of n xs
      moved None = refl
      moved (Some o) = at_end (replaced new o) (dropped old xs) f ∙ not_dropped old xs e

  cut_others : (m shares : ℕ) (xs : List Order) → eqb m n ≡ false → order_of n (cut_list m shares xs) ≡ order_of n xs
  cut_others m shares xs e = unless_same (cut_refusal m shares xs) (cut_down m shares xs) xs (not_cut m shares xs e)

-- no call touches an order that it does not name
pub call_others : (rule : PlaceRule) (call : BookCall) (xs : List Order) → TouchesOnlyNamed call xs (call_list rule call xs)
call_others rule (Put o) xs n e = put_others n rule o xs e
call_others rule (Replace old new) xs n e =
    let neither = or_parts (eqb old n) (eqb new.number n) e in
    replace_others n old new xs neither.0 neither.1
call_others rule (Cut m shares) xs n e = cut_others n m shares xs e

pub touches_only_named : (rule : PlaceRule) (call : BookCall) (before after : List Order) → after ≡ call_list rule call before → TouchesOnlyNamed call before after
touches_only_named rule call before after is n e = ap (order_of n) is ∙ call_others rule call before n e
