-- The plain text of a request is read back. Assumes nothing.
use Rattle.std.proofs.Common.{◌≡◌, ℕ, ◌+◌, ◌-◌, ◌*◌, ◌/◌, ◌%◌, ◌^◌, ◌<◌, ◌≤◌, Bool, true, false, ◌||◌, List, [], ◌∷◌, ◌++◌, length, Some, None, Ok, codes, decimal, Option, Result, sym, refl, ap, ◌∙◌, subst, inl, inr, mod-lt, one-add, arith}
use Rattle.std.specs.List.{flat_map, slice_split, onto_first, before_first}
use Rattle.std.specs.Str.{bytes_eq}
use Rattle.std.proofs.lemmas.List.{append-nil, append_assoc, length_push}
use Rattle.std.proofs.lemmas.Slice.Eq.{bytes_eq-Decides}
use Rattle.std.proofs.lemmas.Fmt.{decimal_by_steps, decimal_nonempty, length-decimal-le}
use Rattle.std.proofs.lemmas.Bool.{cond-true, cond-false, and_from, ne_eqb, or_from, cases_Bool, le-leb, lt-ltb, or_parts}
use Rattle.words.specs.Cutting.{and_then, newline, hash, blank, without_empty, lines, words, said, nothing_after, digit, read_on, number_in}
use Rattle.order_text.specs.Asking.{Asked, nothing_asked, entry, with_saying, at_line, with_line, with_lines, read_text, Gives}
use Rattle.order_text.specs.Meaning.{as_shares, shares_in, as_price, price_in, kind_in, kind_line, trade_line, line_says}
use Rattle.order_text.specs.Listing.{side_word, kind_word, order_words, order_line, close_words, close_text, Legal, LegalKind, Good, AllGood, LegalClose, ReadsBack}
use Rattle.order_text.specs.declared.reading.ReadError.{ReadError}
use Rattle.order_text.specs.declared.reading.Request.{Request}
use Rattle.order_text.specs.declared.Saying.TheVariants.{Close, Trade}
use Rattle.order_text.specs.declared.faults.Fault.TheVariants.{WordTooMany}
use Rattle.order.specs.declared.Kind.{Kind}
use Rattle.order.specs.declared.Kind.TheVariants.{AtAuction, Limit}
use Rattle.order.specs.declared.Order.{Order}
use Rattle.order.specs.declared.Side.{Side}
use Rattle.order.specs.declared.Side.TheVariants.{Buy, Sell}

digit_yes : (b : ℕ) → 48 ≤ b → b ≤ 57 → digit b ≡ true
digit_yes b low high = and_from _ _ (le-leb 48 b low) (le-leb b 57 high)

-- one digit more at the end
read_push : (k m b : ℕ) (ds : List ℕ) → digit b ≡ true → read_on k ds ≡ Some m → read_on k (ds ++ (b ∷ [])) ≡ Some (m * 10 + (b - 48))
read_push k m b [] d e = let same : k ≡ m = grind arith in cond-true _ _ _ d ∙ ap (λ x. Some (x * 10 + (b - 48))) same
read_push k m b (c ∷ ds) d e =
    elim (cases_Bool (digit c)) [
      | inl t ↦ cond-true _ _ _ t ∙ read_push (k * 10 + (c - 48)) m b ds d (sym (cond-true _ _ _ t) ∙ e)
      | inr f ↦ let none : None ≡ Some m = sym (cond-false _ _ _ f) ∙ e in absurd (grind arith)
    ]

read_decimal : (n : ℕ) → n < 2 ^ 64 → read_on 0 (decimal n) ≡ Some n
read_decimal =
    decimal_by_steps (λ n ds. read_on 0 ds ≡ Some n)
    (λ n h. cond-true _ _ _ (digit_yes (48 + n) (omega arith) (omega arith)) ∙ ap Some (omega arith))
    (λ n ds h e.
    let low : n % 10 < 10 = mod-lt n (omega arith) in
    read_push 0 (n / 10) (48 + n % 10) ds (digit_yes (48 + n % 10) (omega arith) (omega arith)) e ∙ ap Some (omega arith))

number_decimal : (n : ℕ) → n < 100000000 → number_in (decimal n) ≡ Some n
number_decimal n h =
    let small : n < 2 ^ 64 = omega arith in
    cond-true _ _ _ (and_from _ _ (le-leb 1 (length (decimal n)) (omega (arith, decimal_nonempty n small))) (le-leb (length (decimal n)) 8 (length-decimal-le 8 n (omega arith) h small))) ∙ read_decimal n small

-- no byte of the list passes the test
abbrev Free : (ℕ → Bool) → List ℕ → Type 0
Free p [] = Unit {0}
Free p (b ∷ bs) = (p b ≡ false) × Free p bs

module _ (p : ℕ → Bool) where
  free_append : (xs ys : List ℕ) → Free p xs → Free p ys → Free p (xs ++ ys)
  free_append [] ys f g = g
  free_append (x ∷ xs) ys f g = (f.0, free_append xs ys f.1 g)

  pieces_one : (xs : List ℕ) → Free p xs → slice_split p xs ≡ xs ∷ []
  pieces_one [] f = refl
  pieces_one (x ∷ xs) f = cond-false _ _ _ f.0 ∙ ap (onto_first x) (pieces_one xs f.1)

  pieces_more : (xs ys : List ℕ) (s : ℕ) → Free p xs → p s ≡ true → slice_split p (xs ++ (s ∷ ys)) ≡ xs ∷ slice_split p ys
  pieces_more [] ys s f t = cond-true _ _ _ t
  pieces_more (x ∷ xs) ys s f t = cond-false _ _ _ f.0 ∙ ap (onto_first x) (pieces_more xs ys s f.1 t)

  front_free : (xs : List ℕ) → Free p xs → before_first p xs ≡ xs
  front_free [] f = refl
  front_free (x ∷ xs) f = rw f.0 (rw one-add (ap (λ l. x ∷ l) (front_free xs f.1)))

keeps : (w : List ℕ) (ts : List (List ℕ)) → 0 < length w → without_empty (w ∷ ts) ≡ w ∷ without_empty ts
keeps [] ts h = absurd (omega arith)
keeps (b ∷ w) ts h = refl

-- a word of plain bytes, which end no line or word and begin no comment
pub record Plain (w : List ℕ) : Type 0 where
  pub in_line : Free newline w
  pub in_text : Free hash w
  pub in_word : Free blank w
  pub long : 0 < length w

two_words : (u v : List ℕ) → Plain u → Plain v → words (u ++ (32 ∷ v)) ≡ u ∷ v ∷ []
two_words u v pu pv =
    let cut : slice_split blank (u ++ (32 ∷ v)) ≡ u ∷ v ∷ [] = pieces_more blank u v 32 pu.in_word refl ∙ ap (λ ts. u ∷ ts) (pieces_one blank v pv.in_word) in
    ap without_empty cut ∙ keeps u (v ∷ []) pu.long ∙ ap (λ ts. u ∷ ts) (keeps v [] pv.long)

three_words : (u v w : List ℕ) → Plain u → Plain v → Plain w → words (u ++ (32 ∷ (v ++ (32 ∷ w)))) ≡ u ∷ v ∷ w ∷ []
three_words u v w pu pv pw =
    let cut : slice_split blank (u ++ (32 ∷ (v ++ (32 ∷ w)))) ≡ u ∷ v ∷ w ∷ [] =
    pieces_more blank u (v ++ (32 ∷ w)) 32 pu.in_word refl
    ∙ ap (λ ts. u ∷ ts) (pieces_more blank v w 32 pv.in_word refl ∙ ap (λ ts. v ∷ ts) (pieces_one blank w pw.in_word)) in
    ap without_empty cut ∙ keeps u (v ∷ w ∷ []) pu.long ∙ ap (λ ts. u ∷ ts) (keeps v (w ∷ []) pv.long ∙ ap (λ ts. v ∷ ts) (keeps w [] pw.long))

free_three : (p : ℕ → Bool) (u v w : List ℕ) → p 32 ≡ false → Free p u → Free p v → Free p w → Free p (u ++ (32 ∷ (v ++ (32 ∷ w))))
free_three p u v w e fu fv fw = free_append p u (32 ∷ (v ++ (32 ∷ w))) fu (e, free_append p v (32 ∷ w) fv (e, fw))

-- the bytes of a number are plain
module _ (p : ℕ → Bool) (digits : (d : ℕ) → d < 10 → p (48 + d) ≡ false) where
  free_decimal : (n : ℕ) → n < 2 ^ 64 → Free p (decimal n)
  free_decimal =
      decimal_by_steps (λ n ds. Free p ds) (λ n h. (digits n h, tt)) (λ n ds h f. free_append p ds ((48 + n % 10) ∷ []) f (digits (n % 10) (mod-lt n (omega arith)), tt))

plain_decimal : (n : ℕ) → n < 2 ^ 64 → Plain (decimal n)
plain_decimal n h = record {
  in_line = free_decimal newline (λ d l. ne_eqb (48 + d) 10 (λ e. omega arith)) n h;
  in_text = free_decimal hash (λ d l. ne_eqb (48 + d) 35 (λ e. omega arith)) n h;
  in_word = free_decimal blank (λ d l. or_from _ _ (ne_eqb (48 + d) 32 (λ e. omega arith)) (or_from _ _ (ne_eqb (48 + d) 9 (λ e. omega arith)) (ne_eqb (48 + d) 13 (λ e. omega arith)))) n h;
  long = decimal_nonempty n h;
}

-- the bytes of a word that is written out
abbrev any : (ℕ → Bool) → List ℕ → Bool
any p [] = false
any p (b ∷ bs) = p b || any p bs

free_text : (p : ℕ → Bool) (w : List ℕ) → any p w ≡ false → Free p w
free_text p [] e = tt
free_text p (b ∷ w) e = let parts = or_parts (p b) (any p w) e in (parts.0, free_text p w parts.1)

plain_text : (w : List ℕ) → any newline w ≡ false → any hash w ≡ false → any blank w ≡ false → 0 < length w → Plain w
plain_text w l t b long = record { in_line = free_text newline w l; in_text = free_text hash w t; in_word = free_text blank w b; long = long }

plain_side : (side : Side) → Plain (side_word side)
plain_side Buy = plain_text (codes "buy") refl refl refl (omega arith)
plain_side Sell = plain_text (codes "sell") refl refl refl (omega arith)

shares_decimal : (n : ℕ) → 1 ≤ n → n ≤ 30000000 → shares_in (decimal n) ≡ Ok n
shares_decimal n some most = ap as_shares (number_decimal n (omega arith)) ∙ cond-true _ _ _ (and_from _ _ (le-leb 1 n some) (le-leb n 30000000 most))

module _ (prices : List ℕ) where
  plain_kind : (kind : Kind) → LegalKind prices kind → Plain (kind_word kind)
  plain_kind AtAuction h = plain_text (codes "at-auction") refl refl refl (omega arith)
  plain_kind (Limit price) h = plain_decimal price (omega (arith, h.0))

  price_back : (price : ℕ) → Legal prices price → price_in prices (decimal price) ≡ Ok price
  price_back price h = ap (as_price prices) (number_decimal price h.0) ∙ cond-true _ _ _ h.1

  -- a number is not `at-auction`
  other_word : (price : ℕ) → price < 100000000 → bytes_eq (decimal price) (codes "at-auction") ≡ false
  other_word price h =
      elim (cases_Bool (bytes_eq (decimal price) (codes "at-auction"))) [
        | inl t ↦
            let none : None ≡ Some price = sym (ap number_in ((bytes_eq-Decides (decimal price) (codes "at-auction")).0 t)) ∙ number_decimal price h in
            absurd (grind arith)
        | inr f ↦ f
      ]

  kind_back : (kind : Kind) → LegalKind prices kind → kind_in prices (kind_word kind) ≡ Ok kind
  kind_back AtAuction h = refl
  kind_back (Limit price) h =
      cond-false _ _ _ (other_word price h.0)
      ∙ ap (λ r. and_then r (λ p. Ok (Limit p))) (price_back price h)

  line_back : (side : Side) (shares : ℕ) (kind : Kind) → 1 ≤ shares → shares ≤ 30000000 → LegalKind prices kind → line_says prices (side_word side ∷ decimal shares ∷ kind_word kind ∷ []) ≡ Ok (Trade side shares kind)
  line_back side shares kind some most h = begins side ∙ ap (λ r. and_then r (λ n. kind_line prices side n (kind_word kind ∷ []))) (shares_decimal shares some most) ∙ ap (λ r. and_then r (λ k. nothing_after WordTooMany (Trade side shares k) [])) (kind_back kind h)
    where
      begins : (side : Side) → line_says prices (side_word side ∷ decimal shares ∷ kind_word kind ∷ []) ≡ trade_line prices side (decimal shares ∷ kind_word kind ∷ [])
      begins Buy = refl
      begins Sell = refl

  -- an order as it is entered after these
  entered : (orders : List Order) (o : Order) → Good prices (length orders + 1) o → o ≡ entry orders o.side o.shares o.kind
  entered orders o good i = record { number = good.number i; broker = good.broker i; side = o.side; kind = o.kind; shares = o.shares }

  words_back : (n : ℕ) (o : Order) → Good prices n o → words (said (order_words o)) ≡ side_word o.side ∷ decimal o.shares ∷ kind_word o.kind ∷ []
  words_back n o good =
      let u = plain_side o.side in
      let v = plain_decimal o.shares (omega (arith, good.most)) in
      let w = plain_kind o.kind good.price in
      ap words (front_free hash (order_words o) (free_three hash _ _ _ refl u.in_text v.in_text w.in_text)) ∙ three_words _ _ _ u v w

  one_line : (n : ℕ) (o : Order) → Good prices n o → Free newline (order_words o)
  one_line n o good =
      free_three newline _ _ _ refl (plain_side o.side).in_line (plain_decimal o.shares (omega (arith, good.most))).in_line (plain_kind o.kind good.price).in_line

  order_back : (n : ℕ) (a : Asked) (o : Order) → Good prices (length a.orders + 1) o → with_line prices n a (order_words o) ≡ Ok (record { orders = a.orders ++ (o ∷ []); close = a.close })
  order_back n a o good =
      ap (λ r. at_line n (and_then r (with_saying a))) (ap (line_says prices) (words_back _ o good) ∙ line_back o.side o.shares o.kind good.some good.most good.price)
      ∙ ap (at_line n) (cond-true _ _ _ (lt-ltb (length a.orders) 512 (omega (arith, good.room))))
      ∙ ap (λ x. Ok (record { orders = a.orders ++ (x ∷ []); close = a.close })) (sym (entered a.orders o good))

  orders_back : (n : ℕ) (a : Asked) (os : List Order) → AllGood prices (length a.orders + 1) os → with_lines prices n a (lines (flat_map order_line os)) ≡ Ok (record { orders = a.orders ++ os; close = a.close })
  orders_back n a [] good = ap (λ l. Ok (record { orders = l; close = a.close })) (sym (append-nil a.orders))
  orders_back n a (o ∷ os) good =
      let b : Asked = record { orders = a.orders ++ (o ∷ []); close = a.close } in
      let rest = flat_map order_line os in
      let cut : lines (order_line o ++ rest) ≡ order_words o ∷ lines rest = ap lines (append_assoc (order_words o) (10 ∷ []) rest) ∙ pieces_more newline (order_words o) rest 10 (one_line _ o good.0) refl in
      let next = subst (λ k. AllGood prices k os) (ap (λ k. k + 1) (sym (length_push a.orders o))) good.1 in
      ap (with_lines prices n a) cut ∙ ap (λ r. and_then r (λ x. with_lines prices (n + 1) x (lines rest))) (order_back n a o good.0)
      ∙ orders_back (n + 1) b os next ∙ ap (λ l. Ok (record { orders = l; close = a.close })) (append_assoc a.orders (o ∷ []) os)

  plain_close : Plain (codes "close")
  plain_close = plain_text (codes "close") refl refl refl (omega arith)

  close_back : (price : ℕ) → Legal prices price → with_line prices 1 nothing_asked (close_words price) ≡ Ok (record { orders = []; close = Some price })
  close_back price h =
      let v = plain_decimal price (omega (arith, h.0)) in
      let whole = front_free hash (close_words price) (free_append hash (codes "close") (32 ∷ decimal price) plain_close.in_text (refl, v.in_text)) in
      let says = ap (line_says prices) (ap words whole ∙ two_words (codes "close") (decimal price) plain_close v) ∙ ap (λ r. and_then r (λ p. nothing_after WordTooMany (Close p) [])) (price_back price h) in
      ap (λ r. at_line 1 (and_then r (with_saying nothing_asked))) says

  asked_back : (close : Option ℕ) (os : List Order) → AllGood prices 1 os → LegalClose prices close → read_text prices (close_text close ++ flat_map order_line os) ≡ Ok (record { orders = os; close = close })
  asked_back None os good legal = orders_back 1 nothing_asked os good
  asked_back (Some price) os good legal =
      let rest = flat_map order_line os in
      let v = plain_decimal price (omega (arith, legal.0)) in
      let free = free_append newline (codes "close") (32 ∷ decimal price) plain_close.in_line (refl, v.in_line) in
      let cut : lines (close_text (Some price) ++ rest) ≡ close_words price ∷ lines rest = ap lines (append_assoc (close_words price) (10 ∷ []) rest) ∙ pieces_more newline (close_words price) rest 10 free refl in
      ap (with_lines prices 1 nothing_asked) cut ∙ ap (λ r. and_then r (λ x. with_lines prices 2 x (lines rest))) (close_back price legal)
      ∙ orders_back 2 (record { orders = []; close = Some price }) os good

  -- the plain text of what can be asked for is read as just that
  pub reads_back : (text : List ℕ) (r : Result Request ReadError) → Gives (read_text prices text) r → ReadsBack prices text r
  reads_back text r given a proper is = subst (λ s. Gives s r) (ap (read_text prices) is ∙ asked_back a.close a.orders proper.orders proper.close) given
