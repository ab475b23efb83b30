-- The price rank keeps the laws of a rank, by any distance. It stands here, and not among the proofs, since a rank hands
-- out its own proof of its laws. Assumes nothing.
use Rattle.std.specs.Prelude.{◌≡◌, ℕ, ◌≤◌, Bool, true, false, ◌&&◌, ◌||◌, [], ◌∷◌, ◌==◌, nat_lt}
use Rattle.std.proofs.Common.{sym, ap, ◌∙◌, arith}
use Rattle.std.proofs.lemmas.Bool.Decides.{nat_tests}
use Rattle.rank.specs.Ranked.{Lawful}
use Rattle.price_rows.specs.declared.PriceRow.{PriceRow}
use Rattle.auction.specs.declared.ThirdRule.{ThirdRule}
use Rattle.auction.specs.declared.ThirdRule.TheVariants.{DemandExceeds, SupplyExceeds, ClosestTo, NoClosingPrice}
use Rattle.price_rows.specs.Amounts.{matched_in, surplus_in}
use Rattle.auction.specs.Rules.{preferred, wins_third, row_ahead, row_key}

-- what it says that one is not ahead of another by three tests one after the other
pub behind : (m n s t : ℕ) (w : Bool) → (nat_lt n m || (m == n && (nat_lt s t || (s == t && w)))) ≡ false → (m ≤ n) × (m ≡ n → t ≤ s) × (m ≡ n → s ≡ t → w ≡ false)
behind m n s t w e = (grind (arith, nat_tests), grind (arith, nat_tests), grind (arith, nat_tests))

-- two prices neither of which is preferred are one
pub same_price : (distance : ℕ → ℕ → ℕ) (third : ThirdRule) (p q : ℕ) → preferred distance third p q ≡ false → preferred distance third q p ≡ false → p ≡ q
same_price distance DemandExceeds p q e f = grind (arith, nat_tests)
same_price distance SupplyExceeds p q e f = grind (arith, nat_tests)
same_price distance (ClosestTo close) p q e f = grind (arith, nat_tests)
same_price distance NoClosingPrice p q e f = grind (arith, nat_tests)

-- more of the first number, else less of the second, else a third test
abbrev lex : ℕ → ℕ → ℕ → ℕ → Bool → Bool
lex m n s t w = nat_lt n m || (m == n && (nat_lt s t || (s == t && w)))

lex_one_way : (m n s t : ℕ) (v w : Bool) → (v ≡ true → w ≡ false) → lex m n s t v ≡ true → lex n m t s w ≡ false
lex_one_way m n s t v w third e = grind (arith, nat_tests)

lex_chains : (m n o s t u : ℕ) (v w x : Bool) → (v ≡ true → w ≡ true → x ≡ true) → lex m n s t v ≡ true → lex n o t u w ≡ true → lex m o s u x ≡ true
lex_chains m n o s t u v w x third e f = grind (arith, nat_tests)

lex_level : (m n s t : ℕ) (w : Bool) → m ≡ n → s ≡ t → w ≡ false → lex m n s t w ≡ false
lex_level m n s t w e f g = grind (arith, nat_tests)

module _ (distance : ℕ → ℕ → ℕ) where
  prefers_one_way : (third : ThirdRule) (p q : ℕ) → preferred distance third p q ≡ true → preferred distance third q p ≡ false
  prefers_one_way DemandExceeds p q e = grind (arith, nat_tests)
  prefers_one_way SupplyExceeds p q e = grind (arith, nat_tests)
  prefers_one_way (ClosestTo close) p q e = grind (arith, nat_tests)
  prefers_one_way NoClosingPrice p q e = grind (arith, nat_tests)

  prefers_chains : (third : ThirdRule) (p q r : ℕ) → preferred distance third p q ≡ true → preferred distance third q r ≡ true → preferred distance third p r ≡ true
  prefers_chains DemandExceeds p q r e f = grind (arith, nat_tests)
  prefers_chains SupplyExceeds p q r e f = grind (arith, nat_tests)
  prefers_chains (ClosestTo close) p q r e f = grind (arith, nat_tests)
  prefers_chains NoClosingPrice p q r e f = grind (arith, nat_tests)

  prefers_level : (third : ThirdRule) (p : ℕ) → preferred distance third p p ≡ false
  prefers_level DemandExceeds p = grind (arith, nat_tests)
  prefers_level SupplyExceeds p = grind (arith, nat_tests)
  prefers_level (ClosestTo close) p = grind (arith, nat_tests)
  prefers_level NoClosingPrice p = grind (arith, nat_tests)

  module _ (third : ThirdRule) where
    tied : (a b : PriceRow) → row_ahead distance third a b ≡ false → row_ahead distance third b a ≡ false → row_key a ≡ row_key b
    tied a b e f =
        let ab = behind (matched_in a) (matched_in b) (surplus_in a) (surplus_in b) (wins_third distance third a b) e in
        let ba = behind (matched_in b) (matched_in a) (surplus_in b) (surplus_in a) (wins_third distance third b a) f in
        let m : matched_in a ≡ matched_in b = omega (arith, ab.0, ba.0) in
        let s : surplus_in a ≡ surplus_in b = omega (arith, ab.1 m, ba.1 (sym m)) in
        let p = same_price distance third a.price b.price (ab.2 m s) (ba.2 (sym m) (sym s)) in
        λ i. m i ∷ s i ∷ p i ∷ []

    level : (a b : PriceRow) → row_key a ≡ row_key b → row_ahead distance third a b ≡ false
    level a b e =
        let m : matched_in a ≡ matched_in b = cc in
        let s : surplus_in a ≡ surplus_in b = cc in
        let p : a.price ≡ b.price = cc in
        lex_level (matched_in a) (matched_in b) (surplus_in a) (surplus_in b) (wins_third distance third a b) m s
        (ap (λ q. preferred distance third q b.price) p ∙ prefers_level third b.price)

    pub price_lawful : Lawful (row_ahead distance third) row_key
    price_lawful = record {
      one_way = λ a b e. lex_one_way (matched_in a) (matched_in b) (surplus_in a) (surplus_in b) (wins_third distance third a b) (wins_third distance third b a) (prefers_one_way third a.price b.price) e;
      chains = λ a b c e f. lex_chains (matched_in a) (matched_in b) (matched_in c) (surplus_in a) (surplus_in b) (surplus_in c) (wins_third distance third a b) (wins_third distance third b c) (wins_third distance third a c) (prefers_chains third a.price b.price c.price) e f;
      tied = tied;
      level = level;
    }
