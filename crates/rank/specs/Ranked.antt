-- What a rank is, and the first of a list by rank. Assumes nothing.
use Rattle.std.specs.Prelude.{◌≡◌, ℕ, Bool, true, false, cond, List, Some, None, fold, Option, Contains, MatchOption}

-- The laws of a rank. `key` lists all that the rank compares.
pub record Lawful {X : Type 0} (ahead : X → X → Bool) (key : X → List ℕ) : Type 0 where
  -- never both ahead of each other
  pub one_way : (a b : X) → ahead a b ≡ true → ahead b a ≡ false
  -- who is ahead of one that is ahead of a third is ahead of the third
  pub chains : (a b c : X) → ahead a b ≡ true → ahead b c ≡ true → ahead a c ≡ true
  -- where neither is ahead, all that is compared is equal
  pub tied : (a b : X) → ahead a b ≡ false → ahead b a ≡ false → key a ≡ key b
  -- where all that is compared is equal, neither is ahead
  pub level : (a b : X) → key a ≡ key b → ahead a b ≡ false

-- none in the list counts
abbrev pub NoneCounts : {X : Type 0} → (X → Bool) → List X → Type 0
NoneCounts {X} counts xs = (x : X) → Contains xs x → counts x ≡ false

module _ {X : Type 0} (counts : X → Bool) (ahead : X → X → Bool) where
  -- the better of the best so far and one thing more
  abbrev pub better : Option X → X → Option X
  better None x = cond (counts x) (Some x) None
  better (Some b) x = cond (counts x) (cond (ahead x b) (Some x) (Some b)) (Some b)

  -- the first by rank of those in the list that count
  abbrev pub first_of : List X → Option X
  first_of xs = fold better None xs

  -- `b` is of the list and counts, and nothing in the list that counts is ahead of it
  pub record Leads (xs : List X) (b : X) : Type 0 where
    pub listed : Contains xs b
    pub counted : counts b ≡ true
    pub unbeaten : (x : X) → Contains xs x → counts x ≡ true → ahead x b ≡ false

  -- what the first of a list is: nobody where none counts, else one that leads
  abbrev pub IsFirst : List X → Option X → Type 0
  IsFirst xs r = MatchOption r (NoneCounts counts xs) (Leads xs)
