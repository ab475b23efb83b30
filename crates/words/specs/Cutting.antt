-- Lines, words and numbers in a list of bytes. Assumes nothing.
use Rattle.std.specs.Prelude.{ℕ, ◌+◌, ◌-◌, ◌*◌, Bool, cond, ◌&&◌, ◌||◌, List, [], ◌∷◌, length, Some, None, Ok, Err, Option, Result, ◌==◌, nat_le}
use Rattle.std.specs.List.{slice_split, before_first}
use denote.Ref.{Bor}

-- the byte that ends a line
abbrev pub newline : ℕ → Bool
newline b = b == 10

-- '#', where a comment begins
abbrev pub hash : ℕ → Bool
hash b = b == 35

-- a space, a tab or a carriage return separates words
abbrev pub blank : ℕ → Bool
blank b = b == 32 || (b == 9 || b == 13)

-- the lines of a text; where it ends with a newline, an empty line follows, which says nothing
abbrev pub lines : List ℕ → List (List ℕ)
lines text = slice_split newline text

-- the lines of the text that is left, if any is
abbrev pub lines_left : Option (Bor (List ℕ)) → List (List ℕ)
lines_left None = []
lines_left (Some text) = lines text.now

-- the pieces that have a byte at least
abbrev pub without_empty : List (List ℕ) → List (List ℕ)
without_empty [] = []
without_empty ([] ∷ ts) = without_empty ts
without_empty ((b ∷ t) ∷ ts) = (b ∷ t) ∷ without_empty ts

-- the words of a line
abbrev pub words : List ℕ → List (List ℕ)
words line = without_empty (slice_split blank line)

-- a line without its comment
abbrev pub said : List ℕ → List ℕ
said line = before_first hash line

-- goes on where there is no fault
abbrev pub and_then : {A B E : Type 0} → Result A E → (A → Result B E) → Result B E
and_then (Ok x) next = next x
and_then (Err e) next = Err e

-- a value, where no word follows, or else this error
abbrev pub nothing_after : {A E : Type 0} → E → A → List (List ℕ) → Result A E
nothing_after extra x [] = Ok x
nothing_after extra x (w ∷ ws) = Err extra

-- '0' to '9'
abbrev pub digit : ℕ → Bool
digit b = nat_le 48 b && nat_le b 57

-- the number that digits spell, read on from `n`
abbrev pub read_on : ℕ → List ℕ → Option ℕ
read_on n [] = Some n
read_on n (b ∷ bs) = cond (digit b) (read_on (n * 10 + (b - 48)) bs) None

-- a number is one to eight digits
abbrev pub number_in : List ℕ → Option ℕ
number_in word = cond (nat_le 1 (length word) && nat_le (length word) 8) (read_on 0 word) None
