-- Why a book refuses, in the order in which it looks. Assumes nothing.
use Rattle.std.specs.Prelude.{◌≡◌, ℕ, Bool, cond, not, ◌||◌, List, ◌++◌, is_some, Some, None, Option, Result, MatchResult, ◌==◌, nat_lt, codes}
use Rattle.std.specs.Fmt.{decimal}
use Rattle.order.specs.declared.Order.{Order}
use Rattle.book.specs.declared.BookRefusal.{BookRefusal}
use Rattle.book.specs.declared.BookRefusal.TheVariants.{NumberNotAbove, NoShares, NoPlace, NotResting, BadCut}

-- the number of a refusal: B1 to B5
abbrev pub refusal_number : BookRefusal → ℕ
refusal_number NumberNotAbove = 1
refusal_number NoShares = 2
refusal_number NoPlace = 3
refusal_number NotResting = 4
refusal_number BadCut = 5

-- how it is written
abbrev pub refusal_text : BookRefusal → List ℕ
refusal_text refusal = codes "B" ++ decimal (refusal_number refusal)

-- one check: where it applies it refuses, else the later ones are looked at
abbrev pub refused_if : Bool → BookRefusal → Option BookRefusal → Option BookRefusal
refused_if applies refusal later = cond applies (Some refusal) later

-- what putting looks at: is the number above all, how many shares, how many places
abbrev pub put_checks : Bool → ℕ → ℕ → Option BookRefusal
put_checks above shares places =
    refused_if (not above) NumberNotAbove
    (refused_if (shares == 0) NoShares
    (refused_if (places == 0) NoPlace
    None))

-- what replacing looks at: is the new number above all, how many new shares, does the old number rest
abbrev pub replace_checks : {X : Type 0} → Bool → ℕ → Option X → Option BookRefusal
replace_checks above shares old =
    refused_if (not above) NumberNotAbove
    (refused_if (shares == 0) NoShares
    (refused_if (not (is_some old)) NotResting
    None))

-- what cutting looks at: does the number rest, are the shares from 1 to those left
abbrev pub cut_checks : Option Order → ℕ → Option BookRefusal
cut_checks None shares = Some NotResting
cut_checks (Some o) shares = refused_if (shares == 0 || nat_lt o.shares shares) BadCut None

-- checks of what was found, and their result: what was found where nothing refuses, and else the refusal
abbrev pub ChecksFound : {X : Type 0} → Option BookRefusal → Option X → Result X BookRefusal → Type 0
ChecksFound refusal found result = MatchResult result (λ x. (refusal ≡ None) × (found ≡ Some x)) (λ why. refusal ≡ Some why)
