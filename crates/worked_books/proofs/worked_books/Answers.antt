use Rattle.std.proofs.Common.{rules}
use Rattle.std.proofs.lemmas.List.Elements.{All-from_recursion}
use Rattle.worked_books.specs.Table.{Opens, worked_books}
use Rattle.worked_books.proofs.worked_books.Goals as goal

-- each book's price by computing it
pub returns-clause-open : goal.returns-clause-open
returns-clause-open c = All-from_recursion Opens worked_books (search rules)
