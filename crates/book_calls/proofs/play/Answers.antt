use Rattle.std.proofs.Common.{rules}
use Rattle.book_calls.proofs.Others.{touches_only_named}
use Rattle.book_calls.proofs.play.Goals as goal

pub returns-in-Put-clause-others : goal.returns-in-Put-clause-others
returns-in-Put-clause-others g c = touches_only_named (g.B.Book.rule c.args.book.now) c.args.call (g.B.Book.resting c.args.book.now) (g.B.Book.resting c.put.new.self) (search rules)

pub returns-in-Replace-clause-others : goal.returns-in-Replace-clause-others
returns-in-Replace-clause-others g c = touches_only_named (g.B.Book.rule c.args.book.now) c.args.call (g.B.Book.resting c.args.book.now) (g.B.Book.resting c.replace.new.self) (search rules)

pub returns-in-Cut-clause-others : goal.returns-in-Cut-clause-others
returns-in-Cut-clause-others g c = touches_only_named (g.B.Book.rule c.args.book.now) c.args.call (g.B.Book.resting c.args.book.now) (g.B.Book.resting c.cut.new.self) (search rules)
