-- A statement as it lies in memory, as what it stands for.
use Rattle.std.specs.Prelude.{ℕ, Option}
use Rattle.pgo_base.specs.Tree.{Tree}
use Rattle.pgo_syntax.specs.declared.name.PlacedName.{PlacedName}
use Rattle.pgo_syntax.specs.declared.statement.Stmt.{Stmt}
use Rattle.pgo_syntax.specs.declared.statement.Stmt.TheVariants as stmts
use Rattle.pgo_syntax.specs.declared.statement.Labeled.{Labeled}
use Rattle.pgo_syntax.specs.declared.statement.Branch.{Branch}
use Rattle.pgo_syntax.specs.Statement.{Statement, skip, assign, if_then, if_else, while_do, either_of, await_that, with_in, print_out, assert_that, go_to, call_macro, yield_as, block, statements, labeled, guarded}

abbrev pub statement : Stmt → Statement
statement (stmts.Skip p) = skip p
statement (stmts.Assign p x) = assign p x
statement (stmts.If p x) = if_then p (guarded x)
statement (stmts.IfElse p x y) = if_else p (guarded x) y
statement (stmts.While p x y) = while_do p x y
statement (stmts.Either p x) = either_of p (statements x)
statement (stmts.Await p x) = await_that p x
statement (stmts.With p x y) = with_in p x y
statement (stmts.Print p x) = print_out p x
statement (stmts.Assert p x) = assert_that p x
statement (stmts.Goto p x) = go_to p x
statement (stmts.Call p x y) = call_macro p x y
statement (stmts.Yield p x) = yield_as p x
statement (stmts.Block p x) = block p (labeled x)

abbrev pub labeled_pair : Labeled → Option PlacedName × Statement
labeled_pair l = (l.label, statement l.statement)

abbrev pub branch_parts : Branch → ℕ × (Tree × Statement)
branch_parts b = (b.place, (b.condition, statement b.statement))
