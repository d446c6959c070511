-- A statement in a list is less deep than the list.
use Rattle.std.specs.Prelude.{◌≤◌, max, List, [], ◌∷◌, map}
use Rattle.std.proofs.Common.{arith}
use denote.Param.Weighed.{most}
use Rattle.pgo_syntax.specs.declared.statement.Stmt.{Stmt}
use Rattle.pgo_syntax.specs.declared.statement.Stmt.TheVariants as stmts
use Rattle.pgo_syntax.specs.declared.statement.Labeled.{Labeled}
use Rattle.pgo_syntax.specs.declared.statement.Branch.{Branch}
use Rattle.pgo_syntax.specs.declared.statement.Alternatives.TheDeep.{deep-Stmt, deep-Labeled, deep-Branch}
use Rattle.pgo_syntax.specs.Statement.{statements, labeled, guarded}
use Rattle.pgo_syntax.specs.StatementSize.{height, statements_height, labeled_height, guarded_height}
use Rattle.pgo_syntax.specs.StatementView.{statement, labeled_pair, branch_parts}

deep_le-height : (s : Stmt) → deep-Stmt s ≤ height (statement s)
deep_le-height (stmts.Skip p) = omega (arith)
deep_le-height (stmts.Assign p x) = omega (arith)
deep_le-height (stmts.If p x) = omega (arith)
deep_le-height (stmts.IfElse p x y) = omega (arith)
deep_le-height (stmts.While p x y) = omega (arith)
deep_le-height (stmts.Either p x) = omega (arith)
deep_le-height (stmts.Await p x) = omega (arith)
deep_le-height (stmts.With p x y) = omega (arith)
deep_le-height (stmts.Print p x) = omega (arith)
deep_le-height (stmts.Assert p x) = omega (arith)
deep_le-height (stmts.Goto p x) = omega (arith)
deep_le-height (stmts.Call p x y) = omega (arith)
deep_le-height (stmts.Yield p x) = omega (arith)
deep_le-height (stmts.Block p x) = omega (arith)

pub nested_falls : (s : Stmt) → max (deep-Stmt s) 0 ≤ height (statement s)
nested_falls s = omega (arith, deep_le-height s)

pub statements_fall : (ss : List Stmt) → max (most (λ s. deep-Stmt s) ss) 0 ≤ statements_height (statements (map statement ss))
statements_fall [] = omega arith
statements_fall (s ∷ ss) = omega (arith, statements_fall ss, deep_le-height s)

deep_le-labeled : (l : Labeled) → deep-Labeled l ≤ height (statement l.statement)
deep_le-labeled l = let h : max (deep-Stmt l.statement) 0 ≤ height (statement l.statement) = omega (arith, deep_le-height l.statement) in h

pub labeled_fall : (ls : List Labeled) → max (most (λ l. deep-Labeled l) ls) 0 ≤ labeled_height (labeled (map labeled_pair ls))
labeled_fall [] = omega arith
labeled_fall (l ∷ ls) = omega (arith, labeled_fall ls, deep_le-labeled l)

deep_le-branch : (b : Branch) → deep-Branch b ≤ height (statement b.statement)
deep_le-branch b = let h : max (deep-Stmt b.statement) 0 ≤ height (statement b.statement) = omega (arith, deep_le-height b.statement) in h

pub guarded_fall : (bs : List Branch) → max (most (λ b. deep-Branch b) bs) 0 ≤ guarded_height (guarded (map branch_parts bs))
guarded_fall [] = omega arith
guarded_fall (b ∷ bs) = omega (arith, guarded_fall bs, deep_le-branch b)
