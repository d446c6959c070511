-- A statement of a list nests no deeper than the list.
use Rattle.std.proofs.Common.{◌≡◌, ◌<◌, ◌≤◌, ℕ, zero, suc, List, [], ◌∷◌, map, length, get_or, arith}
use Rattle.pgo_syntax.specs.Statement.{guarded, labeled, statements}
use Rattle.pgo_syntax.specs.StatementSize.{height, statements_height, labeled_height, guarded_height}
use Rattle.pgo_syntax.specs.StatementView.{branch_parts, labeled_pair, statement}
use Rattle.pgo_syntax.specs.declared.statement.Branch.{Branch}
use Rattle.pgo_syntax.specs.declared.statement.Labeled.{Labeled}
use Rattle.pgo_syntax.specs.declared.statement.Stmt.{Stmt}

pub one_low : (ts : List Stmt) (i : ℕ) (t : Stmt) → i < length ts → t ≡ get_or ts i t → height (statement t) ≤ statements_height (statements (map statement ts))
one_low [] i t h is = absurd (omega arith)
one_low (x ∷ ts) zero t h is = rw is (omega arith)
one_low (x ∷ ts) (suc i) t h is = omega (arith, one_low ts i t (omega arith) is)

pub branch_low : (bs : List Branch) (i : ℕ) (b : Branch) → i < length bs → b ≡ get_or bs i b → height (statement b.statement) ≤ guarded_height (guarded (map branch_parts bs))
branch_low [] i b h is = absurd (omega arith)
branch_low (x ∷ bs) zero b h is = rw is (omega arith)
branch_low (x ∷ bs) (suc i) b h is = omega (arith, branch_low bs i b (omega arith) is)

pub labeled_low : (ls : List Labeled) (i : ℕ) (l : Labeled) → i < length ls → l ≡ get_or ls i l → height (statement l.statement) ≤ labeled_height (labeled (map labeled_pair ls))
labeled_low [] i l h is = absurd (omega arith)
labeled_low (x ∷ ls) zero l h is = rw is (omega arith)
labeled_low (x ∷ ls) (suc i) l h is = omega (arith, labeled_low ls i l (omega arith) is)
