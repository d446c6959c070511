-- How names stand in a statement.
use Rattle.std.proofs.Common.{◌≡◌, Bool, true, false, List, [], ◌∷◌, Option, Some, None}
use Rattle.pgo_base.specs.Lookup.{Name}
use Rattle.pgo_base.specs.Tree.{Tree}
use Rattle.pgo_syntax.specs.declared.assignment.Assignment.{Assignment}
use Rattle.pgo_syntax.specs.declared.assignment.Step.{Step}
use Rattle.pgo_syntax.specs.declared.assignment.Step.TheVariants as step
use Rattle.pgo_syntax.specs.declared.binding.WithName.{WithName}
use Rattle.pgo_syntax.specs.declared.name.PlacedName.{PlacedName}
use Rattle.pgo_syntax.specs.Statement.{Statement, skip, assign, if_then, if_else, while_do, either_of, await_that, with_in, print_out, assert_that, go_to, call_macro, yield_as, block, Statements, no_statements, more_statements, LabeledStatements, no_labeled, more_labeled, GuardedStatements, no_guarded, more_guarded}
use Rattle.pgo_uses.specs.StatementUses.{shape_of, origin_tree}
use Rattle.pgo_uses.specs.declared.uses.Shape.{Shape}
use Rattle.pgo_agrees.proofs.Stands.{Stands}

-- the names of a `with` in scope, the newest first
abbrev pub in_with : List Name → List WithName → List Name
in_with ns [] = ns
in_with ns (w ∷ ws) = in_with (w.name.name ∷ ns) ws

-- where labels may stand
abbrev pub MayLabel : Bool → Option PlacedName → Type 0
MayLabel l None = Unit {0}
MayLabel l (Some x) = l ≡ true

-- Where the names of a `with` in scope are given: N says which names may stand alone, C which may be applied, B which may be bound, W
-- which a `with` binds, A which may be assigned and with what path, M which calls there are, and Y whether a `yield` may stand.
module _ (N : List Name → Bool → Bool → Name → Type 0) (C B W : Name → Type 0) (A : List Name → Shape → Name → Type 0) (M : List Name → PlacedName → List Tree → Type 0) (Y : Type 0) where
  abbrev pub Expr : List Name → Tree → Type 0
  Expr ns e = Stands (N ns) C B [] false false e

  abbrev pub PathFine : List Name → List Step → Type 0
  PathFine ns [] = Unit {0}
  PathFine ns (step.Index e ∷ ss) = Expr ns e × PathFine ns ss
  PathFine ns (step.Field x ∷ ss) = PathFine ns ss

  abbrev pub AssignsFine : List Name → List Assignment → Type 0
  AssignsFine ns [] = Unit {0}
  AssignsFine ns (a ∷ as') =
      A ns (shape_of a.left.path) a.left.name.name × PathFine ns a.left.path × Expr ns a.right × AssignsFine ns as'

  abbrev pub WithsFine : List Name → List WithName → Type 0
  WithsFine ns [] = Unit {0}
  WithsFine ns (w ∷ ws) = W w.name.name × Expr ns (origin_tree w.origin) × WithsFine (w.name.name ∷ ns) ws

  abbrev mutual
    pub Fine : Bool → List Name → Statement → Type 0
    Fine l ns (skip p) = Unit {0}
    Fine l ns (assign p as') = AssignsFine ns as'
    Fine l ns (if_then p bs) = GuardedFine l ns bs
    Fine l ns (if_else p bs s) = GuardedFine l ns bs × Fine l ns s
    Fine l ns (while_do p e s) = Expr ns e × Fine l ns s
    Fine l ns (either_of p ss) = EachFine l ns ss
    Fine l ns (await_that p e) = Expr ns e
    Fine l ns (with_in p ws s) = WithsFine ns ws × Fine false (in_with ns ws) s
    Fine l ns (print_out p e) = Expr ns e
    Fine l ns (assert_that p e) = Expr ns e
    Fine l ns (go_to p x) = Unit {0}
    Fine l ns (call_macro p m ts) = M ns m ts
    Fine l ns (yield_as p e) = Y × Expr ns e
    Fine l ns (block p ls) = LabeledFine l ns ls

    pub EachFine : Bool → List Name → Statements → Type 0
    EachFine l ns no_statements = Unit {0}
    EachFine l ns (more_statements s ss) = Fine l ns s × EachFine l ns ss

    pub LabeledFine : Bool → List Name → LabeledStatements → Type 0
    LabeledFine l ns no_labeled = Unit {0}
    LabeledFine l ns (more_labeled x s ls) = MayLabel l x × Fine l ns s × LabeledFine l ns ls

    pub GuardedFine : Bool → List Name → GuardedStatements → Type 0
    GuardedFine l ns no_guarded = Unit {0}
    GuardedFine l ns (more_guarded p e s bs) = Expr ns e × Fine l ns s × GuardedFine l ns bs
