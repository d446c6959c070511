-- The names that stand in a statement, in the order of the text.
use Rattle.std.specs.Prelude.{ℕ, true, List, [], ◌∷◌, ◌++◌, Option, Some, None}
use Rattle.pgo_base.specs.Tree.{Tree}
use Rattle.pgo_base.specs.Lookup.{Name}
use Rattle.pgo_syntax.specs.declared.name.PlacedName.{PlacedName}
use Rattle.pgo_syntax.specs.declared.assignment.Step.{Step}
use Rattle.pgo_syntax.specs.declared.assignment.Step.TheVariants.{Index, Field}
use Rattle.pgo_syntax.specs.declared.assignment.Assignment.{Assignment}
use Rattle.pgo_syntax.specs.declared.binding.WithName.{WithName}
pub use Rattle.pgo_syntax.specs.Origins.{origin_tree}
use Rattle.pgo_syntax.specs.Statement.{Statement, skip, assign, if_then, if_else, while_do, either_of, await_that, with_in, print_out, assert_that, go_to, call_macro, yield_as, block, Statements, no_statements, more_statements, LabeledStatements, no_labeled, more_labeled, GuardedStatements, no_guarded, more_guarded}
use Rattle.pgo_uses.specs.declared.uses.Around.{Around}
use Rattle.pgo_uses.specs.declared.uses.Shape.{Shape}
use Rattle.pgo_uses.specs.declared.uses.Shape.TheVariants.{Bare, OneIndex, Further}
use Rattle.pgo_uses.specs.declared.uses.Form.{Form}
use Rattle.pgo_uses.specs.declared.uses.Form.TheVariants as forms
use Rattle.pgo_uses.specs.declared.uses.Use.{Use}
use Rattle.pgo_uses.specs.Uses.{one, uses}

-- at another place
abbrev pub at_place : ℕ → Around → Around
at_place p a = record a { place = p }

-- in an argument of a macro's call
abbrev pub as_passed : Around → Around
as_passed a = record a { passed = true }

-- a name that has a place of its own
abbrev pub placed : List Name → Around → PlacedName → Form → List Use
placed ns a x f = one ns (at_place x.place a) x.name f

-- how a path goes on
abbrev pub shape_of : List Step → Shape
shape_of [] = Bare
shape_of (Index i ∷ []) = OneIndex
shape_of (Index i ∷ s ∷ ss) = Further
shape_of (Field f ∷ ss) = Further

-- the names in a path
abbrev pub path_uses : List Name → Around → List Step → List Use
path_uses ns a [] = []
path_uses ns a (Index i ∷ ss) = uses ns a i ++ path_uses ns a ss
path_uses ns a (Field f ∷ ss) = one ns a f forms.Field ++ path_uses ns a ss

-- `left := right || ..`: the path and the right side stand behind the left name
abbrev pub assignment_uses : List Name → Around → List Assignment → List Use
assignment_uses ns a [] = []
assignment_uses ns a (s ∷ ss) =
    placed ns a s.left.name (forms.Assigned (shape_of s.left.path))
    ++ path_uses ns (at_place s.left.name.place a) s.left.path
    ++ uses ns (at_place s.left.name.place a) s.right
    ++ assignment_uses ns a ss

-- the names of a `with`, each in the scope of those before it; its expression doesn't see it
abbrev pub with_uses : List Name → Around → List WithName → List Use
with_uses ns a [] = []
with_uses ns a (w ∷ ws) =
    placed ns a w.name forms.Named ++ uses ns (at_place w.name.place a) (origin_tree w.origin)
    ++ with_uses (ns ++ w.name.name ∷ []) a ws

abbrev pub with_names : List WithName → List Name
with_names [] = []
with_names (w ∷ ws) = w.name.name ∷ with_names ws

-- the arguments of a macro's call
abbrev pub argument_uses : List Name → Around → List Tree → List Use
argument_uses ns a [] = []
argument_uses ns a (t ∷ ts) = uses ns a t ++ argument_uses ns a ts

abbrev pub label_uses : List Name → Around → Option PlacedName → List Use
label_uses ns a None = []
label_uses ns a (Some l) = placed ns a l forms.Label

abbrev mutual
  pub statement_uses : List Name → Around → Statement → List Use
  statement_uses ns a (skip p) = []
  statement_uses ns a (assign p ss) = assignment_uses ns a ss
  statement_uses ns a (if_then p bs) = uses_of_branches ns a bs
  statement_uses ns a (if_else p bs s) = uses_of_branches ns a bs ++ statement_uses ns a s
  statement_uses ns a (while_do p e s) = uses ns (at_place p a) e ++ statement_uses ns a s
  statement_uses ns a (either_of p ss) = uses_of_alternatives ns a ss
  statement_uses ns a (await_that p e) = uses ns (at_place p a) e
  statement_uses ns a (with_in p ws s) = with_uses ns a ws ++ statement_uses (ns ++ with_names ws) a s
  statement_uses ns a (print_out p e) = uses ns (at_place p a) e
  statement_uses ns a (assert_that p e) = uses ns (at_place p a) e
  statement_uses ns a (go_to p l) = placed ns a l forms.Target
  statement_uses ns a (call_macro p m ts) =
      placed ns a m (forms.Called ts) ++ argument_uses ns (as_passed (at_place m.place a)) ts
  statement_uses ns a (yield_as p e) = uses ns (at_place p a) e
  statement_uses ns a (block p ss) = uses_of_block ns a ss

  pub uses_of_alternatives : List Name → Around → Statements → List Use
  uses_of_alternatives ns a no_statements = []
  uses_of_alternatives ns a (more_statements s ss) = statement_uses ns a s ++ uses_of_alternatives ns a ss

  pub uses_of_block : List Name → Around → LabeledStatements → List Use
  uses_of_block ns a no_labeled = []
  uses_of_block ns a (more_labeled l s ss) = label_uses ns a l ++ statement_uses ns a s ++ uses_of_block ns a ss

  pub uses_of_branches : List Name → Around → GuardedStatements → List Use
  uses_of_branches ns a no_guarded = []
  uses_of_branches ns a (more_guarded p e s bs) = uses ns (at_place p a) e ++ statement_uses ns a s ++ uses_of_branches ns a bs
