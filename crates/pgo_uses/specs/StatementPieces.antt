-- The parts of a statement, one level deep, in the order of the text, and the names that stand in them.
use Rattle.std.specs.Prelude.{ℕ, suc, List, [], ◌∷◌, ◌++◌, length, Option, Some, None}
use Rattle.pgo_base.specs.Tree.{Tree}
use Rattle.pgo_base.specs.Lookup.{Name}
use Rattle.pgo_syntax.specs.declared.name.PlacedName.{PlacedName}
use Rattle.pgo_syntax.specs.declared.assignment.Step.{Step}
use Rattle.pgo_syntax.specs.declared.assignment.Step.TheVariants.{Index, Field}
use Rattle.pgo_syntax.specs.declared.assignment.Assignment.{Assignment}
use Rattle.pgo_syntax.specs.declared.binding.WithName.{WithName}
use Rattle.pgo_syntax.specs.Statement.{Statement, skip, assign, if_then, if_else, while_do, either_of, await_that, with_in, print_out, assert_that, go_to, call_macro, yield_as, block, Statements, no_statements, more_statements, LabeledStatements, no_labeled, more_labeled, GuardedStatements, no_guarded, more_guarded}
use Rattle.pgo_uses.specs.declared.uses.Around.{Around}
use Rattle.pgo_uses.specs.declared.uses.Form.{Form}
use Rattle.pgo_uses.specs.declared.uses.Form.TheVariants as forms
use Rattle.pgo_uses.specs.declared.uses.Use.{Use}
use Rattle.pgo_uses.specs.Uses.{one, uses}
use Rattle.pgo_uses.specs.Pieces.{within}
use Rattle.pgo_uses.specs.StatementUses.{at_place, as_passed, shape_of, origin_tree, with_names, statement_uses}

-- a name in a form of its own, an expression, an argument of a call, a statement: with the number of the statement's names
-- that are in scope there
pub data Part : Type 0 where
  named : ℕ → Name → Form → ℕ → Part
  operand : ℕ → Tree → ℕ → Part
  argument : ℕ → Tree → Part
  nested : Statement → ℕ → Part

abbrev pub path_parts : ℕ → List Step → List Part
path_parts p [] = []
path_parts p (Index i ∷ ss) = operand p i 0 ∷ path_parts p ss
path_parts p (Field f ∷ ss) = named p f forms.Field 0 ∷ path_parts p ss

abbrev pub assignment_parts : List Assignment → List Part
assignment_parts [] = []
assignment_parts (s ∷ ss) =
    named s.left.name.place s.left.name.name (forms.Assigned (shape_of s.left.path)) 0
    ∷ path_parts s.left.name.place s.left.path ++ operand s.left.name.place s.right 0 ∷ assignment_parts ss

-- names of a `with` behind n others
abbrev pub with_parts : ℕ → List WithName → List Part
with_parts n [] = []
with_parts n (w ∷ ws) =
    named w.name.place w.name.name forms.Named n ∷ operand w.name.place (origin_tree w.origin) n ∷ with_parts (suc n) ws

abbrev pub argument_parts : ℕ → List Tree → List Part
argument_parts p [] = []
argument_parts p (t ∷ ts) = argument p t ∷ argument_parts p ts

abbrev pub label_parts : Option PlacedName → List Part
label_parts None = []
label_parts (Some l) = named l.place l.name forms.Label 0 ∷ []

abbrev pub alternative_parts : Statements → List Part
alternative_parts no_statements = []
alternative_parts (more_statements s ss) = nested s 0 ∷ alternative_parts ss

abbrev pub block_parts : LabeledStatements → List Part
block_parts no_labeled = []
block_parts (more_labeled l s ss) = label_parts l ++ nested s 0 ∷ block_parts ss

abbrev pub branch_parts : GuardedStatements → List Part
branch_parts no_guarded = []
branch_parts (more_guarded p e s bs) = operand p e 0 ∷ nested s 0 ∷ branch_parts bs

-- the names that a statement binds
abbrev pub bound_in : Statement → List Name
bound_in (with_in p ws s) = with_names ws
bound_in _ = []

abbrev pub parts_of : Statement → List Part
parts_of (skip p) = []
parts_of (assign p ss) = assignment_parts ss
parts_of (if_then p bs) = branch_parts bs
parts_of (if_else p bs s) = branch_parts bs ++ nested s 0 ∷ []
parts_of (while_do p e s) = operand p e 0 ∷ nested s 0 ∷ []
parts_of (either_of p ss) = alternative_parts ss
parts_of (await_that p e) = operand p e 0 ∷ []
parts_of (with_in p ws s) = with_parts 0 ws ++ nested s (length (with_names ws)) ∷ []
parts_of (print_out p e) = operand p e 0 ∷ []
parts_of (assert_that p e) = operand p e 0 ∷ []
parts_of (go_to p l) = named l.place l.name forms.Target 0 ∷ []
parts_of (call_macro p m ts) = named m.place m.name (forms.Called ts) 0 ∷ argument_parts m.place ts
parts_of (yield_as p e) = operand p e 0 ∷ []
parts_of (block p ss) = block_parts ss

abbrev pub part_uses : List Name → List Name → Around → Part → List Use
part_uses ns bs a (named p x f n) = one (within ns bs n) (at_place p a) x f
part_uses ns bs a (operand p t n) = uses (within ns bs n) (at_place p a) t
part_uses ns bs a (argument p t) = uses ns (as_passed (at_place p a)) t
part_uses ns bs a (nested s n) = statement_uses (within ns bs n) a s

abbrev pub parts_uses : List Name → List Name → Around → List Part → List Use
parts_uses ns bs a [] = []
parts_uses ns bs a (p ∷ ps) = part_uses ns bs a p ++ parts_uses ns bs a ps
