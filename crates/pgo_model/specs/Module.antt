-- A written module: what it declares, and the further definitions that its lines make.
use Rattle.std.specs.Prelude.{List, [], ◌∷◌, ◌++◌, map}
use Rattle.std.specs.Prelude.{true, false}
use Rattle.pgo_base.specs.declared.expr.Infix.{Infix}
use Rattle.pgo_base.specs.declared.expr.Infix.TheVariants as infixs
use Rattle.pgo_base.specs.declared.expr.Quantifier.TheVariants as quantifiers
use Rattle.pgo_base.specs.Data.{Data, model}
use Rattle.pgo_base.specs.Tree.{Tree, name, text, truth, binary, quantified, index, call, unchanged, set_of, trees, bound}
use Rattle.pgo_base.specs.Lookup.{Name}
use Rattle.pgo_model.specs.Val.{Defined, Given, Means}
use Rattle.pgo_model.specs.Written.{pc, self_name, done, proc_set, terminating, default_init_value}

-- a process's definitions: its label actions in order, each with the parameter `self`, and its own of this name, with
-- its identifiers
pub record WrittenProcess : Type 0 where
  pub name : Name
  pub ids : Tree
  pub actions : List (Name × Tree)

-- in the order of the module's lines
pub record Module : Type 0 where
  pub name : Name
  pub constants : List Name
  pub definitions : List Defined
  pub variables : List Name
  pub init : Tree
  pub processes : List WrittenProcess

-- e joined with the others, from the left
abbrev pub joined_by : Infix → Tree → List Tree → Tree
joined_by o a [] = a
joined_by o a (b ∷ bs) = joined_by o (binary o a b) bs

-- a conjunction, a disjunction and a union from the left
abbrev pub all_of : List Tree → Tree
all_of [] = truth true
all_of (a ∷ as') = joined_by infixs.And a as'

abbrev pub any_of : List Tree → Tree
any_of [] = truth false
any_of (a ∷ as') = joined_by infixs.Or a as'

abbrev pub union_of : List Tree → Tree
union_of [] = set_of (trees [])
union_of (a ∷ as') = joined_by infixs.Union a as'

abbrev pub self_call : Name → Tree
self_call a = call a (trees (name self_name ∷ []))

-- pc[self] = "l"
abbrev pub stands_at : Name → Tree
stands_at l = binary infixs.Equal (index (name pc) (trees (name self_name ∷ []))) (text l)

abbrev pub proc_set_of : Module → Tree
proc_set_of m = union_of (map (λ p. p.ids) m.processes)

abbrev pub process_body : WrittenProcess → Tree
process_body p = any_of (map (λ a. self_call a.0) p.actions)

-- all instances are at Done, and nothing changes
abbrev pub terminating_body : Module → Tree
terminating_body m =
    all_of (quantified quantifiers.Forall (bound ((self_name ∷ [], name proc_set) ∷ [])) (stands_at done) ∷ unchanged m.variables ∷ [])

abbrev pub process_step : WrittenProcess → Tree
process_step p = quantified quantifiers.Exists (bound ((self_name ∷ [], p.ids) ∷ [])) (self_call p.name)

-- a step of some process, or all have ended
abbrev pub next_body : Module → Tree
next_body m = any_of (map process_step m.processes ++ (name terminating ∷ []))

abbrev pub action_definition : Name × Tree → Defined
action_definition a = Means a.0 (self_name ∷ []) a.1

-- a process's label actions, and then its own definition
abbrev pub process_definitions : List WrittenProcess → List Defined
process_definitions [] = []
process_definitions (p ∷ ps) =
    map action_definition p.actions ++ (Means p.name (self_name ∷ []) (process_body p) ∷ process_definitions ps)

-- the label actions of a module, in order
abbrev pub actions_in : List WrittenProcess → List (Name × Tree)
actions_in [] = []
actions_in (p ∷ ps) = p.actions ++ actions_in ps

abbrev pub actions_of : Module → List (Name × Tree)
actions_of m = actions_in m.processes

-- the definitions that the module's expressions see: the constants' values, `defaultInitValue`, the module's definitions,
-- and then ProcSet, each process's label actions and its own definition, and Terminating
abbrev pub defs_of : Module → List (Name × Data) → List Defined
defs_of m consts =
    map (λ c. Given c.0 c.1) consts ++ (Given default_init_value (model default_init_value) ∷ []) ++ m.definitions
    ++ (Means proc_set [] (proc_set_of m) ∷ []) ++ process_definitions m.processes
    ++ (Means terminating [] (terminating_body m) ∷ [])
