-- How high the expressions of the module are that a specification means. The module is not made here: these are the heights of
-- its text, expression by expression.
--
-- Source: this project's choice; the parts of the module are those of PlusCal's translation.
use Rattle.std.specs.Prelude.{ℕ, suc, max, List, [], ◌∷◌, ◌++◌, map, Option, Some, None}
use Rattle.std.specs.List.{flat_map}
use Rattle.pgo_base.specs.Lookup.{Name}
use Rattle.pgo_model.specs.Options.{on}
use Rattle.pgo_syntax.specs.declared.archetype.Archetype.{Archetype}
use Rattle.pgo_syntax.specs.declared.binding.Origin.{Origin}
use Rattle.pgo_syntax.specs.declared.binding.Origin.TheVariants.{Equals, In}
use Rattle.pgo_syntax.specs.declared.declaration.Declaration.{Declaration}
use Rattle.pgo_syntax.specs.declared.declaration.Definition.{Definition}
use Rattle.pgo_syntax.specs.declared.process.Process.{Process}
use Rattle.pgo_syntax.specs.declared.spec.Spec.{Spec}
use Rattle.pgo_bound.specs.Runs.{archetype_named}
use Rattle.pgo_bound.specs.State.{variables_of}
use Rattle.pgo_expr_read.specs.Heights.{height}
use Rattle.pgo_meaning.specs.Expansions.{process_expansions}
use Rattle.pgo_pluscal.specs.PlusCalOf.{own_declarations}
use Rattle.pgo_measure.specs.Heights.{join, label_height}

abbrev pub highest : List ℕ → ℕ
highest [] = 0
highest (h ∷ hs) = max h (highest hs)

-- of expressions of these heights, joined from the left by an operator of two operands; 0 where there is none
abbrev pub joined_behind : Option ℕ → List ℕ → ℕ
joined_behind None [] = 0
joined_behind (Some a) [] = a
joined_behind a (h ∷ hs) = joined_behind (Some (join a h)) hs

abbrev pub joined : List ℕ → ℕ
joined hs = joined_behind None hs

-- the set of a process's identifiers, which of `P = e` is `{e}`
abbrev pub ids_height : Origin → ℕ
ids_height (Equals e) = suc (height e)
ids_height (In e) = height e

-- what a variable starts with, or the set that it starts in; without either it starts with `defaultInitValue`
abbrev pub start_height : Option Origin → ℕ
start_height None = 1
start_height (Some (Equals e)) = height e
start_height (Some (In e)) = height e

-- ---- Init

-- the value parameters and the locals of a process, with what they start with
abbrev pub own_in : List Archetype → Process → List Declaration
own_in as' p = on [] (archetype_named p.archetype.name as') (own_declarations p)

-- `x = e`, `x \in e`
abbrev pub global_item : Declaration → ℕ
global_item d = suc (start_height d.initial)

-- `P_v = [self \in ids |-> e]`, `P_v \in [ids -> e]`
abbrev pub own_item : (ids start : ℕ) → ℕ
own_item ids start = suc (suc (max ids start))

-- value parameters, and then locals
abbrev pub own_items : List Archetype → Process → List ℕ
own_items as' p = map (λ d. own_item (ids_height p.ids) (start_height d.initial)) (own_in as' p)

abbrev pub ids_heights : Spec → List ℕ
ids_heights s = map (λ p. ids_height p.ids) s.processes

-- `pc = [self \in ProcSet |-> (CASE (self \in ids) -> "P_l" [] ..)]`; there is at least one process
abbrev pub place_item : (ids : List ℕ) → ℕ
place_item ids = suc (suc (suc (suc (highest ids))))

abbrev pub init_items : Spec → List ℕ
init_items s = map global_item s.globals ++ (place_item (ids_heights s) ∷ []) ++ flat_map (own_items s.archetypes) s.processes

-- ---- definitions, processes and steps

abbrev pub definitions_heights : List Definition → List ℕ
definitions_heights ds = map (λ d. height d.body) ds

abbrev pub define_heights : Option (List Definition) → List ℕ
define_heights None = []
define_heights (Some ds) = definitions_heights ds

-- those of the module's head, and then those of `define`
abbrev pub all_definitions : Spec → List ℕ
all_definitions s = definitions_heights s.definitions ++ define_heights s.define

-- a call with one name: `P_l(self)`, `P(self)`
abbrev pub call_height : ℕ
call_height = 2

abbrev pub globals_of : Spec → List Name
globals_of s = map (λ d. d.name.name) s.globals

-- the actions of a process's labels
abbrev pub actions : Spec → Process → List ℕ
actions s p = map (λ t. label_height (variables_of s) (globals_of s) t.1) (process_expansions s p)

-- `P(self) == P_l(self) \/ ..`
abbrev pub process_height : Spec → Process → ℕ
process_height s p = joined (map (λ t. call_height) (process_expansions s p))

-- `\E self \in ids : P(self)`
abbrev pub step_height : ℕ → ℕ
step_height ids = suc (max ids call_height)

-- `(\E self \in ids : P(self)) \/ .. \/ Terminating`
abbrev pub next_items : (ids : List ℕ) → List ℕ
next_items ids = map step_height ids ++ 1 ∷ []

-- `(\A self \in ProcSet : (pc[self] = "Done")) /\ UNCHANGED ..`
abbrev pub terminating_height : ℕ
terminating_height = 5

-- of the module's expressions but those of its labels and processes; of `vars` it is 2, so never the greatest
abbrev pub heads_height : Spec → ℕ
heads_height s =
    highest
    (terminating_height
    ∷ joined (ids_heights s)
    ∷ joined (init_items s)
    ∷ joined (next_items (ids_heights s))
    ∷ all_definitions s)

-- of a process's own expressions
abbrev pub labels_height : Spec → Process → ℕ
labels_height s p = max (process_height s p) (highest (actions s p))

-- the greatest height of the module's expressions
abbrev pub module_height : Spec → ℕ
module_height s = max (heads_height s) (highest (map (labels_height s) s.processes))
