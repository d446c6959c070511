-- The instances, the resources and the starting state of a specification with these constants.
use Rattle.std.specs.Prelude.{ℕ, suc, List, [], ◌∷◌, ◌++◌, map, Option, Some, None, option_map}
use Rattle.std.specs.List.{filter_map, flat_map}
use Rattle.pgo_base.specs.Data.{Data, boolean, integer, string, model, set, function, pairs, graph, keys}
use Rattle.pgo_base.specs.Pairs.{pairs_in_order}
use Rattle.pgo_base.specs.Tree.{Tree}
use Rattle.pgo_base.specs.ValueCode.{value_from}
use Rattle.pgo_base.specs.Lookup.{Name, Vars}
use Rattle.pgo_base.specs.declared.value.Value.{Value}
use Rattle.pgo_base.specs.declared.module.Defined.{Defined}
use Rattle.pgo_model.specs.Written.{pc, done, written}
use Rattle.pgo_syntax.specs.Statement.{Statement}
use Rattle.pgo_syntax.specs.declared.name.PlacedName.{PlacedName}
use Rattle.pgo_syntax.specs.declared.declaration.Declaration.{Declaration}
use Rattle.pgo_syntax.specs.declared.process.Argument.{Argument}
use Rattle.pgo_syntax.specs.declared.process.Argument.TheVariants as arguments
use Rattle.pgo_syntax.specs.declared.bound.Binding.{Binding}
use Rattle.pgo_syntax.specs.declared.bound.Bound.{Bound}
use Rattle.pgo_syntax.specs.declared.bound.Instance.{Instance}
use Rattle.pgo_syntax.specs.declared.bound.Resource.{Resource}
use Rattle.pgo_syntax.specs.declared.spec.Spec.{Spec}
use Rattle.pgo_bound.specs.declared.kinds.Kind.{Kind}
use Rattle.pgo_bound.specs.declared.kinds.Kind.TheVariants.{Unbound, AsWhole, ByElement}
use Rattle.pgo_bound.specs.Values.{Start, defs_of, argument_start, global_start, local_start, beginning}
use Rattle.pgo_bound.specs.Runs.{Run, Handed, runs_of, run_ids, bindings_of, kind_of}

-- each with its number, from n
abbrev pub numbered : {A B : Type 0} → (ℕ → A → B) → ℕ → List A → List B
numbered f n [] = []
numbered f n (x ∷ xs) = f n x ∷ numbered f (suc n) xs

-- a process at each of its identifiers, in value order
abbrev pub places_of_run : Run → List (Run × Data)
places_of_run r = map (λ id. (r, id)) (run_ids r)

-- the processes in the order of the text, each at its identifiers
abbrev pub places_of : List Run → List (Run × Data)
places_of rs = flat_map places_of_run rs

abbrev pub instance_with : List Binding → ℕ → Run × Data → Instance
instance_with bs n p =
    record { number = n; id = value_from p.1; process = p.0.process.name.name; archetype = p.0.archetype; bindings = bs }

abbrev pub instance_at : Spec → ℕ → Run × Data → Instance
instance_at s n p = instance_with (bindings_of s p.0) n p

abbrev pub instances_of : Spec → List Run → List Instance
instances_of s rs = numbered (instance_at s) 0 (places_of rs)

-- the indices of a function, in value order
abbrev pub indices : Data → List Data
indices (function ps) = keys (graph ps)
indices (boolean b) = []
indices (integer z) = []
indices (string t) = []
indices (model t) = []
indices (set xs) = []

-- a global with what it is among the resources and what it starts with
pub record GlobalStart : Type 0 where
  pub declaration : Declaration
  pub kind : Kind
  pub start : Start

abbrev pub global_of : List Defined → List Run → Declaration → GlobalStart
global_of ds rs d = record { declaration = d; kind = kind_of d.name.name rs; start = global_start ds d.initial }

-- the globals in the order of declaration
abbrev pub globals_of : Spec → List Defined → List Run → List GlobalStart
globals_of s ds rs = map (global_of ds rs) s.globals

abbrev pub elements_of : Name → List Data → List (Name × Option Data)
elements_of g is = map (λ i. (g, Some i)) is

-- a global that no instance binds is no resource; else it is one as a whole, or one for each of its elements
abbrev pub parts_with : Name → Kind → Start → List (Name × Option Data)
parts_with g Unbound st = []
parts_with g AsWhole st = (g, None) ∷ []
parts_with g ByElement st = elements_of g (indices (beginning st))

abbrev pub parts_of : GlobalStart → List (Name × Option Data)
parts_of g = parts_with g.declaration.name.name g.kind g.start

abbrev pub all_parts : List GlobalStart → List (Name × Option Data)
all_parts gs = flat_map parts_of gs

abbrev pub index_of : Name × Option Data → Option Value
index_of p = option_map value_from p.1

abbrev pub resource_at : ℕ → Name × Option Data → Resource
resource_at n p = record { number = n; global = p.0; index = index_of p }

abbrev pub resources_of : List GlobalStart → List Resource
resources_of gs = numbered resource_at 0 (all_parts gs)

-- the function with this value at each key
abbrev pub function_on : List (Data × Data) → Data
function_on ps = function (pairs (pairs_in_order ps))

-- the value that f gives at each identifier
abbrev pub function_at : (Data → Data) → List Data → Data
function_at f ids = function_on (map (λ id. (id, f id)) ids)

abbrev pub written_label : Name → Option PlacedName → Name
written_label p None = done
written_label p (Some l) = written p l.name

-- the written name of a body's first label
abbrev pub first_label_in : Name → List (Option PlacedName × Statement) → Name
first_label_in p [] = done
first_label_in p (l ∷ ls) = written_label p l.0

abbrev pub first_label : Run → Name
first_label r = first_label_in r.process.name.name r.archetype.body

abbrev pub first_place : Run × Data → Data × Data
first_place p = (p.1, string (first_label p.0))

-- where each instance starts
abbrev pub first_places : List Run → Data
first_places rs = function_on (map first_place (places_of rs))

abbrev pub optional : {A : Type 0} → Option A → List A
optional None = []
optional (Some x) = x ∷ []

-- the expression of an argument that is one
abbrev pub expression_of : Argument → Option Tree
expression_of (arguments.Ref g e) = None
expression_of (arguments.Value place e) = Some e

-- a value parameter of a process: the value of its argument at each identifier
abbrev pub own_argument : List Defined → Run → Handed → Option (Name × Data)
own_argument ds r h =
    option_map (λ e. (written r.process.name.name h.parameter.name.name, function_at (λ id. beginning (argument_start ds e id)) (run_ids r)))
    (expression_of h.argument)

-- a local of a process: what it begins with at each identifier
abbrev pub own_start : List Defined → Run → Declaration → Name × Data
own_start ds r d =
    (written r.process.name.name d.name.name, function_at (λ id. beginning (local_start ds d.initial id)) (run_ids r))

-- a process's value parameters, and then its locals
abbrev pub locals_of : List Defined → Run → Vars
locals_of ds r = filter_map (own_argument ds r) r.handed ++ map (own_start ds r) r.archetype.locals

abbrev pub global_value : GlobalStart → Name × Data
global_value g = (g.declaration.name.name, beginning g.start)

-- the value of each variable in the order of the written module: globals, `pc`, then process by process
abbrev pub start_of : List Defined → List Run → List GlobalStart → Vars
start_of ds rs gs = map global_value gs ++ ((pc, first_places rs) ∷ []) ++ flat_map (locals_of ds) rs

abbrev pub bound_with : Spec → List Defined → List Run → List GlobalStart → Bound
bound_with s ds rs gs =
    record { spec = s; defs = ds; instances = instances_of s rs; resources = resources_of gs; start = start_of ds rs gs }

abbrev pub bound_by : Spec → List Defined → List Run → Bound
bound_by s ds rs = bound_with s ds rs (globals_of s ds rs)

-- what a specification is bound to with these constants. Where an expression has no value, or an archetype or a macro is
-- not there, this says nothing: such a specification is refused, here or by the rules on names
abbrev pub bound_of : Spec → List (Name × Data) → Bound
bound_of s consts = let ds = defs_of s consts in bound_by s ds (runs_of s ds)
