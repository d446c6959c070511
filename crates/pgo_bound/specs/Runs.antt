-- Which archetype runs under which identifiers, with which arguments and which mapping.
use Rattle.std.specs.Prelude.{ℕ, suc, Bool, true, false, if◌then◌else◌, nat_eq, List, [], ◌∷◌, map, filter, Option, Some, None, option_map, option_and_then, unwrap_or}
use Rattle.std.specs.List.{filter_map, flat_map, list_all}
use Rattle.pgo_base.specs.Data.{Data}
use Rattle.pgo_base.specs.FirstPlace.{first_named}
use Rattle.pgo_base.specs.Lookup.{Name, same_name}
use Rattle.pgo_base.specs.declared.module.Defined.{Defined}
use Rattle.pgo_model.specs.Operators.{members_of}
use Rattle.pgo_syntax.specs.declared.archetype.Archetype.{Archetype}
use Rattle.pgo_syntax.specs.declared.archetype.Extent.{Extent}
use Rattle.pgo_syntax.specs.declared.archetype.Extent.TheVariants.{Whole, Element}
use Rattle.pgo_syntax.specs.declared.archetype.Parameter.{Parameter}
use Rattle.pgo_syntax.specs.declared.binding.Origin.{Origin}
use Rattle.pgo_syntax.specs.declared.binding.Origin.TheVariants.{Equals, In}
use Rattle.pgo_syntax.specs.declared.bound.Binding.{Binding}
use Rattle.pgo_syntax.specs.declared.bound.Mapping.{Mapping}
use Rattle.pgo_syntax.specs.declared.bound.Mapping.TheVariants.{Identity, Macro}
use Rattle.pgo_syntax.specs.declared.bound.Target.{Target}
use Rattle.pgo_syntax.specs.declared.bound.Target.TheVariants as targets
use Rattle.pgo_syntax.specs.declared.macros.MappingMacro.{MappingMacro}
use Rattle.pgo_syntax.specs.declared.process.Argument.{Argument}
use Rattle.pgo_syntax.specs.declared.process.Argument.TheVariants as arguments
use Rattle.pgo_syntax.specs.declared.process.MappingClause.{MappingClause}
use Rattle.pgo_syntax.specs.declared.process.MappingTarget.{MappingTarget}
use Rattle.pgo_syntax.specs.declared.process.MappingTarget.TheVariants as clauses
use Rattle.pgo_syntax.specs.declared.process.Process.{Process}
use Rattle.pgo_syntax.specs.declared.spec.Spec.{Spec}
use Rattle.pgo_syntax.specs.UnitNames.{archetype_name, mapping_name}
use Rattle.pgo_bound.specs.declared.kinds.Kind.{Kind}
use Rattle.pgo_bound.specs.declared.kinds.Kind.TheVariants.{Unbound, AsWhole, ByElement}
use Rattle.pgo_bound.specs.Values.{closed_value}

-- a parameter and what it is handed, with the argument's number from 1
pub record Handed : Type 0 where
  pub number : ℕ
  pub parameter : Parameter
  pub argument : Argument

-- parameters with their arguments, numbered from n
abbrev pub handed_from : ℕ → List Parameter → List Argument → List Handed
handed_from n [] as' = []
handed_from n (p ∷ ps) [] = []
handed_from n (p ∷ ps) (a ∷ as') = record { number = n; parameter = p; argument = a } ∷ handed_from (suc n) ps as'

-- a process with its archetype and, where they have a value, its identifiers in value order
pub record Run : Type 0 where
  pub process : Process
  pub archetype : Archetype
  pub handed : List Handed
  pub ids : Option (List Data)

abbrev pub archetype_named : Name → List Archetype → Option Archetype
archetype_named = first_named archetype_name

abbrev pub alone : Option Data → Option (List Data)
alone = option_map (λ v. v ∷ [])

abbrev pub members_in : Option Data → Option (List Data)
members_in = option_and_then members_of

-- `P = e` has the one identifier e, and `P \in e` the members of e
abbrev pub ids_of : List Defined → Origin → Option (List Data)
ids_of ds (Equals e) = alone (closed_value ds e)
ids_of ds (In e) = members_in (closed_value ds e)

abbrev pub run_with : List Defined → Process → Archetype → Run
run_with ds p a =
    record { process = p; archetype = a; handed = handed_from 1 a.params p.arguments; ids = ids_of ds p.ids }

-- a process whose archetype is not there does not run
abbrev pub run_of : Spec → List Defined → Process → Option Run
run_of s ds p = option_map (run_with ds p) (archetype_named p.archetype.name s.archetypes)

-- the processes in the order of the text
abbrev pub runs_of : Spec → List Defined → List Run
runs_of s ds = filter_map (run_of s ds) s.processes

-- the identifiers with which a process has instances
abbrev pub run_ids : Run → List Data
run_ids r = unwrap_or r.ids []

-- the identifiers of all instances, in the order of their numbers
abbrev pub all_ids : List Run → List Data
all_ids rs = flat_map run_ids rs

abbrev pub is_some_item : List Data → Bool
is_some_item [] = false
is_some_item (x ∷ xs) = true

abbrev pub has_ids : Run → Bool
has_ids r = is_some_item (run_ids r)

-- the clause is one by place, of this number
abbrev pub is_of_number : ℕ → MappingTarget → Bool
is_of_number n (clauses.Global g e) = false
is_of_number n (clauses.Argument place m e) = nat_eq n m

-- the clause is one by name, of this global
abbrev pub is_of_name : Name → MappingTarget → Bool
is_of_name g (clauses.Global x e) = same_name g x.name
is_of_name g (clauses.Argument place m e) = false

abbrev pub unless_any : List MappingClause → List MappingClause → List MappingClause
unless_any [] cs = cs
unless_any (b ∷ bs) cs = b ∷ bs

-- the clauses that speak of the argument of this number, which is this global: those by place, and where there are none
-- those by name
abbrev pub speaking : ℕ → Name → List MappingClause → List MappingClause
speaking n g cs = unless_any (filter (λ c. is_of_number n c.target) cs) (filter (λ c. is_of_name g c.target) cs)

abbrev pub mapping_named : Name → List MappingMacro → Option MappingMacro
mapping_named = first_named mapping_name

-- `ref x[_]` that no clause names is the identity, and `ref x` is unmapped
abbrev pub mapping_without : Extent → Option Mapping
mapping_without Element = Some Identity
mapping_without Whole = None

-- what the clauses that speak of an argument make of it
abbrev pub mapping_by : Spec → Extent → List MappingClause → Option Mapping
mapping_by s e [] = mapping_without e
mapping_by s e (c ∷ cs) = option_map Macro (mapping_named c.mapping.name s.mappings)

abbrev pub target_of : Spec → List MappingClause → ℕ → Argument → Target
target_of s cs n (arguments.Value place e) = targets.Value e
target_of s cs n (arguments.Ref g e) = targets.Global g.name e (mapping_by s e (speaking n g.name cs))

abbrev pub binding_of : Spec → List MappingClause → Handed → Binding
binding_of s cs h = record { parameter = h.parameter.name.name; target = target_of s cs h.number h.argument }

-- a binding for each parameter, in order
abbrev pub bindings_of : Spec → Run → List Binding
bindings_of s r = map (binding_of s r.process.clauses) r.handed

-- how an argument binds this global
abbrev pub extent_of : Name → Argument → Option Extent
extent_of g (arguments.Value place e) = None
extent_of g (arguments.Ref x e) = if same_name g x.name then Some e else None

abbrev pub extents_in : Name → List Handed → List Extent
extents_in g hs = filter_map (λ h. extent_of g h.argument) hs

-- how the instances bind this global; a process without identifiers binds nothing
abbrev pub extents_of : Name → List Run → List Extent
extents_of g rs = flat_map (λ r. extents_in g r.handed) (filter has_ids rs)

abbrev pub is_element : Extent → Bool
is_element Element = true
is_element Whole = false

-- by element where it has a binding and each has `[_]`
abbrev pub kind_of_extents : List Extent → Kind
kind_of_extents [] = Unbound
kind_of_extents (e ∷ es) = if list_all is_element (e ∷ es) then ByElement else AsWhole

abbrev pub kind_of : Name → List Run → Kind
kind_of g rs = kind_of_extents (extents_of g rs)
