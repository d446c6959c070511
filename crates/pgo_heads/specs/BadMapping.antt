-- Rule 3: an argument or a clause doesn't fit.
use Rattle.std.specs.Prelude.{ℕ, Bool, true, false, not, ◌&&◌, ◌||◌, if◌then◌else◌, nat_lt, nat_eq, List, [], ◌∷◌, ◌++◌, map, filter, length, Option, Some, None}
use Rattle.std.specs.List.{filter_map, flat_map, list_any}
use Rattle.pgo_base.specs.Data.{Data, boolean, integer, string, model, set, function}
use Rattle.pgo_base.specs.Lookup.{Name, same_name}
use Rattle.pgo_syntax.specs.declared.archetype.Extent.{Extent}
use Rattle.pgo_syntax.specs.declared.archetype.Extent.TheVariants.{Whole, Element}
use Rattle.pgo_syntax.specs.declared.archetype.ParameterKind.{ParameterKind}
use Rattle.pgo_syntax.specs.declared.archetype.ParameterKind.TheVariants as kinds
use Rattle.pgo_syntax.specs.declared.process.Argument.{Argument}
use Rattle.pgo_syntax.specs.declared.process.Argument.TheVariants as arguments
use Rattle.pgo_syntax.specs.declared.process.MappingClause.{MappingClause}
use Rattle.pgo_syntax.specs.declared.process.MappingTarget.{MappingTarget}
use Rattle.pgo_syntax.specs.declared.process.MappingTarget.TheVariants as clauses
pub use Rattle.pgo_bound.specs.Kinds.{is_by_element}
use Rattle.pgo_bound.specs.Values.{Start, Missing, Empty, Begins}
use Rattle.pgo_bound.specs.Runs.{Run, Handed, has_ids, speaking}
use Rattle.pgo_bound.specs.BoundOf.{GlobalStart}

-- two extents are the same
abbrev pub same_extent : Extent → Extent → Bool
same_extent Whole Whole = true
same_extent Whole Element = false
same_extent Element Whole = false
same_extent Element Element = true

-- how much of an argument's global a clause speaks of
abbrev pub clause_extent : MappingTarget → Extent
clause_extent (clauses.Global x e) = e
clause_extent (clauses.Argument place n e) = e

abbrev pub is_function : Data → Bool
is_function (function ps) = true
is_function (boolean b) = false
is_function (integer z) = false
is_function (string t) = false
is_function (model t) = false
is_function (set xs) = false

abbrev pub begins_as_function : Start → Bool
begins_as_function Missing = false
begins_as_function Empty = false
begins_as_function (Begins v) = is_function v

-- an element-bound global that doesn't start as a function
abbrev pub has_no_elements : GlobalStart → Bool
has_no_elements g = is_by_element g.kind && not (begins_as_function g.start)

-- this global is such a one
abbrev pub names_no_elements : List GlobalStart → Name → Bool
names_no_elements [] x = false
names_no_elements (g ∷ gs) x = if same_name x g.declaration.name.name then has_no_elements g else names_no_elements gs x

-- some clause speaks of another extent
abbrev pub differs : Extent → List MappingClause → Bool
differs e cs = list_any (λ c. not (same_extent (clause_extent c.target) e)) cs

-- of an argument that is a global: `[_]` differs between it and its parameter, or a clause that speaks of it; more than
-- one clause speaks of it; or an instance binds it, and it is by element and starts as no function
abbrev pub is_bad_ref : List GlobalStart → Run → ℕ → Extent → Name → Extent → Bool
is_bad_ref gs r n e g f =
    not (same_extent e f) || (differs f (speaking n g r.process.clauses) || (nat_lt 1 (length (speaking n g r.process.clauses)) || (has_ids r && names_no_elements gs g)))

-- a parameter's argument doesn't fit it
abbrev pub is_bad_argument : List GlobalStart → Run → ℕ → ParameterKind → Argument → Bool
is_bad_argument gs r n kinds.Value (arguments.Value place e) = false
is_bad_argument gs r n kinds.Value (arguments.Ref g f) = true
is_bad_argument gs r n (kinds.Ref e) (arguments.Value place a) = true
is_bad_argument gs r n (kinds.Ref e) (arguments.Ref g f) = is_bad_ref gs r n e g.name f

abbrev pub is_bad_handed : List GlobalStart → Run → Handed → Bool
is_bad_handed gs r h = is_bad_argument gs r h.number h.parameter.kind h.argument

-- the numbers of the arguments that don't fit
abbrev pub bad_arguments : List GlobalStart → Run → List ℕ
bad_arguments gs r = map (λ h. h.number) (filter (is_bad_handed gs r) r.handed)

abbrev pub is_ref : Argument → Bool
is_ref (arguments.Value place e) = false
is_ref (arguments.Ref g e) = true

abbrev pub is_ref_to : Name → Argument → Bool
is_ref_to x (arguments.Value place e) = false
is_ref_to x (arguments.Ref g e) = same_name x g.name

abbrev pub has_ref_to : Name → List Handed → Bool
has_ref_to x hs = list_any (λ h. is_ref_to x h.argument) hs

abbrev pub has_ref_at : ℕ → List Handed → Bool
has_ref_at n hs = list_any (λ h. nat_eq n h.number && is_ref h.argument) hs

abbrev pub has_number : ℕ → List Handed → Bool
has_number n hs = list_any (λ h. nat_eq n h.number) hs

-- a clause that names no `ref` argument, by what is shown of it: the number of a value argument, else 0
abbrev pub bad_clause : List Handed → MappingTarget → Option ℕ
bad_clause hs (clauses.Global x e) = if has_ref_to x.name hs then None else Some 0
bad_clause hs (clauses.Argument place n e) = if has_ref_at n hs then None else (if has_number n hs then Some n else Some 0)

abbrev pub bad_clauses : Run → List ℕ
bad_clauses r = filter_map (λ c. bad_clause r.handed c.target) r.process.clauses

-- in a process first the arguments, and then the clauses that name none
abbrev pub bad_places : List GlobalStart → Run → List ℕ
bad_places gs r = bad_arguments gs r ++ bad_clauses r

-- an argument or a clause that doesn't fit
abbrev pub bad_mappings : List GlobalStart → List Run → List (Name × ℕ)
bad_mappings gs rs = flat_map (λ r. map (λ n. (r.process.name.name, n)) (bad_places gs r)) rs
