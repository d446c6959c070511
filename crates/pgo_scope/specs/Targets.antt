-- What the mapping clauses of processes name, as it lies in memory.
use Rattle.std.specs.Prelude.{ℕ, suc, Bool, false, ◌&&◌, ◌||◌, slice_get, List, [], ◌∷◌, Option, Some, None}
use Rattle.std.specs.BTreeSet.{BTreeSet}
use Rattle.pgo_base.specs.Lookup.{Name, same_name}
use Rattle.pgo_syntax.specs.declared.archetype.Archetype.{Archetype}
use Rattle.pgo_syntax.specs.declared.archetype.Parameter.{Parameter}
use Rattle.pgo_syntax.specs.declared.process.Argument.{Argument}
use Rattle.pgo_syntax.specs.declared.process.Argument.TheVariants as arguments
use Rattle.pgo_syntax.specs.declared.process.MappingClause.{MappingClause}
use Rattle.pgo_syntax.specs.declared.process.Process.{Process}
use Rattle.pgo_uses.specs.Names.{Rows, has_row}
use Rattle.pgo_scope.specs.declared.mapped.Mapped.{Mapped}
use Rattle.pgo_scope.specs.declared.targets.Targets.{Targets}
use Rattle.pgo_scope.specs.declared.targets.NamedParameters.{NamedParameters}
use Rattle.pgo_base.specs.NameMaps.{found}
pub use Rattle.pgo_base.specs.NameMaps.{has_number}
use Rattle.pgo_scope.specs.UnitRows.{Kinds, parameter_rows}
use Rattle.pgo_scope.specs.Mapped.{names_argument, some_clause, mapped_kind}

-- the argument is one of these globals as a `ref`
abbrev pub ref_among : Rows → Option Argument → Bool
ref_among globals None = false
ref_among globals (Some (arguments.Value p e)) = false
ref_among globals (Some (arguments.Ref x extent)) = has_row x.name globals

-- the targets name the argument with this number among these, from 0
abbrev pub is_target : Targets → ℕ → List Argument → Bool
is_target t n es = has_number t.numbers n || ref_among t.globals (slice_get es n)

-- b, or one of these clauses names the argument
abbrev pub some_clause_or : Bool → ℕ → List Argument → List MappingClause → Bool
some_clause_or b n es [] = b
some_clause_or b n es (c ∷ cs) = some_clause_or (names_argument n es c.target || b) n es cs

-- a clause of the process names the parameter of the archetype with this number
abbrev pub names_parameter : Name → ℕ → Process → Bool
names_parameter r n p = same_name r p.archetype.name && some_clause n p.arguments p.clauses

-- b, or a clause of one of these processes names the parameter
abbrev pub some_process_or : Bool → Name → ℕ → List Process → Bool
some_process_or b r n [] = b
some_process_or b r n (p ∷ ps) = some_process_or (b || names_parameter r n p) r n ps

abbrev pub has_number_of : Option (BTreeSet ℕ) → ℕ → Bool
has_number_of None n = false
has_number_of (Some s) n = has_number s n

-- the parameter of the archetype of this name is among these
abbrev pub is_named : NamedParameters → Name → ℕ → Bool
is_named k r n = has_number_of (found k.map r) n

-- what each of these parameters is, from number n on, where those that f has are named
abbrev pub kinds_by : (ℕ → Bool) → ℕ → List Parameter → List Mapped
kinds_by f n [] = []
kinds_by f n (p ∷ rest) = mapped_kind (f n) p.kind ∷ kinds_by f (suc n) rest

-- parameters, and what each of them is, where those that f has are named
abbrev pub kinds_with : (Name → ℕ → Bool) → Archetype → Kinds
kinds_with f r = (parameter_rows r.params, kinds_by (f r.name.name) 0 r.params)
