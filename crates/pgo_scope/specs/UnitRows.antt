-- The names that archetypes and macros declare, as rows in which they are looked up.
use Rattle.std.specs.Prelude.{ℕ, suc, Bool, false, List, [], ◌∷◌, ◌++◌, slice_get, Option, Some, None}
use Rattle.pgo_base.specs.Lookup.{Name}
use Rattle.pgo_syntax.specs.declared.archetype.Archetype.{Archetype}
use Rattle.pgo_syntax.specs.declared.archetype.Parameter.{Parameter}
use Rattle.pgo_syntax.specs.declared.archetype.ParameterKind.TheVariants as kinds
use Rattle.pgo_syntax.specs.declared.macros.Macro.{Macro}
use Rattle.pgo_syntax.specs.declared.process.Process.{Process}
use Rattle.pgo_uses.specs.Names.{Rows, has_row, first_at}
use Rattle.pgo_uses.specs.Tables.{name_rows, variable_rows}
use Rattle.pgo_scope.specs.declared.mapped.Mapped.{Mapped}
use Rattle.pgo_scope.specs.declared.mapped.Mapped.TheVariants.{Unmapped}
use Rattle.pgo_scope.specs.declared.units.MappedNames.{MappedNames}
use Rattle.pgo_scope.specs.Mapped.{some_process, mapped_kind}

abbrev pub parameter_rows : List Parameter → Rows
parameter_rows [] = []
parameter_rows (p ∷ ps) = (p.name.name, 0) ∷ parameter_rows ps

abbrev pub ref_rows : List Parameter → Rows
ref_rows [] = []
ref_rows (p ∷ ps) = elim p.kind [ kinds.Value ↦ ref_rows ps | kinds.Ref extent ↦ (p.name.name, 0) ∷ ref_rows ps ]

-- what an archetype declares
abbrev pub own_rows : Archetype → Rows
own_rows r = parameter_rows r.params ++ variable_rows r.locals

-- what of that may be assigned
abbrev pub assignable_rows : Archetype → Rows
assignable_rows r = ref_rows r.params ++ variable_rows r.locals

abbrev pub macro_parameter_rows : Macro → Rows
macro_parameter_rows m = name_rows m.params

abbrev pub among : Option Rows → Name → Bool
among None x = false
among (Some rows) x = has_row x rows

-- the name is one of those of this number
abbrev pub among_in : List Rows → ℕ → Name → Bool
among_in rows j x = among (slice_get rows j) x

-- what each of these parameters is, from number n on
abbrev pub mapped_kinds : Name → List Process → ℕ → List Parameter → List Mapped
mapped_kinds r ps n [] = []
mapped_kinds r ps n (p ∷ rest) = mapped_kind (some_process r n ps) p.kind ∷ mapped_kinds r ps (suc n) rest

-- parameters, and what each of them is
abbrev pub Kinds : Type 0
Kinds = Rows × List Mapped

abbrev pub see_kinds : MappedNames → Kinds
see_kinds m = (m.params, m.kinds.items)

abbrev pub kinds_of : List Process → Archetype → Kinds
kinds_of ps r = (parameter_rows r.params, mapped_kinds r.name.name ps 0 r.params)

abbrev pub or_unmapped : Option Mapped → Mapped
or_unmapped None = Unmapped
or_unmapped (Some m) = m

abbrev pub kind_at : Option ℕ → List Mapped → Mapped
kind_at None ms = Unmapped
kind_at (Some i) ms = or_unmapped (slice_get ms i)

-- what the name is among these
abbrev pub kind_among : Kinds → Name → Mapped
kind_among k x = kind_at (first_at x k.0) k.1

abbrev pub kind_of : Option Kinds → Name → Mapped
kind_of None x = Unmapped
kind_of (Some k) x = kind_among k x

-- what the name is among those of this number
abbrev pub kind_in : List Kinds → ℕ → Name → Mapped
kind_in ks j x = kind_of (slice_get ks j) x
