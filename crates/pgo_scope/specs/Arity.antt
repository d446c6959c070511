-- Rule 3: a name has another number of arguments than its meaning takes. A name alone, and a left side, has none.
use Rattle.std.specs.Prelude.{ℕ, not, if◌then◌else◌, nat_eq, List, [], ◌∷◌, ◌++◌, length, Option, Some, None, flat_map}
use Rattle.pgo_base.specs.Lookup.{Name, find}
use Rattle.pgo_syntax.specs.declared.process.Process.{Process}
use Rattle.pgo_syntax.specs.declared.spec.Spec.{Spec}
use Rattle.pgo_uses.specs.declared.tables.Tables.{Tables}
use Rattle.pgo_uses.specs.declared.uses.Form.{Form}
use Rattle.pgo_uses.specs.declared.uses.Form.TheVariants as forms
use Rattle.pgo_uses.specs.declared.uses.Use.{Use}
use Rattle.pgo_uses.specs.Names.{Rows}
use Rattle.pgo_uses.specs.Tables.{tables_of, operator_rows}
use Rattle.pgo_uses.specs.AllUses.{all_uses}
use Rattle.pgo_scope.specs.declared.errors.ScopeError.TheVariants as errors
use Rattle.pgo_scope.specs.declared.finding.Finding.{Finding}
use Rattle.pgo_scope.specs.Findings.{found_if}

-- one of these, and else the other
abbrev pub or_number : Option ℕ → ℕ → ℕ
or_number None n = n
or_number (Some m) n = m

-- how many arguments the name takes: a definition as many as it has parameters, an operator its own number, a variable, a
-- constant and whatever else has a meaning none
abbrev pub takes : Tables → Use → ℕ
takes ts u = if u.inner then 0 else or_number (find u.name ts.definitions) (or_number (find u.name operator_rows) 0)

-- a name that takes m arguments and has n
abbrev pub other_number : ℕ → ℕ → ℕ → Name → List Finding
other_number m n p x = found_if (not (nat_eq m n)) p (errors.Arity x n)

-- a macro or an archetype; where there is none of the name, another rule is broken
abbrev pub wrong_number : Rows → Name → ℕ → ℕ → List Finding
wrong_number rows x n p = other_number (or_number (find x rows) n) n p x

abbrev pub arity_of : Tables → Use → Form → List Finding
arity_of ts u forms.Alone = other_number (takes ts u) 0 u.around.place u.name
arity_of ts u (forms.Applied n) = other_number (takes ts u) n u.around.place u.name
arity_of ts u (forms.Assigned s) = other_number (takes ts u) 0 u.around.place u.name
arity_of ts u (forms.Called es) = wrong_number ts.macros u.name (length es) u.around.place
arity_of ts u forms.Bound = []
arity_of ts u forms.Named = []
arity_of ts u forms.Field = []
arity_of ts u forms.Label = []
arity_of ts u forms.Target = []

abbrev pub arity_use : Tables → Use → List Finding
arity_use ts u = arity_of ts u u.form

abbrev pub arity_heads : Tables → List Process → List Finding
arity_heads ts [] = []
arity_heads ts (p ∷ ps) =
    wrong_number ts.archetypes p.archetype.name (length p.arguments) p.archetype.place ++ arity_heads ts ps

abbrev pub wrong_arities : Spec → List Finding
wrong_arities s = flat_map (arity_use (tables_of s)) (all_uses s) ++ arity_heads (tables_of s) s.processes
