-- Why the law asks something of binding: a `ref` parameter that is handed a value, and a global with the name that is
-- written for it, computed.
use Rattle.std.specs.Prelude.{◌≡◌, ℕ, pos, [], ◌∷◌, Some, None, codes, refl}
use Rattle.pgo_base.specs.Tree.{number}
use Rattle.pgo_base.specs.Lookup.{Name}
use Rattle.pgo_model.specs.Written.{pc}
use Rattle.pgo_syntax.specs.declared.name.PlacedName.{PlacedName}
use Rattle.pgo_syntax.specs.declared.archetype.Archetype.{Archetype}
use Rattle.pgo_syntax.specs.declared.archetype.Extent.TheVariants.{Whole}
use Rattle.pgo_syntax.specs.declared.archetype.ParameterKind.{ParameterKind}
use Rattle.pgo_syntax.specs.declared.archetype.ParameterKind.TheVariants as kinds
use Rattle.pgo_syntax.specs.declared.binding.Origin.TheVariants.{Equals}
use Rattle.pgo_syntax.specs.declared.process.Argument.TheVariants as arguments
use Rattle.pgo_syntax.specs.declared.process.Process.{Process}
use Rattle.pgo_syntax.specs.declared.spec.Spec.{Spec}
use Rattle.pgo_syntax.specs.Statement.{skip}
use Rattle.pgo_scope.specs.declared.errors.ScopeError.TheVariants as scope
use Rattle.pgo_scope.specs.Refusal.{scope_refusal}
use Rattle.pgo_labels.specs.Refusal.{label_refusal}
use Rattle.pgo_bound.specs.State.{variables_of}
use Rattle.pgo_heads.specs.declared.errors.BindError.TheVariants as bind
use Rattle.pgo_heads.specs.Refusals.{bind_refusal}

abbrev placed : ℕ → Name → PlacedName
placed p n = record { name = n; place = p }

abbrev P_x : Name
P_x = codes "P_x"

-- `archetype A(x) { l: skip; }`, with a parameter of this kind
abbrev archetype_with : ParameterKind → Archetype
archetype_with k =
    record { name = placed 10 (codes "A"); params = record { name = placed 11 (codes "x"); kind = k } ∷ []; locals = []; body = (Some (placed 12 (codes "l")), skip 13) ∷ [] }

-- `process (P = 1) == instance A(5);`
abbrev process_of_five : Process
process_of_five = record {
  name = placed 30 (codes "P");
  ids = Equals (number (pos 1));
  archetype = placed 31 (codes "A");
  arguments = arguments.Value 32 (number (pos 5)) ∷ [];
  clauses = [];
}

-- with `variables P_x = 0;`
abbrev spec_with : ParameterKind → Spec
spec_with k = record {
  name = placed 0 (codes "S");
  extends = [];
  constants = [];
  definitions = [];
  algorithm = placed 1 (codes "S");
  define = None;
  macros = [];
  mappings = [];
  archetypes = archetype_with k ∷ [];
  globals = record { name = placed 20 P_x; initial = Some (Equals (number (pos 0))) } ∷ [];
  processes = process_of_five ∷ [];
}

-- `A(ref x)`: the variables have a name twice, and only binding refuses it
twice : variables_of (spec_with (kinds.Ref Whole)) ≡ P_x ∷ pc ∷ P_x ∷ []
twice = refl

names_pass : scope_refusal (spec_with (kinds.Ref Whole)) ≡ None
names_pass = refl

labels_pass : label_refusal (spec_with (kinds.Ref Whole)) ≡ None
labels_pass = refl

binding_refuses : bind_refusal (spec_with (kinds.Ref Whole)) [] ≡ Some (bind.BadMapping (codes "P") 1)
binding_refuses = refl

-- `A(x)`: the names clash
names_refuse : scope_refusal (spec_with kinds.Value) ≡ Some (scope.NameClash P_x (codes "P.x"))
names_refuse = refl
