-- That the premises can be met, computed: a specification with a macro, whose argument is an element of a mapped global, is
-- accepted and expanded; and five like it that aren't accepted, each for what the laws rest on.
use Rattle.std.specs.Prelude.{◌≡◌, ℕ, pos, List, [], ◌∷◌, Some, None, codes, refl}
use Rattle.pgo_base.specs.Tree.{Tree, name, number, set_of, fun_of, index, binary, trees, no_bound, more_bound}
use Rattle.pgo_base.specs.Lookup.{Name}
use Rattle.pgo_base.specs.declared.expr.Infix.TheVariants.{Add}
use Rattle.pgo_syntax.specs.declared.name.PlacedName.{PlacedName}
use Rattle.pgo_syntax.specs.declared.archetype.Archetype.{Archetype}
use Rattle.pgo_syntax.specs.declared.archetype.Extent.TheVariants.{Element}
use Rattle.pgo_syntax.specs.declared.archetype.ParameterKind.TheVariants.{Ref}
use Rattle.pgo_syntax.specs.declared.binding.Origin.TheVariants.{Equals}
use Rattle.pgo_syntax.specs.declared.macros.Macro.{Macro}
use Rattle.pgo_syntax.specs.declared.process.Argument.TheVariants as arguments
use Rattle.pgo_syntax.specs.declared.process.Process.{Process}
use Rattle.pgo_syntax.specs.declared.spec.Spec.{Spec}
use Rattle.pgo_syntax.specs.Statement.{assign, call_macro}
use Rattle.pgo_scope.specs.declared.errors.ScopeError.TheVariants.{AssignedNotRef, MappedReadHere, Arity, NameClash, Twice}
use Rattle.pgo_scope.specs.Refusal.{scope_refusal}
use Rattle.pgo_accept.specs.Answers.{NothingRefuses}
use Rattle.pgo_translate.specs.Accepted.{Accepted}
use Rattle.pgo_agrees.specs.Accepted.{IsAccepted}
use Rattle.pgo_agrees.proofs.Limits.{small}
use Rattle.pgo_agrees.proofs.ModuleAccepted.{module_accepted}

abbrev placed : ℕ → Name → PlacedName
placed p n = record { name = n; place = p }

-- `macro m(a, b) { a := b + 1; }`
abbrev step : Macro
step = record {
  name = placed 10 (codes "m");
  params = placed 11 (codes "a") ∷ placed 12 (codes "b") ∷ [];
  body = (None, assign 13 (record { left = record { name = placed 13 (codes "a"); path = [] }; right = binary Add (name (codes "b")) (number (pos 1)) } ∷ [])) ∷ [];
}

-- `archetype A(ref x[_]) variables y = 0; { l: m(..); }`
abbrev archetype_with : List Tree → Archetype
archetype_with ts = record {
  name = placed 20 (codes "A");
  params = record { name = placed 21 (codes "x"); kind = Ref Element } ∷ [];
  locals = record { name = placed 22 (codes "y"); initial = Some (Equals (number (pos 0))) } ∷ [];
  body = (Some (placed 23 (codes "l")), call_macro 24 (placed 24 (codes "m")) ts) ∷ [];
}

-- `process (P = 1) == instance A(ref g[_]);`
abbrev run : Process
run = record {
  name = placed 40 (codes "P");
  ids = Equals (number (pos 1));
  archetype = placed 41 (codes "A");
  arguments = arguments.Ref (placed 42 (codes "g")) Element ∷ [];
  clauses = [];
}

-- with `variables g = [i \in {1} |-> 0];`
abbrev spec_with : List Tree → Spec
spec_with ts = record {
  name = placed 0 (codes "S");
  extends = placed 1 (codes "Naturals") ∷ [];
  constants = [];
  definitions = [];
  algorithm = placed 2 (codes "S");
  define = None;
  macros = step ∷ [];
  mappings = [];
  archetypes = archetype_with ts ∷ [];
  globals = record { name = placed 30 (codes "g"); initial = Some (Equals (fun_of (more_bound (codes "i" ∷ []) (set_of (trees (number (pos 1) ∷ []))) no_bound) (number (pos 0)))) } ∷ [];
  processes = run ∷ [];
}

abbrev y : Tree
y = name (codes "y")

-- x[self]
abbrev element : Tree
element = index (name (codes "x")) (trees (name (codes "self") ∷ []))

-- m(y, x[self])
accepted : IsAccepted (spec_with (y ∷ element ∷ [])) []
accepted = record {
  of_text = record {
    globals = ((refl, (((tt, tt), tt), tt)), tt);
    definitions = tt;
    macros = (((refl, (refl, tt)), ((tt, (tt, tt), tt), tt)), tt);
    mappings = tt;
    archetypes = (((refl, tt), ((refl, tt), tt), ((tt, ((tt, (tt, tt)), tt)), tt), (refl, tt)), tt);
    processes = ((refl, tt, (tt, tt)), tt);
  };
  names = refl;
  labels = refl;
  binding = refl;
}

-- m(x[self], y), which assigns the element
written_too : IsAccepted (spec_with (element ∷ y ∷ [])) []
written_too = record {
  of_text = record {
    globals = ((refl, (((tt, tt), tt), tt)), tt);
    definitions = tt;
    macros = (((refl, (refl, tt)), ((tt, (tt, tt), tt), tt)), tt);
    mappings = tt;
    archetypes = (((refl, tt), ((refl, tt), tt), (((tt, (tt, tt)), (tt, tt)), tt), (refl, tt)), tt);
    processes = ((refl, tt, (tt, tt)), tt);
  };
  names = refl;
  labels = refl;
  binding = refl;
}

-- m(y, x): the mapped parameter stands before no index once the macro is in place
no_index : scope_refusal (spec_with (y ∷ name (codes "x") ∷ [])) ≡ Some (MappedReadHere (codes "x"))
no_index = refl

-- m(1, y): what is assigned is no left side
no_left_side : scope_refusal (spec_with (number (pos 1) ∷ y ∷ [])) ≡ Some (AssignedNotRef (codes "a"))
no_left_side = refl

-- m(y): a parameter without an argument
one_argument : scope_refusal (spec_with (y ∷ [])) ≡ Some (Arity (codes "m") 1)
one_argument = refl

-- nothing refuses it, the limits of its expansion included
passes : NothingRefuses (spec_with (y ∷ element ∷ [])) []
passes = record { names = refl; labels = refl; binding = refl; limits = refl }

-- so all that the law of modules asks can be met at once
all_met : Accepted (spec_with (y ∷ element ∷ [])) []
all_met = module_accepted (spec_with (y ∷ element ∷ [])) [] accepted (small (spec_with (y ∷ element ∷ [])) refl) tt

-- with another name of the process
abbrev process_called : Name → Spec
process_called x = record (spec_with (y ∷ element ∷ [])) { processes = record run { name = placed 40 x } ∷ [] }

-- ProcSet is a definition of the module
no_proc_set : scope_refusal (process_called (codes "ProcSet")) ≡ Some (NameClash (codes "ProcSet") (codes "ProcSet"))
no_proc_set = refl

-- and Assert an operator
no_assert : scope_refusal (process_called (codes "Assert")) ≡ Some (Twice (codes "Assert"))
no_assert = refl
