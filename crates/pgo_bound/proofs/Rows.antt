-- Worked examples of states, computed: one that has the domains of the start, and one that hasn't.
use Rattle.std.proofs.Common.{◌≡◌, ℕ, zero, suc, List, [], ◌∷◌, Option, Some, None, refl, ap, sym, ◌∙◌, subst}
use Rattle.std.specs.Prelude.{pos, codes}
use Rattle.std.specs.List.Sorted.{IsStrictlySortedBy}
use Rattle.std.proofs.lemmas.Option.{same_Some}
use Rattle.pgo_base.specs.Data.{Data, integer, string, function, Pairs, pair, no_pairs}
use Rattle.pgo_base.specs.Lookup.{Name, Vars, find}
use Rattle.pgo_base.specs.Sets.{IsSorted}
use Rattle.pgo_base.specs.Tree.{number, tuple, trees}
use Rattle.pgo_model.specs.Machine.{nth}
use Rattle.pgo_model.specs.Written.{pc, written}
use Rattle.pgo_syntax.specs.Statement.{skip}
use Rattle.pgo_syntax.specs.declared.name.PlacedName.{PlacedName}
use Rattle.pgo_syntax.specs.declared.archetype.Archetype.{Archetype}
use Rattle.pgo_syntax.specs.declared.archetype.Extent.TheVariants.{Element}
use Rattle.pgo_syntax.specs.declared.archetype.ParameterKind.TheVariants as parameters
use Rattle.pgo_syntax.specs.declared.binding.Origin.TheVariants.{Equals}
use Rattle.pgo_syntax.specs.declared.bound.Bound.{Bound}
use Rattle.pgo_syntax.specs.declared.declaration.Declaration.{Declaration}
use Rattle.pgo_syntax.specs.declared.process.Argument.TheVariants as arguments
use Rattle.pgo_syntax.specs.declared.process.Process.{Process}
use Rattle.pgo_syntax.specs.declared.spec.Spec.{Spec}
use Rattle.pgo_bound.specs.declared.kinds.Kind.TheVariants.{ByElement}
use Rattle.pgo_bound.specs.BoundOf.{bound_of, indices}
use Rattle.pgo_model.specs.Variables.{IsFunctionOn, HasOneDomain}
use Rattle.pgo_bound.specs.State.{IsState, IsStateOnDomains, identifiers_of, kind_in, own_names}

abbrev placed : ℕ → Name → PlacedName
placed p n = record { name = n; place = p }

abbrev f : Name
f = codes "f"

-- `archetype A(ref v[_]) { l: skip; }`
abbrev archetype : Archetype
archetype = record {
  name = placed 10 (codes "A");
  params = record { name = placed 11 (codes "v"); kind = parameters.Ref Element } ∷ [];
  locals = [];
  body = (Some (placed 12 (codes "l")), skip 13) ∷ [];
}

-- `variables f = <<7>>;`
abbrev global : Declaration
global = record { name = placed 20 f; initial = Some (Equals (tuple (trees (number (pos 7) ∷ [])))) }

-- `process (P = 1) == instance A(ref f[_]);`
abbrev process : Process
process = record {
  name = placed 30 (codes "P");
  ids = Equals (number (pos 1));
  archetype = placed 31 (codes "A");
  arguments = arguments.Ref (placed 32 f) Element ∷ [];
  clauses = [];
}

abbrev spec : Spec
spec = record {
  name = placed 0 (codes "S");
  extends = [];
  constants = [];
  definitions = [];
  algorithm = placed 1 (codes "S");
  define = None;
  macros = [];
  mappings = [];
  archetypes = archetype ∷ [];
  globals = global ∷ [];
  processes = process ∷ [];
}

abbrev system : Bound
system = bound_of spec []

abbrev one : Data
one = integer (pos 1)

abbrev two : Data
two = integer (pos 2)

-- f has this value at this key, and the instance is at its label
abbrev state : Data → Data → Vars
state k v = (f, function (pair k v no_pairs)) ∷ (pc, function (pair one (string (codes "P_l")) no_pairs)) ∷ []

starts : system.start ≡ state one (integer (pos 7))
starts = refl

by_element : kind_in system f ≡ ByElement
by_element = refl

sorted : (k : Data) → IsSorted (k ∷ [])
unfolding IsStrictlySortedBy
sorted k = (tt, tt)

no_locals : (s : Vars) (n m : ℕ) (p : Process) (x : Name) → nth system.spec.processes n ≡ Some p → nth (own_names system.spec p) m ≡ Some x → IsFunctionOn (identifiers_of system p.name.name) (find (written p.name.name x) s)
no_locals s zero m p x h g = absurd (let e : nth (own_names system.spec process) m ≡ Some x = ap (λ q. nth (own_names system.spec q) m) (same_Some process p h) ∙ g in let z : None ≡ Some x = e in cc)
no_locals s (suc n) m p x h g = absurd (cc)

is_function : (k v : Data) (n : ℕ) (d : Declaration) → nth system.spec.globals n ≡ Some d → (ps : Pairs) × (find d.name.name (state k v) ≡ Some (function ps))
is_function k v zero d h = subst (λ (c : Declaration). (ps : Pairs) × (find c.name.name (state k v) ≡ Some (function ps))) (same_Some global d h) (pair k v no_pairs, refl)
is_function k v (suc n) d h = absurd (cc)

abbrev here : Data
here = string (codes "P_l")

-- f = <<8>>
abbrev changed : Vars
changed = state one (integer (pos 8))

-- f is a function on {2}
abbrev moved : Vars
moved = state two (integer (pos 7))

changed_is_state : IsState system changed
changed_is_state = record {
  variables = refl;
  values = (((refl, refl, tt), sorted one), (((refl, tt, tt), sorted one), tt));
  shallow = refl;
  places = (pair one here no_pairs, refl, refl);
  locals = no_locals changed;
  elements = λ n d h k. is_function one (integer (pos 8)) n d h;
}

moved_is_state : IsState system moved
moved_is_state = record {
  variables = refl;
  values = (((refl, refl, tt), sorted two), (((refl, tt, tt), sorted one), tt));
  shallow = refl;
  places = (pair one here no_pairs, refl, refl);
  locals = no_locals moved;
  elements = λ n d h k. is_function two (integer (pos 7)) n d h;
}

same_domain : (n : ℕ) (d : Declaration) → nth system.spec.globals n ≡ Some d → HasOneDomain system.start changed d.name.name
same_domain zero d h =
    subst (λ (c : Declaration). HasOneDomain system.start changed c.name.name) (same_Some global d h)
    (one ∷ [], (pair one (integer (pos 7)) no_pairs, refl, refl), (pair one (integer (pos 8)) no_pairs, refl, refl))
same_domain (suc n) d h = absurd (cc)

-- the value has changed, and not the domain
changed_is_on_domains : IsStateOnDomains system changed
changed_is_on_domains = record { state = changed_is_state; domains = λ n d h k. same_domain n d h }

abbrev keys_in : Option Data → List Data
keys_in None = []
keys_in (Some v) = indices v

apart : one ∷ [] ≡ two ∷ [] → ⊥
apart h = cc

-- a state, but on another domain
moved_is_not_on_domains : IsStateOnDomains system moved → ⊥
moved_is_not_on_domains h =
    let d = h.domains 0 global refl refl in
    apart (ap keys_in d.1.1 ∙ d.1.2 ∙ sym (ap keys_in d.2.1 ∙ d.2.2))
