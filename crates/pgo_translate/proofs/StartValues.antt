-- The value of an expression that names no variable is the same over the module and a state as over the specification's
-- definitions alone.
use Rattle.std.proofs.Common.{◌≡◌, Bool, true, false, List, [], ◌∷◌, ◌++◌, length, map, Option, Some, None, refl, ap, ◌∙◌, fold}
use Rattle.std.specs.Prelude.{if◌then◌else◌, ◌||◌, ◌==◌}
use Rattle.std.specs.List.{AllByRecursion}
use Rattle.pgo_base.specs.Data.{Data, model}
use Rattle.pgo_base.specs.Lookup.{Name, Names, Vars, same_name, find}
use Rattle.pgo_base.specs.Tree.{Tree, name}
use Rattle.pgo_model.specs.Module.{defs_of, proc_set_of, process_definitions, terminating_body}
use Rattle.pgo_model.specs.ModuleView.{defined_view}
use Rattle.pgo_model.specs.Names.{same_name-self, is_among}
use Rattle.pgo_model.specs.Val.{Scope, Meaning, Defined, Given, Means, sem, val, seen, meanings, meaning_of, call_def, or_else, default_meaning, name_values}
use Rattle.pgo_model.specs.Written.{proc_set, terminating, default_init_value}
use Rattle.pgo_syntax.specs.declared.spec.Spec.{Spec}
use Rattle.pgo_bound.specs.State.{variables_of}
use Rattle.pgo_bound.specs.Values as values
use Rattle.pgo_bound.specs.Values.{meant, define_of}
use Rattle.pgo_syntax.specs.declared.declaration.Definition.{Definition}
use Rattle.pgo_translate.specs.Avoids.{Avoids}
use Rattle.pgo_translate.specs.ModuleOf.{constants_with}
use Rattle.pgo_translate.proofs.ByProcess.{written_process, own_module}
use Rattle.pgo_translate.specs.Premises.{ModuleNames, further_names, process_names, taken_names, is_taken, is_further, StartNames}
use Rattle.pgo_sections.specs.Closed.{AreClosed}
use Rattle.pgo_translate.proofs.Alike.{sem_alike}
use Rattle.pgo_translate.proofs.Actions.{apart_from_all, module_defs, specification_defs, later_defined, among_left, among_right, further, further_defined, fold_append, call_further, defined_name}

pub or_left : (a b : Bool) → (a || b) ≡ false → a ≡ false
or_left true b h = absurd (cc)
or_left false b h = refl

pub or_right : (a b : Bool) → (a || b) ≡ false → b ≡ false
or_right true b h = absurd (cc)
or_right false b h = h

-- a name that is none of the variables is not found among them
pub not_found : (x : Name) (s : Vars) → is_among x (map (λ p. p.0) s) ≡ false → find x s ≡ None
not_found x [] h = refl
not_found x (p ∷ ps) h = go (same_name x p.0) h (not_found x ps)
  where
    go : (b : Bool) → (b || is_among x (map (λ p. p.0) ps)) ≡ false → (is_among x (map (λ p. p.0) ps) ≡ false → find x ps ≡ None) → (if b then Some p.1 else find x ps) ≡ None
    go true k r = absurd (cc)
    go false k r = r k

-- of a definition, that its body avoids the names
abbrev BodyAvoids : (Name → Bool) → Defined → Type 0
BodyAvoids bad (Given x v) = Unit {0}
BodyAvoids bad (Means x ps e) = Avoids bad e

bodies_avoid : (vs : List Name) (ds : List Defined) → AreClosed vs ds → AllByRecursion (BodyAvoids (λ x. is_among x vs)) ds
bodies_avoid vs [] h = tt
bodies_avoid vs (Given x v ∷ ds) h = (tt, bodies_avoid vs ds h.1)
bodies_avoid vs (Means x ps e ∷ ds) h = (h.0, bodies_avoid vs ds h.1)

-- whatever the next state is, since no such expression asks for it
module _ (bad : Name → Bool) (u : Vars) (after : Option Vars) (unseen : (x : Name) → bad x ≡ false → find x u ≡ None) where
  -- two lists of meanings that give good names the same
  abbrev pub Related : List Meaning → List Meaning → Type 0
  Related ms ns = (x : Name) (args : List Data) → bad x ≡ false → call_def x args ms ≡ call_def x args ns

  body_same : (ms ns : List Meaning) → Related ms ns → (e : Tree) → Avoids bad e → (names : Names) → val e (record { names = names; part = None; now = u; next = after; defs = ms }) ≡ val e (record { names = names; part = None; now = []; next = None; defs = ns })
  body_same ms ns r e h names =
      ap (λ m. m.value) (sem_alike bad e (record { names = names; part = None; now = u; next = after; defs = ms }) (record { names = names; part = None; now = []; next = None; defs = ns }) (record { names = λ y k. refl; part = refl; now = unseen; calls = r }) h)

  one_more : (d : Defined) → BodyAvoids bad d → (ms ns : List Meaning) → Related ms ns → Related (meaning_of u after ms d) (meaning_of [] None ns d)
  one_more (Given y v) h ms ns r x args g = ap (λ o. if same_name x y then (if length args == 0 then Some v else None) else o) (r x args g)
  one_more (Means y ps e) h ms ns r x args g =
      λ i. if same_name x y then (if length args == length ps then body_same ms ns r e h (name_values ps args []) i else None) else r x args g i

  pub meanings_related : (ds : List Defined) → AllByRecursion (BodyAvoids bad) ds → (ms ns : List Meaning) → Related ms ns → Related (fold (meaning_of u after) ms ds) (fold (meaning_of [] None) ns ds)
  meanings_related [] a ms ns r = r
  meanings_related (d ∷ ds) a ms ns r = meanings_related ds a.1 (meaning_of u after ms d) (meaning_of [] None ns d) (one_more d a.0 ms ns r)

module _ (s : Spec) (consts : List (Name × Data)) (free : ModuleNames s) (names : StartNames s consts) (u : Vars) (known : map (λ p. p.0) u ≡ variables_of s) (after : Option Vars) where
  abbrev pub specification : List Defined
  specification = map defined_view (values.defs_of s consts)

  abbrev pub written_module : List Defined
  written_module = defs_of (own_module s) (constants_with s consts)

  abbrev pub taken : Name → Bool
  taken = is_taken s

  pub unseen : (x : Name) → taken x ≡ false → find x u ≡ None
  unseen x h = not_found x u (ap (is_among x) known ∙ among_left x (variables_of s) (further_names s) h)

  pub own_related : Related taken u after unseen (meanings specification u after) (meanings specification [] None)
  own_related = meanings_related taken u after unseen specification (bodies_avoid (taken_names s) specification names.bodies) (default_meaning ∷ []) (default_meaning ∷ []) (λ x args h. refl)

  pub module_related : Related taken u after unseen (meanings written_module u after) (meanings specification [] None)
  module_related x args h =
      ap (λ ds. call_def x args (meanings ds u after)) (module_defs s consts)
      ∙ ap (call_def x args) (fold_append (meaning_of u after) (default_meaning ∷ []) specification (further s))
      ∙ call_further u after x args (further s) (meanings specification u after) (ap (is_among x) (further_defined s) ∙ among_right x (variables_of s) (further_names s) h)
      ∙ own_related x args h

  -- over the state and some meanings, an expression is what it is over the specification's definitions alone
  pub sem_start : (ms : List Meaning) → Related taken u after unseen ms (meanings specification [] None) → (e : Tree) → Avoids taken e → (ns : Names) → sem e (record { names = ns; part = None; now = u; next = after; defs = ms }) ≡ sem e (seen specification ns [] None)
  sem_start ms r e h ns = sem_alike taken e (record { names = ns; part = None; now = u; next = after; defs = ms }) (seen specification ns [] None) (record { names = λ y k. refl; part = refl; now = unseen; calls = r }) h

  -- what Init and Next see under names
  abbrev pub at_start : Names → Scope
  at_start ns = seen written_module ns u after

  pub start_sem : (e : Tree) → Avoids taken e → (ns : Names) → sem e (at_start ns) ≡ sem e (seen specification ns [] None)
  start_sem e h ns = sem_start (meanings written_module u after) module_related e h ns

  abbrev set_body : Tree
  set_body = proc_set_of (own_module s)

  abbrev behind_set : List Defined
  behind_set = process_definitions (map (written_process s) s.processes) ++ (Means terminating [] (terminating_body (own_module s)) ∷ [])

  proc_set_free : is_among proc_set (variables_of s) ≡ false
  proc_set_free = go (is_among proc_set (variables_of s)) refl
    where
      first : is_further s proc_set ≡ true
      first = ap (λ b. b || is_among proc_set (process_names s s.processes ++ (terminating ∷ []))) (same_name-self proc_set)

      go : (b : Bool) → is_among proc_set (variables_of s) ≡ b → b ≡ false
      go true e = absurd (let k : is_further s proc_set ≡ false = free.apart proc_set e in let q = first in cc)
      go false e = refl

  proc_set_once : is_among proc_set (process_names s s.processes ++ (terminating ∷ [])) ≡ false
  proc_set_once = apart_from_all proc_set (process_names s s.processes ++ (terminating ∷ [])) free.differ.0

  -- ProcSet is the union of the processes' sets, over the specification's definitions
  pub proc_set_value : val (name proc_set) (at_start []) ≡ val set_body (record { names = []; part = None; now = u; next = after; defs = meanings specification u after })
  proc_set_value =
      ap (λ o. or_else o (λ v. Some v) (call_def proc_set [] (meanings written_module u after))) (not_found proc_set u (ap (is_among proc_set) known ∙ proc_set_free))
      ∙ ap (λ ds. call_def proc_set [] (meanings ds u after)) (module_defs s consts)
      ∙ ap (call_def proc_set []) (fold_append (meaning_of u after) (default_meaning ∷ []) specification (further s))
      ∙ call_further u after proc_set [] behind_set (meaning_of u after (meanings specification u after) (Means proc_set [] set_body)) (ap (is_among proc_set) (later_defined s) ∙ proc_set_once)
      ∙ ap (λ b. if b then val set_body (record { names = []; part = None; now = u; next = after; defs = meanings specification u after }) else call_def proc_set [] (meanings specification u after)) (same_name-self proc_set)

  definition_name : (ds : List Definition) → map defined_name (map (λ d. defined_view (meant d)) ds) ≡ map (λ d. d.name.name) ds
  definition_name [] = refl
  definition_name (d ∷ ds) = ap (λ xs. d.name.name ∷ xs) (definition_name ds)

  -- the last definition of that name is the one that each list begins with
  default_call : call_def default_init_value [] (meanings specification [] None) ≡ Some (model default_init_value)
  default_call =
      let a = map (λ c. Given c.0 c.1) (constants_with s consts) in
      let d = Given default_init_value (model default_init_value) in
      let m = map (λ d. defined_view (meant d)) s.definitions in
      let n = map (λ d. defined_view (meant d)) (define_of s.define) in
      let f = meaning_of [] None in
      let x = default_init_value in
      ap (λ ds. call_def x [] (meanings ds [] None)) (specification_defs s consts)
      ∙ ap (call_def x []) (fold_append f (default_meaning ∷ []) ((a ++ (d ∷ [])) ++ m) n)
      ∙ call_further [] None x [] n (fold f (default_meaning ∷ []) ((a ++ (d ∷ [])) ++ m)) (ap (is_among x) (definition_name (define_of s.define)) ∙ among_right x (map (λ d. d.name.name) s.definitions) (map (λ d. d.name.name) (define_of s.define)) names.default_defined)
      ∙ ap (call_def x []) (fold_append f (default_meaning ∷ []) (a ++ (d ∷ [])) m)
      ∙ call_further [] None x [] m (fold f (default_meaning ∷ []) (a ++ (d ∷ []))) (ap (is_among x) (definition_name s.definitions) ∙ among_left x (map (λ d. d.name.name) s.definitions) (map (λ d. d.name.name) (define_of s.define)) names.default_defined)
      ∙ ap (call_def x []) (fold_append f (default_meaning ∷ []) a (d ∷ []))
      ∙ ap (λ b. if b then Some (model x) else call_def x [] (fold f (default_meaning ∷ []) a)) (same_name-self x)

  -- `defaultInitValue` is the model value of that name
  pub default_value : (ns : Names) → find default_init_value ns ≡ None → val (name default_init_value) (at_start ns) ≡ Some (model default_init_value)
  default_value ns h =
      ap (λ o. or_else o (λ p. p) (or_else (find default_init_value u) (λ v. Some v) (call_def default_init_value [] (meanings written_module u after)))) h
      ∙ ap (λ o. or_else o (λ v. Some v) (call_def default_init_value [] (meanings written_module u after))) (unseen default_init_value names.default)
      ∙ module_related default_init_value [] names.default ∙ default_call
