-- The variables of a specification: no two things are written as one of them.
use Rattle.std.proofs.Common.{◌≡◌, ℕ, suc, ◌+◌, Bool, true, false, ◌||◌, ◌==◌, List, [], ◌∷◌, ◌++◌, map, Option, Some, None, refl, ap, sym, ◌∙◌, subst, inl, inr, arith}
use Rattle.std.specs.Prelude.{◌⊎◌}
use Rattle.std.specs.List.{AllByRecursion, filter_map, flat_map, cons_option}
use Rattle.pgo_base.specs.Lookup.{Name, same_name}
use Rattle.pgo_model.specs.Names.{same_name-self, same_name-not, is_among}
use Rattle.pgo_model.specs.Written.{pc, self_name, written}
use Rattle.pgo_syntax.specs.Statement.{labeled}
use Rattle.pgo_syntax.specs.declared.name.PlacedName.{PlacedName}
use Rattle.pgo_syntax.specs.declared.archetype.Archetype.{Archetype}
use Rattle.pgo_syntax.specs.declared.archetype.Parameter.{Parameter}
use Rattle.pgo_syntax.specs.declared.archetype.ParameterKind.{ParameterKind}
use Rattle.pgo_syntax.specs.declared.archetype.ParameterKind.TheVariants as kinds
use Rattle.pgo_syntax.specs.declared.declaration.Declaration.{Declaration}
use Rattle.pgo_syntax.specs.declared.process.Argument.{Argument}
use Rattle.pgo_syntax.specs.declared.process.Argument.TheVariants as arguments
use Rattle.pgo_syntax.specs.declared.process.Process.{Process}
use Rattle.pgo_syntax.specs.declared.spec.Spec.{Spec}
use Rattle.pgo_uses.specs.AllUses.{all_uses, variable_names, parameter_names, parameter_uses, local_uses, initial_uses, start, archetype_uses}
use Rattle.pgo_uses.specs.Heads.{declared_names, definition_names, shared_names, head_names, unit_names, macro_names, mapping_names, archetype_names, process_names, named_by}
use Rattle.pgo_uses.specs.StatementUses.{at_place, uses_of_block}
use Rattle.pgo_uses.specs.Tables.{all_definitions}
use Rattle.pgo_uses.specs.declared.uses.Around.{Around}
use Rattle.pgo_uses.specs.declared.uses.Home.TheVariants as homes
use Rattle.pgo_uses.specs.declared.uses.Use.{Use}
use Rattle.pgo_uses.specs.declared.uses.Form.TheVariants as forms
use Rattle.pgo_scope.specs.Clash.{itself, fixed_names, fixed_module_names, shared_module_names, value_names, labels_from, own_names, or_none, own_module_name, name_clashes}
use Rattle.pgo_scope.specs.Underscores.{has_double, double_name}
use Rattle.pgo_scope.specs.declared.errors.ScopeError.TheVariants as errors
use Rattle.pgo_bound.specs.Among.{IsAmong, among_left, among_right, among_append, from_map, from_flat_map, all_at, none_flat_map}
use Rattle.pgo_bound.specs.Runs.{handed_from, archetype_named}
use Rattle.pgo_bound.specs.Instances.{archetype_among}
use Rattle.pgo_bound.specs.State as bind
use Rattle.pgo_bound.specs.State.{variables_of, names_with, names_or_none}
use Rattle.pgo_accept.proofs.Heads.{nothing_if}
use Rattle.pgo_accept.proofs.Fitting.{Fits, ArgumentsFit, is_stray}
use Rattle.pgo_accept.proofs.Variables.{handed_value, found_own}
use Rattle.pgo_accept.proofs.WrittenOnce.{writes}
use Rattle.pgo_sections.specs.WellFormed.{NotMade}
use Rattle.pgo_agrees.specs.Accepted.{IsOfText, ArchetypeOfText, ParameterOfText, DeclarationOfText}
use Rattle.pgo_agrees.proofs.Kept.{NoFindings}
use Rattle.pgo_agrees.proofs.Names.{single, written_single, written_marked, has_mark, identifier_letter}
use Rattle.pgo_agrees.proofs.WrittenNames.{writes_some, counted, shared_among, process_among, bound_apart, bound_not_fixed, written_by, rows_of}
use Rattle.pgo_agrees.proofs.Uses.{FineUse, fine_use, of_archetype}
use Rattle.pgo_model.specs.ValueText.{has_letter, is_identifier}
use Rattle.pgo_meaning.proofs.Traces.{among_is}

-- ---- membership by tests

pub is_among_there : (x : Name) (xs : List Name) → IsAmong x xs → is_among x xs ≡ true
is_among_there x [] h = absurd h
is_among_there x (y ∷ xs) (inl e) = ap (λ b. b || is_among x xs) (ap (same_name x) (sym e) ∙ same_name-self x)
is_among_there x (y ∷ xs) (inr a) = go (same_name x y) (is_among_there x xs a)
  where
    go : (b : Bool) → is_among x xs ≡ true → b || is_among x xs ≡ true
    go true h = refl
    go false h = h

pub not_among : (x : Name) (xs : List Name) → (IsAmong x xs → ⊥) → is_among x xs ≡ false
not_among x xs f = go (is_among x xs) refl
  where
    go : (b : Bool) → is_among x xs ≡ b → is_among x xs ≡ false
    go true e = absurd (f (among_is x xs e))
    go false e = e

-- ---- what a variable is

pub data IsVariable (s : Spec) (x : Name) : Type 0 where
  is_global : (d : Declaration) → IsAmong d s.globals → x ≡ d.name.name → IsVariable s x
  is_place : x ≡ pc → IsVariable s x
  is_own : (p : Process) → (a : Archetype) → (y : Name) → IsAmong p s.processes → archetype_named p.archetype.name s.archetypes ≡ Some a → IsAmong y (names_with p a) → x ≡ written p.name.name y → IsVariable s x

pub variable_is : (s : Spec) (x : Name) → IsAmong x (variables_of s) → IsVariable s x
variable_is s x h = front (among_append x (globals ++ (pc ∷ [])) locals h)
  where
    globals : List Name
    globals = map (λ (d : Declaration). d.name.name) s.globals

    locals : List Name
    locals = flat_map (λ (p : Process). map (written p.name.name) (bind.own_names s p)) s.processes

    of_process : (p : Process) → IsAmong p s.processes → (o : Option Archetype) → archetype_named p.archetype.name s.archetypes ≡ o → IsAmong x (map (written p.name.name) (names_or_none p o)) → IsVariable s x
    of_process p a None e b = absurd b
    of_process p a (Some r) e b = let m = from_map (written p.name.name) x (names_with p r) b in is_own p r m.0 a e m.1 m.2

    behind : IsAmong x globals ⊎ IsAmong x (pc ∷ []) → IsVariable s x
    behind (inl a) = let m = from_map (λ (d : Declaration). d.name.name) x s.globals a in is_global m.0 m.1 m.2
    behind (inr (inl e)) = is_place e
    behind (inr (inr a)) = absurd a

    front : IsAmong x (globals ++ (pc ∷ [])) ⊎ IsAmong x locals → IsVariable s x
    front (inl a) = behind (among_append x globals (pc ∷ []) a)
    front (inr a) =
        let p = from_flat_map (λ (p : Process). map (written p.name.name) (bind.own_names s p)) x s.processes a in
        of_process p.0 p.1 (archetype_named p.0.archetype.name s.archetypes) refl p.2

-- ---- a process's names

-- a parameter that is handed a value is a value parameter
value_there : (y : Name) (n : ℕ) (ps : List Parameter) (es : List Argument) → AllByRecursion Fits (handed_from n ps es) → IsAmong y (filter_map handed_value (handed_from n ps es)) → IsAmong y (value_names ps)
value_there y n [] es h a = absurd a
value_there y n (p ∷ ps) [] h a = absurd a
value_there y n (p ∷ ps) (e ∷ es) h a = go p.kind e h.0 a (value_there y (suc n) ps es h.1)
  where
    go : (k : ParameterKind) (e : Argument) → is_stray k e ≡ false → IsAmong y (cons_option (bind.value_name p.name.name e) (filter_map handed_value (handed_from (suc n) ps es)))
        → (IsAmong y (filter_map handed_value (handed_from (suc n) ps es)) → IsAmong y (value_names ps))
        → IsAmong y (elim k as (λ k. List Name) [ kinds.Value ↦ p.name.name ∷ value_names ps | kinds.Ref extent ↦ value_names ps ])
    go kinds.Value (arguments.Value place t) g (inl q) more = inl q
    go kinds.Value (arguments.Value place t) g (inr b) more = inr (more b)
    go kinds.Value (arguments.Ref z extent) g b more = inr (more b)
    go (kinds.Ref extent) (arguments.Value place t) g b more = absurd (cc)
    go (kinds.Ref extent) (arguments.Ref z f) g b more = more b

value_parameter : (y : Name) (ps : List Parameter) → IsAmong y (value_names ps) → (p : Parameter) × IsAmong p ps × (y ≡ p.name.name)
value_parameter y [] a = absurd a
value_parameter y (p ∷ ps) a = go p.kind a (value_parameter y ps)
  where
    go : (k : ParameterKind) → IsAmong y (elim k as (λ k. List Name) [ kinds.Value ↦ p.name.name ∷ value_names ps | kinds.Ref extent ↦ value_names ps ])
        → (IsAmong y (value_names ps) → (q : Parameter) × IsAmong q ps × (y ≡ q.name.name)) → (q : Parameter) × IsAmong q (p ∷ ps) × (y ≡ q.name.name)
    go kinds.Value (inl e) more = (p, inl refl, e)
    go kinds.Value (inr b) more = let r = more b in (r.0, inr r.1, r.2)
    go (kinds.Ref extent) b more = let r = more b in (r.0, inr r.1, r.2)

local_names : (y : Name) (ds : List Declaration) → IsAmong y (map (λ (d : Declaration). d.name.name) ds) → IsAmong y (variable_names ds)
local_names y [] a = absurd a
local_names y (d ∷ ds) (inl e) = inl e
local_names y (d ∷ ds) (inr a) = inr (local_names y ds a)

module _ (s : Spec) (fit : AllByRecursion (ArgumentsFit s.archetypes) s.processes) where
  -- what a process has as its own is a thing that is written
  pub own_there : (p : Process) (a : Archetype) (y : Name) → IsAmong p s.processes → archetype_named p.archetype.name s.archetypes ≡ Some a → IsAmong y (names_with p a) → IsAmong (own_module_name p y) (written_by s)
  own_there p a y b e c =
      let values = filter_map handed_value (handed_from 1 a.params p.arguments) in
      let locals = map (λ (d : Declaration). d.name.name) a.locals in
      let f = found_own p.archetype.name 0 s.archetypes a e in
      process_among (rows_of s) p y s.processes b (subst (λ o. IsAmong y (or_none o)) (sym f.1) (named f.0 (among_append y values locals c)))
    where
      named : (k : ℕ) → IsAmong y (filter_map handed_value (handed_from 1 a.params p.arguments)) ⊎ IsAmong y (map (λ (d : Declaration). d.name.name) a.locals) → IsAmong y (own_names k a)
      named k (inl v) =
          let labels = labels_from [] (archetype_uses k a) in
          among_left y (value_names a.params ++ variable_names a.locals) labels (among_left y (value_names a.params) (variable_names a.locals) (value_there y 1 a.params p.arguments (all_at (ArgumentsFit s.archetypes) p s.processes fit b a e) v))
      named k (inr v) =
          let labels = labels_from [] (archetype_uses k a) in
          among_left y (value_names a.params ++ variable_names a.locals) labels (among_right y (value_names a.params) (variable_names a.locals) (local_names y a.locals v))

-- ---- no variable has the name of another thing

pub declared_there : (d : Declaration) (ds : List Declaration) → IsAmong d ds → IsAmong d.name (declared_names ds)
declared_there d [] a = absurd a
declared_there d (e ∷ ds) (inl q) = inl (ap (λ (z : Declaration). z.name) q)
declared_there d (e ∷ ds) (inr a) = inr (declared_there d ds a)

pub global_shared : (s : Spec) (d : Declaration) → IsAmong d s.globals → IsAmong d.name (shared_names s)
global_shared s d a = among_right d.name (s.constants ++ definition_names (all_definitions s)) (declared_names s.globals) (declared_there d s.globals a)

module _ (s : Spec) (h : name_clashes s ≡ []) (fit : AllByRecursion (ArgumentsFit s.archetypes) s.processes) where
  -- a name that is written of a variable is written by nothing else
  abbrev pub Others : Name → ℕ
  Others x = writes x (shared_module_names s.constants) + writes x (shared_module_names (definition_names (all_definitions s)))

  pub others_none : (x : Name) → IsVariable s x → Others x ≡ 0
  others_none x (is_global d a e) =
      let c = counted s h x in
      let k = writes_some x (itself false d.name.name d.name.place) (shared_module_names (declared_names s.globals)) (shared_among d.name (declared_names s.globals) (declared_there d s.globals a)) (ap (same_name x) (sym e) ∙ same_name-self x) in
      omega (arith, c, k)
  others_none x (is_place e) =
      let c = counted s h x in
      let k = writes_some x (itself false pc 0) (fixed_module_names fixed_names) (inr (inr (inr (inr (inr (inr (inl refl))))))) (ap (same_name x) (sym e) ∙ same_name-self x) in
      omega (arith, c, k)
  others_none x (is_own p a y b e n q) =
      let c = counted s h x in
      let k = writes_some x (own_module_name p y) (written_by s) (own_there s fit p a y b e n) (ap (same_name x) (sym q) ∙ same_name-self x) in
      omega (arith, c, k)

  -- none is `self`
  pub not_self : (x : Name) → IsVariable s x → x ≡ self_name → ⊥
  not_self x (is_global d a e) f =
      let c = counted s h x in
      let k = writes_some x (itself false d.name.name d.name.place) (shared_module_names (declared_names s.globals)) (shared_among d.name (declared_names s.globals) (declared_there d s.globals a)) (ap (same_name x) (sym e) ∙ same_name-self x) in
      let m = writes_some x (itself false self_name 0) (fixed_module_names fixed_names) (inr (inr (inr (inr (inr (inr (inr (inl refl)))))))) (ap (same_name x) (sym f) ∙ same_name-self x) in
      omega (arith, c, k, m)
  not_self x (is_place e) f = let q : pc ≡ self_name = sym e ∙ f in let r : has_p pc ≡ has_p self_name = ap has_p q in cc
    where
      has_p : Name → Bool
      has_p [] = false
      has_p (b ∷ bs) = b == 112
  not_self x (is_own p a y b e n q) f =
      let r : has_mark x ≡ false = ap has_mark f in
      let t : has_mark x ≡ true = ap has_mark q ∙ written_marked p.name.name y in
      let z : true ≡ false = sym t ∙ r in cc

  -- what an expression binds is no variable
  pub bound_no_variable : (u : Use) → IsAmong u (all_uses s) → u.form ≡ forms.Bound → IsVariable s u.name → ⊥
  bound_no_variable u a f (is_global d b e) =
      bound_apart s h u a f (itself false d.name.name d.name.place) (among_left (itself false d.name.name d.name.place) (shared_module_names (shared_names s)) (written_by s) (shared_among d.name (shared_names s) (global_shared s d b))) refl (sym e)
  bound_no_variable u a f (is_place e) = bound_not_fixed s h u a f pc (inr (inr (inr (inr (inr (inr (inl refl))))))) (sym e)
  bound_no_variable u a f (is_own p r y b e n q) =
      bound_apart s h u a f (own_module_name p y) (among_right (own_module_name p y) (shared_module_names (shared_names s)) (written_by s) (own_there s fit p r y b e n)) refl (sym q)

-- ---- a variable's name is no made name

parameter_use : (p : Parameter) (ns : List Name) (a : Around) (ps : List Parameter) → IsAmong p ps → (b : Bool) × IsAmong (record { name = p.name.name; form = forms.Named; inner = b; around = at_place p.name.place a }) (parameter_uses ns a ps)
parameter_use p ns a [] h = absurd h
parameter_use p ns a (q ∷ ps) (inl e) =
    (is_among q.name.name ns, inl (ap (λ (z : Parameter). record { name = z.name.name; form = forms.Named; inner = is_among q.name.name ns; around = at_place z.name.place a }) e))
parameter_use p ns a (q ∷ ps) (inr h) = let r = parameter_use p (ns ++ q.name.name ∷ []) a ps h in (r.0, inr r.1)

local_use : (j : ℕ) (d : Declaration) (ns : List Name) (a : Around) (ds : List Declaration) → IsAmong d ds → (b : Bool) × IsAmong (record { name = d.name.name; form = forms.Named; inner = b; around = at_place d.name.place a }) (local_uses j ns a ds)
local_use j d ns a [] h = absurd h
local_use j d ns a (e ∷ ds) (inl q) =
    (is_among e.name.name ns, inl (ap (λ (z : Declaration). record { name = z.name.name; form = forms.Named; inner = is_among e.name.name ns; around = at_place z.name.place a }) q))
local_use j d ns a (e ∷ ds) (inr h) =
    let r = local_use j d (ns ++ e.name.name ∷ []) a ds h in
    (r.0, inr (among_right (record { name = d.name.name; form = forms.Named; inner = r.0; around = at_place d.name.place a }) (initial_uses j e) (local_uses j (ns ++ e.name.name ∷ []) a ds) r.1))

module _ (s : Spec) (k : NoFindings s) where
  -- a parameter or a local of an archetype is used as a declared name
  pub parameter_fine : (a : Archetype) → IsAmong a s.archetypes → (p : Parameter) → IsAmong p a.params → (u : Use) × FineUse s u × (u.name ≡ p.name.name) × (u.form ≡ forms.Named) × ((j : ℕ) × (u.around.home ≡ homes.Body j))
  parameter_fine a h p b =
      let j = of_archetype s a h in
      let at_start = start (homes.Body j.0) a.name.place in
      let u = parameter_use p [] at_start a.params b in
      let use' : Use = record { name = p.name.name; form = forms.Named; inner = u.0; around = at_place p.name.place at_start } in
      let ps = parameter_uses [] at_start a.params in
      let ls = local_uses j.0 (parameter_names a.params) at_start a.locals in
      let bs = uses_of_block (parameter_names a.params ++ variable_names a.locals) at_start (labeled a.body) in
      (use', fine_use s k use' (j.2 use' (among_left use' (ps ++ ls) bs (among_left use' ps ls u.1))), refl, refl, (j.0, refl))

  pub local_fine : (a : Archetype) → IsAmong a s.archetypes → (d : Declaration) → IsAmong d a.locals → (u : Use) × FineUse s u × (u.name ≡ d.name.name) × (u.form ≡ forms.Named) × ((j : ℕ) × (u.around.home ≡ homes.Body j))
  local_fine a h d b =
      let j = of_archetype s a h in
      let at_start = start (homes.Body j.0) a.name.place in
      let u = local_use j.0 d (parameter_names a.params) at_start a.locals b in
      let use' : Use = record { name = d.name.name; form = forms.Named; inner = u.0; around = at_place d.name.place at_start } in
      let ps = parameter_uses [] at_start a.params in
      let ls = local_uses j.0 (parameter_names a.params) at_start a.locals in
      let bs = uses_of_block (parameter_names a.params ++ variable_names a.locals) at_start (labeled a.body) in
      (use', fine_use s k use' (j.2 use' (among_left use' (ps ++ ls) bs (among_right use' ps ls u.1))), refl, refl, (j.0, refl))

  module _ (fit : AllByRecursion (ArgumentsFit s.archetypes) s.processes) (of_text : IsOfText s) where
    -- a process's own name has a letter, and no two underscores
    own_name_fine : (p : Process) (a : Archetype) (y : Name) → IsAmong p s.processes → archetype_named p.archetype.name s.archetypes ≡ Some a → IsAmong y (names_with p a) → (has_double y ≡ false) × (has_letter y ≡ true)
    own_name_fine p a y b e c =
        go (among_append y (filter_map handed_value (handed_from 1 a.params p.arguments)) (map (λ (d : Declaration). d.name.name) a.locals) c)
      where
        there : IsAmong a s.archetypes
        there = archetype_among p.archetype.name s.archetypes a e

        text : ArchetypeOfText a
        text = all_at ArchetypeOfText a s.archetypes of_text.archetypes there

        go : IsAmong y (filter_map handed_value (handed_from 1 a.params p.arguments)) ⊎ IsAmong y (map (λ (d : Declaration). d.name.name) a.locals) → (has_double y ≡ false) × (has_letter y ≡ true)
        go (inl v) =
            let q = value_parameter y a.params (value_there y 1 a.params p.arguments (all_at (ArgumentsFit s.archetypes) p s.processes fit b a e) v) in
            let u = parameter_fine a there q.0 q.1 in
            let is : is_identifier q.0.name.name ≡ true = all_at ParameterOfText q.0 a.params text.0 q.1 in (
              ap has_double (q.2 ∙ sym u.2) ∙ u.1.double,
              ap has_letter q.2 ∙ identifier_letter q.0.name.name is,
            )
        go (inr v) =
            let q = from_map (λ (d : Declaration). d.name.name) y a.locals v in
            let u = local_fine a there q.0 q.1 in
            let is : is_identifier q.0.name.name ≡ true = (all_at DeclarationOfText q.0 a.locals text.1 q.1).0 in (
              ap has_double (q.2 ∙ sym u.2) ∙ u.1.double,
              ap has_letter q.2 ∙ identifier_letter q.0.name.name is,
            )

    shared_in_heads : (x : PlacedName) → IsAmong x (shared_names s) → IsAmong x (head_names s)
    shared_in_heads x a =
        let front = s.name ∷ s.extends in
        let units = s.algorithm ∷ unit_names s in
        let ms = macro_names s.macros in
        let ns = mapping_names s.mappings in
        let as' = archetype_names s.archetypes in
        let ps = process_names s.processes in
        let shared = shared_names s in
        among_left x (front ++ units) (named_by s.processes) (among_right x front units (inr (among_left x (shared ++ ms ++ ns ++ as') ps (among_left x (shared ++ ms ++ ns) as' (among_left x (shared ++ ms) ns (among_left x shared ms a))))))

    pub shared_single : (x : PlacedName) → IsAmong x (shared_names s) → has_double x.name ≡ false
    shared_single x a =
        nothing_if (has_double x.name) x.place (errors.DoubleUnderscore x.name) (none_flat_map double_name x (head_names s) k.double_heads (shared_in_heads x a))

    not_made : (x : Name) → IsVariable s x → NotMade x
    not_made x (is_global d a e) = single x (ap has_double e ∙ shared_single d.name (global_shared s d a))
    not_made x (is_place e) = single x (ap has_double e)
    not_made x (is_own p a y b e n q) =
        let f = own_name_fine p a y b e n in subst NotMade (sym q) (written_single p.name.name y f.0 f.1)

    pub variable_written : (x : Name) → is_among x (variables_of s) ≡ true → NotMade x × (same_name x self_name ≡ false)
    variable_written x h =
        let v = variable_is s x (among_is x (variables_of s) h) in
        (not_made x v, same_name-not x self_name (not_self s k.clashes fit x v))
