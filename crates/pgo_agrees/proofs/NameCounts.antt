-- How often variables and further definitions have a name: one of them at most has it.
use Rattle.std.proofs.Common.{◌≡◌, ◌≤◌, ℕ, ◌+◌, Bool, true, false, ◌||◌, if◌then◌else◌, List, [], ◌∷◌, ◌++◌, map, codes, Option, Some, None, refl, ap, sym, ◌∙◌, subst, inl, inr, arith}
use Rattle.std.proofs.lemmas.List.{append_cancel_left}
use Rattle.std.specs.Prelude.{flat_map}
use Rattle.std.specs.List.{AllByRecursion, filter_map}
use Rattle.pgo_base.specs.Lookup.{Name, same_name, find}
use Rattle.pgo_model.specs.Names.{same_name-self, same_name-is, same_name-not, is_among}
use Rattle.pgo_model.specs.Written.{pc, proc_set, terminating, written}
use Rattle.pgo_syntax.specs.Statement.{labeled}
use Rattle.pgo_syntax.specs.declared.archetype.Archetype.{Archetype}
use Rattle.pgo_syntax.specs.declared.declaration.Declaration.{Declaration}
use Rattle.pgo_syntax.specs.declared.name.PlacedName.{PlacedName}
use Rattle.pgo_syntax.specs.declared.process.Process.{Process}
use Rattle.pgo_syntax.specs.declared.spec.Spec.{Spec}
use Rattle.pgo_uses.specs.AllUses.{archetype_uses, variable_names}
use Rattle.pgo_uses.specs.Heads.{declared_names}
use Rattle.pgo_scope.specs.Clash.{fixed_names, shared_module_names, value_names, labels_from, own_names, or_none, own_module_names, process_module_names}
use Rattle.pgo_labels.specs.Labels.{labels_of}
use Rattle.pgo_labels.specs.Inside.{with_inside}
use Rattle.pgo_labels.specs.Rules.{repeated, found_at, label_twice}
use Rattle.pgo_labels.specs.declared.errors.LabelError.TheVariants.{LabelTwice}
use Rattle.pgo_bound.specs.Among.{IsAmong, among_map, from_map, none_left, none_right, none_flat_map, empty_map}
use Rattle.pgo_bound.specs.Instances.{archetype_among}
use Rattle.pgo_bound.specs.Runs.{handed_from, archetype_named}
use Rattle.pgo_bound.specs.Sound.{labels_among}
use Rattle.pgo_bound.specs.State as bind
use Rattle.pgo_bound.specs.State.{variables_of}
use Rattle.pgo_accept.proofs.Counted.{one_if, times, times-append, times-map_append}
use Rattle.pgo_accept.proofs.Fitting.{Fits, ArgumentsFit}
use Rattle.pgo_accept.proofs.Unlabelled.{names_of_body}
use Rattle.pgo_accept.proofs.Variables.{variables_are, handed_value, values_counted, found_own, own_written, fixed_written}
use Rattle.pgo_accept.proofs.WrittenOnce.{writes, writes-append}
use Rattle.pgo_meaning.specs.Expansions.{process_expansions}
use Rattle.pgo_meaning.proofs.Traces.{among_is}
use Rattle.pgo_translate.specs.Premises.{process_names, further_names}
use Rattle.pgo_agrees.proofs.FurtherNames.{label_names, tree_names}
use Rattle.pgo_agrees.proofs.Kept.{NoFindings, NoLabelFindings}
use Rattle.pgo_agrees.proofs.Labels.{body_label}
use Rattle.pgo_agrees.proofs.Names.{or_left, or_right}
use Rattle.pgo_agrees.proofs.Stands.{or_second}
use Rattle.pgo_agrees.proofs.WrittenNames.{counted, rows_of}
use Rattle.pgo_agrees.proofs.Unlabelled.{placed_name}

-- ---- how often a name stands in a list

pub times_some : (x : Name) (xs : List Name) → IsAmong x xs → 1 ≤ times x xs
times_some x [] a = absurd a
times_some x (y ∷ ys) (inl e) = let k : one_if (same_name x y) ≡ 1 = ap one_if (ap (same_name x) (sym e) ∙ same_name-self x) in omega (arith, k)
times_some x (y ∷ ys) (inr a) = omega (arith, times_some x ys a)

times_none : (x : Name) (xs : List Name) → is_among x xs ≡ false → times x xs ≡ 0
times_none x [] h = refl
times_none x (y ∷ ys) h =
    let k : one_if (same_name x y) ≡ 0 = ap one_if (or_left (same_name x y) (is_among x ys) h) in
    omega (arith, k, times_none x ys (or_right (same_name x y) (is_among x ys) h))

-- ---- written names

written_is : (p y z : Name) → written p y ≡ written p z → y ≡ z
written_is p y z h = append_cancel_left (p ++ codes "_") y z h

same_written : (p y z : Name) → same_name (written p y) (written p z) ≡ same_name y z
same_written p y z = go (same_name y z) refl
  where
    go : (b : Bool) → same_name y z ≡ b → same_name (written p y) (written p z) ≡ b
    go true e = ap (λ w. same_name (written p y) (written p w)) (sym (same_name-is y z e)) ∙ same_name-self (written p y)
    go false e =
        same_name-not (written p y) (written p z) (λ f. (let q : true ≡ false = sym (ap (same_name y) (sym (written_is p y z f)) ∙ same_name-self y) ∙ e in cc))

times_written : (p y : Name) (ns : List Name) → times (written p y) (map (written p) ns) ≡ times y ns
times_written p y [] = refl
times_written p y (z ∷ ns) = (λ i. one_if (same_written p y z i) + times_written p y ns i)

written_once : (p x : Name) (ns : List Name) → ((y : Name) → times y ns ≤ 1) → times x (map (written p) ns) ≤ 1
written_once p x ns f = go (is_among x (map (written p) ns)) refl
  where
    go : (b : Bool) → is_among x (map (written p) ns) ≡ b → times x (map (written p) ns) ≤ 1
    go true e =
        let m = from_map (written p) x ns (among_is x (map (written p) ns) e) in
        let k : times x (map (written p) ns) ≡ times m.0 ns = ap (λ z. times z (map (written p) ns)) m.2 ∙ times_written p m.0 ns in
        omega (arith, k, f m.0)
    go false e = omega (arith, times_none x (map (written p) ns) e)

-- names that differ stand no oftener than in a list that has them all
no_oftener : (p x : Name) (ns ms : List Name) → ((y : Name) → times y ns ≤ 1) → ((y : Name) → IsAmong y ns → IsAmong y ms) → times x (map (written p) ns) ≤ times x (map (written p) ms)
no_oftener p x ns ms f there = go (is_among x (map (written p) ns)) refl
  where
    go : (b : Bool) → is_among x (map (written p) ns) ≡ b → times x (map (written p) ns) ≤ times x (map (written p) ms)
    go true e =
        let m = from_map (written p) x ns (among_is x (map (written p) ns) e) in
        let k = times_some (written p m.0) (map (written p) ms) (among_map (written p) m.0 ms (there m.0 m.1)) in
        let q : times x (map (written p) ms) ≡ times (written p m.0) (map (written p) ms) = ap (λ z. times z (map (written p) ms)) m.2 in
        omega (arith, k, q, written_once p x ns f)
    go false e = omega (arith, times_none x (map (written p) ns) e)

-- ---- an archetype's labels differ

no_label : (b : Bool) (l : PlacedName) → (if b then l ∷ [] else []) ≡ [] → b ≡ false
no_label true l h = absurd (cc)
no_label false l h = refl

not_again : (y : Name) (before : List Name) (ls : List PlacedName) → repeated before ls ≡ [] → is_among y before ≡ true → times y (map placed_name ls) ≡ 0
not_again y before [] h a = refl
not_again y before (l ∷ ls) h a = go (same_name y l.name) refl (not_again y (l.name ∷ before) ls (none_right (if is_among l.name before then l ∷ [] else []) (repeated (l.name ∷ before) ls) h) (or_second (same_name y l.name) (is_among y before) a))
  where
    none : is_among l.name before ≡ false
    none = no_label (is_among l.name before) l (none_left (if is_among l.name before then l ∷ [] else []) (repeated (l.name ∷ before) ls) h)

    go : (b : Bool) → same_name y l.name ≡ b → times y (map placed_name ls) ≡ 0 → one_if b + times y (map placed_name ls) ≡ 0
    go true e r = absurd (let q : true ≡ false = sym a ∙ ap (λ z. is_among z before) (same_name-is y l.name e) ∙ none in cc)
    go false e r = omega (arith, r)

labels_once : (y : Name) (before : List Name) (ls : List PlacedName) → repeated before ls ≡ [] → times y (map placed_name ls) ≤ 1
labels_once y before [] h = omega arith
labels_once y before (l ∷ ls) h =
    let rest = none_right (if is_among l.name before then l ∷ [] else []) (repeated (l.name ∷ before) ls) h in
    go (same_name y l.name) refl (labels_once y (l.name ∷ before) ls rest) (not_again y (l.name ∷ before) ls rest)
  where
    go : (b : Bool) → same_name y l.name ≡ b → times y (map placed_name ls) ≤ 1 → (b || is_among y before ≡ true → times y (map placed_name ls) ≡ 0) → one_if b + times y (map placed_name ls) ≤ 1
    go true e r f = omega (arith, f refl)
    go false e r f = omega (arith, r)

labels_differ : (a : Archetype) → label_twice a ≡ [] → (y : Name) → times y (labels_among (labeled a.body)) ≤ 1
labels_differ a h y =
    let ls = labels_of (with_inside a.body) in
    subst (λ ns. times y ns ≤ 1) (names_of_body a.body) (labels_once y [] ls (empty_map (λ l. found_at l.place (LabelTwice a.name.name l.name)) (repeated [] ls) h))

-- ---- what a process writes

-- its variables and its labels
names_counted : (x : Name) (p : Process) (j : ℕ) (a : Archetype) → AllByRecursion Fits (handed_from 1 a.params p.arguments) → label_twice a ≡ []
    → times x (map (written p.name.name) (bind.names_with p a)) + times x (map (written p.name.name) (labels_among (labeled a.body))) ≤ times x (map (written p.name.name) (own_names j a))
names_counted x p j a h twice =
    let f = written p.name.name in
    let values = filter_map handed_value (handed_from 1 a.params p.arguments) in
    let locals = map (λ (d : Declaration). d.name.name) a.locals in
    let ls = labels_from [] (archetype_uses j a) in
    let l1 = times-map_append f x values locals in
    let r1 = times-map_append f x (value_names a.params ++ variable_names a.locals) ls in
    let r2 = times-map_append f x (value_names a.params) (variable_names a.locals) in
    let v = values_counted f x 1 a.params p.arguments h in
    let w : times x (map f (variable_names a.locals)) ≡ times x (map f locals) = ap (λ ns. times x (map f ns)) (variables_are a.locals) in
    let u = no_oftener p.name.name x (labels_among (labeled a.body)) ls (labels_differ a twice) (λ y b. body_label j a y b) in
    omega (arith, l1, r1, r2, v, w, u)

module _ (s : Spec) (k : NoFindings s) (labels : NoLabelFindings s) where
  process_counted : (x : Name) (p : Process) → ArgumentsFit s.archetypes p
      → times x (map (written p.name.name) (bind.own_names s p)) + times x (map (λ l. l.0) (process_expansions s p)) ≤ writes x (own_module_names p (or_none (find p.archetype.name (rows_of s))))
  process_counted x p h =
      let e : times x (map (λ l. l.0) (process_expansions s p)) ≡ times x (label_names s k labels p (archetype_named p.archetype.name s.archetypes)) = ap (times x) (tree_names s k labels p) in
      let g = go (archetype_named p.archetype.name s.archetypes) refl in
      omega (arith, e, g)
    where
      go : (o : Option Archetype) → archetype_named p.archetype.name s.archetypes ≡ o
          → times x (map (written p.name.name) (bind.names_or_none p o)) + times x (label_names s k labels p o) ≤ writes x (own_module_names p (or_none (find p.archetype.name (rows_of s))))
      go None e = omega arith
      go (Some a) e =
          let r = found_own p.archetype.name 0 s.archetypes a e in
          let o = ap (λ z. writes x (own_module_names p (or_none z))) r.1 ∙ own_written x p (own_names r.0 a) in
          let c = names_counted x p r.0 a (h a e) (none_flat_map label_twice a s.archetypes labels.twice (archetype_among p.archetype.name s.archetypes a e)) in
          omega (arith, o, c)

  abbrev own_variables : List Process → List Name
  own_variables ps = flat_map (λ p. map (written p.name.name) (bind.own_names s p)) ps

  processes_counted : (x : Name) (ps : List Process) → AllByRecursion (ArgumentsFit s.archetypes) ps → times x (own_variables ps) + times x (process_names s ps) ≤ writes x (process_module_names (rows_of s) ps)
  processes_counted x [] h = omega arith
  processes_counted x (p ∷ ps) h =
      let own = own_module_names p (or_none (find p.archetype.name (rows_of s))) in
      let trees = map (λ l. l.0) (process_expansions s p) in
      let a = times-append x (map (written p.name.name) (bind.own_names s p)) (own_variables ps) in
      let b = times-append x trees (p.name.name ∷ process_names s ps) in
      let c = writes-append x own (process_module_names (rows_of s) ps) in
      let d = process_counted x p h.0 in
      let e = processes_counted x ps h.1 in
      omega (arith, a, b, c, d, e)

  -- ---- the whole

  declared_written : (x : Name) (ds : List Declaration) → writes x (shared_module_names (declared_names ds)) ≡ times x (map (λ (d : Declaration). d.name.name) ds)
  declared_written x [] = refl
  declared_written x (d ∷ ds) = ap (λ j. one_if (same_name x d.name.name) + j) (declared_written x ds)

  pub names_once : AllByRecursion (ArgumentsFit s.archetypes) s.processes → (x : Name) → times x (variables_of s) + times x (further_names s) ≤ 1
  names_once fit x =
      let globals = map (λ (d : Declaration). d.name.name) s.globals in
      let a = times-append x (globals ++ (pc ∷ [])) (own_variables s.processes) in
      let b = times-append x globals (pc ∷ []) in
      let c = times-append x (proc_set ∷ process_names s s.processes) (terminating ∷ []) in
      let d = fixed_written x fixed_names in
      let e = declared_written x s.globals in
      let f = processes_counted x s.processes fit in
      let g = counted s k.clashes x in
      omega (arith, a, b, c, d, e, f, g)
