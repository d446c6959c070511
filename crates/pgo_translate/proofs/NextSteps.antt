-- Next is TRUE of exactly the steps of instances, and where all have ended.
use Rattle.std.proofs.Common.{◌≡◌, ◌⊎◌, ◌↔◌, ℕ, Bool, true, false, if◌then◌else◌, List, [], ◌∷◌, ◌++◌, map, Option, Some, None, refl, sym, ap, ◌∙◌, subst, inl, inr, option_and_then, option_map}
use Rattle.std.proofs.lemmas.Option.{same_Some}
use Rattle.pgo_base.specs.Data.{Data}
use Rattle.pgo_base.specs.declared.module.Defined as memory
use Rattle.pgo_base.specs.Lookup.{Name, Vars, same_name, find}
use Rattle.pgo_base.specs.Tree.{name}
use Rattle.pgo_model.specs.Acts.{Acts}
use Rattle.pgo_model.specs.Machine.{nth}
use Rattle.pgo_model.specs.Module.{Module, defs_of, process_step, self_call}
use Rattle.pgo_model.specs.ModuleView.{defined_view}
use Rattle.pgo_model.specs.Names.{same_name-is}
use Rattle.pgo_model.specs.Operators.{contains, is_member, members_of}
use Rattle.pgo_model.specs.Options.{on}
use Rattle.pgo_model.specs.Val.{Scope, meanings, seen, val, with_name}
use Rattle.pgo_model.specs.Written.{self_name, done, terminating, written}
use Rattle.pgo_syntax.specs.Statement.{labeled}
use Rattle.pgo_syntax.specs.declared.archetype.Archetype.{Archetype}
use Rattle.pgo_syntax.specs.declared.bound.Bound.{Bound}
use Rattle.pgo_syntax.specs.declared.bound.Instance.{Instance}
use Rattle.pgo_syntax.specs.declared.process.Process.{Process}
use Rattle.pgo_syntax.specs.declared.spec.Spec.{Spec}
use Rattle.pgo_bound.specs.Among.{IsAmong, among_flat_map, among_map, found_among, from_filter_map, from_map, mapped_some, nth_among}
use Rattle.pgo_bound.specs.BoundOf.{bound_of, globals_of, instance_at}
use Rattle.pgo_bound.specs.Instances.{instance_from}
use Rattle.pgo_bound.specs.Lookups.{data_from}
use Rattle.pgo_bound.specs.Runs.{Run, archetype_named, run_ids, run_of, run_with, runs_of}
use Rattle.pgo_bound.specs.Sound.{IsLabel, labels_among}
use Rattle.pgo_bound.specs.State.{IsState, id_of, variables_of}
use Rattle.pgo_bound.specs.Values as values
use Rattle.pgo_heads.specs.Refusals.{constants_refused, heads_refused}
use Rattle.pgo_bind.proofs.Passing.{none_next}
use Rattle.pgo_sections.specs.Expand.{expansion}
use Rattle.pgo_sections.specs.Expansion.{Expansion}
use Rattle.pgo_meaning.specs.Expansions.{expansions_of, process_bindings, process_expansions, trees_of}
use Rattle.pgo_meaning.specs.Parameters.{places_of}
use Rattle.pgo_meaning.specs.Statements.{label_of}
use Rattle.pgo_meaning.specs.TreesAgree.{expansions_at, sections_at}
use Rattle.pgo_pluscal.specs.PlusCalOf.{ids_tree}
use Rattle.pgo_translate.specs.Accepted.{Accepted, InstanceAccepted}
use Rattle.pgo_translate.specs.Agrees.{IsNext, NextAgrees, SomeActs, AllDone, IsUnchanged}
use Rattle.pgo_translate.proofs.Ended.{HasEnded, ended-yes}
use Rattle.pgo_translate.specs.ModuleOf.{constants_with, module_of}
use Rattle.pgo_translate.specs.Named.{TreesAreNamed}
use Rattle.pgo_translate.specs.Premises.{TreeNamed}
use Rattle.pgo_translate.proofs.Actions.{further, labels_differ, module_defs}
use Rattle.pgo_translate.proofs.ByProcess.{map_map, module_is, own_module, written_process}
use Rattle.pgo_translate.proofs.Calls.{under}
use Rattle.pgo_translate.proofs.Kleene.{is_true, iff_then, sum_iff, some_in-yes, any-yes, SomeYes}
use Rattle.pgo_translate.proofs.LabelTrees.{SectionsLaw, LabelsLaw, ActionsLaw, tree_named}
use Rattle.pgo_translate.proofs.Next.{Stands, process-yes, some_mapped, some_behind}
use Rattle.pgo_translate.proofs.SetLaws.{in_list}
use Rattle.pgo_translate.proofs.Sets.{SetsOrdered, sets_ordered}
use Rattle.pgo_values.proofs.Lists.{contained}
use Rattle.pgo_translate.proofs.StartRuns.{instance_there}
use Rattle.pgo_translate.proofs.Starts.{arche, here_has, ids_in, run_there}

-- what is found stands there
found_in : {A : Type 0} (x : Name) (ps : List (Name × A)) (v : A) → find x ps ≡ Some v → IsAmong (x, v) ps
found_in x [] v h = absurd (cc)
found_in {A = A} x (p ∷ ps) v h = go (same_name x p.0) refl h (found_in x ps v)
  where
    go : (b : Bool) → same_name x p.0 ≡ b → (if b then Some p.1 else find x ps) ≡ Some v → (find x ps ≡ Some v → IsAmong (x, v) ps) → IsAmong (x, v) (p ∷ ps)
    go true e k r = inl (λ i. (same_name-is x p.0 e i, sym (same_Some p.1 v k) i))
    go false e k r = inr (r k)

members_yes : (v : Data) (o : Option Data) (ids : List Data) → option_and_then members_of o ≡ Some ids → (is_member v o ≡ Some true) ↔ IsAmong v ids
members_yes v None ids h = absurd (cc)
members_yes v (Some d) ids h =
    (λ k. in_list v ids (same_Some (contains v ids) true (sym (ap (option_map (contains v)) h) ∙ k)), λ k. ap (option_map (contains v)) h ∙ ap Some (contained v ids k))

module _ (sections : SectionsLaw) (labels : LabelsLaw) (actions : ActionsLaw) (naming : TreesAreNamed) (s : Spec) (consts : List (Name × Data)) (h : Accepted s consts) (u t : Vars) (hu : IsState (bound_of s consts) u) (ht : IsState (bound_of s consts) t) where
  abbrev b : Bound
  b = bound_of s consts

  abbrev ds : List memory.Defined
  ds = values.defs_of s consts

  abbrev m : Module
  m = own_module s

  none : heads_refused s.archetypes ds (runs_of s ds) (globals_of s ds (runs_of s ds)) ≡ None
  none = none_next (constants_refused s consts) (heads_refused s.archetypes ds (runs_of s ds) (globals_of s ds (runs_of s ds))) h.binding

  sets : SetsOrdered s consts
  sets = sets_ordered s consts h.constants

  abbrev ids : Process → List Data
  ids p = ids_in s consts h.names h.starts h.well none sets u hu (Some t) p

  abbrev here : Scope
  here = seen (defs_of m (constants_with s consts)) [] u (Some t)

  -- an instance, by its process and its identifier
  record Runs (p : Process) (v : Data) (number : ℕ) (i : Instance) : Type 0 where
    pub among : IsAmong p s.processes
    pub there : nth b.instances number ≡ Some i
    pub archetype : Archetype
    pub has : archetype_named p.archetype.name s.archetypes ≡ Some archetype
    pub at : ℕ
    pub is : i ≡ instance_at s at (run_with ds p archetype, v)

  -- at each identifier of a process there is one
  runs_at : (p : Process) (v : Data) → IsAmong p s.processes → IsAmong v (ids p) → (k : ℕ) × (i : Instance) × Runs p v k i
  runs_at p v among at_v =
      let a = arche s consts h.names h.starts h.well none sets u hu (Some t) p among in
      let r = run_there s consts h.names h.starts h.well none sets u hu (Some t) p a.0 among a.1 in
      let i = instance_there s consts h.well none u (run_with ds p a.0) v r at_v in
      (i.0, instance_at s i.1 (run_with ds p a.0, v), record { among = among; there = i.2; archetype = a.0; has = a.1; at = i.1; is = refl })

  -- and each is one
  runs_as : (k : ℕ) (i : Instance) → nth b.instances k ≡ Some i → (p : Process) × (v : Data) × IsAmong v (ids p) × Runs p v k i
  runs_as k i e =
      let f = instance_from s (runs_of s ds) i k e in
      let p = from_filter_map (run_of s ds) f.0 s.processes f.1 in
      let a = mapped_some (run_with ds p.0) (archetype_named p.0.archetype.name s.archetypes) f.0 p.2 in (
        p.0,
        f.2.0,
        subst (λ (r : Run). IsAmong f.2.0 (run_ids r)) a.2 f.2.1,
        record {
          among = p.1;
          there = e;
          archetype = a.0;
          has = a.1;
          at = f.2.2.1.0;
          is = f.2.2.1.1 ∙ ap (λ (r : Run). instance_at s f.2.2.1.0 (r, f.2.0)) a.2;
        },
      )

  module _ (p : Process) (v : Data) (k : ℕ) (i : Instance) (r : Runs p v k i) where
    accepted : InstanceAccepted s b i
    accepted = h.instances k i r.there

    id_is : id_of i ≡ v
    id_is = ap id_of r.is ∙ data_from v

    -- the trees of its process are its own
    trees_are : expansions_at b i ≡ process_expansions s p
    trees_are =
        ap (expansions_at b) r.is
        ∙ sym (ap (λ o. on [] o (λ a. expansions_of (variables_of s) s.macros p.name.name a (process_bindings s p a))) r.has)

    names_are : map (λ l. l.0) (process_expansions s p) ≡ map (label_of i.process) (labels_among (labeled i.archetype.body))
    names_are =
        ap (map (λ l. l.0)) (sym trees_are) ∙ map_map (λ c. (c.0, expansion (variables_of s) (places_of i.process i.archetype i.bindings) c.1)) (λ l. l.0) (sections_at b i)
        ∙ labels b i h.unlabelled

    -- what has a tree is a label
    is_label : (l : Name × Expansion) → IsAmong l (process_expansions s p) → IsLabel i l.0
    is_label l among =
        let a = subst (IsAmong l.0) names_are (among_map (λ z. z.0) l (process_expansions s p) among) in
        let x = from_map (label_of i.process) l.0 (labels_among (labeled i.archetype.body)) a in
        let n = nth_among x.0 (labels_among (labeled i.archetype.body)) x.1 in
        (n.0, x.0, n.1, x.2 ∙ ap (λ c. if c then done else written i.process x.0) (accepted.done n.0 x.0 n.1))

    found : (l : Name × Expansion) → IsAmong l (process_expansions s p) → find l.0 (trees_of s) ≡ Some l.1
    found l among = found_among l.0 l.1 (trees_of s) (labels_differ s h.names) (among_flat_map (process_expansions s) p l s.processes r.among among)

    named : (l : Name × Expansion) → IsAmong l (process_expansions s p) → TreeNamed s l.1
    named l among = tree_named sections naming s consts h i accepted l.0 (is_label l among) l.1 (found l among)

    acts_at : (l : Name × Expansion) → IsAmong l (process_expansions s p) → Stands s consts u t v l → Acts (module_of s) (constants_with s consts) l.0 (id_of i) u t
    acts_at l among st =
        let st' = subst (λ (d : Data). Stands s consts u t d l) (sym id_is) st in
        (actions s consts l.0 h.names (λ x e. tree_named sections naming s consts h i accepted l.0 (is_label l among) x e) (id_of i) u t hu ht).1 (st'.0, (l.1, found l among, (ht, st'.1)))

    stands_at : (l : Name) → IsLabel i l → Acts (module_of s) (constants_with s consts) l (id_of i) u t → (z : Name × Expansion) × IsAmong z (process_expansions s p) × Stands s consts u t v z
    stands_at l is_l a =
        let st = (actions s consts l h.names (λ x e. tree_named sections naming s consts h i accepted l is_l x e) (id_of i) u t hu ht).0 a in
        let c = sections b i l h.unlabelled accepted.done is_l in
        let there = found_in l (expansions_at b i) st.1.0 (sym (accepted.labels l c.0 c.1) ∙ st.1.1) in
        ((l, st.1.0), subst (λ (xs : List (Name × Expansion)). IsAmong (l, st.1.0) xs) trees_are there, subst (λ (d : Data). Stands s consts u t d (l, st.1.0)) id_is (st.0, st.1.2.1))

  abbrev Steps : Process → Type 0
  Steps p = (v : Data) × IsAmong v (ids p) × ((l : Name × Expansion) × IsAmong l (process_expansions s p) × Stands s consts u t v l)

  called : (p : Process) (v : Data) → val (self_call p.name.name) (with_name self_name (Some v) here) ≡ val (self_call p.name.name) (under u (Some t) (meanings (map defined_view ds ++ further s) u (Some t)) v)
  called p v = ap (λ defs. val (self_call p.name.name) (under u (Some t) (meanings defs u (Some t)) v)) (module_defs s consts)

  -- a process's part of Next is TRUE exactly where it allows the step at one of its identifiers
  step-yes : (p : Process) → IsAmong p s.processes → is_true (val (process_step (written_process s p)) here) ↔ Steps p
  step-yes p among = iff_then (some_in-yes self_name (self_call p.name.name) here (ids_tree p.ids)) (to, from)
    where
      at_id : (v : Data) → (is_member v (val (ids_tree p.ids) here) ≡ Some true) ↔ IsAmong v (ids p)
      at_id v = members_yes v (val (ids_tree p.ids) here) (ids p) (here_has s consts h.names h.starts h.well none sets u hu (Some t) p among)

      allows : (v : Data) → IsAmong v (ids p) → is_true (val (self_call p.name.name) (under u (Some t) (meanings (map defined_view ds ++ further s) u (Some t)) v)) ↔ ((l : Name × Expansion) × IsAmong l (process_expansions s p) × Stands s consts u t v l)
      allows v at_v =
          let r = runs_at p v among at_v in
          process-yes s consts h.names u t hu ht p among (named p v r.0 r.1 r.2) v

      to : ((v : Data) × (is_member v (val (ids_tree p.ids) here) ≡ Some true) × is_true (val (self_call p.name.name) (with_name self_name (Some v) here))) → Steps p
      to k = let at_v = (at_id k.0).0 k.1 in (k.0, at_v, (allows k.0 at_v).0 (sym (called p k.0) ∙ k.2))

      from : Steps p → (v : Data) × (is_member v (val (ids_tree p.ids) here) ≡ Some true) × is_true (val (self_call p.name.name) (with_name self_name (Some v) here))
      from k = (k.0, (at_id k.0).1 k.1, called p k.0 ∙ (allows k.0 k.1).1 k.2)

  next-own : IsNext m (constants_with s consts) u t ↔ (((p : Process) × IsAmong p s.processes × Steps p) ⊎ HasEnded m (constants_with s consts) u t)
  next-own =
      let each = map process_step (map (written_process s) s.processes) in
      iff_then (any-yes here (each ++ (name terminating ∷ [])))
      (iff_then (some_behind here each (name terminating))
      (sum_iff (iff_then (subst (λ es. SomeYes here each ↔ SomeYes here es) (map_map (written_process s) process_step s.processes) (λ k. k, λ k. k))
      (iff_then (some_mapped here (λ p. process_step (written_process s p)) s.processes)
      (λ k. (k.0, k.1, (step-yes k.0 k.1).0 k.2), λ k. (k.0, k.1, (step-yes k.0 k.1).1 k.2)))) (λ k. k, λ k. k)))

  some-acts : ((p : Process) × IsAmong p s.processes × Steps p) ↔ SomeActs (module_of s) (constants_with s consts) b u t
  some-acts = (to, from)
    where
      to : (p : Process) × IsAmong p s.processes × Steps p → SomeActs (module_of s) (constants_with s consts) b u t
      to k =
          let r = runs_at k.0 k.2.0 k.1 k.2.1 in
          let l = k.2.2 in
          record {
            number = r.0;
            instance = r.1;
            label = l.0.0;
            there = r.2.there;
            is_label = is_label k.0 k.2.0 r.0 r.1 r.2 l.0 l.1;
            acts = acts_at k.0 k.2.0 r.0 r.1 r.2 l.0 l.1 l.2;
          }

      from : SomeActs (module_of s) (constants_with s consts) b u t → (p : Process) × IsAmong p s.processes × Steps p
      from k =
          let r = runs_as k.number k.instance k.there in
          (r.0, r.3.among, (r.1, r.2, stands_at r.0 r.1 k.number k.instance r.3 k.label k.is_label k.acts))

  next-whole : IsNext m (constants_with s consts) u t ↔ (SomeActs (module_of s) (constants_with s consts) b u t ⊎ (AllDone b u × IsUnchanged b u t))
  next-whole = iff_then next-own (sum_iff some-acts (ended-yes s consts h.names h.starts h.well none sets u t hu ht))

pub next-agrees : (sections : SectionsLaw) (labels : LabelsLaw) (actions : ActionsLaw) (naming : TreesAreNamed) (s : Spec) (consts : List (Name × Data)) → Accepted s consts → NextAgrees (module_of s) (constants_with s consts) (bound_of s consts)
next-agrees sections labels actions naming s consts h u t hu ht =
    subst (λ m. IsNext m (constants_with s consts) u t ↔ (SomeActs (module_of s) (constants_with s consts) (bound_of s consts) u t ⊎ (AllDone (bound_of s consts) u × IsUnchanged (bound_of s consts) u t))) (module_is s)
    (next-whole sections labels actions naming s consts h u t hu ht)
