-- What a run leaves can be written and read back.
use Rattle.std.proofs.Common.{◌+◌, ◌≡◌, ◌≤◌, ◌<◌, ◌^◌, ◌⊎◌, ℕ, suc, Bool, true, false, if◌then◌else◌, IsTrue, List, [], ◌∷◌, map, length, Option, Some, None, inl, inr, refl, ap, sym, ◌∙◌, subst, arith, length-append}
use Rattle.std.proofs.lemmas.Bool.{and_parts, leb-true}
use Rattle.std.specs.List.{AllByRecursion}
use Rattle.std.specs.Prelude.{◌&&◌, nat_le}
use Rattle.std.proofs.lemmas.List.{length-map}
use Rattle.pgo_base.specs.Data.{Data, function, graph, keys}
use Rattle.pgo_base.specs.Lookup.{Name, Vars}
use Rattle.pgo_base.specs.Size.{depth}
use Rattle.pgo_model.specs.Accounts.{Accounts, EntriesMade, EntryMade, JointAccounts, Told, journal}
use Rattle.pgo_model.specs.Choice.{Seeded, words_of}
use Rattle.pgo_model.specs.Core.{Reaches, Settings, are_at_done, are_blocked, has_full, has_stopped, last_ends_from, rules_of, state_behind, status_of}
use Rattle.pgo_model.specs.BundleParts.{is_read_name, is_run_status}
use Rattle.pgo_model.specs.Log as log
use Rattle.pgo_model.specs.Log.{Change, Component, Effect, changes_between, components_of, own_components, resource_components}
use Rattle.pgo_model.specs.Machine.{Entry, Finished, Note, Record, Step, Noted, Held, Down, Full, Rules, nth, state_at}
use Rattle.pgo_model.specs.MachineLists.{nth_below}
use Rattle.pgo_model.specs.ModuleText.{Text}
use Rattle.pgo_model.specs.State.{is_shallow}
use Rattle.pgo_model.specs.Outcome.{Next}
use Rattle.pgo_model.specs.System.{Member, Resource, System, Words}
use Rattle.pgo_model.specs.ValueText.{value_text}
use Rattle.pgo_model.specs.Written.{done, pc}
use Rattle.pgo_syntax.specs.declared.bound.Bound.{Bound}
use Rattle.pgo_syntax.specs.declared.bound.Instance.{Instance}
use Rattle.pgo_syntax.specs.declared.bound.Resource as resources
use Rattle.pgo_syntax.specs.declared.spec.Spec.{Spec}
use Rattle.pgo_bound.specs.Among.{IsAmong, among_append, among_nth, from_map, nth_among}
use Rattle.pgo_bound.specs.BoundOf.{bound_of}
use Rattle.pgo_bound.specs.Sound.{IsLabel, index_in}
use Rattle.pgo_bound.specs.State.{id_of}
use Rattle.pgo_meaning.specs.Attempt.{next_of_try}
use Rattle.pgo_meaning.specs.Sect.{Sect}
use Rattle.pgo_meaning.specs.System.{member_of, resource_of, system_of}
use Rattle.pgo_meaning.proofs.SystemStates.{states_same}
use Rattle.pgo_module_spells.specs.Spells.{SpellsModule}
use Rattle.pgo_module_spells.specs.Written.{IsWritten}
use Rattle.pgo_systems.specs.Failures.{DownsReached}
use Rattle.pgo_systems.specs.Premises.{IsGoodState, KeepsStates}
use Rattle.pgo_systems.proofs.States.{identifier_there}
use Rattle.pgo_systems.proofs.Parts.{change_from}
use Rattle.pgo_translate.specs.ModuleOf.{constants_with, module_of}
use Rattle.pgo_value_text.specs.IsValueText.{IsValueText, most_depth}
use Rattle.pgo_agrees.specs.Accepted.{IsAccepted}
use Rattle.pgo_agrees.proofs.Premises as premises
use Rattle.pgo_accept.proofs.Counted.{different}
use Rattle.pgo_accept.proofs.Variables.{processes_once}
use Rattle.pgo_accounts.proofs.Steps.{Leads, is_label, leads_from}
use Rattle.pgo_accounts.proofs.Entries.{label_at}
use Rattle.pgo_bundle.specs.RunLog.{are_shallow, run_log, told_prints}
use Rattle.pgo_bundle.specs.Untied.{untied_at}
use Rattle.pgo_log_text.specs.IsBundle.{AreCanonical, ArePrints, AreValues, IsCanonicalIndex, IsCanonicalValue}
use Rattle.pgo_log_text.specs.WrittenRun.{IsWrittenChange, IsWrittenEntry, IsWrittenRecord, IsWrittenResource, IsWrittenRun}
use Rattle.pgo_run_values.specs.Spellable.{AllSpellable, IsSpellable}
use Rattle.pgo_prints.specs.Prints.{EachSpellable}
use Rattle.pgo_written_runs.specs.Failures.{DownsShort}
use Rattle.pgo_written_runs.proofs.Components.{own_few, own_from, owned_from, resource_from, resources_many}
use Rattle.pgo_written_runs.proofs.Constants.{constants_canonical, constants_named}
use Rattle.pgo_written_runs.proofs.Names.{global_name, label_name, own_name, place_name, variables_same}
use Rattle.pgo_written_runs.proofs.OwnCounts.{own_most, process_few}
use Rattle.pgo_written_runs.proofs.Parts.{IsLow, changes_few, content_low, found_low, key_low}
use Rattle.pgo_written_runs.proofs.TextLengths.{constants_short, variables_short}

-- 0, 20, 21, 22 or 23
pub one_status : (y : System) (settings : Settings) (f : Finished Effect) → IsTrue (is_run_status (status_of y settings f))
one_status y settings f =
    go (has_stopped (last_ends_from f 0 y.members)) (has_full (last_ends_from f 0 y.members)) (are_at_done y (state_behind y settings f) 0 y.members) (are_blocked y (state_behind y settings f) 0 y.members)
  where
    go : (a b c d : Bool) → IsTrue (is_run_status (if a then 20 else if b then 23 else if c then 0 else if d then 22 else 21))
    go true b c d = refl
    go false true c d = refl
    go false false true d = refl
    go false false false true = refl
    go false false false false = refl

module _ (s : Spec) (consts : List (Name × Data)) (accepted : IsAccepted s consts) (w : IsWritten (module_of s)) (canonical : (v : Data) → IsSpellable v → depth v ≤ most_depth → IsValueText (value_text v) v) (keeps : KeepsStates (bound_of s consts)) (short : length (Text (module_of s)) ≤ 4294967295) (counts : AllByRecursion (λ a. length a.params + length a.locals ≤ 524288) s.archetypes) (starts : AllSpellable (bound_of s consts).start) where
  abbrev b : Bound
  b = bound_of s consts

  abbrev y : System
  y = system_of b

  canon : (v : Data) → IsLow v → IsCanonicalValue v
  canon v h = canonical v h.0 (let n = h.1 in omega (arith, n))

  all_canonical : (t : Vars) → AllSpellable t → is_shallow t ≡ true → AreCanonical t
  all_canonical [] h d = tt
  all_canonical (p ∷ t) h d = (canon p.1 (h.0, leb-true (depth p.1) 256 (parts p.1 t d).0), all_canonical t h.1 (parts p.1 t d).1)
    where
      parts : (v : Data) (u : Vars) → (nat_le (depth v) 256 && is_shallow u) ≡ true → (nat_le (depth v) 256 ≡ true) × (is_shallow u ≡ true)
      parts v u e = and_parts (nat_le (depth v) 256) (is_shallow u) e

  -- ---- what is printed, where it is told

  values_canonical : (vs : List Data) → EachSpellable vs → are_shallow vs ≡ true → AreValues vs
  values_canonical [] h d = tt
  values_canonical (v ∷ vs) h d =
      let q = and_parts (nat_le (depth v) 1024) (are_shallow vs) d in
      (canonical v (h v (inl refl)) (leb-true (depth v) 1024 q.0), values_canonical vs (λ w m. h w (inr m)) q.1)

  prints_written : (vs : List Data) → EachSpellable vs → length vs ≤ 1048576 → ArePrints (told_prints vs)
  prints_written vs h few = go (are_shallow vs) refl
    where
      go : (d : Bool) → are_shallow vs ≡ d → ArePrints (if d then Some vs else None)
      go true e = (omega (arith, few), values_canonical vs h e)
      go false e = tt

  -- ---- identifiers and indices

  id_canonical : (k : ℕ) (i : Instance) → nth b.instances k ≡ Some i → IsCanonicalValue (id_of i)
  id_canonical k i at_k =
      let f = keeps.sound.start.places in
      let low = found_low pc (function f.0) b.start starts keeps.sound.start.shallow f.1 in
      canon (id_of i) (key_low (id_of i) f.0 low (subst (IsAmong (id_of i)) (sym f.2) (identifier_there b k i at_k)))

  member_canonical : (m : Member) → IsAmong m y.members → IsCanonicalValue m.id
  member_canonical m a =
      let j = from_map member_of m b.instances a in
      let n = nth_among j.0 b.instances j.1 in
      subst (λ (z : Member). IsCanonicalValue z.id) (sym j.2) (id_canonical n.0 j.0 n.1)

  index_canonical : (n : ℕ) (q : resources.Resource) → nth b.resources n ≡ Some q → IsCanonicalIndex (index_in q)
  index_canonical n q at_n = go (index_in q) refl
    where
      go : (o : Option Data) → index_in q ≡ o → IsCanonicalIndex o
      go None e = tt
      go (Some v) e =
          let d = keeps.sound.indexed n q v at_n e in
          let k = d.3 v (n, q, at_n, refl, e) in
          let low = found_low q.global (function d.0) b.start starts keeps.sound.start.shallow d.1 in
          canon v (key_low v d.0 low (among_nth v (keys (graph d.0)) k.0 k.1))

  -- a resource's variable and index
  resource_written : (r : Resource) → IsAmong r y.resources → IsTrue (is_read_name r.global) × IsCanonicalIndex r.index
  resource_written r a =
      let q = from_map resource_of r b.resources a in
      let n = nth_among q.0 b.resources q.1 in
      subst (λ (z : Resource). IsTrue (is_read_name z.global) × IsCanonicalIndex z.index) (sym q.2)
      (global_name s w consts accepted q.0.global (keeps.sound.resources_global n.0 q.0 n.1), index_canonical n.0 q.0 n.1)

  component_written : (d : Component) → IsAmong d (components_of y) → IsTrue (is_read_name d.variable) × IsCanonicalIndex d.index
  component_written d a = go (among_append d (resource_components y.resources) (own_components y.own 0 y.members) a)
    where
      variable : (m : Member) → IsAmong d.variable (pc ∷ log.own_names m.id y.own) → IsTrue (is_read_name d.variable)
      variable m (inl e) = subst (λ x. IsTrue (is_read_name x)) (sym e) (place_name s w)
      variable m (inr a) =
          let o = owned_from d.variable m.id y.own a in subst (λ x. IsTrue (is_read_name x)) (sym o.2) (own_name s w consts accepted o.0 o.1)

      go : IsAmong d (resource_components y.resources) ⊎ IsAmong d (own_components y.own 0 y.members) → IsTrue (is_read_name d.variable) × IsCanonicalIndex d.index
      go (inl a) =
          let r = resource_from d y.resources a in
          let q = resource_written r.0 r.1 in
          (subst (λ x. IsTrue (is_read_name x)) (sym r.2) q.0, subst IsCanonicalIndex (sym r.3) q.1)
      go (inr a) =
          let m = own_from d y.own 0 y.members a in
          (variable m.0 m.2, subst IsCanonicalIndex (sym m.3) (member_canonical m.0 m.1))

  own_short : (m : Member) → IsAmong m y.members → length (log.own_names m.id y.own) ≤ 524288
  own_short m a =
      let j = from_map member_of m b.instances a in
      let n = nth_among j.0 b.instances j.1 in
      let differ = different (map (λ p. p.name.name) s.processes) (processes_once s (premises.names s consts accepted).clashes) in
      subst (λ (z : Member). length (log.own_names z.id y.own) ≤ 524288) (sym j.2) (own_most b keeps.sound.numbered n.0 j.0 n.1 524288 s.processes differ (λ q k. process_few s counts q))

  components_short : length (components_of y) ≤ 33555520
  components_short =
      let a = length-append (resource_components y.resources) (own_components y.own 0 y.members) in
      let c = resources_many y.resources in
      let d = length-map b.resources resource_of in
      let e = keeps.sound.numbered.few_resources in
      let f = own_few y.own 0 y.members own_short in
      let g = length-map b.instances member_of in
      let h = keeps.sound.numbered.few_instances in
      omega (arith, a, c, d, e, f, g, h)

  module _ (settings : Settings) (run : Bool) (f : Finished Effect) (steps : settings.steps < 2 ^ 32) (attempts : settings.attempts < 2 ^ 32) (downs : DownsShort settings) where
    abbrev R : Rules Vars Effect
    R = rules_of y settings

    abbrev entries : List (Entry Effect)
    entries = f.entries

    abbrev at : ℕ → Vars
    at n = state_at R y.start entries n

    module _ (made : EntriesMade R f) (good : (n : ℕ) → n ≤ length entries → IsGoodState b (at n)) (values : (n : ℕ) → n ≤ length entries → AllSpellable (at n)) (accounts : (k : ℕ) → Accounts R (Reaches y) run f k) (joint : JointAccounts R run f) (reached : DownsReached y f) (printed : (p : ℕ) (e : Entry Effect) → nth entries p ≡ Some e → EachSpellable e.change.prints × (length e.change.prints ≤ 1048576)) where
      few_members : length y.members ≤ 64
      few_members = let g = length-map b.instances member_of in let h = keeps.sound.numbered.few_instances in omega (arith, g, h)

      few_resources : length y.resources ≤ 1024
      few_resources = let g = length-map b.resources resource_of in let h = keeps.sound.numbered.few_resources in omega (arith, g, h)

      module _ (p : ℕ) (e : Entry Effect) (h : nth entries p ≡ Some e) where
        low : p ≤ length entries
        low = let q = nth_below entries p e h in omega (arith, q)

        low_next : suc p ≤ length entries
        low_next = let q = nth_below entries p e h in omega (arith, q)

        by : EntryMade R f p e
        by = made p e h

        v : (v : Words) × ((Sect b e.instance (at p) v).end ≡ Next (at (suc p)) by.prints)
        v = next_of_try b e.instance (at p) (words_of (Seeded settings.seed e.instance e.attempt)) (at (suc p)) by.prints by.outcome

        x : Leads b e.instance (at p) (at (suc p)) v.0 by.prints
        x = leads_from b e.instance (at p) (at (suc p)) v.0 by.prints v.1

        label_written : IsTrue (is_read_name e.change.label)
        label_written =
            let l = is_label b e.instance (at p) (at (suc p)) v.0 by.prints x (premises.unlabelled s consts accepted) (premises.none_done s consts accepted e.instance x.instance x.there) in
            let named : e.change.label ≡ x.label = ap (λ c. c.label) by.change ∙ label_at b e.instance x.instance (at p) x.label x.there x.at_label in
            subst (λ z. IsTrue (is_read_name z)) (sym named) (label_name s w consts accepted e.instance x.instance x.there x.label l)

        next_written : IsTrue (is_read_name e.change.next)
        next_written =
            let l = (good (suc p) low_next).labels e.instance x.instance x.there in
            let named : e.change.next ≡ l.0 = ap (λ c. c.next) by.change ∙ label_at b e.instance x.instance (at (suc p)) l.0 x.there l.1 in
            subst (λ z. IsTrue (is_read_name z)) (sym named) (go l.0 l.2)
          where
            go : (z : Name) → (z ≡ done) ⊎ IsLabel x.instance z → IsTrue (is_read_name z)
            go z (inl q) = subst (λ z. IsTrue (is_read_name z)) (sym q) refl
            go z (inr q) = label_name s w consts accepted e.instance x.instance x.there z q

        shallow : is_shallow (at (suc p)) ≡ true
        shallow = ((states_same b (at (suc p)) keeps.sound keeps.globals).0 (good (suc p) low_next).state).state.shallow

        change_written : (j : ℕ) (c : Change) → nth e.change.changes j ≡ Some c → IsWrittenChange c
        change_written j c at_j =
            let among : IsAmong c (changes_between (components_of y) (at p) (at (suc p))) = subst (λ z. IsAmong c z) (ap (λ (z : Effect). z.changes) by.change) (among_nth c e.change.changes j at_j) in
            let q = change_from (components_of y) (at p) (at (suc p)) c among in
            let d = component_written c.component q.0 in
            record { variable = d.0; index = d.1; value = canon c.value (content_low c.component (at (suc p)) c.value (values (suc p) low_next) shallow q.1) }

        entry_written : IsWrittenEntry e
        entry_written = record {
          instance = let n = by.instance in omega (arith, n, few_members);
          attempt = (
              let a = (accounts e.instance).entries p e h refl in
              let n = nth_below (f.records e.instance) a.0 (Step (suc p)) a.2 in
              let m = (accounts e.instance).bounded in
              let same = a.1 in
              omega (arith, n, m, same, attempts));
          label = label_written;
          next = next_written;
          count = (
              let n = changes_few (at p) (at (suc p)) (components_of y) in
              let same : length e.change.changes ≡ length (changes_between (components_of y) (at p) (at (suc p))) = ap (λ (z : Effect). length z.changes) by.change in
              omega (arith, n, same, components_short));
          changes = change_written;
          prints = (let q = printed p e h in prints_written e.change.prints q.0 q.1);
        }

      resource_there : (r : ℕ) (q : Resource) → nth y.resources r ≡ Some q → IsWrittenResource y.resources r
      resource_there r q at_r = let d = resource_written q (among_nth q y.resources r at_r) in record { resource = q; found = at_r; variable = d.0; index = d.1 }

      record_written : (k i : ℕ) (x : Record) → nth (f.records k) i ≡ Some x → Told R (Reaches y) run f k i x → IsWrittenRecord y.resources x
      record_written k i (Step n) at_i t =
          let q = nth_below entries t.0 t.1 t.3 in
          let same = t.2 in
          let room = joint.room in
          omega (arith, q, same, room, steps)
      record_written k i (Noted kind p) at_i t = let q = t.2.0 in let room = joint.room in omega (arith, q, room, steps)
      record_written k i (Held r h) at_i t = (let n = t.1 in omega (arith, n, few_members), go t.2)
        where
          go : (Reaches y k r × Reaches y h r) ⊎ ((r ≡ journal) × (run ≡ true)) → (r ≡ journal) ⊎ IsWrittenResource y.resources r
          go (inl q) = inr (resource_there r q.0.1 q.0.3)
          go (inr q) = inl q.0
      record_written k i (Down r o) at_i t =
          let q = reached k i r o at_i in
          let n = nth_below y.resources r q.1 q.3 in
          (downs r o t, (λ e. omega (arith, n, few_resources, e)), resource_there r q.1 q.3)
      record_written k i (Full n) at_i t = let same : n ≡ settings.steps = t in omega (arith, same, steps)

      -- a note is of an instance, and of one of its attempts
      note_written : (j : ℕ) (n : Note) → nth f.notes j ≡ Some n → (n.instance < 2 ^ 32) × (n.attempt < 2 ^ 32)
      note_written j n at_j =
          let r = (accounts n.instance).notes j n at_j refl in
          let k = (accounts n.instance).number r.0 (Noted n.kind n.position) r.2 in
          let a = nth_below (f.records n.instance) r.0 (Noted n.kind n.position) r.2 in
          let m = (accounts n.instance).bounded in
          let same = r.1 in
          (omega (arith, k, few_members), omega (arith, a, m, same, attempts))

      pub run_written : (status : ℕ) → AreCanonical consts → SpellsModule (Text (module_of s)) (module_of s) → IsTrue (is_run_status status) → untied_at (run_log y settings f status) ≡ None
          → IsWrittenRun (module_of s) (constants_with s consts) y settings f status
      run_written status given spells is_status tied =
          let named = constants_named s consts accepted.binding in
          let variables : map (λ p. p.0) y.start ≡ (module_of s).variables = keeps.sound.start.variables ∙ variables_same s in
          record {
            spells = spells;
            module_count = omega (arith, short);
            names = named;
            constant_count = (
                let a = length-map {B = Name} (constants_with s consts) (λ p. p.0) in
                let c : length (map (λ p. p.0) (constants_with s consts)) ≡ length (module_of s).constants = ap length named in
                let d = constants_short (module_of s) in
                omega (arith, a, c, d, short));
            constants = constants_canonical s consts given w.constants;
            variables = variables;
            variable_count = (
                let a = length-map {B = Name} y.start (λ p. p.0) in
                let c : length (map (λ p. p.0) y.start) ≡ length (module_of s).variables = ap length variables in
                let d = variables_short (module_of s) in
                omega (arith, a, c, d, short));
            start = all_canonical y.start starts keeps.sound.start.shallow;
            entry_count = let room = joint.room in omega (arith, room, steps);
            entries = entry_written;
            notes = note_written;
            instance_count = omega (arith, few_members);
            members = λ k m at_k. member_canonical m (among_nth m y.members k at_k);
            record_count = λ k. (let n = (accounts k).bounded in omega (arith, n, attempts));
            records = λ k i x q. record_written k i x q ((accounts k).told i x q);
            status_is = is_status;
            tied = tied;
          }
