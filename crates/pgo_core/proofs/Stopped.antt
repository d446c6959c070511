-- A worker that is stopped leaves the journal as it was, and says how its instance ended.
use Rattle.std.proofs.Common.{◌≡◌, ◌<◌, ℕ, zero, suc, Bool, true, false, List, [], ◌∷◌, ◌++◌, length, map, Option, Some, None, option_map, refl, sym, ap, ◌∙◌, subst, arith}
use Rattle.std.specs.Prelude.{if◌then◌else◌, nat_eq, nat_lt}
use Rattle.pgo_base.specs.Lookup.{Vars, find}
use Rattle.pgo_model.specs.Core.{Settings, Reaches, Core, rules_of, is_place, is_at_done, end_by, end_or_spent}
use Rattle.pgo_model.specs.Core as core
use Rattle.pgo_model.specs.Log.{Effect}
use Rattle.pgo_model.specs.Machine.{Machine, Entry, Note, Record, Step, Noted, nth, last_ends, last_state, finished_of}
use Rattle.pgo_model.specs.MachineAccounts.{append_none}
use Rattle.pgo_model.specs.System.{System}
use Rattle.pgo_model.specs.Written.{pc, done}
use Rattle.pgo_syntax.specs.RecordView.{result_view, settings_view}
use Rattle.pgo_syntax.specs.declared.records.End.TheVariants as ends
use Rattle.pgo_workers.specs.Sentences.{AccountsOfOne, Place}
use Rattle.pgo_workers.specs.View.{View, World, own_left, resources_of}
use Rattle.pgo_workers.specs.Walk.{Walk}
use Rattle.pgo_workers.specs.Worker as spec
use Rattle.pgo_workers.specs.Worker.{Program}
use Rattle.pgo_workers.specs.Worlds.{layout_of, world_of}
use Rattle.pgo_workers.specs.CoreSteps as steps
use Rattle.pgo_section.specs.Programs.{Trees, IsGood, program_of}
use Rattle.pgo_section.specs.Sight.{see, phase_at, program_at, ended, end_of, end_between}
use Rattle.pgo_section.specs.Turns.{Met}
use Rattle.pgo_section.specs.declared.worker.Worker.{Worker}
use Rattle.pgo_core.specs.AllViews.{AllViews, AllOf, AllNotesOf, Leaves, IsBoard}
use Rattle.pgo_core.specs.Cores.{CoreFits, StandsWith, Rested, SameJournal, turned, worker_at}
use Rattle.pgo_core.proofs.CoreTurned.{ends_too, map_length}

-- what stands in front and behind
front : {A : Type 0} (a b : List A) (n : ℕ) (x : A) → nth a n ≡ Some x → nth (a ++ b) n ≡ Some x
front [] b n x e = absurd (grind (arith, e))
front (z ∷ a) b zero x e = e
front (z ∷ a) b (suc n) x e = front a b n x e

behind : {A : Type 0} (a b : List A) (x : A) → nth (a ++ (x ∷ b)) (length a) ≡ Some x
behind [] b x = refl
behind (z ∷ a) b x = behind a b x

inside : {A : Type 0} (l : List A) (n : ℕ) (x : A) → nth l n ≡ Some x → n < length l
inside [] n x e = absurd (grind (arith, e))
inside (y ∷ l) zero x e = omega arith
inside (y ∷ l) (suc n) x e = let h = inside l n x e in omega (arith, h)

module _ {S D : Type 0} (W : World S D) (P : Program S D) (Reach : ℕ → ℕ → Type 0) (Good : S → Type 0) (k : ℕ) where
  -- with the same records there are no more entries of k
  no_entry : (es more : List (Entry D)) (ns ms : List Note) (xs : List Record) → AccountsOfOne W P Reach Good k es ns xs → AccountsOfOne W P Reach Good k (es ++ more) ms xs → AllOf k more → more ≡ []
  no_entry es [] ns ms xs a b all = refl
  no_entry es (e ∷ more) ns ms xs a b all =
      let q = b.steps (length es) e (behind es more e) all.0 in
      let t = a.told q.0 (Step (suc (length es))) q.2 in
      let h = inside es t.0 t.1 t.3 in
      let n = t.2 in absurd (omega (arith, h, n))

  no_note : (es fs : List (Entry D)) (ns more : List Note) (xs : List Record) → AccountsOfOne W P Reach Good k es ns xs → AccountsOfOne W P Reach Good k fs (ns ++ more) xs → AllNotesOf k more → more ≡ []
  no_note es fs ns [] xs a b all = refl
  no_note es fs ns (x ∷ more) xs a b all =
      let q = b.notes (length ns) x (behind ns more x) all.0 in
      let t = a.told q.0 (Noted x.kind x.position) q.2 in
      let h = inside ns t.0 _ t.1 in
      let same : t.0 ≡ length ns = b.notes_once t.0 (length ns) _ x (front ns (x ∷ more) t.0 _ t.1) (behind ns more x) refl all.0 (sym q.1) in
      absurd (omega (arith, h, same))

module _ {C : Type 0} (y : System) (tree : Trees) (walk : C → Walk) where
  abbrev W : World Vars Effect
  W = world_of (layout_of y)

  module _ (w v : Worker C) (k : ℕ) (u t : AllViews Effect) (number : w.number ≡ k) (same_number : v.number ≡ w.number) (same_settings : v.settings ≡ w.settings) (current : u.current ≡ k) (before : IsBoard W u) (after : IsBoard W t)
      (leaves : Leaves u t) (old : Met y tree walk w (u.view k)) (now : Met y tree walk v (t.view k)) (records : v.records ≡ w.records) (out : v.out_of_memory ≡ w.out_of_memory) (nothing : (t.view k).held ≡ []) where
    accounts_old : AccountsOfOne W (program_at y tree w) (Reaches y) (IsGood y) k (u.view k).entries (u.view k).notes (map result_view w.records.items)
    accounts_old = subst (λ k'. AccountsOfOne W (program_at y tree w) (Reaches y) (IsGood y) k' (u.view k).entries (u.view k).notes (map result_view w.records.items)) number old.meets.accounts

    accounts_now : AccountsOfOne W (program_at y tree w) (Reaches y) (IsGood y) k (t.view k).entries (t.view k).notes (map result_view w.records.items)
    accounts_now =
        subst (λ s. AccountsOfOne W (program_of y tree (settings_view s)) (Reaches y) (IsGood y) k (t.view k).entries (t.view k).notes (map result_view w.records.items)) same_settings
        (subst (λ (r : _). AccountsOfOne W (program_at y tree v) (Reaches y) (IsGood y) k (t.view k).entries (t.view k).notes (map result_view r.items)) records
        (subst (λ k'. AccountsOfOne W (program_at y tree v) (Reaches y) (IsGood y) k' (t.view k).entries (t.view k).notes (map result_view v.records.items)) (same_number ∙ number) now.meets.accounts))

    no_more : leaves.entries_more ≡ []
    no_more =
        no_entry W (program_at y tree w) (Reaches y) (IsGood y) k (u.view k).entries leaves.entries_more (u.view k).notes (t.view k).notes (map result_view w.records.items) accounts_old
        (subst (λ es. AccountsOfOne W (program_at y tree w) (Reaches y) (IsGood y) k es (t.view k).notes (map result_view w.records.items)) (leaves.entries k) accounts_now)
        (subst (λ k. AllOf k leaves.entries_more) current leaves.entries_of)

    no_more_notes : leaves.notes_more ≡ []
    no_more_notes =
        no_note W (program_at y tree w) (Reaches y) (IsGood y) k (u.view k).entries (t.view k).entries (u.view k).notes leaves.notes_more (map result_view w.records.items) accounts_old
        (subst (λ ns. AccountsOfOne W (program_at y tree w) (Reaches y) (IsGood y) k (t.view k).entries ns (map result_view w.records.items)) (leaves.notes k) accounts_now)
        (subst (λ k. AllNotesOf k leaves.notes_more) current leaves.notes_of)

    pub stop_journal : SameJournal u t
    stop_journal = record {
      entries = λ j. leaves.entries j ∙ ap (λ l. (u.view j).entries ++ l) no_more ∙ sym (append_none (u.view j).entries);
      notes = λ j. leaves.notes j ∙ ap (λ l. (u.view j).notes ++ l) no_more_notes ∙ sym (append_none (u.view j).notes);
    }

    pub stop_rests : Rested w v
    stop_rests = record {
      records = records;
      out = out;
      own = now.meets.own ∙ (λ i. own_left W ((leaves.same k).instance i) (W.own W.start ((leaves.same k).instance i)) (stop_journal.entries k i)) ∙ sym old.meets.own;
      giving = go v.giving refl;
    }
      where
        go : (b : Bool) → v.giving ≡ b → b ≡ false
        go true e =
            let at = subst (λ b. Place W (program_at y tree v) (Reaches y) (IsGood y) (see walk v) (t.view k) (phase_at walk b v.place v.readied)) e now.meets.place in
            absurd (at.1 (now.meets.taken ∙ ap resources_of nothing))
        go false e = refl

  -- the end that a stopped worker says is the one that the machine's account shows
  module _ (settings : Settings) (fits : CoreFits y tree settings) (turns : List ℕ) (made k : ℕ) (ws : List (Worker C)) (s : AllViews Effect) (core_stands : StandsWith y tree walk settings fits turns made ws s) (w v : Worker C) (c : View Effect)
      (here : nth ws k ≡ Some w) (there : nat_lt k (length y.members) ≡ true) (rests : Rested w v) (number : v.number ≡ k) (settings_are : settings_view v.settings ≡ settings) (met : Met y tree walk v c) where
    abbrev m : Machine Effect
    m = turned y settings turns

    mine : worker_at y tree walk ws k ≡ see walk w
    mine = ap (λ o. elim o as (λ o. spec.Worker) [ None ↦ record { number = k; records = []; own = []; phase = spec.Resting; taken = []; dropped = false } | Some w ↦ see walk w ]) here

    st : steps.Stands W (program_of y tree settings) (Reaches y) (IsGood y) fits.runs m k (see walk w) (s.view k)
    st = subst (λ w. steps.Stands W (program_of y tree settings) (Reaches y) (IsGood y) fits.runs m k w (s.view k)) mine (core_stands.core.stands k there)

    pub stop_records : (m.workers k).records ≡ map result_view v.records.items
    stop_records = st.records ∙ ap (λ (r : _). map result_view r.items) (sym rests.records)

    is_done : is_at_done y k (last_state (rules_of y settings) m) ≡ is_place done (find pc v.own)
    is_done = fits.runs.done k (last_state (rules_of y settings) m) (fits.good turns) ∙ ap (λ o. is_place done (find pc o)) (st.own ∙ sym rests.own)

    awake : v.out_of_memory ≡ false
    awake = rests.out ∙ core_stands.awake k w here

    abbrev shown : Option core.End
    shown = end_or_spent (end_by (map result_view v.records.items)) (nat_eq (length (map result_view v.records.items)) settings.attempts)

    attempts : v.settings.attempts ≡ settings.attempts
    attempts = ap (λ (s : Settings). s.attempts) settings_are

    -- under way it shows none
    under_way : (p : C) → v.place ≡ Some p → (if is_place done (find pc v.own) then Some core.Done else shown) ≡ None
    under_way p e =
        let at = subst (λ b. Place W (program_at y tree v) (Reaches y) (IsGood y) (see walk v) c (phase_at walk b v.place v.readied)) rests.giving met.meets.place in
        let at' = subst (λ o. Place W (program_at y tree v) (Reaches y) (IsGood y) (see walk v) c (phase_at walk false o v.readied)) e at in
        ap (λ b. if b then Some core.Done else shown) at'.not_done
        ∙ (λ i. end_or_spent (no_end (end_by (map result_view v.records.items)) refl at'.may.0 i) (nat_eq (length (map result_view v.records.items)) (sym attempts i)))
        ∙ ap (λ b. end_or_spent None b) (fewer (length (map result_view v.records.items)) v.settings.attempts at'.may.1)
      where
        no_end : (o : Option core.End) → end_by (map result_view v.records.items) ≡ o → last_ends (map result_view v.records.items) ≡ false → o ≡ None
        no_end None q l = refl
        no_end (Some x) q l = absurd (let z : true ≡ false = sym (ends_too (map result_view v.records.items) x q) ∙ l in grind (arith, z))

        fewer : (a b : ℕ) → a < b → nat_eq a b ≡ false
        fewer a b h = grind (arith, h)

    said : (o : Option C) → v.place ≡ o → end_between v false o ≡ option_map ended (if is_place done (find pc v.own) then Some core.Done else shown)
    said None e = at_rest (is_place done (find pc v.own)) ∙ ap (λ n. option_map ended (if is_place done (find pc v.own) then Some core.Done else end_or_spent (end_by (map result_view v.records.items)) n)) count
      where
        count : nat_eq (length v.records.items) v.settings.attempts ≡ nat_eq (length (map result_view v.records.items)) settings.attempts
        count = (λ i. nat_eq (sym (map_length result_view v.records.items) i) (attempts i))

        at_rest : (b : Bool)
            → (if b then Some ends.Done else option_map ended (end_or_spent (end_by (map result_view v.records.items)) (nat_eq (length v.records.items) v.settings.attempts)))
            ≡ option_map ended (if b then Some core.Done else end_or_spent (end_by (map result_view v.records.items)) (nat_eq (length v.records.items) v.settings.attempts))
        at_rest true = refl
        at_rest false = refl
    said (Some p) e = sym (ap (option_map ended) (under_way p e))

    pub stop_end : end_of v ≡ option_map ended (core.end_of y settings (finished_of (Core y settings turns)) k)
    stop_end =
        ap (λ b. if b then Some ends.NoMemory else end_between v v.giving v.place) awake
        ∙ ap (λ b. end_between v b v.place) rests.giving
        ∙ said v.place refl
        ∙ (λ i. option_map ended (if sym is_done i then Some core.Done else end_or_spent (end_by (sym stop_records i)) (nat_eq (length (sym stop_records i)) settings.attempts)))
