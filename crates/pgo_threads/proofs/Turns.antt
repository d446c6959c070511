-- One turn, and where a worker says an end.
use Rattle.std.proofs.Common.{◌≡◌, suc, Bool, true, false, List, [], ◌∷◌, ◌++◌, length, map, Option, Some, None, option_map, refl, sym, ap, ◌∙◌, subst, arith}
use Rattle.std.specs.Prelude.{if◌then◌else◌, nat_eq}
use Rattle.pgo_base.specs.Lookup.{find}
use Rattle.pgo_model.specs.Core.{End, end_by, end_or_spent, is_place, Reaches}
use Rattle.pgo_model.specs.Log.{Effect}
use Rattle.pgo_model.specs.Machine.{Record, Step, Noted, Held, Down, Full, last_ends}
use Rattle.pgo_model.specs.Outcome.{Blocked, NoValue, AssertFails, Many}
use Rattle.pgo_model.specs.System.{System}
use Rattle.pgo_model.specs.Written.{pc, done}
use Rattle.pgo_syntax.specs.RecordView.{kind_view, result_view, settings_view, ended}
use Rattle.pgo_syntax.specs.declared.records.End as declared
use Rattle.pgo_syntax.specs.declared.records.End.TheVariants as ends
use Rattle.pgo_workers.specs.View.{View, World}
use Rattle.pgo_workers.specs.Kept.{no_holds}
use Rattle.pgo_workers.specs.Walk.{Walk}
use Rattle.pgo_workers.specs.Sentences.{Place, refusals}
use Rattle.pgo_workers.specs.Worker as spec
use Rattle.pgo_workers.specs.Worker.{Turned, TIdle, TGave, TTook, THeld, TOperated, TReadied, TDown, TCommitted, TFull, TNoted, TJournal}
use Rattle.pgo_workers.specs.Worlds.{layout_of, world_of}
use Rattle.pgo_section.specs.Programs.{Trees, IsGood, RunsSystem, program_of}
use Rattle.pgo_section.specs.Sight.{see, phase_at, program_at, end_of, end_between, refusal_turn}
use Rattle.pgo_section.specs.Turns.{Met, Same, TurnedBy, TurnedSo}
use Rattle.pgo_section.specs.declared.worker.Turn.{Turn}
use Rattle.pgo_section.specs.declared.worker.Turn.TheVariants as turns
use Rattle.pgo_section.specs.declared.worker.Worker.{Worker}
use Rattle.pgo_closed.specs.MadeEntries.{Stays}
use Rattle.pgo_closed.proofs.MadeEntries.{stays}
use Rattle.pgo_threads.specs.Drives.{Differing, KeepsOn, HasRun, IsUnused, ToldAsRecorded}

-- no turn drops an attempt
turned_whole : {S D : Type 0} (W : World S D) (P : spec.Program S D) (w : spec.Worker) (b : View D) (v : spec.Worker) (c : View D) (t : spec.Turn) → Turned W P w b v c t → v.dropped ≡ w.dropped
turned_whole W P w b v c t (TIdle ended worker board answer) = ap (λ (w : spec.Worker). w.dropped) worker
turned_whole W P w b v c t (TGave r rs giving first gives worker answer) = ap (λ (w : spec.Worker). w.dropped) worker
turned_whole W P w b v c t (TTook on r leave rest next new takes worker answer) = ap (λ (w : spec.Worker). w.dropped) worker
turned_whole W P w b v c t (THeld on r h leave rest next new d take board worker answer) = ap (λ (w : spec.Worker). w.dropped) worker
turned_whole W P w b v c t (TOperated on r leave rest next h held board worker answer) = ap (λ (w : spec.Worker). w.dropped) worker
turned_whole W P w b v c t (TReadied on o ps next r at h held up board worker answer) = ap (λ (w : spec.Worker). w.dropped) worker
turned_whole W P w b v c t (TDown on o ps next r at h held down board worker answer) = ap (λ (w : spec.Worker). w.dropped) worker
turned_whole W P w b v c t (TCommitted on o ps next at n d commits board worker answer) = ap (λ (w : spec.Worker). w.dropped) worker
turned_whole W P w b v c t (TFull on o ps next at n d full board worker answer) = ap (λ (w : spec.Worker). w.dropped) worker
turned_whole W P w b v c t (TNoted on kind next n d notes board worker answer) = ap (λ (w : spec.Worker). w.dropped) worker
turned_whole W P w b v c t (TJournal on e next at h d held board worker answer) = ap (λ (w : spec.Worker). w.dropped) worker

-- an end shows just where the last record ends
pub ends_so : (xs : List Record) → end_by xs ≡ None → last_ends xs ≡ false
ends_so [] e = refl
ends_so (Step n ∷ []) e = refl
ends_so (Noted Blocked p ∷ []) e = refl
ends_so (Noted NoValue p ∷ []) e = absurd (grind (arith, e))
ends_so (Noted AssertFails p ∷ []) e = absurd (grind (arith, e))
ends_so (Noted Many p ∷ []) e = refl
ends_so (Held r h ∷ []) e = refl
ends_so (Down r o ∷ []) e = refl
ends_so (Full n ∷ []) e = absurd (grind (arith, e))
ends_so (Step n ∷ (y ∷ xs)) e = ends_so (y ∷ xs) e
ends_so (Noted Blocked p ∷ (y ∷ xs)) e = ends_so (y ∷ xs) e
ends_so (Noted NoValue p ∷ (y ∷ xs)) e = ends_so (y ∷ xs) e
ends_so (Noted AssertFails p ∷ (y ∷ xs)) e = ends_so (y ∷ xs) e
ends_so (Noted Many p ∷ (y ∷ xs)) e = ends_so (y ∷ xs) e
ends_so (Held r h ∷ (y ∷ xs)) e = ends_so (y ∷ xs) e
ends_so (Down r o ∷ (y ∷ xs)) e = ends_so (y ∷ xs) e
ends_so (Full n ∷ (y ∷ xs)) e = ends_so (y ∷ xs) e

pub ends_too : (xs : List Record) (x : End) → end_by xs ≡ Some x → last_ends xs ≡ true
ends_too [] x e = absurd (grind (arith, e))
ends_too (Step n ∷ []) x e = absurd (grind (arith, e))
ends_too (Noted Blocked p ∷ []) x e = absurd (grind (arith, e))
ends_too (Noted NoValue p ∷ []) x e = refl
ends_too (Noted AssertFails p ∷ []) x e = refl
ends_too (Noted Many p ∷ []) x e = absurd (grind (arith, e))
ends_too (Held r h ∷ []) x e = absurd (grind (arith, e))
ends_too (Down r o ∷ []) x e = absurd (grind (arith, e))
ends_too (Full n ∷ []) x e = refl
ends_too (Step n ∷ (y ∷ xs)) x e = ends_too (y ∷ xs) x e
ends_too (Noted Blocked p ∷ (y ∷ xs)) x e = ends_too (y ∷ xs) x e
ends_too (Noted NoValue p ∷ (y ∷ xs)) x e = ends_too (y ∷ xs) x e
ends_too (Noted AssertFails p ∷ (y ∷ xs)) x e = ends_too (y ∷ xs) x e
ends_too (Noted Many p ∷ (y ∷ xs)) x e = ends_too (y ∷ xs) x e
ends_too (Held r h ∷ (y ∷ xs)) x e = ends_too (y ∷ xs) x e
ends_too (Down r o ∷ (y ∷ xs)) x e = ends_too (y ∷ xs) x e
ends_too (Full n ∷ (y ∷ xs)) x e = ends_too (y ∷ xs) x e

pub map_length : {A B : Type 0} (f : A → B) (l : List A) → length (map f l) ≡ length l
map_length f [] = refl
map_length f (x ∷ l) = ap suc (map_length f l)

module _ {C : Type 0} (y : System) (tree : Trees) (walk : C → Walk) where
  rests_at : (w : Worker C) (e : declared.End) → w.out_of_memory ≡ false → end_of w ≡ Some e → (see walk w).phase ≡ spec.Resting
  rests_at w e awake says = go w.giving w.place (sym (ap (λ b. if b then Some ends.NoMemory else end_between w w.giving w.place) awake) ∙ says)
    where
      go : (b : Bool) (o : Option C) → end_between w b o ≡ Some e → phase_at walk b o w.readied ≡ spec.Resting
      go true o h = absurd (grind (arith, h))
      go false (Some c) h = absurd (grind (arith, h))
      go false None h = refl

  -- a worker that says an end makes no turn
  pub ended_so : (w : Worker C) (e : declared.End) → w.out_of_memory ≡ false → end_of w ≡ Some e → spec.has_ended (world_of (layout_of y)) (program_at y tree w) (see walk w) ≡ true
  ended_so w e awake says = go w.giving w.place refl refl (sym (ap (λ b. if b then Some ends.NoMemory else end_between w w.giving w.place) awake) ∙ says)
    where
      spent : (a : Bool) → option_map ended (end_or_spent None a) ≡ Some e → a ≡ true
      spent true h = refl
      spent false h = absurd (grind (arith, h))

      count : nat_eq (length (map result_view w.records.items)) w.settings.attempts ≡ nat_eq (length w.records.items) w.settings.attempts
      count = ap (λ n. nat_eq n w.settings.attempts) (map_length result_view w.records.items)

      by_last : (o : Option End) → end_by (map result_view w.records.items) ≡ o → option_map ended (end_or_spent o (nat_eq (length w.records.items) w.settings.attempts)) ≡ Some e
          → (if last_ends (map result_view w.records.items) then true else nat_eq (length (map result_view w.records.items)) w.settings.attempts) ≡ true
      by_last (Some x) l h = ap (λ b. if b then true else nat_eq (length (map result_view w.records.items)) w.settings.attempts) (ends_too (map result_view w.records.items) x l)
      by_last None l h =
          ap (λ b. if b then true else nat_eq (length (map result_view w.records.items)) w.settings.attempts) (ends_so (map result_view w.records.items) l)
          ∙ count ∙ spent (nat_eq (length w.records.items) w.settings.attempts) h

      at_rest : (b : Bool) → is_place done (find pc w.own) ≡ b
          → (if b then Some ends.Done else option_map ended (end_or_spent (end_by (map result_view w.records.items)) (nat_eq (length w.records.items) w.settings.attempts))) ≡ Some e
          → (if b then true else if last_ends (map result_view w.records.items) then true else nat_eq (length (map result_view w.records.items)) w.settings.attempts) ≡ true
      at_rest true d h = refl
      at_rest false d h = by_last (end_by (map result_view w.records.items)) refl h

      go : (giving : Bool) (place : Option C) → w.giving ≡ giving → w.place ≡ place → end_between w giving place ≡ Some e
          → (if spec.is_resting (phase_at walk giving place w.readied) then (if is_place done (find pc w.own) then true else if last_ends (map result_view w.records.items) then true else nat_eq (length (map result_view w.records.items)) w.settings.attempts) else false) ≡ true
      go true place g p h = absurd (grind (arith, h))
      go false (Some c) g p h = absurd (grind (arith, h))
      go false None g p h = at_rest (is_place done (find pc w.own)) refl h

  -- nothing is held by who says an end
  pub nothing_held : (w : Worker C) (b : View Effect) (runs : RunsSystem y tree (settings_view w.settings)) (e : declared.End) → w.out_of_memory ≡ false → end_of w ≡ Some e → Met y tree walk w b → b.held ≡ []
  nothing_held w b runs e awake says met =
      no_holds (world_of (layout_of y)) (program_at y tree w) (Reaches y) (IsGood y) runs (see walk w) b met.meets
      (place (see walk w).phase (rests_at w e awake says) met.meets.place)
    where
      place : (p : spec.Phase) → p ≡ spec.Resting → Place (world_of (layout_of y)) (program_at y tree w) (Reaches y) (IsGood y) (see walk w) b p → w.taken.items ≡ []
      place spec.Resting e q = q
      place (spec.Walking c j) e q = absurd (grind (arith, e))
      place spec.Giving e q = absurd (grind (arith, e))

  -- what stays through a turn
  keeps_turn : (w : Worker C) (b : View Effect) (v : Worker C) (c : View Effect) (t : spec.Turn) → v.settings ≡ w.settings → TurnedSo y tree walk w b v c t → Met y tree walk w b → KeepsOn y tree walk w b v c
  keeps_turn w b v c t same turned met asked s =
      subst (λ z. Stays (world_of (layout_of y)) (program_of y tree (settings_view z)) (IsGood y) (see walk v) c) (sym same)
      (stays (world_of (layout_of y)) (program_at y tree w) (Reaches y) (IsGood y) asked.runs asked.differs (see walk w) b (see walk v) c t turned met.meets s)

  -- so far, from the worker w and its board b
  pub record SoFar (w : Worker C) (b : View Effect) (v : Worker C) (c : View Effect) : Type 0 where
    pub same : Same w v
    pub awake : v.out_of_memory ≡ false
    pub whole : v.dropped ≡ false
    pub keeps : KeepsOn y tree walk w b v c

  pub begins : (w : Worker C) (b : View Effect) → IsUnused w → SoFar w b w b
  begins w b u = record { same = record { number = refl; settings = refl; records_room = refl; taken_room = refl; told = λ h. h }; awake = u.awake; whole = u.dropped; keeps = λ _ s. s }

  one_more : (w : Worker C) (b : View Effect) (v : Worker C) (c : View Effect) (u : Worker C) (d : View Effect) (t : spec.Turn) → Same v u → u.out_of_memory ≡ v.out_of_memory → TurnedSo y tree walk v c u d t → Met y tree walk v c → SoFar w b v c → SoFar w b u d
  one_more w b v c u d t same awake turned met far = record {
    same = record {
      number = same.number ∙ far.same.number;
      settings = same.settings ∙ far.same.settings;
      records_room = same.records_room ∙ far.same.records_room;
      taken_room = same.taken_room ∙ far.same.taken_room;
      told = λ h. same.told (far.same.told h);
    };
    awake = awake ∙ far.awake;
    whole = turned_whole (world_of (layout_of y)) (program_at y tree v) (see walk v) c (see walk u) d t turned ∙ far.whole;
    keeps = λ asked s. keeps_turn v c u d t same.settings turned met (subst (λ z. Differing y tree (settings_view z)) (sym far.same.settings) asked) (far.keeps asked s);
  }

  -- a turn that went on
  pub goes_on : (w : Worker C) (b : View Effect) (v : Worker C) (c : View Effect) (u : Worker C) (d : View Effect) (t : Turn) → Same v u → TurnedBy y tree walk v c u d t → Met y tree walk v c → SoFar w b v c
      → ((e : declared.End) → t ≡ turns.Idle e → ⊥) → (t ≡ turns.NoMemory → ⊥) → SoFar w b u d
  goes_on w b v c u d turns.Went same x met far a z = one_more w b v c u d spec.Went same x.1 x.2 met far
  goes_on w b v c u d (turns.Committed n) same x met far a z = one_more w b v c u d (spec.Committed n) same x.1 x.2 met far
  goes_on w b v c u d (turns.Noted kind n) same x met far a z = one_more w b v c u d (spec.HasNoted (kind_view kind) n) same x.1 x.2.turned met far
  goes_on w b v c u d (turns.Refused r) same x met far a z = one_more w b v c u d (refusal_turn r) same x.1 x.2.turned met far
  goes_on w b v c u d (turns.Idle e) same x met far a z = absurd (a e refl)
  goes_on w b v c u d turns.NoMemory same x met far a z = absurd (z refl)

  -- the turn of one that had ended
  pub is_over : (w : Worker C) (b : View Effect) (v : Worker C) (c : View Effect) (u : Worker C) (d : View Effect) (e : declared.End) → (end_of v ≡ Some e) × (u ≡ v) × (d ≡ c) → SoFar w b v c → HasRun y tree walk w b u d
  is_over w b v c u d e x far =
      subst (λ u. HasRun y tree walk w b u d) (sym x.1)
      (subst (λ d. HasRun y tree walk w b v d) (sym x.2) (record { says = (e, x.0); ended = ended_so v e far.awake x.0; awake = far.awake; whole = far.whole; keeps = far.keeps }))

  -- what is told since a worker had no record
  pub told_as_recorded : (w : Worker C) (b : View Effect) (v : Worker C) (c : View Effect) → Met y tree walk w b → IsUnused w → Met y tree walk v c → ToldAsRecorded b v c
  told_as_recorded w b v c met unused after t u is_t is_u =
      let none : t.refused ≡ [] = sym (met.meets.lists t is_t).refused ∙ ap (λ l. refusals (map result_view l)) unused.records in
      sym (after.meets.lists u is_u).refused ∙ ap (λ l. l ++ refusals (map result_view v.records.items)) (sym none)
