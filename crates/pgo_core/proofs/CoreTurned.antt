-- A turn of a worker in memory takes the core to where the machine is after it.
use Rattle.std.proofs.Common.{◌≡◌, ◌≤◌, ◌<◌, ℕ, zero, suc, Bool, true, false, List, [], ◌∷◌, ◌++◌, length, map, Option, Some, None, option_map, refl, sym, ap, ◌∙◌, subst, arith, ◌⊎◌, set, lt-ltb}
use Rattle.std.specs.Prelude.{if◌then◌else◌, nat_eq, nat_lt}
use Rattle.pgo_base.specs.Lookup.{Vars, find}
use Rattle.pgo_model.specs.Accounts.{journal}
use Rattle.pgo_model.specs.Core.{Settings, Reaches, rules_of, is_listed, is_place, end_by, end_or_spent}
use Rattle.pgo_model.specs.Core as core
use Rattle.pgo_model.specs.Log.{Effect}
use Rattle.pgo_model.specs.Machine.{Rules, Machine, Record, Step, Noted, Held, Down, Full, nth, last_ends, last_state, step, opened, after_turns}
use Rattle.pgo_model.specs.MachineAccounts.{equal_or}
use Rattle.pgo_model.specs.Outcome.{Blocked, NoValue, AssertFails, Many}
use Rattle.pgo_model.specs.System.{System}
use Rattle.pgo_model.specs.Written.{pc, done}
use Rattle.pgo_syntax.specs.RecordView.{kind_view, result_view, settings_view, refusal_view}
use Rattle.pgo_syntax.specs.declared.records.End.{End}
use Rattle.pgo_syntax.specs.declared.records.End.TheVariants as ends
use Rattle.pgo_syntax.specs.declared.records.Refusal.{Refusal}
use Rattle.pgo_syntax.specs.declared.records.Refusal.TheVariants as refusals
use Rattle.pgo_workers.specs.View.{Shown, Hold, View, World, EachHold}
use Rattle.pgo_workers.specs.Walk.{Walk}
use Rattle.pgo_workers.specs.Worker as spec
use Rattle.pgo_workers.specs.Worker.{Program, Turned, TIdle, has_ended}
use Rattle.pgo_workers.specs.Worlds.{layout_of, world_of}
use Rattle.pgo_workers.specs.Sentences.{Meets}
use Rattle.pgo_workers.specs.CoreSteps as steps
use Rattle.pgo_workers.specs.CoreStands as stands
use Rattle.pgo_workers.specs.CoreTurns.{IsCore}
use Rattle.pgo_workers.specs.Grown.{renewed_meets}
use Rattle.pgo_section.specs.Programs.{Trees, IsGood, program_of}
use Rattle.pgo_section.specs.Sight.{see, phase_at, ended, end_of, end_between, refusal_turn}
use Rattle.pgo_section.specs.Turns.{TurnedBy}
use Rattle.pgo_section.specs.declared.worker.Turn.{Turn}
use Rattle.pgo_section.specs.declared.worker.Turn.TheVariants as turns
use Rattle.pgo_section.specs.declared.worker.Worker.{Worker}
use Rattle.pgo_core.specs.AllViews.{AllViews, Became, Leaves, IsBoard}
use Rattle.pgo_core.specs.Cores.{CoreFits, MayFail, IsSafe, IsSeat, StandsWith, TurnedAt, told, has_turned, turned, worker_at}
use Rattle.pgo_core.proofs.FreeContents.{free_values}
use Rattle.pgo_core.proofs.Alone.{IsAt}
use Rattle.pgo_core.proofs.Steps as law

-- ---- lists

pub nth_inside : {A : Type 0} (l : List A) (k : ℕ) (x : A) → nth l k ≡ Some x → k < length l
nth_inside [] k x e = absurd (grind (arith, e))
nth_inside (y ∷ l) zero x e = omega arith
nth_inside (y ∷ l) (suc k) x e = let h = nth_inside l k x e in omega (arith, h)

pub set_here : {A : Type 0} (l : List A) (k : ℕ) (x : A) → k < length l → nth (set l k x) k ≡ Some x
set_here [] k x h = absurd (omega (arith, h))
set_here (y ∷ l) zero x h = refl
set_here (y ∷ l) (suc k) x h = set_here l k x (omega (arith, h))

pub set_else : {A : Type 0} (l : List A) (k j : ℕ) (x : A) → (j ≡ k → ⊥) → nth (set l k x) j ≡ nth l j
set_else [] k j x n = refl
set_else (y ∷ l) zero zero x n = absurd (n refl)
set_else (y ∷ l) zero (suc j) x n = refl
set_else (y ∷ l) (suc k) zero x n = refl
set_else (y ∷ l) (suc k) (suc j) x n = set_else l k j x (λ e. n (ap suc e))

pub set_length : {A : Type 0} (l : List A) (k : ℕ) (x : A) → length (set l k x) ≡ length l
set_length [] k x = refl
set_length (y ∷ l) zero x = refl
set_length (y ∷ l) (suc k) x = ap suc (set_length l k x)

pub same_some : {A : Type 0} (x y : A) → Some x ≡ Some y → x ≡ y
same_some x y e = grind arith

-- ---- turns

module _ {S D : Type 0} (R : Rules S D) where
  pub one_more : (m : Machine D) (turns : List ℕ) (k : ℕ) → after_turns R m (turns ++ (k ∷ [])) ≡ step R (after_turns R m turns) k
  one_more m [] k = refl
  one_more m (j ∷ turns) k = one_more (step R m j) turns k

abbrev spec_of : Turn → spec.Turn
spec_of turns.Went = spec.Went
spec_of (turns.Committed n) = spec.Committed n
spec_of (turns.Noted kind n) = spec.HasNoted (kind_view kind) n
spec_of (turns.Refused x) = refusal_turn x
spec_of (turns.Idle e) = spec.Idle
spec_of turns.NoMemory = spec.Idle

told_refused : (x : Refusal) → law.record_of (refusal_turn x) ≡ refusal_view x ∷ []
told_refused (refusals.Held r h) = refl
told_refused (refusals.Down r o) = refl
told_refused (refusals.Many leaves at) = refl
told_refused (refusals.Full n) = refl

told_is : (t : Turn) → law.record_of (spec_of t) ≡ told t
told_is turns.Went = refl
told_is (turns.Committed n) = refl
told_is (turns.Noted kind n) = refl
told_is (turns.Refused x) = told_refused x
told_is (turns.Idle e) = refl
told_is turns.NoMemory = refl

-- ---- ends

-- an end shows just where the last record ends
pub ends_so : (xs : List Record) → end_by xs ≡ None → last_ends xs ≡ false
ends_so [] e = refl
ends_so (Step n ∷ []) e = refl
ends_so (Noted Blocked p ∷ []) e = refl
ends_so (Noted NoValue p ∷ []) e = absurd (grind (arith, e))
ends_so (Noted AssertFails p ∷ []) e = absurd (grind (arith, e))
ends_so (Noted Many p ∷ []) e = refl
ends_so (Held r h ∷ []) e = refl
ends_so (Down r o ∷ []) e = refl
ends_so (Full n ∷ []) e = absurd (grind (arith, e))
ends_so (Step n ∷ (y ∷ xs)) e = ends_so (y ∷ xs) e
ends_so (Noted Blocked p ∷ (y ∷ xs)) e = ends_so (y ∷ xs) e
ends_so (Noted NoValue p ∷ (y ∷ xs)) e = ends_so (y ∷ xs) e
ends_so (Noted AssertFails p ∷ (y ∷ xs)) e = ends_so (y ∷ xs) e
ends_so (Noted Many p ∷ (y ∷ xs)) e = ends_so (y ∷ xs) e
ends_so (Held r h ∷ (y ∷ xs)) e = ends_so (y ∷ xs) e
ends_so (Down r o ∷ (y ∷ xs)) e = ends_so (y ∷ xs) e
ends_so (Full n ∷ (y ∷ xs)) e = ends_so (y ∷ xs) e

pub ends_too : (xs : List Record) (x : core.End) → end_by xs ≡ Some x → last_ends xs ≡ true
ends_too [] x e = absurd (grind (arith, e))
ends_too (Step n ∷ []) x e = absurd (grind (arith, e))
ends_too (Noted Blocked p ∷ []) x e = absurd (grind (arith, e))
ends_too (Noted NoValue p ∷ []) x e = refl
ends_too (Noted AssertFails p ∷ []) x e = refl
ends_too (Noted Many p ∷ []) x e = absurd (grind (arith, e))
ends_too (Held r h ∷ []) x e = absurd (grind (arith, e))
ends_too (Down r o ∷ []) x e = absurd (grind (arith, e))
ends_too (Full n ∷ []) x e = refl
ends_too (Step n ∷ (y ∷ xs)) x e = ends_too (y ∷ xs) x e
ends_too (Noted Blocked p ∷ (y ∷ xs)) x e = ends_too (y ∷ xs) x e
ends_too (Noted NoValue p ∷ (y ∷ xs)) x e = ends_too (y ∷ xs) x e
ends_too (Noted AssertFails p ∷ (y ∷ xs)) x e = ends_too (y ∷ xs) x e
ends_too (Noted Many p ∷ (y ∷ xs)) x e = ends_too (y ∷ xs) x e
ends_too (Held r h ∷ (y ∷ xs)) x e = ends_too (y ∷ xs) x e
ends_too (Down r o ∷ (y ∷ xs)) x e = ends_too (y ∷ xs) x e
ends_too (Full n ∷ (y ∷ xs)) x e = ends_too (y ∷ xs) x e

pub map_length : {A B : Type 0} (f : A → B) (l : List A) → length (map f l) ≡ length l
map_length f [] = refl
map_length f (x ∷ l) = ap suc (map_length f l)

module _ {C : Type 0} (y : System) (tree : Trees) (walk : C → Walk) (settings : Settings) where
  abbrev W : World Vars Effect
  W = world_of (layout_of y)

  abbrev P : Program Vars Effect
  P = program_of y tree settings

  -- a worker that says an end makes no turn
  pub ended_so : (w : Worker C) (e : End) → settings_view w.settings ≡ settings → w.out_of_memory ≡ false → end_of w ≡ Some e → has_ended W P (see walk w) ≡ true
  ended_so w e same awake says = go w.giving w.place refl refl (sym (ap (λ b. if b then Some ends.NoMemory else end_between w w.giving w.place) awake) ∙ says)
    where
      attempts : w.settings.attempts ≡ settings.attempts
      attempts = ap (λ (s : Settings). s.attempts) same

      spent : (a : Bool) → option_map ended (end_or_spent None a) ≡ Some e → a ≡ true
      spent true h = refl
      spent false h = absurd (grind (arith, h))

      count : nat_eq (length (map result_view w.records.items)) P.attempts ≡ nat_eq (length w.records.items) w.settings.attempts
      count = (λ i. nat_eq (map_length result_view w.records.items i) (sym attempts i))

      by_last : (o : Option core.End) → end_by (map result_view w.records.items) ≡ o → option_map ended (end_or_spent o (nat_eq (length w.records.items) w.settings.attempts)) ≡ Some e
          → (if last_ends (map result_view w.records.items) then true else nat_eq (length (map result_view w.records.items)) P.attempts) ≡ true
      by_last (Some x) l h = ap (λ b. if b then true else nat_eq (length (map result_view w.records.items)) P.attempts) (ends_too (map result_view w.records.items) x l)
      by_last None l h =
          ap (λ b. if b then true else nat_eq (length (map result_view w.records.items)) P.attempts) (ends_so (map result_view w.records.items) l)
          ∙ count ∙ spent (nat_eq (length w.records.items) w.settings.attempts) h

      at_rest : (b : Bool) → is_place done (find pc w.own) ≡ b
          → (if b then Some ends.Done else option_map ended (end_or_spent (end_by (map result_view w.records.items)) (nat_eq (length w.records.items) w.settings.attempts))) ≡ Some e
          → (if b then true else if last_ends (map result_view w.records.items) then true else nat_eq (length (map result_view w.records.items)) P.attempts) ≡ true
      at_rest true d h = refl
      at_rest false d h = by_last (end_by (map result_view w.records.items)) refl h

      go : (giving : Bool) (place : Option C) → w.giving ≡ giving → w.place ≡ place → end_between w giving place ≡ Some e
          → (if spec.is_resting (phase_at walk giving place w.readied) then (if is_place done (find pc w.own) then true else if last_ends (map result_view w.records.items) then true else nat_eq (length (map result_view w.records.items)) P.attempts) else false) ≡ true
      go true place g p h = absurd (grind (arith, h))
      go false (Some c) g p h = absurd (grind (arith, h))
      go false None g p h = at_rest (is_place done (find pc w.own)) refl h

  -- the turn in code is the turn
  turned_so : (w v : Worker C) (b c : View Effect) (t : Turn) → settings_view w.settings ≡ settings → w.out_of_memory ≡ false → has_turned t ≡ true → TurnedBy y tree walk w b v c t
      → Turned W P (see walk w) b (see walk v) c (spec_of t) × (v.out_of_memory ≡ false)
  turned_so w v b c turns.Went same awake has x = (subst (λ s. Turned W (program_of y tree s) (see walk w) b (see walk v) c spec.Went) same x.2, x.1 ∙ awake)
  turned_so w v b c (turns.Committed n) same awake has x = (subst (λ s. Turned W (program_of y tree s) (see walk w) b (see walk v) c (spec.Committed n)) same x.2, x.1 ∙ awake)
  turned_so w v b c (turns.Noted kind n) same awake has x = (subst (λ s. Turned W (program_of y tree s) (see walk w) b (see walk v) c (spec.HasNoted (kind_view kind) n)) same x.2.turned, x.1 ∙ awake)
  turned_so w v b c (turns.Refused r) same awake has x = (subst (λ s. Turned W (program_of y tree s) (see walk w) b (see walk v) c (refusal_turn r)) same x.2.turned, x.1 ∙ awake)
  turned_so w v b c (turns.Idle e) same awake has x = (TIdle (ended_so w e same awake x.0) (ap (see walk) x.1) x.2 refl, ap (λ (w : Worker C). w.out_of_memory) x.1 ∙ awake)
  turned_so w v b c turns.NoMemory same awake has x = absurd (grind (arith, has))

  each_same : {A : Type 0} (f : Hold → A) (hs : List Hold) → EachHold (λ h. f h ≡ f h) hs
  each_same f [] = tt
  each_same f (h ∷ hs) = (refl, each_same f hs)

  module _ (fits : CoreFits y tree settings) where
    -- what the latest refusal is says nothing of where a worker stands
    unlast_stands : (m : Machine Effect) (j : ℕ) (w : spec.Worker) (b : View Effect) → steps.Stands W P (Reaches y) (IsGood y) fits.runs m j w b → steps.Stands W P (Reaches y) (IsGood y) fits.runs m j w (record b { last = None })
    unlast_stands m j w b s =
        stands.stays W P (Reaches y) (IsGood y) fits.runs m m j w b (record b { last = None }) s refl (λ r e. e) (λ r e. e) s.entries s.notes refl
        (each_same (λ h. W.value (last_state (steps.R W P (Reaches y) (IsGood y) fits.runs) m) h.resource) b.held) refl (each_same (λ h. m.counts h.resource) b.held)

    unlast_meets : (w : spec.Worker) (b : View Effect) → length b.entries ≤ b.steps → Meets W P (Reaches y) (IsGood y) w b → Meets W P (Reaches y) (IsGood y) w (record b { last = None })
    unlast_meets w b room meets =
        renewed_meets W P (Reaches y) (IsGood y) fits.runs w b (record b { last = None })
        (record {
          same = record { instance = refl; resources = refl; steps = refl; share = refl };
          grows = record { entries_more = []; notes_more = []; entries = Rattle.pgo_model.specs.MachineAccounts.append_none b.entries; notes = Rattle.pgo_model.specs.MachineAccounts.append_none b.notes; others = tt; other_notes = tt };
          held = refl;
          told = refl;
        }) room meets

    became_core : (m : Machine Effect) (ws : ℕ → spec.Worker) (k : ℕ) (s t : AllViews Effect) → Became k s t → ((j : ℕ) → length (s.view j).entries ≤ (s.view j).steps) → IsCore W P (Reaches y) (IsGood y) fits.runs fits.differs m ws s.view
        → IsCore W P (Reaches y) (IsGood y) fits.runs fits.differs m ws t.view
    became_core m ws k s t became room c = record {
      stands = λ j l. subst (steps.Stands W P (Reaches y) (IsGood y) fits.runs m j (ws j)) (sym (became.views j)) (unlast_stands m j (ws j) (s.view j) (c.stands j l));
      meets = λ j l. subst (Meets W P (Reaches y) (IsGood y) (ws j)) (sym (became.views j)) (unlast_meets (ws j) (s.view j) (room j) (c.meets j l));
    }

  module _ (turns : List ℕ) (made k : ℕ) (ws vs : List (Worker C)) (s u t : AllViews Effect) (answer : Turn) (safe : IsSafe y tree walk settings ws s) (became : Became k s u) (old : IsBoard W s) (before : IsBoard W u) (after : IsBoard W t) (leaves : Leaves u t)
      (x : TurnedAt y tree walk k ws vs (u.view k) (t.view k) answer) (has : has_turned answer ≡ true) (unmixed : (t.lent ≡ false) ⊎ (t.moved ≡ false)) (made_so : made < 18446744073709551615) where
    seat : IsSeat y tree walk settings k x.worker (s.view k)
    seat = safe.seats k x.worker x.there

    inside : k < length ws
    inside = nth_inside ws k x.worker x.there

    is_there : nat_lt k (length y.members) ≡ true
    is_there = lt-ltb k (length y.members) (subst (λ n. k < n) safe.as_many inside)

    mine : worker_at y tree walk ws k ≡ see walk x.worker
    mine = ap (λ o. elim o as (λ o. spec.Worker) [ None ↦ record { number = k; records = []; own = []; phase = spec.Resting; taken = []; dropped = false } | Some w ↦ see walk w ]) x.there

    mine_after : worker_at y tree walk vs k ≡ see walk x.after
    mine_after =
        ap (λ ws. worker_at y tree walk ws k) x.workers
        ∙ ap (λ o. elim o as (λ o. spec.Worker) [ None ↦ record { number = k; records = []; own = []; phase = spec.Resting; taken = []; dropped = false } | Some w ↦ see walk w ]) (set_here ws k x.after inside)

    others : (j : ℕ) → (j ≡ k → ⊥) → worker_at y tree walk vs j ≡ worker_at y tree walk ws j
    others j n =
        ap (λ ws. worker_at y tree walk ws j) x.workers
        ∙ ap (λ o. elim o as (λ o. spec.Worker) [ None ↦ record { number = j; records = []; own = []; phase = spec.Resting; taken = []; dropped = false } | Some w ↦ see walk w ]) (set_else ws k j x.after n)

    listed : (r n : ℕ) → is_listed settings.down r n ≡ true → n < 18446744073709551615
    listed r n e = seat.met.fits.listed r n (ap (λ (s : Settings). is_listed s.down r n) seat.settings_are ∙ e)

    module _ (fits : CoreFits y tree settings) (old_stands : StandsWith y tree walk settings fits turns made ws s) where
      abbrev m : Machine Effect
      m = turned y settings turns

      turn_is : Turned W P (see walk x.worker) (u.view k) (see walk x.after) (t.view k) (spec_of answer) × (x.after.out_of_memory ≡ false)
      turn_is = turned_so x.worker x.after (u.view k) (t.view k) answer seat.settings_are (old_stands.awake k x.worker x.there) has x.turned

      is_at : IsAt W P (Reaches y) (IsGood y) fits.runs fits.differs m (worker_at y tree walk ws) u
      is_at = record {
        core = became_core fits m (worker_at y tree walk ws) k s u became old.room old_stands.core;
        board = before;
        good = fits.good turns;
        holders = fits.holders turns;
        counts = λ r. old_stands.counts r ∙ ap (λ (c : Shown). c.count) (sym (became.content r));
        small = λ r. let b = old_stands.bounded r in omega (arith, b, made_so);
        numbers = λ r is. subst (λ (c : Shown). MayFail settings r c.number) (sym (became.content r)) (old_stands.numbers r is);
        few = few (length y.resources) fits.few;
      }
        where
          few : (n : ℕ) → n ≤ 1024 → nat_lt journal n ≡ false
          few n h = grind (arith, h)

      turn : Turned W P (worker_at y tree walk ws k) (u.view k) (see walk x.after) (t.view k) (spec_of answer)
      turn = subst (λ w. Turned W P w (u.view k) (see walk x.after) (t.view k) (spec_of answer)) (sym mine) turn_is.0

      is_next : turned y settings (turns ++ (k ∷ [])) ≡ step (rules_of y settings) m k
      is_next = one_more (rules_of y settings) opened turns k

      awake_after : (j : ℕ) (w : Worker C) → nth vs j ≡ Some w → w.out_of_memory ≡ false
      awake_after j w e = go (nat_eq j k) refl
        where
          go : (b : Bool) → nat_eq j k ≡ b → w.out_of_memory ≡ false
          go true q =
              let same = (equal_or j k true q).0 refl in
              let is : x.after ≡ w = same_some x.after w (sym (set_here ws k x.after inside) ∙ (λ i. nth (sym x.workers i) (sym same i)) ∙ e) in
              ap (λ (w : Worker C). w.out_of_memory) (sym is) ∙ turn_is.1
          go false q = old_stands.awake j w (sym (set_else ws k j x.after ((equal_or j k false q).1 refl)) ∙ ap (λ l. nth l j) (sym x.workers) ∙ e)

      core_after : IsCore W P (Reaches y) (IsGood y) fits.runs fits.differs (turned y settings (turns ++ (k ∷ []))) (worker_at y tree walk vs) t.view
      core_after =
          subst (λ n. IsCore W P (Reaches y) (IsGood y) fits.runs fits.differs n (worker_at y tree walk vs) t.view) (sym is_next)
          (law.core_next W P (Reaches y) (IsGood y) fits.runs fits.differs m (worker_at y tree walk ws) (worker_at y tree walk vs) u t k became.current is_there is_at after leaves (see walk x.after) (spec_of answer) turn unmixed listed mine_after others)

      pub stands_after : StandsWith y tree walk settings fits (turns ++ (k ∷ [])) (suc made) vs t
      stands_after = record {
        core = core_after;
        entries = λ j. after.entries j k ∙ (core_after.stands k is_there).entries;
        notes = λ j. after.notes j k ∙ (core_after.stands k is_there).notes;
        awake = awake_after;
        counts = λ r. ap (λ (n : Machine Effect). n.counts r) is_next
            ∙ law.counts_next W P (Reaches y) (IsGood y) fits.runs fits.differs m (worker_at y tree walk ws) (worker_at y tree walk vs) u t k became.current is_there is_at after leaves (see walk x.after) (spec_of answer) turn unmixed r;
        bounded = λ r.
            let a = law.count_rises W P (Reaches y) (IsGood y) fits.runs fits.differs m (worker_at y tree walk ws) (worker_at y tree walk vs) u t k became.current is_there is_at after leaves (see walk x.after) (spec_of answer) turn unmixed r in
            let b = old_stands.bounded r in let e = ap (λ (n : Machine Effect). n.counts r) is_next in omega (arith, a, b, e);
        most = omega (arith, made_so);
        numbers = law.numbers_next W P (Reaches y) (IsGood y) fits.runs fits.differs m (worker_at y tree walk ws) (worker_at y tree walk vs) u t k became.current is_there is_at after leaves (see walk x.after) (spec_of answer) turn unmixed;
        free = free_values y settings tree fits (turned y settings (turns ++ (k ∷ []))) (worker_at y tree walk vs) t core_after after k is_there;
      }

      pub told_after : ((turned y settings (turns ++ (k ∷ []))).workers k).records ≡ (m.workers k).records ++ told answer
      told_after =
          ap (λ (n : Machine Effect). (n.workers k).records) is_next
          ∙ law.told_next W P (Reaches y) (IsGood y) fits.runs fits.differs m (worker_at y tree walk ws) (worker_at y tree walk vs) u t k became.current is_there is_at after leaves (see walk x.after) (spec_of answer) turn unmixed
          ∙ ap (λ l. (m.workers k).records ++ l) (told_is answer)
