-- The turns that rounds make are those of the machine's rounds.
use Rattle.std.proofs.Common.{◌≡◌, ◌<◌, ◌≤◌, ℕ, zero, suc, ◌+◌, Bool, true, false, List, [], ◌∷◌, ◌++◌, length, map, Option, Some, None, option_map, refl, sym, ap, ◌∙◌, subst, arith, append_assoc, length-append, lt-ltb}
use Rattle.std.specs.Prelude.{if◌then◌else◌, nat_eq, nat_lt}
use Rattle.pgo_base.specs.Lookup.{Vars, find}
use Rattle.pgo_model.specs.Core.{Settings, Reaches, rules_of, is_place, end_by, end_or_spent}
use Rattle.pgo_model.specs.Core as core
use Rattle.pgo_model.specs.Log.{Effect}
use Rattle.pgo_model.specs.Machine.{Machine, nth, last_ends, opened}
use Rattle.pgo_model.specs.Machine as machine
use Rattle.pgo_model.specs.MachineAccounts.{append_none}
use Rattle.pgo_model.specs.System.{System}
use Rattle.pgo_model.specs.Written.{pc, done}
use Rattle.pgo_syntax.specs.RecordView.{result_view, settings_view}
use Rattle.pgo_syntax.specs.declared.records.End.{End}
use Rattle.pgo_syntax.specs.declared.records.End.TheVariants as ends
use Rattle.pgo_workers.specs.View.{World}
use Rattle.pgo_workers.specs.Walk.{Walk}
use Rattle.pgo_workers.specs.Worker as spec
use Rattle.pgo_workers.specs.Worker.{Program, has_ended}
use Rattle.pgo_workers.specs.Worlds.{layout_of, world_of}
use Rattle.pgo_workers.specs.Sentences.{Meets}
use Rattle.pgo_workers.specs.CoreSteps as steps
use Rattle.pgo_section.specs.Programs.{Trees, IsGood, program_of}
use Rattle.pgo_section.specs.Sight.{see, phase_at, ended, end_of, end_between}
use Rattle.pgo_section.specs.declared.worker.Turn.{Turn}
use Rattle.pgo_section.specs.declared.worker.Turn.TheVariants as turns
use Rattle.pgo_section.specs.declared.worker.Worker.{Worker}
use Rattle.pgo_resource.specs.declared.resource.Resource.{Ghosts}
use Rattle.pgo_resource.specs.declared.sections.Sections as sections
use Rattle.pgo_core.specs.AllViews.{AllViews}
use Rattle.pgo_core.specs.Cores.{CoreFits, StandsWith, IsSafe, IsAnswer, counted, has_turned, turned, worker_at}
use Rattle.pgo_core.specs.Instances.{FitsCore, IsSame, StandsAt, system_of, settings_of}
use Rattle.pgo_core.specs.Rounds.{round_from, round_after, AreRounds, over, more}
use Rattle.pgo_core.specs.declared.instances.Core.{Core}
use Rattle.pgo_core.proofs.CoreTurned as core_turned
use Rattle.pgo_core.proofs.CoreTurned.{ends_so, map_length, nth_inside}
use Rattle.pgo_core.proofs.Nobody.{stands_there}

-- ---- the machine's rounds

module _ (y : System) (settings : Settings) where
  abbrev E : List ℕ → ℕ → Bool
  E d k = machine.has_ended (rules_of y settings) (turned y settings d) k

  -- of one instance
  one_over : (d : List ℕ) (k : ℕ) → E d k ≡ true → round_from y settings d k 1 ≡ []
  one_over d k e = ap (λ b. if b then [] else k ∷ []) e

  one_turn : (d : List ℕ) (k : ℕ) → E d k ≡ false → round_from y settings d k 1 ≡ k ∷ []
  one_turn d k e = ap (λ b. if b then [] else k ∷ []) e

  -- one instance more
  one_more : (d : List ℕ) (j n k : ℕ) → j + n ≡ k → round_from y settings d j (suc n) ≡ round_from y settings d j n ++ round_from y settings (d ++ round_from y settings d j n) k 1
  one_more d j zero k e = (λ i. round_from y settings (append_none d i) (same i) 1)
    where
      same : j ≡ k
      same = omega (arith, e)
  one_more d j (suc n) k e = go (E d j) (one_more d (suc j) n k next) (one_more (d ++ (j ∷ [])) (suc j) n k next)
    where
      next : suc j + n ≡ k
      next = omega (arith, e)

      go : (b : Bool)
          → round_from y settings d (suc j) (suc n) ≡ round_from y settings d (suc j) n ++ round_from y settings (d ++ round_from y settings d (suc j) n) k 1
          → round_from y settings (d ++ (j ∷ [])) (suc j) (suc n)
          ≡ round_from y settings (d ++ (j ∷ [])) (suc j) n ++ round_from y settings ((d ++ (j ∷ [])) ++ round_from y settings (d ++ (j ∷ [])) (suc j) n) k 1
          → (if b then round_from y settings d (suc j) (suc n) else j ∷ round_from y settings (d ++ (j ∷ [])) (suc j) (suc n))
          ≡ (if b then round_from y settings d (suc j) n else j ∷ round_from y settings (d ++ (j ∷ [])) (suc j) n)
          ++ round_from y settings (d ++ (if b then round_from y settings d (suc j) n else j ∷ round_from y settings (d ++ (j ∷ [])) (suc j) n)) k 1
      go true h i = h
      go false h i =
          ap (λ l. j ∷ l) i
          ∙ ap (λ l. (j ∷ round_from y settings (d ++ (j ∷ [])) (suc j) n) ++ round_from y settings l k 1) (append_assoc d (j ∷ []) (round_from y settings (d ++ (j ∷ [])) (suc j) n))

  abbrev upto : List ℕ → ℕ → List ℕ
  upto d k = round_from y settings d 0 k

  upto_more : (d : List ℕ) (k m : ℕ) → m ≡ suc k → upto d m ≡ upto d k ++ round_from y settings (d ++ upto d k) k 1
  upto_more d k m e = ap (upto d) e ∙ one_more d 0 k k (omega arith)

  -- so far `l`, and then those of instance k
  pub next_turns : (d l : List ℕ) (k : ℕ) → l ≡ upto d k → (d ++ l) ++ round_from y settings (d ++ l) k 1 ≡ d ++ upto d (k + 1)
  next_turns d l k e =
      (λ i. (d ++ e i) ++ round_from y settings (d ++ e i) k 1)
      ∙ append_assoc d (upto d k) (round_from y settings (d ++ upto d k) k 1)
      ∙ ap (λ l. d ++ l) (sym (upto_more d k (k + 1) (omega arith)))

  pub next_count : (d l : List ℕ) (k a b : ℕ) → l ≡ upto d k → a ≡ length l → b ≡ length (round_from y settings (d ++ l) k 1) → a + b ≡ length (upto d (k + 1))
  next_count d l k a b e p q =
      (λ i. p i + q i)
      ∙ (λ i. length (e i) + length (round_from y settings (d ++ e i) k 1))
      ∙ sym (length-append (upto d k) (round_from y settings (d ++ upto d k) k 1))
      ∙ ap length (sym (upto_more d k (k + 1) (omega arith)))

-- ---- a worker that has ended, and one that hasn't

module _ {C : Type 0} (y : System) (tree : Trees) (walk : C → Walk) (settings : Settings) where
  abbrev W : World Vars Effect
  W = world_of (layout_of y)

  abbrev P : Program Vars Effect
  P = program_of y tree settings

  -- a worker that says no end goes on
  pub goes_so : (w : Worker C) → settings_view w.settings ≡ settings → w.out_of_memory ≡ false → end_of w ≡ None → has_ended W P (see walk w) ≡ false
  goes_so w same awake says = go w.giving w.place (sym (ap (λ b. if b then Some ends.NoMemory else end_between w w.giving w.place) awake) ∙ says)
    where
      attempts : w.settings.attempts ≡ settings.attempts
      attempts = ap (λ (s : Settings). s.attempts) same

      unspent : (a : Bool) → option_map ended (end_or_spent None a) ≡ None → a ≡ false
      unspent false h = refl
      unspent true h = absurd (grind (arith, h))

      count : nat_eq (length (map result_view w.records.items)) P.attempts ≡ nat_eq (length w.records.items) w.settings.attempts
      count = (λ i. nat_eq (map_length result_view w.records.items i) (sym attempts i))

      by_last : (o : Option core.End) → end_by (map result_view w.records.items) ≡ o → option_map ended (end_or_spent o (nat_eq (length w.records.items) w.settings.attempts)) ≡ None
          → (if last_ends (map result_view w.records.items) then true else nat_eq (length (map result_view w.records.items)) P.attempts) ≡ false
      by_last (Some x) l h = absurd (let z : Some (ended x) ≡ None = h in grind (arith, z))
      by_last None l h =
          ap (λ b. if b then true else nat_eq (length (map result_view w.records.items)) P.attempts) (ends_so (map result_view w.records.items) l)
          ∙ count ∙ unspent (nat_eq (length w.records.items) w.settings.attempts) h

      at_rest : (b : Bool) → (if b then Some ends.Done else option_map ended (end_or_spent (end_by (map result_view w.records.items)) (nat_eq (length w.records.items) w.settings.attempts))) ≡ None
          → (if b then true else if last_ends (map result_view w.records.items) then true else nat_eq (length (map result_view w.records.items)) P.attempts) ≡ false
      at_rest true h = absurd (grind (arith, h))
      at_rest false h = by_last (end_by (map result_view w.records.items)) refl h

      go : (giving : Bool) (place : Option C) → end_between w giving place ≡ None
          → (if spec.is_resting (phase_at walk giving place w.readied) then (if is_place done (find pc w.own) then true else if last_ends (map result_view w.records.items) then true else nat_eq (length (map result_view w.records.items)) P.attempts) else false) ≡ false
      go true place h = refl
      go false (Some c) h = refl
      go false None h = at_rest (is_place done (find pc w.own)) h

  module _ (fits : CoreFits y tree settings) (turns : List ℕ) (made k : ℕ) (ws : List (Worker C)) (s : AllViews Effect) (st : StandsWith y tree walk settings fits turns made ws s) (safe : IsSafe y tree walk settings ws s)
      (w : Worker C) (here : nth ws k ≡ Some w) where
    abbrev m : Machine Effect
    m = turned y settings turns

    pub there : nat_lt k (length y.members) ≡ true
    there = lt-ltb k (length y.members) (subst (λ n. k < n) safe.as_many (nth_inside ws k w here))

    mine : worker_at y tree walk ws k ≡ see walk w
    mine = ap (λ o. elim o as (λ o. spec.Worker) [ None ↦ record { number = k; records = []; own = []; phase = spec.Resting; taken = []; dropped = false } | Some w ↦ see walk w ]) here

    pub as_worker : machine.has_ended (rules_of y settings) m k ≡ has_ended W P (see walk w)
    as_worker =
        steps.ended_as W P (Reaches y) (IsGood y) fits.runs m k (see walk w) (s.view k) (subst (λ w. steps.Stands W P (Reaches y) (IsGood y) fits.runs m k w (s.view k)) mine (st.core.stands k there))
        (subst (λ w. Meets W P (Reaches y) (IsGood y) w (s.view k)) mine (st.core.meets k there)) (fits.good turns) there

-- ---- what a turn's answer tells of a round

pub at_most_one : (t : Turn) → counted t ≤ 1
at_most_one turns.Went = omega arith
at_most_one (turns.Committed n) = omega arith
at_most_one (turns.Noted kind n) = omega arith
at_most_one (turns.Refused x) = omega arith
at_most_one (turns.Idle e) = omega arith
at_most_one turns.NoMemory = omega arith

pub was_idle : (t : Turn) → has_turned t ≡ true → counted t ≡ 0 → (e : End) × (t ≡ turns.Idle e)
was_idle turns.Went has none = absurd (omega (arith, none))
was_idle (turns.Committed n) has none = absurd (omega (arith, none))
was_idle (turns.Noted kind n) has none = absurd (omega (arith, none))
was_idle (turns.Refused x) has none = absurd (omega (arith, none))
was_idle (turns.Idle e) has none = (e, refl)
was_idle turns.NoMemory has none = absurd (grind (arith, has))

counts_one : (t : Turn) → has_turned t ≡ true → ((e : End) → t ≡ turns.Idle e → ⊥) → counted t ≡ 1
counts_one turns.Went has on = refl
counts_one (turns.Committed n) has on = refl
counts_one (turns.Noted kind n) has on = refl
counts_one (turns.Refused x) has on = refl
counts_one (turns.Idle e) has on = absurd (on e refl)
counts_one turns.NoMemory has on = absurd (grind (arith, has))

unchanged : {A : Type 0} (a b : Bool) (m x : A) → a ≡ true → b ≡ true → (if a then (if b then m else x) else m) ≡ m
unchanged a b m x t o = (λ i. if t i then (if o i then m else x) else m)

module _ (y : System) (settings : Settings) (before : List ℕ) (k : ℕ) (is_there : nat_lt k (length y.members) ≡ true) where
  -- a turn of an instance that has ended changes nothing
  idle_turn : E y settings before k ≡ true → turned y settings (before ++ (k ∷ [])) ≡ turned y settings before
  idle_turn had = core_turned.one_more (rules_of y settings) opened before k ∙ unchanged (nat_lt k (length y.members)) (E y settings before k) (turned y settings before) _ is_there had

  pub counted_right : (t : Turn) → has_turned t ≡ true → IsAnswer y settings (turned y settings before) k t → counted t ≡ length (round_from y settings before k 1)
  counted_right t has a = go (E y settings before k) refl
    where
      go : (b : Bool) → E y settings before k ≡ b → counted t ≡ length (round_from y settings before k 1)
      go true had = let q = a.at_end is_there had in ap counted q.2 ∙ sym (ap length (one_over y settings before k had))
      go false on = counts_one t has (a.goes_on is_there on) ∙ sym (ap length (one_turn y settings before k on))

  pub stands_counted : {C : Type 0} (tree : Trees) (walk : C → Walk) (made : ℕ) (ws : List (Worker C)) (s : AllViews Effect) (fits : CoreFits y tree settings) → StandsWith y tree walk settings fits (before ++ (k ∷ [])) made ws s
      → StandsWith y tree walk settings fits (before ++ round_from y settings before k 1) made ws s
  stands_counted tree walk made ws s fits st = go (E y settings before k) refl
    where
      go : (b : Bool) → E y settings before k ≡ b → StandsWith y tree walk settings fits (before ++ round_from y settings before k 1) made ws s
      go true had =
          subst (λ l. StandsWith y tree walk settings fits l made ws s) (append_none before ∙ ap (λ l. before ++ l) (sym (one_over y settings before k had)))
          (stands_there y settings (before ++ (k ∷ [])) before (idle_turn had) tree walk made ws s fits st)
      go false on = subst (λ l. StandsWith y tree walk settings fits l made ws s) (ap (λ l. before ++ l) (sym (one_turn y settings before k on))) st

-- ---- what doesn't change

module _ {S R P : Type 0} {s : sections.Ghosts S P} {g : Ghosts R} (c d : Core S R P s g) (same : IsSame c d) where
  pub fits_back : FitsCore d → FitsCore c
  fits_back f = subst (λ x. CoreFits (s.system c.sections) (s.tree c.sections) (settings_view x)) same.settings (subst (λ x. CoreFits (s.system x) (s.tree x) (settings_view d.settings)) same.sections f)

  pub same_from : (before : List ℕ) (k n : ℕ) → round_from (system_of c) (settings_of c) before k n ≡ round_from (system_of d) (settings_of d) before k n
  same_from before k n = (λ i. round_from (s.system (sym same.sections i)) (settings_view (sym same.settings i)) before k n)

  pub rounds_back : (before turns : List ℕ) → AreRounds (system_of d) (settings_of d) before turns → AreRounds (system_of c) (settings_of c) before turns
  rounds_back before turns r = subst (λ x. AreRounds (s.system c.sections) (settings_view x) before turns) same.settings (subst (λ x. AreRounds (s.system x) (settings_view d.settings) before turns) same.sections r)

  pub rounds_on : (before turns : List ℕ) → AreRounds (system_of c) (settings_of c) before turns → AreRounds (system_of d) (settings_of d) before turns
  rounds_on before turns r = subst (λ x. AreRounds (s.system d.sections) (settings_view x) before turns) (sym same.settings) (subst (λ x. AreRounds (s.system x) (settings_view c.settings) before turns) (sym same.sections) r)

-- ---- rounds so far

module _ {S R P : Type 0} {s : sections.Ghosts S P} {g : Ghosts R} where
  -- rounds were made, and whatever rounds follow, all are rounds
  pub record RoundsSoFar (before : List ℕ) (c : Core S R P s g) : Type 0 where
    pub turns : List ℕ
    pub stands : StandsAt (before ++ turns) c
    pub rounds : FitsCore c → (rest : List ℕ) → AreRounds (system_of c) (settings_of c) (before ++ turns) rest → AreRounds (system_of c) (settings_of c) before (turns ++ rest)

none_left : (l : List ℕ) → 0 ≡ length l → l ≡ []
none_left [] e = refl
none_left (x ∷ l) e = absurd (omega (arith, e))

module _ (y : System) (settings : Settings) where
  -- a round of no turns
  pub rounds_over : (d : List ℕ) (count : ℕ) → count ≡ 0 → count ≡ length (round_after y settings d) → AreRounds y settings d (round_after y settings d)
  rounds_over d count z e = let none = none_left (round_after y settings d) (sym z ∙ e) in subst (AreRounds y settings d) (sym none) (over d none)

  -- a round of some turns, then others
  pub rounds_more : (d rest : List ℕ) (count : ℕ) → (count ≡ 0 → ⊥) → count ≡ length (round_after y settings d) → AreRounds y settings (d ++ round_after y settings d) rest → AreRounds y settings d (round_after y settings d ++ rest)
  rounds_more d rest count z e r = more d rest (λ none. z (e ∙ ap length none)) r
