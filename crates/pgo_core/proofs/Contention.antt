-- Where a run of the core has ended and no attempt is under way, each refusal has its cause.
use Rattle.std.proofs.Common.{◌≡◌, ◌≤◌, ◌<◌, ℕ, zero, suc, Bool, true, false, List, [], ◌∷◌, length, Option, Some, None, refl, sym, ap, ◌∙◌, subst, arith}
use Rattle.std.proofs.lemmas.Bool.{ltb-true}
use Rattle.std.specs.Prelude.{if◌then◌else◌, nat_eq, nat_lt, IsSome}
use Rattle.pgo_base.specs.Lookup.{Vars}
use Rattle.pgo_model.specs.Accounts.{journal, Contended}
use Rattle.pgo_model.specs.Core.{Settings, Reaches, Core, rules_of, is_listed}
use Rattle.pgo_model.specs.Log.{Effect}
use Rattle.pgo_model.specs.Machine.{Machine, nth, is_under_way, opened, finished_of}
use Rattle.pgo_model.specs.System.{System}
use Rattle.pgo_syntax.specs.declared.records.End.TheVariants as ends
use Rattle.pgo_workers.specs.View.{World}
use Rattle.pgo_workers.specs.Walk.{Walk}
use Rattle.pgo_workers.specs.Worker as spec
use Rattle.pgo_workers.specs.Worker.{Program}
use Rattle.pgo_workers.specs.Worlds.{layout_of, world_of}
use Rattle.pgo_workers.specs.CoreSteps as steps
use Rattle.pgo_section.specs.Programs.{Trees, IsGood, program_of}
use Rattle.pgo_section.specs.Sight.{see, phase_at, end_of, end_between}
use Rattle.pgo_section.specs.declared.worker.Worker.{Worker}
use Rattle.pgo_core.specs.AllViews.{AllViews}
use Rattle.pgo_core.specs.Cores.{CoreFits, StandsWith, IsSafe, AllEnded, turned, worker_at}
use Rattle.pgo_core.proofs.Stages.{stage_opened, stage_after, stage_contended}

module _ (y : System) (tree : Trees) (settings : Settings) (fits : CoreFits y tree settings) (turns : List ℕ) where
  abbrev W : World Vars Effect
  W = world_of (layout_of y)

  abbrev P : Program Vars Effect
  P = program_of y tree settings

  few : W.is_resource journal ≡ false
  few = go (length y.resources) fits.few
    where
      go : (n : ℕ) → n ≤ 1024 → nat_lt journal n ≡ false
      go n h = grind (arith, h)

  -- of the machine alone: after turns by which no count of pre-commits passes its last value, and no attempt is under way
  pub contended_after : ((k : ℕ) → nat_lt k (length y.members) ≡ true → (r n : ℕ) → is_listed settings.down r n ≡ true → n < 18446744073709551615) → ((r : ℕ) → (turned y settings turns).counts r ≤ 18446744073709551615)
      → ((k : ℕ) → nat_lt k (length y.members) ≡ true → is_under_way ((turned y settings turns).workers k) ≡ false) → Contended (rules_of y settings) (finished_of (Core y settings turns))
  contended_after listed small rests =
      stage_contended W P (Reaches y) (IsGood y) fits.runs fits.differs few (turned y settings turns)
      (stage_after W P (Reaches y) (IsGood y) fits.runs fits.differs listed few turns opened (stage_opened W P (Reaches y) (IsGood y) fits.runs fits.differs (fits.good [])) fits.good fits.holders small) rests

  -- of the core in memory: where each worker says an end
  module _ {C : Type 0} (walk : C → Walk) (made : ℕ) (ws : List (Worker C)) (s : AllViews Effect) (st : StandsWith y tree walk settings fits turns made ws s) (safe : IsSafe y tree walk settings ws s)
      (all : AllEnded ws) where
    abbrev m : Machine Effect
    m = turned y settings turns

    there_is : {A : Type 0} (l : List A) (k : ℕ) → k < length l → (x : A) × (nth l k ≡ Some x)
    there_is [] k h = absurd (omega (arith, h))
    there_is (x ∷ l) zero h = (x, refl)
    there_is (x ∷ l) (suc k) h = there_is l k (omega (arith, h))

    -- who says an end has no attempt
    has_none : (w : Worker C) → w.out_of_memory ≡ false → IsSome (end_of w) → phase_at walk w.giving w.place w.readied ≡ spec.Resting
    has_none w awake some = go w.giving w.place (subst (λ b. IsSome (if b then Some ends.NoMemory else end_between w w.giving w.place)) awake some)
      where
        go : (b : Bool) (o : Option C) → IsSome (end_between w b o) → phase_at walk b o w.readied ≡ spec.Resting
        go true None e = absurd (grind (arith, e))
        go true (Some c) e = absurd (grind (arith, e))
        go false (Some c) e = absurd (grind (arith, e))
        go false None e = refl

    seat_of : (k : ℕ) → nat_lt k (length y.members) ≡ true → (w : Worker C) × (nth ws k ≡ Some w)
    seat_of k there = there_is ws k (subst (λ n. k < n) (sym safe.as_many) (ltb-true k (length y.members) there))

    rests : (k : ℕ) → nat_lt k (length y.members) ≡ true → is_under_way (m.workers k) ≡ false
    rests k there =
        let w = seat_of k there in
        let mine : worker_at y tree walk ws k ≡ see walk w.0 = ap (λ o. elim o as (λ o. spec.Worker) [ None ↦ record { number = k; records = []; own = []; phase = spec.Resting; taken = []; dropped = false } | Some w ↦ see walk w ]) w.1 in
        let stands = subst (λ w. steps.Stands W P (Reaches y) (IsGood y) fits.runs m k w (s.view k)) mine (st.core.stands k there) in
        go (see walk w.0).phase (see walk w.0) (has_none w.0 (st.awake k w.0 w.1) (all k w.0 w.1)) stands.giving stands.done
      where
        go : (p : spec.Phase) (w : spec.Worker) → p ≡ spec.Resting → (m.workers k).giving ≡ spec.is_giving p → steps.DoneAt W P (Reaches y) (IsGood y) fits.runs w (s.view k) p (m.workers k).done → is_under_way (m.workers k) ≡ false
        go spec.Resting w e g d = (λ i. if nat_eq (d i) 0 then g i else true)
        go (spec.Walking c j) w e g d = absurd (grind (arith, e))
        go spec.Giving w e g d = absurd (grind (arith, e))

    low : (r : ℕ) → m.counts r ≤ 18446744073709551615
    low r = let a = st.bounded r in let b = st.most in omega (arith, a, b)

    listed : (k : ℕ) → nat_lt k (length y.members) ≡ true → (r n : ℕ) → is_listed settings.down r n ≡ true → n < 18446744073709551615
    listed k there r n l = let w = seat_of k there in let seat = safe.seats k w.0 w.1 in seat.met.fits.listed r n (ap (λ (s : Settings). is_listed s.down r n) seat.settings_are ∙ l)

    pub contended_at : Contended (rules_of y settings) (finished_of (Core y settings turns))
    contended_at = contended_after listed low rests
