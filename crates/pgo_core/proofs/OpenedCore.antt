-- The core before its first turn.
use Rattle.std.proofs.Common.{◌≡◌, ◌<◌, ℕ, zero, suc, Bool, true, false, List, [], ◌∷◌, length, map, Option, Some, None, refl, sym, ap, ◌∙◌, subst, arith}
use Rattle.std.proofs.lemmas.Bool.{ltb-true}
use Rattle.std.specs.Prelude.{nat_lt, slice_get}
use Rattle.pgo_base.specs.Lookup.{Vars}
use Rattle.pgo_model.specs.Core.{Settings, Reaches}
use Rattle.pgo_model.specs.Log.{Effect}
use Rattle.pgo_model.specs.Machine.{nth, opened}
use Rattle.pgo_model.specs.System.{System}
use Rattle.pgo_syntax.specs.RecordView.{result_view}
use Rattle.pgo_workers.specs.CoreStands.{opened_stands}
use Rattle.pgo_workers.specs.CoreSteps as steps
use Rattle.pgo_workers.specs.Grown as grown
use Rattle.pgo_workers.specs.Sentences.{Meets, Place}
use Rattle.pgo_workers.specs.View.{Shown, View, World}
use Rattle.pgo_workers.specs.Walk.{Walk}
use Rattle.pgo_workers.specs.Worker as spec
use Rattle.pgo_workers.specs.Worker.{Program}
use Rattle.pgo_workers.specs.Worlds.{Layout, layout_of, value_in, world_of}
use Rattle.pgo_resource.specs.PlainRows.{FitsStart, shown_at, nothing}
use Rattle.pgo_section.specs.Programs.{Trees, IsGood, RunsSystem, program_of}
use Rattle.pgo_section.specs.Sight.{see, phase_at, program_at}
use Rattle.pgo_section.specs.Turns.{Met, IsFresh}
use Rattle.pgo_section.specs.declared.worker.Worker.{Worker}
use Rattle.pgo_core.specs.AllViews.{AllViews, HasValue}
use Rattle.pgo_core.specs.Cores.{CoreFits, MayFail, AreOpened, IsSafe, StandsWith, worker_at}
use Rattle.pgo_core.specs.ExclusiveBoards.{fresh_view}

there_is : {A : Type 0} (l : List A) (k : ℕ) → k < length l → (x : A) × (nth l k ≡ Some x)
there_is [] k h = absurd (omega (arith, h))
there_is (x ∷ l) zero h = (x, refl)
there_is (x ∷ l) (suc k) h = there_is l k (omega (arith, h))

module _ {C : Type 0} (y : System) (tree : Trees) (walk : C → Walk) (settings : Settings) (ws : List (Worker C)) (s : AllViews Effect) (are : AreOpened y tree walk settings ws) (as_many : length ws ≡ length y.members) (resources : ℕ)
    (fresh : (j : ℕ) → s.view j ≡ fresh_view j resources settings.steps settings.attempts) where
  is_fresh : (j : ℕ) → IsFresh y settings j (fresh_view j resources settings.steps settings.attempts)
  is_fresh j = record {
    instance = refl;
    steps = refl;
    share = omega arith;
    held = refl;
    others = tt;
    other_notes = tt;
    told = λ t e. absurd (grind (arith, e));
    room = omega arith;
  }

  met_fresh : RunsSystem y tree settings → (j : ℕ) (w : Worker C) → nth ws j ≡ Some w → Met y tree walk w (fresh_view j resources settings.steps settings.attempts)
  met_fresh runs j w e = (are j w e).meets (fresh_view j resources settings.steps settings.attempts) runs (is_fresh j)

  met_at : RunsSystem y tree settings → (j : ℕ) (w : Worker C) → nth ws j ≡ Some w → Met y tree walk w (s.view j)
  met_at runs j w e = subst (Met y tree walk w) (sym (fresh j)) (met_fresh runs j w e)

  pub opened_safe : RunsSystem y tree settings → IsSafe y tree walk settings ws s
  opened_safe runs = record { runs = runs; as_many = as_many; seats = λ j w e. record { number = (are j w e).number; settings_are = (are j w e).settings_are; met = met_at runs j w e } }

  module _ (fits : CoreFits y tree settings) where
    abbrev W : World Vars Effect
    W = world_of (layout_of y)

    abbrev P : Program Vars Effect
    P = program_of y tree settings

    is_opened : (j : ℕ) (w : Worker C) → nth ws j ≡ Some w → see walk w ≡ grown.opened W P (Reaches y) (IsGood y) fits.runs j
    is_opened j w e =
        let o = are j w e in let m = met_fresh fits.runs j w e in
        λ i. record { number = o.number i; records = map result_view (o.records i); own = m.meets.own i; phase = phase (giving m w.giving refl) i; taken = m.meets.taken i; dropped = o.dropped i }
      where
        giving : Met y tree walk w (fresh_view j resources settings.steps settings.attempts) → (b : Bool) → w.giving ≡ b → w.giving ≡ false
        giving m true g =
            let at = subst (λ b. Place W (program_at y tree w) (Reaches y) (IsGood y) (see walk w) (fresh_view j resources settings.steps settings.attempts) (phase_at walk b w.place w.readied)) g m.meets.place in
            absurd (at.1 m.meets.taken)
        giving m false g = g

        phase : w.giving ≡ false → phase_at walk w.giving w.place w.readied ≡ spec.Resting
        phase g = λ i. phase_at walk (g i) ((are j w e).place i) w.readied

    worker_is : (j : ℕ) (w : Worker C) → nth ws j ≡ Some w → worker_at y tree walk ws j ≡ see walk w
    worker_is j w e = ap (λ o. elim o as (λ o. spec.Worker) [ None ↦ record { number = j; records = []; own = []; phase = spec.Resting; taken = []; dropped = false } | Some w ↦ see walk w ]) e

    module _ (counts : (r : ℕ) → (s.content r).count ≡ 0) (numbers : (r : ℕ) → nat_lt r (length y.resources) ≡ true → MayFail settings r (s.content r).number)
        (free : (r : ℕ) → nat_lt r (length y.resources) ≡ true → HasValue (s.content r) (value_in (layout_of y) y.start r)) where
      pub opened_core : StandsWith y tree walk settings fits [] 0 ws s
      opened_core = record {
        core = record {
          stands = λ j l.
              let w = there_is ws j (inside j l) in
              subst (λ w. steps.Stands W P (Reaches y) (IsGood y) fits.runs opened j w (s.view j)) (sym (worker_is j w.0 w.1 ∙ is_opened j w.0 w.1))
              (opened_stands W P (Reaches y) (IsGood y) fits.runs j (s.view j) (ap (λ (b : View Effect). b.entries) (fresh j)) (ap (λ (b : View Effect). b.notes) (fresh j)) (ap (λ (b : View Effect). b.held) (fresh j)));
          meets = λ j l.
              let w = there_is ws j (inside j l) in
              subst (λ w. Meets W P (Reaches y) (IsGood y) w (s.view j)) (sym (worker_is j w.0 w.1))
              (subst (λ t. Meets W (program_of y tree t) (Reaches y) (IsGood y) (see walk w.0) (s.view j)) (are j w.0 w.1).settings_are (met_at fits.runs j w.0 w.1).meets);
        };
        entries = λ j. ap (λ (b : View Effect). b.entries) (fresh j);
        notes = λ j. ap (λ (b : View Effect). b.notes) (fresh j);
        awake = λ j w e. (are j w e).out;
        counts = λ r. sym (counts r);
        bounded = λ r. omega arith;
        most = omega arith;
        numbers = numbers;
        free = λ r is none. free r is;
      }
        where
          inside : (j : ℕ) → nat_lt j (length y.members) ≡ true → j < length ws
          inside j l = let h = ltb-true j (length y.members) l in omega (arith, h, as_many)

-- contents at the start
module _ {R : Type 0} (shows : R → Shown) where
  shown_none : (xs : List R) (r : ℕ) → slice_get xs r ≡ None → shown_at shows xs r ≡ nothing
  shown_none [] r e = refl
  shown_none (x ∷ xs) zero e = absurd (grind (arith, e))
  shown_none (x ∷ xs) (suc r) e = shown_none xs r e

  shown_some : (xs : List R) (r : ℕ) (c : R) → slice_get xs r ≡ Some c → shown_at shows xs r ≡ shows c
  shown_some [] r c e = absurd (grind (arith, e))
  shown_some (x ∷ xs) zero c e = ap shows (same e)
    where
      same : Some x ≡ Some c → x ≡ c
      same h = cc
  shown_some (x ∷ xs) (suc r) c e = shown_some xs r c e

  some_nth : (xs : List R) (r : ℕ) → slice_get xs r ≡ nth xs r
  some_nth [] r = refl
  some_nth (x ∷ xs) zero = refl
  some_nth (x ∷ xs) (suc r) = some_nth xs r

  nth_past : (xs : List R) (r : ℕ) → nth xs r ≡ None → r < length xs → ⊥
  nth_past [] r e h = omega (arith, h)
  nth_past (x ∷ xs) zero e h = grind (arith, e)
  nth_past (x ∷ xs) (suc r) e h = nth_past xs r e (omega (arith, h))

  module _ (y : Layout) (xs zs : List R) (same : (r : ℕ) → slice_get zs r ≡ slice_get xs r) (fit : FitsStart shows y xs) where
    pub opened_counts : (r : ℕ) → (shown_at shows zs r).count ≡ 0
    opened_counts r = go (slice_get xs r) refl
      where
        go : (o : Option R) → slice_get xs r ≡ o → (shown_at shows zs r).count ≡ 0
        go None e = ap (λ (c : Shown). c.count) (shown_none zs r (same r ∙ e))
        go (Some c) e = ap (λ (c : Shown). c.count) (shown_some zs r c (same r ∙ e)) ∙ (fit r c (sym (some_nth xs r) ∙ e)).2

    pub opened_numbers : (settings : Settings) (n : ℕ) → n ≡ length xs → ((r : ℕ) (c : R) → nth xs r ≡ Some c → MayFail settings r (shows c).number) → (r : ℕ) → nat_lt r n ≡ true → MayFail settings r (shown_at shows zs r).number
    opened_numbers settings n len numbers r l = go (slice_get xs r) refl
      where
        go : (o : Option R) → slice_get xs r ≡ o → MayFail settings r (shown_at shows zs r).number
        go None e = absurd (nth_past xs r (sym (some_nth xs r) ∙ e) (let h = ltb-true r n l in omega (arith, h, len)))
        go (Some c) e = subst (λ (x : Shown). MayFail settings r x.number) (sym (shown_some zs r c (same r ∙ e))) (numbers r c (sym (some_nth xs r) ∙ e))

    pub opened_free : (n : ℕ) → n ≡ length xs → (r : ℕ) → nat_lt r n ≡ true → HasValue (shown_at shows zs r) (value_in y y.start r)
    opened_free n len r l = go (slice_get xs r) refl
      where
        go : (o : Option R) → slice_get xs r ≡ o → HasValue (shown_at shows zs r) (value_in y y.start r)
        go None e = absurd (nth_past xs r (sym (some_nth xs r) ∙ e) (let h = ltb-true r n l in omega (arith, h, len)))
        go (Some c) e =
            let f = fit r c (sym (some_nth xs r) ∙ e) in let is = shown_some zs r c (same r ∙ e) in
            record { base = ap (λ (c : Shown). c.base) is ∙ f.0; current = ap (λ (c : Shown). c.current) is ∙ f.1 }
