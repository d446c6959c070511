-- Where all workers say an end, each instance has ended.
use Rattle.std.proofs.Common.{◌≡◌, ◌<◌, ℕ, zero, suc, ◌+◌, Bool, true, false, List, [], ◌∷◌, length, Option, Some, None, option_map, refl, sym, ap, ◌∙◌, subst, arith, lt-ltb}
use Rattle.std.specs.Prelude.{if◌then◌else◌, nat_eq, IsSome}
use Rattle.pgo_model.specs.Core.{Settings, Core}
use Rattle.pgo_model.specs.Core as core
use Rattle.pgo_model.specs.Log.{Effect}
use Rattle.pgo_model.specs.Machine.{nth, finished_of}
use Rattle.pgo_model.specs.MachineAccounts.{equal_or}
use Rattle.pgo_model.specs.System.{System}
use Rattle.pgo_syntax.specs.declared.records.End.TheVariants as ends
use Rattle.pgo_workers.specs.Walk.{Walk}
use Rattle.pgo_section.specs.Programs.{Trees}
use Rattle.pgo_section.specs.Sight.{ended, end_of, end_between}
use Rattle.pgo_section.specs.declared.worker.Worker.{Worker}
use Rattle.pgo_core.specs.AllViews.{AllViews}
use Rattle.pgo_core.specs.Cores.{CoreFits, StandsWith, IsSafe, Rested, AllEnded, HadEnded, EachEnds}
use Rattle.pgo_core.proofs.CoreTurned.{nth_inside}
use Rattle.pgo_core.proofs.Stopped.{stop_end}

pub there_is : {A : Type 0} (l : List A) (k : ℕ) → k < length l → (x : A) × (nth l k ≡ Some x)
there_is [] k h = absurd (omega (arith, h))
there_is (x ∷ l) zero h = (x, refl)
there_is (x ∷ l) (suc k) h = there_is l k (omega (arith, h))

module _ {C : Type 0} where
  -- the workers up to k have ended, and so has worker k
  pub one_ended : (k n : ℕ) (ws vs : List (Worker C)) → n ≡ 0 → HadEnded k ws vs → ((j : ℕ) (w : Worker C) → j < k → nth ws j ≡ Some w → IsSome (end_of w)) → (j : ℕ) (w : Worker C) → j < k + 1 → nth vs j ≡ Some w → IsSome (end_of w)
  one_ended k n ws vs none h before j w less here = go (nat_eq j k) refl (ap (λ l. nth l j) (sym h.workers) ∙ here)
    where
      go : (b : Bool) → nat_eq j k ≡ b → nth ws j ≡ Some w → IsSome (end_of w)
      go true e at = h.ended w (ap (nth ws) (sym ((equal_or j k true e).0 refl)) ∙ at)
      go false e at = let n = (equal_or j k false e).1 refl in before j w (omega (arith, less, n)) at

  module _ (y : System) (tree : Trees) (walk : C → Walk) (settings : Settings) (fits : CoreFits y tree settings) (turns : List ℕ) (made : ℕ) (ws : List (Worker C)) (s : AllViews Effect) (st : StandsWith y tree walk settings fits turns made ws s)
      (safe : IsSafe y tree walk settings ws s) (all : AllEnded ws) where
    not_giving : (w : Worker C) → w.out_of_memory ≡ false → IsSome (end_of w) → w.giving ≡ false
    not_giving w awake some = go w.giving refl (subst (λ b. IsSome (if b then Some ends.NoMemory else end_between w w.giving w.place)) awake some)
      where
        go : (b : Bool) → w.giving ≡ b → IsSome (end_between w w.giving w.place) → w.giving ≡ false
        go true g e = absurd (let z = subst (λ b. IsSome (end_between w b w.place)) g e in grind (arith, z))
        go false g e = g

    shown : (o : Option core.End) → IsSome (option_map ended o) → (e : core.End) × (o ≡ Some e)
    shown None h = absurd (grind (arith, h))
    shown (Some e) h = (e, refl)

    pub each_ends : EachEnds y settings (finished_of (Core y settings turns))
    each_ends k i at =
        let less = nth_inside y.members k i at in
        let w = there_is ws k (subst (λ n. k < n) (sym safe.as_many) less) in
        let awake = st.awake k w.0 w.1 in
        let seat = safe.seats k w.0 w.1 in
        let rests : Rested w.0 w.0 = record { records = refl; out = refl; own = refl; giving = not_giving w.0 awake (all k w.0 w.1) } in
        shown (core.end_of y settings (finished_of (Core y settings turns)) k)
        (subst IsSome (stop_end y tree walk settings fits turns made k ws s st w.0 w.0 (s.view k) w.1 (lt-ltb k (length y.members) less) rests seat.number seat.settings_are seat.met) (all k w.0 w.1))
