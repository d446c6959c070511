-- What is said of a run, from what its parts give.
use Rattle.std.proofs.Common.{◌≡◌, inl, inr, ℕ, Bool, true, false, List, [], refl, ap, ◌∙◌}
use Rattle.std.specs.Prelude.{if◌then◌else◌}
use Rattle.pgo_base.specs.Data.{Data}
use Rattle.pgo_base.specs.Lookup.{Name}
use Rattle.pgo_bound.specs.BoundOf.{bound_of}
use Rattle.pgo_bundle.specs.Lines.{BundleText}
use Rattle.pgo_bundle.specs.RunLog.{run_log}
use Rattle.pgo_meaning.specs.System.{system_of}
use Rattle.pgo_model.specs.Core.{Core, Settings, state_behind, status_of, last_ends_from, has_stopped, has_full, are_at_done, are_blocked}
use Rattle.pgo_model.specs.Log.{Effect}
use Rattle.pgo_model.specs.Machine.{Finished, finished_of}
use Rattle.pgo_model.specs.Module.{Module}
use Rattle.pgo_model.specs.System.{System}
use Rattle.pgo_syntax.specs.declared.bound.Bound.{Bound}
use Rattle.pgo_syntax.specs.declared.spec.Spec.{Spec}
use Rattle.pgo_translate.specs.ModuleOf.{constants_with, module_of}
use Rattle.pgo_core.specs.Rounds.{AreRounds}
use Rattle.pgo_execute.specs.Gives.{IsRunStatus, TurnsOf}
use Rattle.pgo_execute.specs.Ran.{LeftBy, finished, system}
use Rattle.pgo_execute.specs.Schedules.{Schedule, Turns, Rounds, Threads, ends_all, on_threads}

-- the bytes are the bundle of the specification's own module, constants and system
pub bundle_of : (s : Spec) (consts : List (Name × Data)) (b : Bound) (m : Module) (cs : List (Name × Data)) (settings : Settings) (turns : List ℕ) (status : ℕ) (written : List ℕ)
    → b ≡ bound_of s consts → m ≡ module_of s → cs ≡ constants_with s consts → written ≡ BundleText m cs (run_log (system_of b) settings (finished_of (Core (system_of b) settings turns)) status)
    → written ≡ BundleText (module_of s) (constants_with s consts) (run_log (system_of (bound_of s consts)) settings (finished_of (Core (system_of (bound_of s consts)) settings turns)) status)
bundle_of s consts b m cs settings turns status written e f g h =
    h ∙ (λ i. BundleText (f i) (g i) (run_log (system_of (e i)) settings (finished_of (Core (system_of (e i)) settings turns)) status))

pub status_is : (s : Spec) (consts : List (Name × Data)) (b : Bound) (settings : Settings) (turns : List ℕ) (status : ℕ) → b ≡ bound_of s consts
    → status ≡ status_of (system_of b) settings (finished_of (Core (system_of b) settings turns))
    → status ≡ status_of (system_of (bound_of s consts)) settings (finished_of (Core (system_of (bound_of s consts)) settings turns))
status_is s consts b settings turns status e h = h ∙ (λ i. status_of (system_of (e i)) settings (finished_of (Core (system_of (e i)) settings turns)))

-- it is one of five
pub one_of_five : (y : System) (settings : Settings) (f : Finished Effect) → IsRunStatus (status_of y settings f)
one_of_five y settings f =
    go (has_stopped (last_ends_from f 0 y.members)) (has_full (last_ends_from f 0 y.members)) (are_at_done y (state_behind y settings f) 0 y.members) (are_blocked y (state_behind y settings f) 0 y.members)
  where
    go : (a b c d : Bool) → IsRunStatus (if a then 20 else if b then 23 else if c then 0 else if d then 22 else 21)
    go true b c d = inr (inl refl)
    go false true c d = inr (inr (inr (inr refl)))
    go false false true d = inl refl
    go false false false true = inr (inr (inr (inl refl)))
    go false false false false = inr (inr (inl refl))

-- a schedule that turns belong to is on one thread
pub on_one : (schedule : Schedule) (turns : List ℕ) → TurnsOf schedule turns → on_threads schedule ≡ false
on_one (Turns ts) turns h = refl
on_one Rounds turns h = refl
on_one Threads turns h = absurd h

-- what the machine leaves after its turns is what a run under it left
pub left_by : (s : Spec) (consts : List (Name × Data)) (schedule : Schedule) (settings : Settings) (turns : List ℕ) → TurnsOf schedule turns → (ends_all schedule ≡ true → AreRounds (system s consts) settings [] turns)
    → LeftBy s consts schedule settings (finished s consts settings turns)
left_by s consts (Turns ts) settings turns h rounds = ap (finished s consts settings) h
left_by s consts Rounds settings turns h rounds = (turns, refl, rounds refl)
left_by s consts Threads settings turns h rounds = absurd h
