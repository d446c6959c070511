-- What the run of a bound specification under a schedule gives.
use Rattle.std.specs.Prelude.{◌≡◌, ◌⊎◌, ℕ, true, List, []}
use Rattle.pgo_base.specs.Data.{Data}
use Rattle.pgo_base.specs.Lookup.{Name}
use Rattle.pgo_core.specs.Cores.{EachEnds}
use Rattle.pgo_core.specs.Rounds.{AreRounds}
use Rattle.pgo_journal.specs.declared.finished.Finished.{Finished}
use Rattle.pgo_log_write.specs.IsFinished.{IsFinished}
use Rattle.pgo_model.specs.Accounts.{Contended}
use Rattle.pgo_model.specs.Core.{Core, Settings, rules_of}
use Rattle.pgo_model.specs.Log.{Effect}
use Rattle.pgo_model.specs.Machine as machine
use Rattle.pgo_model.specs.Machine.{finished_of}
use Rattle.pgo_model.specs.System.{System}
use Rattle.pgo_syntax.specs.declared.spec.Spec.{Spec}
use Rattle.pgo_execute.specs.Ran.{LeftBy, RanBy}
use Rattle.pgo_execute.specs.Schedules.{Schedule, Turns, Rounds, Threads, ends_all, on_threads}

-- under a list of turns, these turns; of rounds any: `LeftBy` says which
abbrev pub TurnsOf : Schedule → List ℕ → Type 0
TurnsOf (Turns ts) turns = turns ≡ ts
TurnsOf Rounds turns = Unit {0}
TurnsOf Threads turns = ⊥

-- 0, 20, 21, 22 or 23
abbrev pub IsRunStatus : ℕ → Type 0
IsRunStatus n = (n ≡ 0) ⊎ ((n ≡ 20) ⊎ ((n ≡ 21) ⊎ ((n ≡ 22) ⊎ (n ≡ 23))))

-- what a run of a system on one thread, under the schedule, leaves in memory
pub record Leaves (y : System) (settings : Settings) (schedule : Schedule) (f : Finished) : Type 0 where
  pub turns : List ℕ
  pub turns_of : TurnsOf schedule turns
  pub is : IsFinished y settings (finished_of (Core y settings turns)) f
  pub rounds : ends_all schedule ≡ true → AreRounds y settings [] turns
  pub ended : ends_all schedule ≡ true → EachEnds y settings (finished_of (Core y settings turns))
  pub contended : ends_all schedule ≡ true → Contended (rules_of y settings) (finished_of (Core y settings turns))

-- the bytes, and the status, of a run of the specification under the schedule
pub record Gives (s : Spec) (consts : List (Name × Data)) (settings : Settings) (schedule : Schedule) (status : ℕ) (written : List ℕ) : Type 0 where
  pub left : machine.Finished Effect
  pub by : LeftBy s consts schedule settings left
  pub ran : RanBy s consts (on_threads schedule) (ends_all schedule) settings left status written
  pub either : IsRunStatus status
