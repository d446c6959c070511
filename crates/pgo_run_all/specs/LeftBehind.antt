-- What a run of all instances on threads leaves in memory.
use Rattle.std.specs.List.{list_all}
use Rattle.std.specs.Prelude.{◌≡◌, ℕ, List, true, false, length, Some}
use Rattle.pgo_core.specs.Cores.{AreAccounts}
use Rattle.pgo_journal.specs.Journal.{JournalView}
use Rattle.pgo_journal.specs.declared.finished.Finished.{Finished}
use Rattle.pgo_model.specs.Accounts.{Accounts, EntriesMade, JointAccounts}
use Rattle.pgo_model.specs.Core.{Reaches, Settings, rules_of}
use Rattle.pgo_model.specs.Log.{Effect}
use Rattle.pgo_model.specs.Machine as machine
use Rattle.pgo_model.specs.Machine.{nth}
use Rattle.pgo_model.specs.System.{System}
use Rattle.pgo_syntax.specs.ManyLeaves.{tells_many}
use Rattle.pgo_syntax.specs.RecordView.{settings_view}
use Rattle.pgo_syntax.specs.declared.records.End.{End}
use Rattle.pgo_workers.specs.View.{Told, View}
use Rattle.pgo_workers.specs.Walk.{Walk}
use Rattle.pgo_workers.specs.Worker.{Worker}
use Rattle.pgo_section.specs.Programs.{Trees}
use Rattle.pgo_section.specs.Sight.{end_of}
use Rattle.pgo_section.specs.declared.worker.Worker as declared
use Rattle.pgo_closed.specs.SystemRuns.{EachHasEnd, IsClosedRun, left}
use Rattle.pgo_joined.specs.JoinedRuns.{workers_of}

module _ (y : System) (tree : Trees) (settings : Settings) where
  -- the worker of each instance has ended over its board, the boards are closed, and the journal and the accounts are theirs
  pub record LeavesClosed (f : Finished) : Type 0 where
    pub workers : ℕ → Worker
    pub boards : ℕ → View Effect
    pub told : ℕ → Told
    pub closed : IsClosedRun y tree settings f.journal.entries f.journal.notes workers boards told
    pub start : f.journal.start ≡ y.start
    pub accounts : AreAccounts y settings (left y tree settings f.journal.entries f.journal.notes workers) f.accounts

-- a worker at rest that has ended, with these settings; its records tell Many as they should
pub record IsAtRest {C : Type 0} (settings : Settings) (w : declared.Worker C) : Type 0 where
  pub settings_are : settings_view w.settings ≡ settings
  pub awake : w.out_of_memory ≡ false
  pub told : list_all tells_many w.records.items ≡ true
  pub says : (e : End) × (end_of w ≡ Some e)

-- a closed journal and the workers of all instances, by number: each has ended over its board
pub record LeavesWorkers {C : Type 0} (y : System) (tree : Trees) (settings : Settings) (walk : C → Walk) (j : JournalView) (ws : List (declared.Worker C)) : Type 0 where
  pub boards : ℕ → View Effect
  pub told : ℕ → Told
  pub closed : IsClosedRun y tree settings j.entries j.notes (workers_of walk ws) boards told
  pub start : j.start ≡ y.start
  pub as_many : length ws ≡ length y.members
  pub each : (k : ℕ) (w : declared.Worker C) → nth ws k ≡ Some w → IsAtRest settings w

-- each entry is what its instance's section allows on the state before it, from the start on; the records of each instance say what became
-- of each of its attempts, and each refusal has its cause; each instance has ended
pub record RunsToEnd (y : System) (settings : Settings) (f : machine.Finished Effect) : Type 0 where
  pub made : EntriesMade (rules_of y settings) f
  pub accounts : (k : ℕ) → Accounts (rules_of y settings) (Reaches y) true f k
  pub joint : JointAccounts (rules_of y settings) true f
  pub ended : EachHasEnd y settings f

-- what a run of all instances leaves: the journal and the accounts of some run, under whatever schedule, in which each instance has ended; the
-- journal may have been held
pub record LeavesRun (y : System) (settings : Settings) (f : Finished) : Type 0 where
  pub ran : machine.Finished Effect
  pub runs : RunsToEnd y settings ran
  pub start : f.journal.start ≡ y.start
  pub entries : f.journal.entries ≡ ran.entries
  pub notes : f.journal.notes ≡ ran.notes
  pub accounts : AreAccounts y settings ran f.accounts
