-- The run of a specification on threads, once the boards of all instances are closed.
use Rattle.std.specs.Prelude.{ℕ, List}
use Rattle.pgo_base.specs.Data.{Data}
use Rattle.pgo_base.specs.Lookup.{Name}
use Rattle.pgo_model.specs.Core.{Settings}
use Rattle.pgo_model.specs.Log.{Effect}
use Rattle.pgo_model.specs.Machine.{Entry, Note, Finished}
use Rattle.pgo_syntax.specs.declared.spec.Spec.{Spec}
use Rattle.pgo_bound.specs.BoundOf.{bound_of}
use Rattle.pgo_meaning.specs.System.{system_of}
use Rattle.pgo_workers.specs.View.{Told, View}
use Rattle.pgo_workers.specs.Worker.{Worker}
use Rattle.pgo_accesses.specs.Programs.{tree_of}
use Rattle.pgo_closed.specs.SystemRuns.{IsClosedRun, SystemPremises, left}

module _ (s : Spec) (consts : List (Name × Data)) (settings : Settings) where
  -- each worker has ended over its board, and the boards are closed
  abbrev pub RunIsClosed : List (Entry Effect) → List Note → (ℕ → Worker) → (ℕ → View Effect) → (ℕ → Told) → Type 0
  RunIsClosed = IsClosedRun (system_of (bound_of s consts)) (tree_of (bound_of s consts)) settings

  -- the journal that is left, and the records of instances
  abbrev pub left_of : List (Entry Effect) → List Note → (ℕ → Worker) → Finished Effect
  left_of = left (system_of (bound_of s consts)) (tree_of (bound_of s consts)) settings

  -- what the law of closed boards asks
  abbrev pub PremisesHold : Type 0
  PremisesHold = SystemPremises (system_of (bound_of s consts)) (tree_of (bound_of s consts)) settings
