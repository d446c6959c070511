-- Closed runs of a system, by whatever trees its workers run.
use Rattle.std.specs.Prelude.{◌≡◌, ℕ, List, length, Option, Some, if◌then◌else◌, nat_eq}
use Rattle.pgo_base.specs.Lookup.{Vars, find}
use Rattle.pgo_model.specs.Core.{Settings, Reaches, End, Done, end_by, end_of, end_or_spent, is_place}
use Rattle.pgo_model.specs.Log.{Effect}
use Rattle.pgo_model.specs.Machine.{Entry, Note, Finished, nth}
use Rattle.pgo_model.specs.System.{Member, System}
use Rattle.pgo_model.specs.Written.{done, pc}
use Rattle.pgo_workers.specs.View.{Told, View, World}
use Rattle.pgo_workers.specs.Worker.{Program, Worker}
use Rattle.pgo_workers.specs.Worlds.{layout_of, world_of}
use Rattle.pgo_section.specs.Programs.{IsGood, Trees, program_of}
use Rattle.pgo_closed.specs.ClosedRuns.{ClosedRun, Premises, left_by}

module _ (y : System) (tree : Trees) (settings : Settings) where
  abbrev pub world : World Vars Effect
  world = world_of (layout_of y)

  abbrev pub program : Program Vars Effect
  program = program_of y tree settings

  -- each worker has ended over its board, and the boards are closed
  abbrev pub IsClosedRun : List (Entry Effect) → List Note → (ℕ → Worker) → (ℕ → View Effect) → (ℕ → Told) → Type 0
  IsClosedRun = ClosedRun world program (Reaches y) (IsGood y)

  -- the journal that is left, and the records of instances
  abbrev pub left : List (Entry Effect) → List Note → (ℕ → Worker) → Finished Effect
  left = left_by program

  -- what is asked of the system and of the trees
  abbrev pub SystemPremises : Type 0
  SystemPremises = Premises world program (Reaches y) (IsGood y)

-- how the instance of a worker at rest has ended, by what the worker knows: its own components and its records
abbrev pub end_seen : Settings → Worker → Option End
end_seen settings w = if is_place done (find pc w.own) then Some Done else end_or_spent (end_by w.records) (nat_eq (length w.records) settings.attempts)

-- each instance has ended
abbrev pub EachHasEnd : System → Settings → Finished Effect → Type 0
EachHasEnd y settings f = (k : ℕ) (i : Member) → nth y.members k ≡ Some i → (e : End) × (end_of y settings f k ≡ Some e)
