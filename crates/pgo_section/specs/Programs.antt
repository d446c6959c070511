-- The states in which workers run, and the trees that they run.
use Rattle.std.specs.Prelude.{◌≡◌, ℕ, false, Some}
use Rattle.pgo_base.specs.Lookup.{Vars}
use Rattle.pgo_model.specs.Core.{Settings, is_at_done, Reaches}
use Rattle.pgo_model.specs.Machine.{nth}
use Rattle.pgo_model.specs.Outcome.{Nowhere}
use Rattle.pgo_model.specs.System.{System, Member, Words}
use Rattle.pgo_model.specs.SystemState.{IsSystemState}
pub use Rattle.pgo_workers.specs.Programs.{Trees, program_of}
use Rattle.pgo_workers.specs.Sentences.{Runs}
use Rattle.pgo_workers.specs.Worlds.{layout_of, world_of}

-- a state of the system in which each instance that isn't at Done has a section
pub record IsGood (y : System) (s : Vars) : Type 0 where
  pub state : IsSystemState y s
  pub sections : (k : ℕ) (i : Member) (d : Words) → nth y.members k ≡ Some i → is_at_done y k s ≡ false → (y.sect k s d).end ≡ Nowhere → ⊥

-- the trees do what the system's sections do, on good states
abbrev pub RunsSystem : System → Trees → Settings → Type 0
RunsSystem y tree s = Runs (world_of (layout_of y)) (program_of y tree s) (Reaches y) (IsGood y)
