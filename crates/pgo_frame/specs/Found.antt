-- When a state agrees with what a worker has found, and with what it holds.
use Rattle.std.specs.Prelude.{◌≡◌, ℕ, List}
use Rattle.pgo_base.specs.Data.{Data}
use Rattle.pgo_base.specs.Lookup.{Vars}
use Rattle.pgo_model.specs.SystemState.{IsSystemState}
use Rattle.pgo_syntax.specs.declared.bound.Bound.{Bound}
use Rattle.pgo_meaning.specs.System.{system_of}
use Rattle.pgo_workers.specs.Walk.{At, Own, Agrees}
use Rattle.pgo_accesses.specs.Frame.{AgreeOn}
use Rattle.pgo_accesses.specs.Programs.{world_at}

-- a state of the system, so with the domains of the start, in which instance k has these own components, and these resources have
-- the contents that were found. The other instances may be anywhere
pub record HasFound (b : Bound) (k : ℕ) (own : Own) (resources : List ℕ) (found : ℕ → Data) (s : Vars) : Type 0 where
  pub state : IsSystemState (system_of b) s
  pub has_own : (world_at b).own s k ≡ own
  pub contents : AgreeOn resources found ((world_at b).value s)

-- the same, where each resource that is held has the value with which it was taken
pub record HasHeld (b : Bound) (k : ℕ) (own : Own) (held : List At) (s : Vars) : Type 0 where
  pub state : IsSystemState (system_of b) s
  pub has_own : (world_at b).own s k ≡ own
  pub values : Agrees held ((world_at b).value s)
