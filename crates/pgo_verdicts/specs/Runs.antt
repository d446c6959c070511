-- The bundle of a run, and the verdict on it.
use Rattle.std.specs.Prelude.{◌≡◌, ℕ, List, length}
use Rattle.pgo_base.specs.Data.{Data}
use Rattle.pgo_base.specs.Lookup.{Name}
use Rattle.pgo_model.specs.Core.{Settings}
use Rattle.pgo_check.specs.declared.verdict.Verdict.{Verdict}
use Rattle.pgo_check.specs.declared.verdict.Verdict.TheVariants.{Run}
use Rattle.pgo_execute.specs.Executes.{Executes}
use Rattle.pgo_execute.specs.Schedules.{Schedule}
use Rattle.pgo_verdicts.specs.Judged.{Judged}

-- these bytes, with this status, are what a run of the text with these constants and settings under this schedule gives
pub record Runs (text : List ℕ) (consts : List (Name × Data)) (settings : Settings) (schedule : Schedule) (status : ℕ) (written : List ℕ) : Type 0 where
  -- the text spells one specification, nothing refuses it, and the bytes are the bundle of its run
  pub executes : Executes text consts settings schedule status written
  -- the verdict on these bytes is no other than that they are a run of so many entries
  pub accepted : (v : Verdict) → Judged written v → v ≡ Run (length executes.left.entries)
