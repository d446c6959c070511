-- What is written of the run of a text.
use Rattle.std.specs.Prelude.{◌≡◌, ℕ, List}
use Rattle.pgo_base.specs.Data.{Data}
use Rattle.pgo_base.specs.Lookup.{Name}
use Rattle.pgo_model.specs.Core.{Settings}
use Rattle.pgo_model.specs.Log.{Effect}
use Rattle.pgo_model.specs.Machine.{Finished}
use Rattle.pgo_syntax.specs.declared.spec.Spec.{Spec}
use Rattle.pgo_mpcal_read.specs.Texts.{SpellsSpec}
use Rattle.pgo_accept.specs.Answers.{NothingRefuses}
use Rattle.pgo_execute.specs.Gives.{IsRunStatus}
use Rattle.pgo_execute.specs.Ran.{LeftBy, RanBy}
use Rattle.pgo_execute.specs.Schedules.{Schedule, ends_all, on_threads}

-- the text spells this specification and no other, nothing refuses it with these constants, and this is what its run under
-- the schedule gives
pub record Executes (text : List ℕ) (consts : List (Name × Data)) (settings : Settings) (schedule : Schedule) (status : ℕ) (written : List ℕ) : Type 0 where
  pub spec : Spec
  pub spells : SpellsSpec text spec
  pub only : (other : Spec) → SpellsSpec text other → spec ≡ other
  pub passes : NothingRefuses spec consts
  pub left : Finished Effect
  pub by : LeftBy spec consts schedule settings left
  pub ran : RanBy spec consts (on_threads schedule) (ends_all schedule) settings left status written
  pub either : IsRunStatus status
