-- What the core comes to under a schedule.
use Rattle.std.specs.Prelude.{◌≡◌, true, List, [], ℕ}
use Rattle.pgo_core.specs.Cores.{EachEnds}
use Rattle.pgo_core.specs.Instances.{FitsCore, StandsAt, settings_of, system_of}
use Rattle.pgo_core.specs.Rounds.{AreRounds}
use Rattle.pgo_core.specs.declared.instances.Core.{Core}
use Rattle.pgo_execute.specs.Gives.{TurnsOf}
use Rattle.pgo_execute.specs.Schedules.{Schedule, ends_all}
use Rattle.pgo_model.specs.Accounts.{Contended}
use Rattle.pgo_model.specs.Core as model
use Rattle.pgo_model.specs.Core.{rules_of}
use Rattle.pgo_model.specs.Machine.{finished_of}
use Rattle.pgo_resource.specs.declared.resource.Resource.{Ghosts}
use Rattle.pgo_resource.specs.declared.sections.Sections as sections

module _ {S R P : Type 0} {s : sections.Ghosts S P} {g : Ghosts R} where
  -- from its start it is where the machine is after turns of the schedule, and in rounds they are the turns of rounds, each
  -- instance has ended by them, and each refusal has its cause
  pub record Comes (schedule : Schedule) (d : Core S R P s g) : Type 0 where
    pub turns : List ℕ
    pub turns_of : TurnsOf schedule turns
    pub stands : StandsAt turns d
    pub rounds : ends_all schedule ≡ true → FitsCore d → AreRounds (system_of d) (settings_of d) [] turns
    pub ended : ends_all schedule ≡ true → FitsCore d → EachEnds (system_of d) (settings_of d) (finished_of (model.Core (system_of d) (settings_of d) turns))
    pub contended : ends_all schedule ≡ true → FitsCore d → Contended (rules_of (system_of d) (settings_of d)) (finished_of (model.Core (system_of d) (settings_of d) turns))

  abbrev pub Follows : Schedule → Core S R P s g → Core S R P s g → Type 0
  Follows schedule c d = StandsAt [] c → Comes schedule d
