-- What an entry of a log is checked against.
use Rattle.std.specs.Prelude.{map}
use Rattle.pgo_base.specs.Lookup.{Vars}
use Rattle.pgo_model.specs.ModuleView.{defined_view}
use Rattle.pgo_check.specs.Assigned.{AreSeenIn, SeesItsDefinitions}
use Rattle.pgo_check.specs.Placed.{ArePlaces}
use Rattle.pgo_check.specs.declared.states.Look.{Look}

-- it is fit for an entry behind this state
pub record Fits (k : Look) (s : Vars) : Type 0 where
  pub sees : SeesItsDefinitions k.m.now
  pub seen : AreSeenIn k.m.now s (map defined_view k.defs.now)
  pub places : ArePlaces s k.places.now
