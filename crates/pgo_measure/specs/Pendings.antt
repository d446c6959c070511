-- The measure, with states that are still to be looked at.
use Rattle.std.specs.Prelude.{ℕ, List, Option, None}
use Rattle.pgo_base.specs.Lookup.{Name}
use Rattle.pgo_model.specs.Options.{on}
use Rattle.pgo_sections.specs.Expansion.{Expansion}
use Rattle.pgo_measure.specs.declared.spot.Spot.{Spot}
use Rattle.pgo_measure.specs.declared.tally.Tally.{Tally}
use Rattle.pgo_measure.specs.Measured.{Part, measured}

abbrev pub part : Spot → Expansion → Part
part s x = record { spot = s; tree = x }

-- what is left and how high all is, behind a statement
abbrev pub behind_tally : List Name → List Name → Option Tally → (Tally → List Part) → Option (ℕ × ℕ)
behind_tally vs gs o f = on None o (λ t. measured vs gs t.left t.height (f t))
