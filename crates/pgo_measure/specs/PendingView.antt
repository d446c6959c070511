-- States that are still to be looked at, as the parts that they stand for.
use Rattle.std.specs.Prelude.{ℕ, List, map, Option, None}
use Rattle.pgo_base.specs.Lookup.{Name}
use Rattle.pgo_model.specs.Options.{on}
use Rattle.pgo_measure.specs.declared.measure.Pending.{Pending}
use Rattle.pgo_measure.specs.declared.measure.Size.{Size}
use Rattle.pgo_walk.specs.Emitted.{left_in}
use Rattle.pgo_measure.specs.Measured.{Part, measured}
use Rattle.pgo_measure.specs.Pendings.{part}

abbrev pub pending_part : List Name → Pending → Part
pending_part vs p = part p.spot (left_in vs p.state)

abbrev pub parts : List Name → List Pending → List Part
parts vs ps = map (pending_part vs) ps

-- what is left and how high all is, where these parts are still to be looked at
abbrev pub behind_size : List Name → List Name → Option Size → List Part → Option (ℕ × ℕ)
behind_size vs gs o ps = on None o (λ s. measured vs gs s.left s.height ps)
