-- How many more turns a place may take before its next event.
use Rattle.std.specs.Prelude.{◌≡◌, ◌<◌, ◌*◌, ℕ, suc, Option, None, Some, IsSome, option_map}
use Rattle.pgo_base.specs.Data.{Data}
use Rattle.pgo_base.specs.View.{data_of}
use Rattle.pgo_resource.specs.declared.sections.NextEvent.{NextEvent}
use Rattle.pgo_places.specs.declared.flow.Flow.{Flow}
use Rattle.pgo_places.specs.declared.flow.Flow.TheVariants as flows
use Rattle.pgo_places.specs.declared.place.Place.{Place}

-- two for each instruction that may still be run, and one where no value stands ready
abbrev pub turns : ℕ → Option Data → ℕ
turns n None = suc (n * 2)
turns n (Some v) = n * 2

abbrev pub turns_at : Place → ℕ
turns_at q = turns q.left (option_map data_of q.stand.value)

-- where there is no event, there are fewer
abbrev pub IsFewer : Option NextEvent → (old new : ℕ) → Type 0
IsFewer None old new = new < old
IsFewer (Some e) old new = Unit {0}

-- the attempt doesn't go on at the same instruction
abbrev pub GoesOn : Flow → Type 0
GoesOn flows.Again = ⊥
GoesOn flows.On = Unit {0}
GoesOn (flows.Over j) = Unit {0}
GoesOn flows.Ended = Unit {0}
GoesOn (flows.Noted kind) = Unit {0}

-- it does so only where a value stands ready now that didn't before
abbrev pub IsReadied : Flow → (old new : Option Data) → Type 0
IsReadied flows.Again old new = (old ≡ None) × IsSome new
IsReadied flows.On old new = Unit {0}
IsReadied (flows.Over j) old new = Unit {0}
IsReadied flows.Ended old new = Unit {0}
IsReadied (flows.Noted kind) old new = Unit {0}

-- how many instructions may still be run behind one, before and after, or an event
abbrev pub IsMoved : Flow → Option NextEvent → (old new : ℕ) → Type 0
IsMoved flows.Again o old new = new ≡ old
IsMoved flows.On o old new = old ≡ suc new
IsMoved (flows.Over j) o old new = old ≡ suc new
IsMoved flows.Ended o old new = IsSome o
IsMoved (flows.Noted kind) o old new = IsSome o
