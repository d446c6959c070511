-- Parameters and locals of an instance, as what names stand for.
use Rattle.std.specs.Prelude.{ℕ, List, map}
use Rattle.pgo_base.specs.Lookup.{Name}
use Rattle.pgo_code.specs.See.{target_view}
use Rattle.pgo_code.specs.Steps.{Target}
use Rattle.pgo_lower.specs.declared.slots.Slot.{Slot}

abbrev pub slot_view : Slot → Name × Target
slot_view s = (s.name, target_view s.target)

abbrev pub slot_views : List Slot → List (Name × Target)
slot_views ss = map slot_view ss

-- the names of these, each with the number 0
abbrev pub slot_names : List Slot → List (Name × ℕ)
slot_names ss = map (λ s. (s.name, 0)) ss
