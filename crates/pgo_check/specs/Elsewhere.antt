-- Which variables are kept, noted at their places.
use Rattle.std.specs.Prelude.{ℕ, Bool, List, [], ◌∷◌, Option, Some, None, set}
use Rattle.pgo_base.specs.NameMaps.{found}
use Rattle.pgo_base.specs.declared.name_map.NameMap.{NameMap}
use Rattle.pgo_model.specs.Log.{Change}

-- noted of the variable at this place, where there is one
abbrev pub noted : Bool → Option ℕ → List Bool → List Bool
noted is_kept None kept = kept
noted is_kept (Some place) kept = set kept place is_kept

-- noted of each variable that these changes touch
abbrev pub noted_all : Bool → NameMap ℕ → List Change → List Bool → List Bool
noted_all is_kept places [] kept = kept
noted_all is_kept places (c ∷ cs) kept = noted_all is_kept places cs (noted is_kept (found places c.component.variable) kept)
