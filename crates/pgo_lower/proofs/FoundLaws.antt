-- What a name stands for, by the place of the first of the name.
use Rattle.std.proofs.Common.{◌≡◌, ◌∙◌, ℕ, suc, Bool, true, false, List, [], ◌∷◌, Some, None, refl, ap}
use Rattle.std.specs.Prelude.{if◌then◌else◌, Option, option_map, slice_get}
use Rattle.pgo_base.specs.Lookup.{Name, same_name, find}
use Rattle.pgo_code.specs.See.{target_view}
use Rattle.pgo_code.specs.Steps.{Target}
use Rattle.pgo_lower.specs.SlotViews.{slot_names, slot_views}
use Rattle.pgo_lower.specs.declared.slots.Slot.{Slot}
use Rattle.pgo_uses.specs.Names.{first_at}

-- what the one in this place stands for
abbrev pub target_in : List Slot → Option ℕ → Option Target
target_in ss None = None
target_in ss (Some i) = option_map (λ s. target_view s.target) (slice_get ss i)

at_first : (x : Name) (ss : List Slot) → target_in ss (first_at x (slot_names ss)) ≡ find x (slot_views ss)
at_first x [] = refl
at_first x (s ∷ ss) = go (same_name x s.name) (first_at x (slot_names ss)) (at_first x ss)
  where
    go : (b : Bool) (o : Option ℕ) → target_in ss o ≡ find x (slot_views ss) → target_in (s ∷ ss) (if b then Some 0 else option_map suc o) ≡ (if b then Some (target_view s.target) else find x (slot_views ss))
    go true o h = refl
    go false None h = h
    go false (Some i) h = h

pub target_found : (x : Name) (ss : List Slot) (names : List (Name × ℕ)) (o : Option ℕ) → names ≡ slot_names ss → o ≡ first_at x names → target_in ss o ≡ find x (slot_views ss)
target_found x ss names o h e = ap (target_in ss) (e ∙ ap (first_at x) h) ∙ at_first x ss
