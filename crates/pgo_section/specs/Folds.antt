-- What is done to each held content, one after another, and the values that an entry records.
use Rattle.std.specs.Prelude.{◌<◌, ℕ, zero, suc, if◌then◌else◌, nat_eq, nat_le, List, [], ◌∷◌, Some}
use Rattle.pgo_base.specs.View.{data_of}
use Rattle.pgo_base.specs.declared.value.Value.{Value}
use Rattle.pgo_model.specs.Log.{differs}
use Rattle.pgo_workers.specs.View.{Shown, Hold}
use Rattle.pgo_workers.specs.Walk.{At}
use Rattle.pgo_workers.specs.Worlds.{put_in_order}

-- each content of these resources is changed
abbrev pub change_at : (Shown → Shown) → ℕ → List Hold → List Hold
change_at f r [] = []
change_at f r (h ∷ hs) = if nat_eq h.resource r then record h { content = f h.content } ∷ hs else h ∷ change_at f r hs

abbrev pub change_all : (Shown → Shown) → List ℕ → List Hold → List Hold
change_all f [] hs = hs
change_all f (r ∷ rs) hs = change_all f rs (change_at f r hs)

abbrev pub each_changed : (Shown → Shown) → List Hold → List Hold
each_changed f [] = []
each_changed f (h ∷ hs) = record h { content = f h.content } ∷ each_changed f hs

abbrev pub abort_it : Shown → Shown
abort_it c = record c { current = c.base }

abbrev pub commit_it : Shown → Shown
commit_it c = record c { base = c.current }

-- a resource with its value
abbrev pub at_of : ℕ × Value → At
at_of v = (v.0, data_of v.1)

-- the place before the first one with this number or a greater one
abbrev pub place_in_order : ℕ → List At → ℕ
place_in_order r [] = zero
place_in_order r (v ∷ vs) = if nat_le r v.0 then zero else suc (place_in_order r vs)

-- with a content's value, where it is another one than its base
abbrev pub with_changed : ℕ → Shown → List At → List At
with_changed r c vs = if differs (Some c.base) (Some c.current) then put_in_order (r, c.current) vs else vs

-- each is of one of the first n resources
abbrev pub AllBelow : ℕ → List At → Type 0
AllBelow n [] = Unit {0}
AllBelow n (v ∷ vs) = (v.0 < n) × AllBelow n vs
