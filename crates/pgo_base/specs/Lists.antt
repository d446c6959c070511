-- Lists of anything: several one after another, what is among their items, and items that stand once.
use Rattle.std.specs.Prelude.{◌≡◌, ◌⊎◌, List, [], ◌∷◌, ◌++◌}

-- these lists, one after another
abbrev pub joined : {A : Type 0} → List (List A) → List A
joined [] = []
joined (xs ∷ rest) = xs ++ joined rest

-- x is an item of the list
abbrev pub IsAmong : {A : Type 0} → A → List A → Type 0
IsAmong x [] = ⊥
IsAmong x (y ∷ ys) = (x ≡ y) ⊎ IsAmong x ys

-- none stands twice
abbrev pub StandOnce : {A : Type 0} → List A → Type 0
StandOnce [] = Unit {0}
StandOnce (x ∷ xs) = (IsAmong x xs → ⊥) × StandOnce xs
