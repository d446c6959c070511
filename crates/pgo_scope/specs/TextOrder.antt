-- Items in the order of the text.
use Rattle.std.specs.Prelude.{ℕ, if◌then◌else◌, nat_le, List, [], ◌∷◌}

-- x at its place among items that are in order
abbrev pub in_place : {A : Type 0} → (A → ℕ) → A → List A → List A
in_place place x [] = x ∷ []
in_place place x (y ∷ ys) = if nat_le (place x) (place y) then x ∷ y ∷ ys else y ∷ in_place place x ys

-- these in order; those of one place stay as they are
abbrev pub in_text_order : {A : Type 0} → (A → ℕ) → List A → List A
in_text_order place [] = []
in_text_order place (x ∷ xs) = in_place place x (in_text_order place xs)
