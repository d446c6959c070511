-- What stands at the least place, of equal places what is earlier in the list.
use Rattle.std.specs.Prelude.{ℕ, nat_lt, if◌then◌else◌, List, [], ◌∷◌, Option, Some, None}

module _ {A : Type 0} (place : A → ℕ) where
  abbrev pub sooner : A → A → A
  sooner x y = if nat_lt (place y) (place x) then y else x

  abbrev pub sooner_of : Option A → Option A → Option A
  sooner_of None y = y
  sooner_of (Some x) None = Some x
  sooner_of (Some x) (Some y) = Some (sooner x y)

  abbrev pub least : List A → Option A
  least [] = None
  least (x ∷ xs) = sooner_of (Some x) (least xs)
