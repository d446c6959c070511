-- Notes by how many entries stand before them, in the shape of the code.
use Rattle.std.specs.Prelude.{ℕ, zero, suc, List, [], ◌∷◌, ◌++◌}
use Rattle.pgo_model.specs.Machine.{Note}
use Rattle.pgo_bundle.specs.BundleLog.{LoggedNote}
use Rattle.pgo_bundle.specs.RunLog.{notes_at}

-- those with p entries before them, those with p + 1, and so on, n lists
abbrev pub by_position : (p n : ℕ) → List Note → List (List LoggedNote)
by_position p zero ns = []
by_position p (suc n) ns = notes_at p ns ∷ by_position (suc p) n ns

-- one note more at this place, if it is there
unfoldable pub place_at : ℕ → LoggedNote → List (List LoggedNote) → List (List LoggedNote)
place_at p n [] = []
place_at zero n (r ∷ rs) = (r ++ n ∷ []) ∷ rs
place_at (suc p) n (r ∷ rs) = r ∷ place_at p n rs

abbrev pub place : Note → List (List LoggedNote) → List (List LoggedNote)
place n t = place_at n.position (record { instance = n.instance; attempt = n.attempt; kind = n.kind }) t

unfoldable pub place_all : List Note → List (List LoggedNote) → List (List LoggedNote)
place_all [] t = t
place_all (n ∷ ns) t = place_all ns (place n t)

-- n empty lists
abbrev pub empty_places : ℕ → List (List LoggedNote)
empty_places zero = []
empty_places (suc n) = [] ∷ empty_places n
