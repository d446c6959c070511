-- Members that are picked, and conditions.
use Rattle.std.specs.Prelude.{ℕ, List, [], ◌∷◌, length, get_or, drop, Option, Some, None}
use Rattle.pgo_base.specs.Data.{Data}
use Rattle.pgo_model.specs.Operators.{truth_of}
use Rattle.pgo_workers.specs.Tried.{LeafTree}
use Rattle.pgo_accesses.specs.Accesses.{Attempt, if_true, choosing, no_value, fails, waits}
use Rattle.pgo_code.specs.Steps.{Step, Await, Assert, Branch}
use Rattle.pgo_places.specs.Stands.{Fixed, Stand, picked_at, going, resume}

-- the member that the next word picks
abbrev pub picked : List Data → Stand → Option Data
picked [] s = None
picked (m ∷ ms) s = Some (get_or (m ∷ ms) (picked_at s (length (m ∷ ms))) m)

-- the choice is made, where there is a member
abbrev pub behind_pick : List Data → Stand → Stand
behind_pick [] s = s
behind_pick (m ∷ ms) s =
    let n = length (m ∷ ms) in going (choosing n (picked_at s n) s.progress) s

-- what is done behind a condition
abbrev pub judging : Attempt → Fixed → ℕ → List Step → Step → Stand → Option Data → LeafTree
judging a k n is (Await e) s o = if_true (truth_of o) (resume a k n is s) (waits s.progress)
judging a k n is (Assert e) s o = if_true (truth_of o) (resume a k n is s) fails
judging a k n is (Branch e j) s o = if_true (truth_of o) (resume a k n is s) (resume a k n (drop j is) s)
judging a k n is i s o = no_value
