-- A line of one piece.
use Rattle.std.proofs.Common.{◌≡◌, ℕ, List, [], ◌++◌}
use Rattle.std.proofs.lemmas.List.{append-nil}

pub whole_row : (r : List ℕ) → r ++ [] ≡ r
whole_row r = append-nil r
