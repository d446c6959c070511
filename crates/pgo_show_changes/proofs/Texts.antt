-- The text of a variable at an index, as it is put together.
use Rattle.std.proofs.Common.{◌≡◌, ℕ, List, [], ◌++◌, append_assoc}
use Rattle.std.specs.Prelude.{codes}
use Rattle.std.proofs.lemmas.List.{append-nil}

pub part_pieces : (x i : List ℕ) → x ++ (codes "[" ++ (i ++ (codes "]" ++ []))) ≡ x ++ codes "[" ++ i ++ codes "]"
part_pieces x i = simp (append_assoc, append-nil)
