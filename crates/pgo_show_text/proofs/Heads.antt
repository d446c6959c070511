-- The first line of an action, as it is put together.
use Rattle.std.proofs.Common.{◌≡◌, ℕ, List, [], ◌++◌, append_assoc}
use Rattle.std.specs.Prelude.{codes}
use Rattle.std.proofs.lemmas.List.{append-nil}
use Rattle.pgo_model.specs.ModuleText.{line, with_self}
use Rattle.pgo_show_text.specs.Shown.{indented}

pub head_line : (l : List ℕ) → line (codes "    " ++ (l ++ (codes "(self) ==" ++ []))) ≡ indented (line (with_self l ++ codes " =="))
head_line l = simp (append_assoc, append-nil)

pub only_line : (l e : List ℕ) → line (codes "    " ++ (l ++ (codes "(self) == " ++ (e ++ [])))) ≡ indented (line (with_self l ++ codes " == " ++ e))
only_line l e = simp (append_assoc, append-nil)
