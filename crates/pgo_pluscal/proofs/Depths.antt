-- An arm is no deeper than the deepest.
use Rattle.std.proofs.Common.{◌≡◌, ◌<◌, ◌≤◌, ℕ, zero, suc, List, [], ◌∷◌, length, get_or, sym, ap, ◌∙◌, arith}
use Rattle.pgo_sections.specs.Expansion.{Expansion}
use Rattle.pgo_pluscal.specs.declared.part.Step.{Step}
use Rattle.pgo_pluscal.specs.PartFalls.{depth-around}
use Rattle.pgo_pluscal.specs.PartSize.{depth, arms_depth}
use Rattle.pgo_pluscal.specs.PartView.{around, expansions}

pub at_depth : (xs : List Expansion) (i : ℕ) (x : Expansion) → i < length xs → x ≡ get_or xs i x → depth x ≤ arms_depth (expansions xs)
at_depth [] i x h e = absurd (omega arith)
at_depth (y ∷ ys) zero x h e = rw e (omega arith)
at_depth (y ∷ ys) (suc i) x h e = omega (arith, at_depth ys i x (omega arith) e)

-- the end of a row is as deep as the whole
pub end_depth : (ss : List Step) (t part : Expansion) → around ss t ≡ part → depth t ≡ depth part
end_depth ss t part e = sym (depth-around ss t) ∙ ap depth e
