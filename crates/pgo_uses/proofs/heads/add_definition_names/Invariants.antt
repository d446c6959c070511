-- What the loop keeps: what is made and what is left are the whole.
use Rattle.std.proofs.Common.{◌≡◌, ◌++◌, map, drop}
use Rattle.pgo_uses.specs.PieceView.{placed_names}
use Rattle.pgo_uses.specs.Heads.{definition_names}
use Rattle.pgo_uses.proofs.heads.add_definition_names.Given as goal

abbrev pub invariant-loop-d : goal.invariant-loop-d
invariant-loop-d l = placed_names l.out.items ++ definition_names (map (λ d. d.now) (drop l.d-index l.list)) ≡ placed_names l.initial.out.items ++ definition_names (map (λ d. d.now) l.list)
