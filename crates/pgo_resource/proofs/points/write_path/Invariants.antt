use Rattle.std.proofs.Common.{◌≡◌, map, take, vec_capacity}
use Rattle.pgo_resource.specs.declared.points.Point.{Point}
use Rattle.pgo_resource.proofs.points.write_path.Given as goal

abbrev pub invariant-loop-point : goal.invariant-loop-point
invariant-loop-point l = (l.path.items ≡ map (λ (p : Point). p.taken) (take l.point-index l.point-items)) × (vec_capacity l.path ≡ vec_capacity l.initial.path)
