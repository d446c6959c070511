use Rattle.std.proofs.Common.{◌≡◌, drop}
use Rattle.std.specs.List.{filter_map}
use Rattle.pgo_bound.specs.Kinds.{all_extents}
use Rattle.pgo_bound.specs.State.{target_extent}
use Rattle.pgo_lower.proofs.kinds.kind_with.Given as goal

abbrev pub invariant-loop-b : goal.invariant-loop-b
invariant-loop-b l =
    all_extents l.fn.kind (filter_map (λ x. target_extent l.g x.target) l.bindings)
    ≡ all_extents l.so_far (filter_map (λ x. target_extent l.g x.target) (drop l.b-index l.bindings))
