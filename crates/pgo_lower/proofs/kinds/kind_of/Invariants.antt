use Rattle.std.proofs.Common.{◌≡◌, drop}
use Rattle.std.specs.List.{filter_map, flat_map}
use Rattle.pgo_bound.specs.Kinds.{all_extents}
use Rattle.pgo_bound.specs.State.{target_extent}
use Rattle.pgo_bound.specs.declared.kinds.Kind.TheVariants.{Unbound}
use Rattle.pgo_lower.proofs.kinds.kind_of.Given as goal

abbrev pub invariant-loop-i : goal.invariant-loop-i
invariant-loop-i l =
    all_extents Unbound (flat_map (λ i. filter_map (λ x. target_extent l.g x.target) i.bindings) l.i-items)
    ≡ all_extents l.kind (flat_map (λ i. filter_map (λ x. target_extent l.g x.target) i.bindings) (drop l.i-index l.i-items))
