use Rattle.std.proofs.Common.{◌≡◌, drop, map}
use Rattle.pgo_code.specs.See.{unmapped_view}
use Rattle.pgo_model.specs.Names.{is_among}
use Rattle.pgo_lower.proofs.reads.is_read.Given as goal

abbrev pub invariant-loop-u : goal.invariant-loop-u
invariant-loop-u l = is_among l.x (map (λ u. u.0) (map unmapped_view l.reads)) ≡ is_among l.x (map (λ u. u.0) (map unmapped_view (drop l.u-index l.reads)))
