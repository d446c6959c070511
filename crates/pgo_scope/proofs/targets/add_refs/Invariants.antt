-- What the loop keeps: what is added are the numbers below that of the turn.
use Rattle.std.proofs.Common.{◌≡◌, ℕ, ◌&&◌, ◌||◌, nat_lt}
use Rattle.std.specs.Prelude.{slice_get}
use Rattle.pgo_scope.specs.Targets.{has_number, ref_among}
use Rattle.pgo_scope.proofs.targets.add_refs.Given as goal

abbrev pub invariant-loop-i : goal.invariant-loop-i
invariant-loop-i l = (n : ℕ) → has_number l.numbers n ≡ has_number l.initial.numbers n || (nat_lt n l.i && ref_among l.globals (slice_get l.args n))
