use Rattle.std.proofs.Common.{◌≡◌, map, Some}
use Rattle.pgo_table.specs.declared.slots.Stored.TheVariants.{Content}
use Rattle.pgo_shared.proofs.opening.filled.Given as goal

abbrev pub invariant-loop-content : goal.invariant-loop-content
invariant-loop-content g l = l.slots.items ≡ map (λ c. Some (Content c)) l.yielded
