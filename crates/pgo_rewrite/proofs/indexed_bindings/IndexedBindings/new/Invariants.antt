-- What is found under a name is the first mapped one, and the first other one, of it from here on.
use Rattle.std.proofs.Common.{◌≡◌, ◌≤◌, length, drop}
use Rattle.pgo_base.specs.Lookup.{Name, find}
use Rattle.pgo_meaning.specs.Parameters.{all_mapped}
use Rattle.pgo_rewrite.specs.Unmapped.{all_unmapped, mapped_in, target_in}
use Rattle.pgo_rewrite.proofs.indexed_bindings.IndexedBindings.new.Given as goal

abbrev pub invariant-loop-i : goal.invariant-loop-i
invariant-loop-i l =
    ((n : Name) → mapped_in l.mapped n ≡ find n (all_mapped (drop l.i l.list)))
    × ((n : Name) → target_in l.unmapped n ≡ find n (all_unmapped (drop l.i l.list))) × (l.i ≤ length l.list)

abbrev pub decreases-loop-i : goal.decreases-loop-i
decreases-loop-i l = l.i
