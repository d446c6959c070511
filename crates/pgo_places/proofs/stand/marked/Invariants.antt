-- What is kept, and what is left.
use Rattle.std.proofs.Common.{◌≡◌, ◌++◌, drop}
use Rattle.pgo_accesses.specs.Accesses.{marked, without}
use Rattle.pgo_places.proofs.stand.marked.Given as goal

abbrev pub invariant-loop-q : goal.invariant-loop-q
invariant-loop-q l = l.kept.items ++ without l.resource (drop l.q-index l.too_deep) ≡ marked l.is_too_deep l.resource l.too_deep
