-- What the loop keeps: the bytes that are left give the same.
use Rattle.std.proofs.Common.{◌≡◌, true, drop}
use Rattle.pgo_spec_text.specs.Searching.{module_from}
use Rattle.pgo_spec_text.proofs.search.module_from.Given as goal

abbrev pub invariant-loop-i : goal.invariant-loop-i
invariant-loop-i l = module_from true l.text ≡ module_from l.fresh (drop l.i l.text)
