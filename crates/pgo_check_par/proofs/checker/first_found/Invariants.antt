use Rattle.std.proofs.Common.{◌≡◌, drop}
use Rattle.pgo_check_par.specs.Parts.{scanned}
use Rattle.pgo_check_par.proofs.checker.first_found.Given as goal

abbrev pub invariant-loop-one : goal.invariant-loop-one
invariant-loop-one l = scanned l.found ≡ scanned (drop l.one-index l.found)
