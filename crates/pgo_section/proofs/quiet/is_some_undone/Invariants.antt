use Rattle.std.proofs.Common.{◌≡◌, drop}
use Rattle.pgo_section.specs.Quiet.{some_undone}
use Rattle.pgo_section.proofs.quiet.is_some_undone.Given as goal

abbrev pub invariant-loop-own : goal.invariant-loop-own
invariant-loop-own l = some_undone l.owns ≡ some_undone (drop l.own-index l.owns)
