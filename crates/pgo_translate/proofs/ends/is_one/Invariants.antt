use Rattle.std.proofs.Common.{◌≡◌, drop}
use Rattle.pgo_model.specs.Names.{is_among}
use Rattle.pgo_translate.proofs.ends.is_one.Given as goal

abbrev pub invariant-loop-one : goal.invariant-loop-one
invariant-loop-one l = is_among l.x (drop l.one-index l.names) ≡ is_among l.x l.names
