use Rattle.std.proofs.Common.{◌≡◌, map, drop}
use Rattle.pgo_base.specs.View.{data_of}
use Rattle.pgo_model.specs.Operators.{included}
use Rattle.pgo_sets.proofs.lookup.includes.Given as goal

abbrev pub invariant-loop-m : goal.invariant-loop-m
invariant-loop-m l = included l.inner l.outer ≡ included (map data_of (drop l.m-index l.m-items)) l.outer
