use Rattle.std.proofs.Common.{max, map, drop}
use Rattle.pgo_base.specs.Bound.{IsBound}
use Rattle.pgo_base.specs.View.{data_of}
use Rattle.pgo_base.specs.Size.{members_size}
use Rattle.pgo_base.proofs.extent.extent_of_members.Given as goal

abbrev pub invariant-loop-m : goal.invariant-loop-m
invariant-loop-m l = IsBound (max l.all.bound (members_size (map data_of (drop l.m-index l.members)))) (members_size (map data_of l.members))
