use Rattle.std.proofs.Common.{◌≡◌, map, drop}
use Rattle.pgo_base.specs.View.{data_of}
use Rattle.pgo_model.specs.Operators.{contains}
use Rattle.pgo_resource.specs.Kept.{member_view}
use Rattle.pgo_resource.specs.Layouts.{ids_at}
use Rattle.pgo_starts.proofs.own.has_member.Given as goal

abbrev pub invariant-loop-m : goal.invariant-loop-m
invariant-loop-m l =
    contains (data_of l.id) (ids_at (map member_view l.members) l.process) ≡ contains (data_of l.id) (ids_at (map member_view (drop l.m-index l.members)) l.process)
