use Rattle.std.proofs.Common.{◌≡◌, ◌++◌, map, drop}
use Rattle.pgo_resource.specs.Kept.{member_view, member_in}
use Rattle.pgo_resource.proofs.layout.copied_members.Given as goal

abbrev pub invariant-loop-i : goal.invariant-loop-i
invariant-loop-i l = map member_in l.instances ≡ map member_view l.list.items ++ map member_in (drop l.i-index l.instances)
