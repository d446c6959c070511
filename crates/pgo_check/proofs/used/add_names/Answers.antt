use Rattle.std.proofs.Common.{rules}
use Rattle.pgo_check.proofs.WorkNodes.{work_fewer}
use Rattle.pgo_check.proofs.used.add_names.Goals as goal

pub loop-one-smaller : goal.loop-one-smaller
loop-one-smaller c = work_fewer c.loop-one.left.items c.pop.new.self.items c.extend_from_slice.new.self.items c.in_ok-parts.parts.items c.in-Some.one c.in-Some.ensures.items (search rules) c.in_ok-parts.ensures
