use Rattle.std.proofs.Common.{rules}
use Rattle.pgo_base.specs.NameMaps.{has_name}
use Rattle.pgo_check.proofs.ConstantDefinitions.{walked}
use Rattle.pgo_check.proofs.WorkNodes.{work_fewer}
use Rattle.pgo_check.proofs.constants.is_constant.Goals as goal

pub loop-one-preserved : goal.loop-one-preserved
loop-one-preserved c = λ h.
    c.loop-one.invariant (walked (has_name c.args.varying.now) c.loop-one.left.items c.pop.new.self.items c.extend_from_slice.new.self.items c.in_ok-parts.parts.items c.in-Some.one c.in-Some.ensures.items (search rules) c.in_ok-parts.ensures (search rules) h)

pub loop-one-smaller : goal.loop-one-smaller
loop-one-smaller c = work_fewer c.loop-one.left.items c.pop.new.self.items c.extend_from_slice.new.self.items c.in_ok-parts.parts.items c.in-Some.one c.in-Some.ensures.items (search rules) c.in_ok-parts.ensures
