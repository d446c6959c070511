use Rattle.std.specs.Prelude.{nat_eq}
use Rattle.pgo_scope.specs.Binders.{binds}
use Rattle.pgo_scope.proofs.CaptureLaws.{bound_more}
use Rattle.pgo_scope.proofs.binders.Binders.add_uses.Goals as goal

pub loop-u-preserved : goal.loop-u-preserved
loop-u-preserved c = λ i x.
    bound_more c.args.uses.now c.loop-u.u-index c.u-item.result x (nat_eq c.args.place i) (binds c.loop-u.self i x) (binds c.add_use.new.self i x) _ c.loop-u-test.true c.u-item.is (c.in_ok-add_use.ensures i x) (c.loop-u.invariant i x)
