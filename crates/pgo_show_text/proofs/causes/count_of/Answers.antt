use Rattle.std.proofs.Common.{◌<◌, ◌+◌, ◌^◌}
use Rattle.pgo_bundle.specs.View.{attempt_view}
use Rattle.pgo_show_text.proofs.Counted.{fits}
use Rattle.pgo_show_text.proofs.causes.count_of.Goals as goal

pub overflow_add-count : goal.overflow_add-count
overflow_add-count c =
    let within : c.loop-cause.count + c.cause-item.result.count < 2 ^ 64 =
    fits (attempt_view c.args.one.now) c.args.found.now c.loop-cause.cause-index c.cause-item.result c.loop-cause.count c.loop-cause-test.true c.cause-item.is
    c.loop-cause.invariant c.requires in
    search
