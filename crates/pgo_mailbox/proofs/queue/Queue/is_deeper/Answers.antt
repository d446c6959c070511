use Rattle.std.proofs.Common.{map}
use Rattle.pgo_base.specs.View.{data_of}
use Rattle.pgo_mailbox.proofs.QueueViews.{too_high, above_zero, by_deeper}
use Rattle.pgo_mailbox.proofs.queue.Queue.is_deeper.Goals as goal

pub returns-then-limit-gt-MOST_DEPTH : goal.returns-then-limit-gt-MOST_DEPTH
returns-then-limit-gt-MOST_DEPTH c = too_high (map data_of c.self.inside.messages.items) c.self.inside.base c.self.inside.taken c.self.invariant c.args.self.now c.self.view_is c.args.limit c.if-limit-gt-MOST_DEPTH.true

pub returns-else-limit-eq0 : goal.returns-else-limit-eq0
returns-else-limit-eq0 c = by_deeper (map data_of c.self.inside.messages.items) c.self.inside.base c.self.inside.taken c.self.invariant c.args.self.now c.self.view_is c.some_deeper.result c.args.limit c.if-limit-eq0.false c.some_deeper.ensures

pub returns-then-limit-eq0 : goal.returns-then-limit-eq0
returns-then-limit-eq0 c = above_zero (map data_of c.self.inside.messages.items) c.self.inside.base c.self.inside.taken c.self.invariant c.args.self.now c.self.view_is c.args.limit c.if-limit-eq0.true
