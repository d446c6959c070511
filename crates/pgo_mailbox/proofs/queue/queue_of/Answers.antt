use Rattle.std.proofs.Common.{map}
use Rattle.pgo_base.specs.PairsView.{all_pairs}
use Rattle.pgo_base.specs.View.{data_of}
use Rattle.pgo_mailbox.proofs.QueueViews.{queue_fits, queue_is}
use Rattle.pgo_mailbox.proofs.queue.queue_of.Goals as goal

pub of-requires : goal.of-requires
of-requires c =
    (queue_fits (data_of c.args.v.now) (c.is_holdable.ensures c.if-not-is_holdable.false) (all_pairs c.pairs_of.result) (map data_of c.in_ok-messages.messages.items) c.pairs_of.ensures c.in_ok-messages.ensures).0

pub returns : goal.returns
returns c =
    queue_is (data_of c.args.v.now) c.of.result (map data_of c.in_ok-messages.messages.items) c.of.ensures
    (queue_fits (data_of c.args.v.now) (c.is_holdable.ensures c.if-not-is_holdable.false) (all_pairs c.pairs_of.result) (map data_of c.in_ok-messages.messages.items) c.pairs_of.ensures c.in_ok-messages.ensures).1
