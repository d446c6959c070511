use Rattle.std.proofs.Common.{option_map}
use Rattle.pgo_base.specs.View.{data_of}
use Rattle.pgo_mailbox.proofs.Boxes.{sent_below, found_limit}
use Rattle.pgo_mailbox.proofs.mailbox.send.Goals as goal

pub returns-in-Some : goal.returns-in-Some
returns-in-Some c = λ count.
    sent_below c.args.m.now c.args.env.defs.now (data_of c.args.env.id.now) (option_map (λ v. data_of v.now) c.args.at) (data_of c.args.v.now) c.in-Some.limit.now
    (found_limit c.whole_limit.result (λ r. r.now) c.in-Some.limit _ c.whole_limit.ensures c.in-Some.is)
    c.capacity.result c.capacity.ensures c.args.queue.now c.send_below.new.queue c.send_below.result c.send_below.ensures count
