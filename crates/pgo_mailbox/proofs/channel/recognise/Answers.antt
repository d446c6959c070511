use Rattle.std.proofs.Common.{sym, subst}
use Rattle.pgo_mailbox.specs.Channel.{IsChannel}
use Rattle.pgo_mailbox.proofs.Tested.{none_recognised, some_recognised}
use Rattle.pgo_mailbox.proofs.channel.recognise.Goals as goal

pub returns-in-None-clause-is : goal.returns-in-None-clause-is
returns-in-None-clause-is c = none_recognised c.channel_capacity.result (λ r. r.now) c.args.m.now c.channel_capacity.ensures c.in-None.is

pub returns-in_ok-copy-in-Some-clause-is : goal.returns-in_ok-copy-in-Some-clause-is
returns-in_ok-copy-in-Some-clause-is c =
    subst (IsChannel c.args.m.now) (sym c.in_ok-copy-in-Some.ensures) (some_recognised c.channel_capacity.result (λ r. r.now) c.in-Some.c c.args.m.now c.channel_capacity.ensures c.in-Some.is)
