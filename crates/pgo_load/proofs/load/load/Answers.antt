use Rattle.std.proofs.Common.{subst}
use Rattle.pgo_accept.specs.Answers.{no_memory}
use Rattle.pgo_log_text.specs.ReadBundle.{IsRefused}
use Rattle.pgo_load.proofs.Loading.{is_bundle, loads, run_verdict}
use Rattle.pgo_load.proofs.load.load.Goals as goal

pub load_of-requires : goal.load_of-requires
load_of-requires g c =
    let runs = c.runs_are_accepted.ensures _ _ _ _ _ _ c.in_ok-executed.ensures.ok in
    run_verdict c.args.size _ _ _ _ c.as_bytes.ensures runs c.in-Ok.ensures.judged.0

pub returns-in-Ok-clause-ok : goal.returns-in-Ok-clause-ok
returns-in-Ok-clause-ok g c =
    let runs = c.runs_are_accepted.ensures _ _ _ _ _ _ c.in_ok-executed.ensures.ok in
    loads c.args.size _ _ _ _ _ _ _ c.as_bytes.ensures runs c.in-Ok.ensures.judged.0 c.in-Ok.ensures.judged.1 c.load_of.ensures.steps c.load_of.ensures.instances

pub unreachable-requires : goal.unreachable-requires
unreachable-requires g c =
    is_bundle _ _ _ _ _ c.as_bytes.ensures c.in_ok-executed.ensures.ok.ran.is_read
    (subst (IsRefused c.as_bytes.result.now) c.in-Err-BadLog.field-0-is c.in-Err-BadLog.ensures.refused)

pub returns-clause-refused : goal.returns-clause-refused
returns-clause-refused g c = no_memory
