use Rattle.std.proofs.lemmas.Result.{IfOk-weaker}
use Rattle.pgo_front.specs.Makes.{bytes_of}
use Rattle.pgo_front.proofs.Translating.{translates_to, stops_refused, refused_line}
use Rattle.pgo_front.proofs.translate.translate_text.Goals as goal

pub returns-in-Ok-clause-ok : goal.returns-in-Ok-clause-ok
returns-in-Ok-clause-ok c =
    IfOk-weaker c.output_of.result _ _
    (λ m e. translates_to c.expansions_agree.ensures c.modules_agree.ensures c.modules_are_read_back.ensures c.args.target c.args.text.now c.args.consts.now c.in-Ok.expanded (bytes_of m.written) c.in-Ok.ensures e)
    c.output_of.ensures.ok

pub returns-in-Err-clause-err : goal.returns-in-Err-clause-err
returns-in-Err-clause-err c =
    stops_refused c.args.text.now c.args.consts.now c.in-Err.rejection c.as_rejected.result.status c.as_rejected.result.line c.in-Err.ensures c.as_rejected.ensures

pub returns-in-Err-clause-line : goal.returns-in-Err-clause-line
returns-in-Err-clause-line c =
    refused_line c.args.text.now c.args.consts.now c.in-Err.rejection c.as_rejected.result.status c.as_rejected.result.line c.in-Err.ensures c.as_rejected.ensures
