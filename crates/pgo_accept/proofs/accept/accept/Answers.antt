use Rattle.pgo_accept.specs.Answers.{Judges}
use Rattle.pgo_accept.proofs.Refused.{unread, of_read}
use Rattle.pgo_accept.proofs.accept.accept.Goals as goal

pub returns-in-Ok-clause-answers : goal.returns-in-Ok-clause-answers
returns-in-Ok-clause-answers c =
    of_read (λ s q. Judges s c.args.consts.now q) c.args.text.now c.in-Ok.system c.judged.result c.in-Ok.ensures c.judged.ensures.judges

pub returns-in-Err-clause-answers : goal.returns-in-Err-clause-answers
returns-in-Err-clause-answers c = unread (λ s q. Judges s c.args.consts.now q) c.args.text.now c.in-Err.rejection c.in-Err.ensures
