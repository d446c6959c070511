use Rattle.std.proofs.Common.{subst}
use Rattle.pgo_accept.specs.Answers.{Answers}
use Rattle.pgo_expand.specs.Limits as limits
use Rattle.pgo_pluscal.specs.PlusCalOf.{pluscal_of}
use Rattle.pgo_execute.proofs.Asked.{bounds, judged, limited, refused}
use Rattle.pgo_execute.proofs.execute.judged.Goals as goal

pub expand-requires : goal.expand-requires
expand-requires c =
    let b = c.in-Ok.bound in
    let a = bounds c.args.text.now c.args.consts.now b (subst (Answers c.args.text.now c.args.consts.now) c.in-Ok.is c.accept.ensures.answers) in
    c.premises_hold.ensures.macros b.spec c.args.consts.now (c.texts_are_accepted.ensures.accepted c.args.text.now b.spec c.args.consts.now a.spells a.passes.0 a.passes.1 a.passes.2)

pub returns-in-Ok-expand-clause-judged : goal.returns-in-Ok-expand-clause-judged
returns-in-Ok-expand-clause-judged c =
    let answers = subst (Answers c.args.text.now c.args.consts.now) c.in-Ok.is c.accept.ensures.answers in
    let made = subst (limits.Answers (limits.expand_refusal c.in-Ok.bound.spec) (pluscal_of c.in-Ok.bound.spec)) c.in-Ok-expand.is c.expand.ensures in
    judged c.args.text.now c.args.consts.now c.in-Ok.bound c.in-Ok-expand.expanded answers c.in-Ok.ensures.declared made.0 made.1

pub returns-in-Err-expand-clause-refused : goal.returns-in-Err-expand-clause-refused
returns-in-Err-expand-clause-refused c =
    let answers = subst (Answers c.args.text.now c.args.consts.now) c.in-Ok.is c.accept.ensures.answers in
    limited c.args.text.now c.args.consts.now c.in-Ok.bound c.in-Err-expand.stop answers
    (subst (limits.Answers (limits.expand_refusal c.in-Ok.bound.spec) (pluscal_of c.in-Ok.bound.spec)) c.in-Err-expand.is c.expand.ensures)

pub returns-in-Err-clause-refused : goal.returns-in-Err-clause-refused
returns-in-Err-clause-refused c = refused c.args.text.now c.args.consts.now c.in-Err.rejection (subst (Answers c.args.text.now c.args.consts.now) c.in-Err.is c.accept.ensures.answers)
