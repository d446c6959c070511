use Rattle.std.proofs.Common.{sym, subst}
use Rattle.std.specs.Prelude.{option_and_then}
use Rattle.pgo_model.specs.Operators.{members_of}
use Rattle.pgo_resource.specs.Picked.{words_of, choices_of}
use Rattle.pgo_macro_run.specs.AroundView.{now_of, ValueSo}
use Rattle.pgo_macro_run.specs.Given.{needs}
use Rattle.pgo_macro_run.specs.Given as given
use Rattle.pgo_macro_run.proofs.values.member.Goals as goal

pub returns-clause-value : goal.returns-clause-value
returns-clause-value c =
    let p = c.args.picks.now in
    let n = now_of c.args.content.now p in
    subst (λ o. ValueSo (needs (option_and_then members_of o) (choices_of p) (λ ms. given.choose (words_of p) ms n)) c.args.content.now c.choose.new.picks c.choose.result)
    (sym c.in_ok-v.ensures) (c.choose.ensures.value c.args.content.now)
