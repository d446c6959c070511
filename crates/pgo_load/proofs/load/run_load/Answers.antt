use Rattle.std.proofs.Common.{◌≡◌, ◌<◌, ◌^◌, Err, IfOk, IfErr, sym, subst, ◌∙◌, arith}
use Rattle.pgo_accept.specs.Answers.{GivesExpansion, no_memory}
use Rattle.pgo_execute.specs.Executes.{Executes}
use Rattle.pgo_execute.specs.Schedules.{Rounds}
use Rattle.pgo_log_text.specs.IsBundle.{AreCanonical}
use Rattle.pgo_load.specs.Load.{load_consts, load_settings, load_text}
use Rattle.pgo_load.proofs.Constants.{constants_canonical}
use Rattle.pgo_load.proofs.load.run_load.Goals as goal

pub execute-requires : goal.execute-requires
execute-requires c =
    let size = c.args.size in
    let short : size < 2 ^ 32 = omega arith in
    let same = subst (λ r. IfOk r (λ k. k ≡ load_consts size)) c.in-Ok.ensures.second c.consts_of.ensures in
    record { constants = subst AreCanonical (sym same) (constants_canonical size short c.canonical_text_is_value_text.ensures) }

pub returns-in-Ok-clause-ok : goal.returns-in-Ok-clause-ok
returns-in-Ok-clause-ok c =
    let size = c.args.size in
    let same = subst (λ r. IfOk r (λ k. k ≡ load_consts size)) c.in-Ok.ensures.second c.consts_of.ensures in
    let text = c.as_slice.ensures.value ∙ subst (λ r. IfOk r (λ t. t.items ≡ load_text size)) c.in-Ok.ensures.first c.text_of.ensures in
    subst (λ t. IfOk c.execute.result (λ x. Executes t (load_consts size) load_settings Rounds x.status x.text)) text
    (subst (λ k. IfOk c.execute.result (λ x. Executes c.as_slice.result.now k load_settings Rounds x.status x.text)) same
    (subst (λ s. IfOk c.execute.result (λ x. Executes c.as_slice.result.now c.in-Ok.consts s Rounds x.status x.text)) c.run_settings-settings.ensures c.execute.ensures.ok))

pub returns-in-Ok-clause-refused : goal.returns-in-Ok-clause-refused
returns-in-Ok-clause-refused c =
    let size = c.args.size in
    let same = subst (λ r. IfOk r (λ k. k ≡ load_consts size)) c.in-Ok.ensures.second c.consts_of.ensures in
    let text = c.as_slice.ensures.value ∙ subst (λ r. IfOk r (λ t. t.items ≡ load_text size)) c.in-Ok.ensures.first c.text_of.ensures in
    subst (λ t. IfErr c.execute.result (λ e. GivesExpansion t (load_consts size) (Err e))) text
    (subst (λ k. IfErr c.execute.result (λ e. GivesExpansion c.as_slice.result.now k (Err e))) same c.execute.ensures.refused)

pub returns-clause-refused : goal.returns-clause-refused
returns-clause-refused c = no_memory
