use Rattle.std.proofs.Common.{ap, sym, subst, ◌∙◌}
use Rattle.pgo_execute.specs.Schedules.{Turns, Threads}
use Rattle.pgo_syntax.specs.RecordView.{settings_view}
use Rattle.pgo_words.specs.Asks.{Step}
use Rattle.pgo_words.specs.View.{command_view}
use Rattle.pgo_front.specs.declared.target.Target.TheVariants as targets
use Rattle.pgo_words.specs.Asks.{AsksOnly}
use Rattle.pgo_front.proofs.Asking.{execution_only, load_only, record_of, translation_only}
use Rattle.pgo_front.proofs.task.task_of.Goals as goal

pub returns-in-Step : goal.returns-in-Step
returns-in-Step c words h =
    let consts = c.args.request.consts in
    let settings = settings_view c.args.request.settings in
    let only = subst (λ k. AsksOnly words (record_of k consts settings)) (ap command_view c.in-Step.is ∙ ap Step (sym c.into_vec.ensures)) h in
    execution_only words consts settings (Turns c.into_vec.result.items) only.0 only

pub returns-in-Run : goal.returns-in-Run
returns-in-Run c words h =
    let consts = c.args.request.consts in
    let settings = settings_view c.args.request.settings in
    let only = subst (λ k. AsksOnly words (record_of k consts settings)) (ap command_view c.in-Run.is) h in
    execution_only words consts settings Threads only.0 only

pub returns-in-Expand : goal.returns-in-Expand
returns-in-Expand c words h =
    let consts = c.args.request.consts in
    let settings = settings_view c.args.request.settings in
    translation_only words consts settings targets.Expansion (subst (λ k. AsksOnly words (record_of k consts settings)) (ap command_view c.in-Expand.is) h)

pub returns-in-Compile : goal.returns-in-Compile
returns-in-Compile c words h =
    let consts = c.args.request.consts in
    let settings = settings_view c.args.request.settings in
    translation_only words consts settings targets.Module (subst (λ k. AsksOnly words (record_of k consts settings)) (ap command_view c.in-Compile.is) h)

pub returns-in-Load : goal.returns-in-Load
returns-in-Load c words h =
    let consts = c.args.request.consts in
    let settings = settings_view c.args.request.settings in
    load_only words consts settings c.in-Load.size (subst (λ k. AsksOnly words (record_of k consts settings)) (ap command_view c.in-Load.is) h)
