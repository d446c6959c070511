use Rattle.std.proofs.Common.{length, sym, ◌∙◌, ap, subst}
use Rattle.std.proofs.lemmas.List.{length-map}
use Rattle.pgo_base.specs.View.{data_of}
use Rattle.pgo_bundle.specs.View.{bundle_log_view}
use Rattle.pgo_check.specs.Verdict.{Decides}
use Rattle.pgo_model.specs.Log.{Log}
use Rattle.pgo_model.specs.ModuleView.{module_view}
use Rattle.pgo_verdicts.proofs.judge.judge_log.Goals as goal

pub returns-in-Ok-clause-decides : goal.returns-in-Ok-clause-decides
returns-in-Ok-clause-decides g c =
    subst (λ (l : Log). Decides (module_view c.args.m.now) c.args.consts.now l.ids l.start l.entries c.in-Ok.verdict) c.in_ok-log.ensures c.in-Ok.ensures.decides

pub returns-in-Ok-clause-instances : goal.returns-in-Ok-clause-instances
returns-in-Ok-clause-instances g c =
    sym (length-map c.as_slice.result.now data_of) ∙ ap length c.as_slice.ensures ∙ ap (λ (l : Log). length l.ids) c.in_ok-log.ensures ∙ length-map (bundle_log_view c.args.bundle).accounts (λ a. a.id)
