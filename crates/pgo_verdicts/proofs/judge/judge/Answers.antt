use Rattle.pgo_bundle.specs.View.{bundle_log_view}
use Rattle.pgo_model.specs.ModuleView.{module_view}
use Rattle.pgo_verdicts.specs.Judged.{Judged}
use Rattle.pgo_verdicts.proofs.judge.judge.Goals as goal

pub returns-in-Ok-clause-judged : goal.returns-in-Ok-clause-judged
returns-in-Ok-clause-judged g c =
    let read = c.in_ok-module in
    let judged : Judged c.args.text.now c.in-Ok.judgement.verdict =
    record {
      written_module = module_view read.module;
      consts = read.consts;
      log = bundle_log_view read.bundle;
      bundle = read.ensures.bundle;
      only = read.ensures.only;
      decides = c.in-Ok.ensures.decides;
    }
    in (judged, c.in-Ok.ensures.instances)
