use Rattle.pgo_bundle.specs.View.{account_view, bundle_log_view}
use Rattle.pgo_model.specs.ModuleView.{module_view}
use Rattle.pgo_show_text.proofs.Instances.{one_more}
use Rattle.pgo_show_text.proofs.shown.push_instances.Goals as goal

pub loop-number-preserved : goal.loop-number-preserved
loop-number-preserved c =
    one_more account_view (module_view c.args.m.now) (bundle_log_view c.args.log.now) c.loop-number.number c.args.accounts.now
    c.index-accounts-number.result _ c.loop-number.lines c.push_instance.new.lines c.loop-number-test.true c.index-accounts-number.is
    c.in_ok-push_instance.ensures c.loop-number.invariant
