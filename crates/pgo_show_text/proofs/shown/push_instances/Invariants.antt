-- What the loop keeps: the lines of the instances that are left, behind those so far, are all.
use Rattle.std.proofs.Common.{◌≡◌, map, drop}
use Rattle.pgo_bundle.specs.View.{account_view, bundle_log_view}
use Rattle.pgo_model.specs.ModuleView.{module_view}
use Rattle.pgo_show_text.specs.Shown as spec
use Rattle.pgo_show_text.proofs.shown.push_instances.Given as goal

abbrev pub invariant-loop-number : goal.invariant-loop-number
invariant-loop-number l =
    spec.with_instances (module_view l.m) (bundle_log_view l.log) 0 (map account_view l.accounts) l.fn.lines
    ≡ spec.with_instances (module_view l.m) (bundle_log_view l.log) l.number (map account_view (drop l.number l.accounts)) l.lines
