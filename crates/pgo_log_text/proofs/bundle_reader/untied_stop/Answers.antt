use Rattle.std.proofs.Common.{sym, ap, ◌∙◌}
use Rattle.std.specs.Prelude.{option_map}
use Rattle.pgo_bundle.specs.ClaimView.{untied_view}
use Rattle.pgo_bundle.specs.View.{bundle_log_view, version_view}
use Rattle.pgo_log_text.proofs.Ties.{one_tied, two_tied, two_untied}
use Rattle.pgo_log_text.proofs.bundle_reader.untied_stop.Goals as goal

pub returns-in-One : goal.returns-in-One
returns-in-One c = one_tied (bundle_log_view c.args.log.now) c.args.first (ap version_view c.in-One.is)

pub returns-in-Ok-Some : goal.returns-in-Ok-Some
returns-in-Ok-Some c =
    two_untied (bundle_log_view c.args.log.now) (untied_view c.in-Ok-Some.untied) c.args.first c.lines_before.result c.saturating_add.result (ap version_view c.in-Two.is)
    (sym c.in-Ok-Some.ensures ∙ ap (option_map untied_view) c.in-Ok-Some.field-0-is) c.lines_before.ensures c.saturating_add.ensures

pub returns-in-Ok-None : goal.returns-in-Ok-None
returns-in-Ok-None c = two_tied (bundle_log_view c.args.log.now) c.args.first (ap version_view c.in-Two.is) (sym c.in-Ok-None.ensures ∙ ap (option_map untied_view) c.in-Ok-None.field-0-is)
