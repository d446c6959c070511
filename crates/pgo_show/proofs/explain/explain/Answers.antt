use Rattle.std.proofs.Common.{Some, subst}
use Rattle.std.proofs.lemmas.Result.{IfOk-weaker}
use Rattle.pgo_bundle.specs.View.{bundle_log_view}
use Rattle.pgo_model.specs.ModuleView.{module_view}
use Rattle.pgo_log_text.specs.LineNumbers.{NamesLineOf}
use Rattle.pgo_log_text.specs.ReadBundle.{IsRefused}
use Rattle.pgo_show.specs.Makes.{text_told}
use Rattle.pgo_show.specs.Wishes.{wish_of, component_of}
use Rattle.pgo_show.proofs.Making.{ended_no_bundle, lacking_of, named_line, text_stops, text_lines}
use Rattle.pgo_show.proofs.explain.explain.Goals as goal

pub returns-in-Err-BadLog-clause-err : goal.returns-in-Err-BadLog-clause-err
returns-in-Err-BadLog-clause-err c =
    ended_no_bundle (wish_of c.args.request) c.args.text.now _ c.as_no_bundle.result.status c.as_no_bundle.result.line
    (subst (IsRefused c.args.text.now) c.in-Err-BadLog.field-0-is c.in-Err-BadLog.ensures.refused) c.as_no_bundle.ensures

pub returns-in-Err-BadLog-clause-line : goal.returns-in-Err-BadLog-clause-line
returns-in-Err-BadLog-clause-line c =
    named_line (component_of (wish_of c.args.request)) c.args.text.now _ c.as_no_bundle.result.status c.as_no_bundle.result.line
    (subst (NamesLineOf c.args.text.now) c.in-Err-BadLog.field-0-is c.in-Err-BadLog.ensures.line) c.as_no_bundle.ensures

pub returns-in-Ok-clause-ok : goal.returns-in-Ok-clause-ok
returns-in-Ok-clause-ok c =
    IfOk-weaker c.text_or_status.result _ _
    (λ v h. record {
      written_module = module_view c.in-Ok.module;
      consts = c.in-Ok._consts;
      log = bundle_log_view c.in-Ok.log;
      bundle = c.in-Ok.ensures.bundle;
      only = c.in-Ok.ensures.only;
      written_is = h;
    }) c.text_or_status.ensures.ok

pub returns-in-Ok-clause-err : goal.returns-in-Ok-clause-err
returns-in-Ok-clause-err c =
    let w = wish_of c.args.request in
    text_stops w c.args.text.now (component_of w) (text_told w c.in-Ok.module c.in-Ok.log) c.text_or_status.result
    (λ none. record {
      written_module = module_view c.in-Ok.module;
      consts = c.in-Ok._consts;
      log = bundle_log_view c.in-Ok.log;
      bundle = c.in-Ok.ensures.bundle;
      only = c.in-Ok.ensures.only;
      lacking = lacking_of w (module_view c.in-Ok.module) (bundle_log_view c.in-Ok.log) none;
    }) c.text_or_status.ensures.err

pub returns-in-Ok-clause-line : goal.returns-in-Ok-clause-line
returns-in-Ok-clause-line c =
    let w = wish_of c.args.request in
    text_lines (component_of w) (Some c.args.text.now) (text_told w c.in-Ok.module c.in-Ok.log) c.text_or_status.result c.text_or_status.ensures.err
