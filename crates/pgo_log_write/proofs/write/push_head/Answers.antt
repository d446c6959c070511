use Rattle.std.proofs.Common.{◌++◌, map, length, refl, ap, ◌∙◌}
use Rattle.std.proofs.lemmas.Result.{IfOk-equal}
use Rattle.std.specs.Prelude.{codes, decimal}
use Rattle.pgo_model.specs.Bundle.{value_line}
use Rattle.pgo_model.specs.ModuleText.{line, Text}
use Rattle.pgo_model.specs.ModuleView.{module_view}
use Rattle.pgo_log_write.proofs.Joined.{values_are, head_joined}
use Rattle.pgo_log_write.proofs.write.push_head.Goals as goal

pub returns-clause-bytes : goal.returns-clause-bytes
returns-clause-bytes c =
    let text = Text (module_view c.args.m.now) in
    let consts = c.args.consts.now in
    let b2 = c.push_values.new.bytes.items in
    let size = line (codes "module " ++ decimal (length text)) in
    IfOk-equal c.push_module.result _ _ _ c.push_module.ensures.bytes
    (head_joined c.args.bytes.now.items c.push_line.new.bytes.items b2 (b2 ++ size ++ text) (line (codes "pgo 2")) (line (codes "consts " ++ decimal (length consts))) (map value_line consts) size text
    c.in_ok-push_line.ensures
    (c.in_ok-push_values.ensures ∙ ap (λ t. c.push_line.new.bytes.items ++ t) (values_are (codes "consts") c.as_slice.result.now consts c.as_slice.ensures))
    refl)
