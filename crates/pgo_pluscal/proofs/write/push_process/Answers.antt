use Rattle.std.proofs.Common.{◌++◌, ap, ◌∙◌}
use Rattle.std.proofs.lemmas.Result.{IfOk-equal}
use Rattle.std.specs.Prelude.{codes, false, ◌∷◌, []}
use Rattle.pgo_model.specs.ExprText.{expr_text}
use Rattle.pgo_pluscal.proofs.Added.{five}
use Rattle.pgo_pluscal.specs.Text.{line, variables_text, labels_text}
use Rattle.pgo_pluscal.proofs.write.push_process.Goals as goal

pub returns : goal.returns
returns c =
    let head = line 1 (codes "process (" ∷ c.args.p.now.name ∷ codes " \\in " ∷ expr_text false c.args.p.now.ids ∷ codes ")" ∷ []) in
    let opening = line 1 (codes "{" ∷ []) in
    let closing = line 1 (codes "}" ∷ []) in
    IfOk-equal c.push_line-3.result _ _ _ c.push_line-3.ensures
    (five c.args.bytes.now.items _ _ _ _ head (variables_text c.as_slice.result.now) opening (labels_text c.args.p.now) closing c.in_ok-push_line.ensures
    c.in_ok-push_variables.ensures c.in_ok-push_line-2.ensures c.in_ok-push_own_labels.ensures
    ∙ ap (λ s. c.args.bytes.now.items ++ (head ++ variables_text s ++ opening ++ labels_text c.args.p.now ++ closing)) c.as_slice.ensures)
