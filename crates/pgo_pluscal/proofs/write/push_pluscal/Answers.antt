use Rattle.std.proofs.Common.{◌++◌, ap, ◌∙◌}
use Rattle.std.proofs.lemmas.Result.{IfOk-equal}
use Rattle.std.specs.Prelude.{codes, ◌∷◌, []}
use Rattle.std.specs.List.{flat_map}
use Rattle.pgo_pluscal.proofs.Added.{five}
use Rattle.pgo_pluscal.specs.Text.{line, variables_text, define_text, process_text}
use Rattle.pgo_pluscal.proofs.write.push_pluscal.Goals as goal

pub returns : goal.returns
returns c =
    let head = line 0 (codes "--algorithm " ∷ c.args.p.now.name ∷ codes " {" ∷ []) in
    let closing = line 0 (codes "}" ∷ []) in
    IfOk-equal c.push_line-2.result _ _ _ c.push_line-2.ensures
    (five c.args.bytes.now.items _ _ _ _ head (variables_text c.as_slice.result.now) (define_text c.args.p.now.define) (flat_map process_text c.as_slice-2.result.now) closing
    c.in_ok-push_line.ensures c.in_ok-push_variables.ensures c.in_ok-push_define.ensures c.in_ok-push_processes.ensures
    ∙ ap (λ s. c.args.bytes.now.items ++ (head ++ variables_text s ++ define_text c.args.p.now.define ++ flat_map process_text c.as_slice-2.result.now ++ closing)) c.as_slice.ensures
    ∙ ap (λ s. c.args.bytes.now.items ++ (head ++ variables_text c.args.p.now.globals ++ define_text c.args.p.now.define ++ flat_map process_text s ++ closing)) c.as_slice-2.ensures)
