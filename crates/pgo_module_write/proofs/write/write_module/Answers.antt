use Rattle.std.proofs.Common.{◌++◌, ◌∷◌, [], map, ap, ◌∙◌}
use Rattle.std.specs.Prelude.{codes}
use Rattle.pgo_model.specs.ExprText.{names_text}
use Rattle.pgo_model.specs.Module.{proc_set_of, terminating_body, next_body}
use Rattle.pgo_model.specs.ModuleText.{line, flatten, flat_lines, defined_lines, process_lines, definition_lines}
use Rattle.pgo_model.specs.ModuleView.{module_view, defined_view, process_view}
use Rattle.pgo_model.specs.Written.{default_init_value, proc_set, terminating}
use Rattle.pgo_module_write.proofs.Joins.{nine_joined}
use Rattle.pgo_module_write.proofs.write.write_module.Goals as goal

pub returns : goal.returns
returns c =
    let m = module_view c.args.m.now in
    let head = line (codes "---- MODULE " ++ m.name ++ codes " ----") ∷ line (codes "EXTENDS Integers, Sequences, FiniteSets, TLC") ∷ line (codes "CONSTANTS " ++ names_text (m.constants ++ (default_init_value ∷ []))) ∷ [] in
    c.in_ok-from_bytes.ensures
    ∙ nine_joined c.push_head.new.bytes.items c.push_definitions.new.bytes.items c.push_variables.new.bytes.items c.push_proc_set.new.bytes.items
    c.push_definition.new.bytes.items c.push_processes.new.bytes.items c.push_terminating.new.bytes.items c.push_next.new.bytes.items c.push_end.new.bytes.items
    head (flat_lines (map defined_lines m.definitions))
    (line (codes "VARIABLES " ++ names_text m.variables) ∷ line (codes "vars == <<" ++ names_text m.variables ++ codes ">>") ∷ [])
    (definition_lines proc_set (proc_set_of m)) (definition_lines (codes "Init") m.init) (flat_lines (map process_lines m.processes))
    (definition_lines terminating (terminating_body m)) (definition_lines (codes "Next") (next_body m))
    (line (codes "Spec == Init /\\ [][Next]_vars") ∷ line (codes "====") ∷ [])
    (c.in_ok-push_head.ensures ∙ ap (λ t. t ++ flatten head) c.new-bytes.ensures.items)
    (c.in_ok-push_definitions.ensures ∙ ap (λ ds. c.push_head.new.bytes.items ++ flatten (flat_lines (map defined_lines (map defined_view ds)))) c.as_slice.ensures)
    (c.in_ok-push_variables.ensures ∙ ap (λ ns. c.push_definitions.new.bytes.items ++ flatten (line (codes "VARIABLES " ++ names_text ns) ∷ line (codes "vars == <<" ++ names_text ns ++ codes ">>") ∷ [])) c.as_slice-2.ensures)
    c.in_ok-push_proc_set.ensures
    c.in_ok-push_definition.ensures
    (c.in_ok-push_processes.ensures ∙ ap (λ ps. c.push_definition.new.bytes.items ++ flatten (flat_lines (map process_lines (map process_view ps)))) c.as_slice-3.ensures)
    c.in_ok-push_terminating.ensures
    c.in_ok-push_next.ensures
    c.in_ok-push_end.ensures
