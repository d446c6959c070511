use Rattle.std.proofs.Common.{◌≡◌, [], ◌∷◌, ◌++◌, map, ap, refl, ◌∙◌}
use Rattle.pgo_base.specs.Data.{model}
use Rattle.pgo_model.specs.Val.{Given, Means}
use Rattle.pgo_model.specs.Module.{proc_set_of, process_definitions, union_of}
use Rattle.pgo_model.specs.ModuleView.{defined_view, process_view, module_view}
use Rattle.pgo_model.specs.Written.{default_init_value, proc_set, terminating}
use Rattle.pgo_check.proofs.definitions.definitions.Goals as goal

pub returns : goal.returns
returns c =
    let m = module_view c.args.m.now in
    let default = Given default_init_value (model default_init_value) ∷ [] in
    let ids : c.in_ok-process_set.process_set ≡ proc_set_of m =
    c.in_ok-process_set.ensures ∙ ap (λ ps. union_of (map (λ p. p.ids) (map process_view ps))) c.as_slice-processes.ensures in
    let constants = c.in_ok-add_constants.ensures ∙ (λ i. map defined_view (c.new-defs.ensures i) ++ map (λ x. Given x.0 x.1) (c.as_slice.ensures i)) in
    let first = c.in_ok-add_default.ensures ∙ ap (λ ds. ds ++ default) constants in
    let own = c.in_ok-add_copies.ensures ∙ (λ i. first i ++ map defined_view (c.as_slice-2.ensures i)) in
    let set = c.in_ok-add.ensures ∙ (λ i. own i ++ Means proc_set [] (ids i) ∷ []) in
    let actions = c.in_ok-add_processes.ensures ∙ (λ i. set i ++ process_definitions (map process_view (c.as_slice-processes.ensures i))) in
    c.in_ok-add-2.ensures ∙ (λ i. actions i ++ Means terminating [] (c.in_ok-terminating.ensures m refl i) ∷ [])
