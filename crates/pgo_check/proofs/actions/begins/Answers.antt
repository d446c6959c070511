use Rattle.std.proofs.Common.{map, subst, ap, ◌∙◌}
use Rattle.std.specs.Prelude.{[], Option, None, option_map}
use Rattle.std.specs.Borrow.{Bor}
use Rattle.pgo_base.specs.ExprView.{tree}
use Rattle.pgo_base.specs.declared.scope.State.{State}
use Rattle.pgo_model.specs.Module.{defs_of}
use Rattle.pgo_model.specs.ModuleView.{defined_view, module_view}
use Rattle.pgo_model.specs.Val.{Val}
use Rattle.pgo_sets.specs.Answers.{Answers}
use Rattle.pgo_check.proofs.Variables.{value_seen}
use Rattle.pgo_check.proofs.actions.begins.Goals as goal

pub returns : goal.returns
returns c =
    let m = module_view c.args.m.now.module.now in
    let defs = defs_of m c.args.m.now.consts.now in
    let s = c.args.s.now in
    let around =
    ap (λ v. Val (map defined_view c.defs_in.result.now) (tree c.get.result.now) c.new-names.result v (option_map (λ r. r.now) c.one.result.next)) c.one.ensures.state
    ∙ ap (λ (o : Option (Bor State)). Val (map defined_view c.defs_in.result.now) (tree c.get.result.now) c.new-names.result s (option_map (λ r. r.now) o)) c.one.ensures.next in
    let same =
    around
    ∙ value_seen (map defined_view c.defs_in.result.now) defs (tree c.get.result.now) c.new-names.result s None (c.defs_in.ensures s (λ x h. h) None)
    ∙ ap (λ ns. Val defs (tree c.get.result.now) ns s None) c.new-names.ensures ∙ ap (λ e. Val defs e [] s None) c.get.ensures in
    c.is_true.ensures (Val defs m.init [] s None) (subst (Answers c.eval.result) same c.eval.ensures)
