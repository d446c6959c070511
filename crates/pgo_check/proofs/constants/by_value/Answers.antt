use Rattle.std.proofs.Common.{◌≡◌, [], map, None, ap, sym, ◌∙◌}
use Rattle.std.specs.Prelude.{option_map}
use Rattle.std.proofs.lemmas.Result.{IfOk-weaker}
use Rattle.pgo_base.specs.Tree.{at}
use Rattle.pgo_base.specs.View.{data_of}
use Rattle.pgo_model.specs.ModuleView.{defined_view}
use Rattle.pgo_model.specs.Val.{Means, Val}
use Rattle.pgo_check.proofs.ConstantDefinitions.{copy_same, none_same}
use Rattle.pgo_check.proofs.constants.by_value.Goals as goal

pub returns-in-Ok-None : goal.returns-in-Ok-None
returns-in-Ok-None c =
    let made = map defined_view c.args.made.now in
    let x = c.args.name.now in
    let e = c.args.body.now in
    let none : None ≡ Val made e [] [] None =
    ap (option_map data_of) (sym c.in-Ok-None.field-0-is) ∙ c.in-Ok-None.ensures ∙ ap (λ t. Val made t [] [] None) c.get.ensures in
    IfOk-weaker c.with_body.result _ _ (λ s h. none_same made x e (defined_view s) (h ∙ ap (λ y. Means y [] at) c.in_ok-name.ensures) none) (c.with_body.ensures at c.new.ensures)

pub returns-in-Err : goal.returns-in-Err
returns-in-Err c =
    let made = map defined_view c.args.made.now in
    let e = c.args.body.now in
    IfOk-weaker c.with_body-in-Err.result _ _ (λ s h. copy_same made (Means c.args.name.now [] e) (defined_view s) (h ∙ ap (λ y. Means y [] e) c.in_ok-name.ensures)) (c.with_body-in-Err.ensures e c.copy-in-Err.ensures)
