use Rattle.std.proofs.Common.{◌≡◌, ◌++◌, ◌∙◌}
use Rattle.std.proofs.lemmas.Result.{IfOk-equal}
use Rattle.pgo_syntax.specs.Statement.{labeled}
use Rattle.pgo_uses.specs.Scopes.{row_names}
use Rattle.pgo_uses.specs.StatementUses.{uses_of_block}
use Rattle.pgo_uses.specs.AllUses.{parameter_uses, parameter_names, local_uses, variable_names}
use Rattle.pgo_uses.proofs.Scoped.{three_joined}
use Rattle.pgo_uses.proofs.unit_uses.add_archetype.Goals as goal

pub returns : goal.returns
returns c =
    let j = c.args.number in
    let r = c.args.r.now in
    let a = c.start-around.ensures in
    let params : row_names c.add_parameters.new.names ≡ parameter_names r.params =
    c.in_ok-add_parameters.ensures.names ∙ (λ i. row_names (c.new-names.ensures i) ++ parameter_names (c.as_slice.ensures i)) in
    let all : row_names c.add_locals.new.names ≡ parameter_names r.params ++ variable_names r.locals =
    c.in_ok-add_locals.ensures.names ∙ (λ i. params i ++ variable_names (c.as_slice-2.ensures i)) in
    IfOk-equal c.add_block_uses.result _ _ _ c.add_block_uses.ensures
    (three_joined _ _ _ _ _ _ _ _ _ c.in_ok-add_parameters.ensures.uses c.in_ok-add_locals.ensures.uses
    (λ i. parameter_uses (row_names (c.new-names.ensures i)) (a i) (c.as_slice.ensures i))
    (λ i. local_uses j (params i) (a i) (c.as_slice-2.ensures i))
    (λ i. uses_of_block ((c.of.ensures ∙ all) i) (a i) (labeled r.body)))
