use Rattle.std.proofs.Common.{◌++◌, ◌+◌, map, drop, ap, ◌∙◌}
use Rattle.std.specs.List.{filter_map}
use Rattle.pgo_base.specs.View.{named_data}
use Rattle.pgo_bound.specs.Values.{given_value, given_constant}
use Rattle.pgo_heads.proofs.Numbered.{drop_step}
use Rattle.pgo_heads.proofs.Matching.{constant_step}
use Rattle.pgo_heads.proofs.definitions.add_constants.Goals as goal

pub loop-c-preserved : goal.loop-c-preserved
loop-c-preserved c =
    c.loop-c.invariant
    ∙ ap (λ cs. c.loop-c.defs ++ filter_map (given_constant (map named_data c.args.consts.now)) cs) (drop_step c.args.declared.now c.loop-c.c-index c.c-item.result c.loop-c-test.true c.c-item.is)
    ∙ constant_step (map named_data c.args.consts.now) c.c-item.result (drop (c.loop-c.c-index + 1) c.args.declared.now) c.loop-c.defs c.push.new.self c.in-Some.value.now c.in_ok-value-in-Some.value c.in_ok-copy-in-Some.field-0 (c.in-Some.ensures ∙ ap (λ consts. given_value consts c.c-item.result.name) c.in_ok-given.ensures) c.in_ok-push-in-Some.ensures c.in_ok-copy-in-Some.ensures c.in_ok-value-in-Some.ensures
