use Rattle.std.proofs.Common.{◌∙◌}
use Rattle.pgo_bound.specs.State.{variables_of}
use Rattle.pgo_meaning.specs.Expansions.{process_bindings}
use Rattle.pgo_expand.proofs.LeastLaws.{found_law}
use Rattle.pgo_expand.proofs.least.least_of_archetype.Goals as goal

pub returns-then-all_pass : goal.returns-then-all_pass
returns-then-all_pass c =
    let s = c.args.spec.now in
    let a = c.args.archetype.now in
    found_law (variables_of s) s.macros c.args.process.now.name.name a (process_bindings s c.args.process.now a) c.as_slice.result.now c.args.macros.now c.least_nodes.result c.all_pass.result
    (c.as_slice.ensures.value ∙ c.in_ok-bindings.ensures) c.all_pass.ensures c.if-all_pass.true c.requires c.least_nodes.ensures
