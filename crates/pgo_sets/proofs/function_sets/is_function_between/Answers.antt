use Rattle.std.proofs.Common.{List, map, ap, sym, ◌∙◌}
use Rattle.pgo_base.specs.Data.{Data, graph-pairs}
use Rattle.pgo_base.specs.View.{data_of}
use Rattle.pgo_model.specs.FunctionSets.{fits, graph_fits}
use Rattle.pgo_sets.proofs.Paired.{map_map}
use Rattle.pgo_sets.proofs.function_sets.is_function_between.Goals as goal

pub returns-in-Fun : goal.returns-in-Fun
returns-in-Fun c =
    let f : Data → Data × List Data = λ k. (k, c.args.members.now) in
    c.pairs_fit.ensures
    ∙ (λ i. graph_fits ((sym (map_map data_of f c.members.result.now) ∙ ap (map f) c.members.ensures) i) ((c.pairs.ensures ∙ sym (graph-pairs c.in-Fun.function)) i))
    ∙ ap (λ v. fits (map f c.args.domain.now) (data_of v)) (sym c.in-Fun.is)
