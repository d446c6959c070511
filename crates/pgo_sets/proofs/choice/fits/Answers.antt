use Rattle.std.proofs.Common.{map, ap, sym, ◌∙◌}
use Rattle.pgo_base.specs.Data.{graph-pairs}
use Rattle.pgo_base.specs.View.{data_of}
use Rattle.pgo_model.specs.FunctionSets.{fits, graph_fits}
use Rattle.pgo_sets.specs.Choices.{choice_of}
use Rattle.pgo_sets.proofs.choice.fits.Goals as goal

pub returns-in-Fun : goal.returns-in-Fun
returns-in-Fun c =
    let cs = map choice_of c.args.choices.now in
    c.pairs_fit.ensures ∙ ap (graph_fits cs) (c.pairs.ensures ∙ sym (graph-pairs c.in-Fun.function)) ∙ ap (λ v. fits cs (data_of v)) (sym c.in-Fun.is)
