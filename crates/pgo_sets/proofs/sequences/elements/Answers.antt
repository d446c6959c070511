use Rattle.std.proofs.Common.{ap, sym, ◌∙◌}
use Rattle.pgo_base.specs.Data.{graph-pairs}
use Rattle.pgo_base.specs.View.{data_of}
use Rattle.pgo_model.specs.Sequences.{elements, elements_from}
use Rattle.pgo_sets.proofs.sequences.elements.Goals as goal

pub returns-in-Fun : goal.returns-in-Fun
returns-in-Fun c = c.counted.ensures ∙ ap (elements_from 1) (sym (graph-pairs c.in-Fun.function)) ∙ ap (λ v. elements (data_of v)) (sym c.in-Fun.is)
