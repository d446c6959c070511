use Rattle.std.proofs.Common.{ap, sym, ◌∙◌}
use Rattle.pgo_base.specs.Data.{keys, graph-pairs}
use Rattle.pgo_base.specs.View.{data_of}
use Rattle.pgo_bound.specs.BoundOf.{indices}
use Rattle.pgo_heads.proofs.globals.pairs_of.Goals as goal

pub returns-in-Fun : goal.returns-in-Fun
returns-in-Fun c =
    ap keys (c.pairs.ensures ∙ sym (graph-pairs c.in-Fun.f)) ∙ ap (λ v. indices (data_of v)) (sym c.in-Fun.is)
