-- The components as they lie in memory.
use Rattle.std.proofs.Common.{ap, sym, ◌∙◌}
use Rattle.pgo_base.specs.Lookup.{Vars}
use Rattle.pgo_accesses.specs.Accesses.{all_shallow}
use Rattle.pgo_places.specs.Stands.{labelled}
use Rattle.pgo_places.proofs.run.all_fit.Goals as goal

pub returns : goal.returns
returns c = λ l. ap (λ (o : Vars). all_shallow (labelled l o)) (sym c.as_slice.ensures) ∙ c.rows_fit.ensures l
