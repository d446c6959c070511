use Rattle.std.proofs.Common.{ap, ◌∙◌}
use Rattle.pgo_base.specs.NameMaps.{found}
use Rattle.pgo_scope.specs.Binders.{some_number}
use Rattle.pgo_scope.proofs.BinderLaws.{number_inserted}
use Rattle.pgo_scope.proofs.places.add_place.Goals as goal

pub returns-clause-bound : goal.returns-clause-bound
returns-clause-bound c = λ b x. ap (some_number (found b.map x)) c.in_ok-insert.ensures.keys ∙ number_inserted (found b.map x) c.args.places.now.keys c.args.place
