use Rattle.std.proofs.Common.{ap, sym, ◌∙◌}
use Rattle.pgo_base.specs.NameMaps.{found}
use Rattle.pgo_scope.specs.Binders.{some_number}
use Rattle.pgo_scope.proofs.BinderLaws.{some_common, none_noted}
use Rattle.pgo_scope.proofs.binders.Binders.some_binds.Goals as goal

pub returns-in-Some : goal.returns-in-Some
returns-in-Some c =
    some_common c.is_disjoint.result c.in-Some.binders.now c.args.places.now c.is_disjoint.ensures ∙ ap (λ o. some_number o c.args.places.now.keys) c.in-Some.ensures

pub returns-in-None : goal.returns-in-None
returns-in-None c = sym (none_noted (found c.args.self.now.map c.args.x.now) c.args.places.now.keys (sym c.in-None.ensures))
