use Rattle.std.proofs.Common.{ℕ, ◌||◌, ap, ◌∙◌}
use Rattle.std.specs.Prelude.{nat_eq}
use Rattle.std.specs.BTreeSet.{BTreeSet}
use Rattle.pgo_base.specs.NameMaps.{found}
use Rattle.pgo_scope.specs.Binders.{binds}
use Rattle.pgo_scope.specs.Targets.{has_number, has_number_of}
use Rattle.pgo_scope.proofs.Targeting.{named_more, taken}
use Rattle.pgo_scope.proofs.binders.Binders.add.Goals as goal

pub returns : goal.returns
returns c = λ i x.
    let v = nat_eq c.args.place i in
    named_more (λ y. binds c.args.self.now i y) c.args.name.now x i v (found c.set.new.self x) c.add_place.new.places (found c.take.new.self x) (c.in_ok-set.ensures.noted x)
    (c.in_ok-add_place.ensures.numbers i
    ∙ ap (λ b. b || v) (ap (λ (s : BTreeSet ℕ). has_number s i) c.unwrap_or-places.ensures ∙ taken c.take.result c.new.result i c.new.ensures.empty ∙ ap (λ o. has_number_of o i) c.take.ensures.value))
    (λ e. ap (λ o. has_number_of o i) (c.take.ensures.others x e))
