use Rattle.std.proofs.Common.{ℕ, ◌||◌, ap, ◌∙◌}
use Rattle.std.specs.BTreeSet.{BTreeSet}
use Rattle.pgo_scope.specs.Mapped.{some_clause}
use Rattle.pgo_base.specs.NameMaps.{found}
use Rattle.pgo_scope.specs.Targets.{has_number, has_number_of, is_named}
use Rattle.pgo_scope.proofs.Targeting.{named_more, taken}
use Rattle.pgo_scope.proofs.targets.NamedParameters.add.Goals as goal

pub returns : goal.returns
returns c = λ r n.
    let p = c.args.p.now in
    let v = some_clause n p.arguments p.clauses in
    named_more (λ q. is_named c.args.self.now q n) p.archetype.name r n v (found c.set.new.self r) c.in_ok-numbers.numbers (found c.take.new.self r) (c.in_ok-set.ensures.noted r)
    (c.in_ok-numbers.ensures n
    ∙ ap (λ b. b || v) (ap (λ (s : BTreeSet ℕ). has_number s n) c.unwrap_or-before.ensures ∙ taken c.take.result c.new.result n c.new.ensures.empty ∙ ap (λ o. has_number_of o n) c.take.ensures.value))
    (λ e. ap (λ o. has_number_of o n) (c.take.ensures.others r e))
