use Rattle.std.proofs.Common.{◌∷◌, ap, sym, ◌∙◌}
use Rattle.std.specs.Prelude.{Some, option_map}
use Rattle.pgo_base.specs.BindingsView.{bound_name}
use Rattle.pgo_base.specs.Lookup.{nth}
use Rattle.pgo_base.specs.declared.bindings.BoundName.{BoundName}
use Rattle.pgo_base.proofs.LastRows.{last_found}
use Rattle.pgo_base.proofs.bindings.found_bound.Goals as goal

pub returns-in-Some : goal.returns-in-Some
returns-in-Some c =
    ap Some c.member.ensures
    ∙ ap (option_map (λ (b : BoundName). nth b.set b.at)) (rw c.in-Some.is at c.last_named.ensures) ∙ sym (last_found bound_name (λ b. nth b.set b.at) c.args.name.now (c.args.first.now ∷ c.args.rest.now))

pub returns-in-None : goal.returns-in-None
returns-in-None c = ap (option_map (λ (b : BoundName). nth b.set b.at)) (rw c.in-None.is at c.last_named.ensures) ∙ sym (last_found bound_name (λ b. nth b.set b.at) c.args.name.now (c.args.first.now ∷ c.args.rest.now))
