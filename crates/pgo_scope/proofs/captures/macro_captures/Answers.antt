use Rattle.std.proofs.Common.{◌≡◌, false, ◌&&◌, ap, ◌∙◌}
use Rattle.pgo_base.specs.Lookup.{Name}
use Rattle.pgo_uses.specs.AllUses.{names_of}
use Rattle.pgo_scope.specs.Binders.{some_binds, see_captures}
use Rattle.pgo_scope.specs.Twice.{is_bound_in}
use Rattle.pgo_scope.proofs.CaptureLaws.{under, parameters_are}
use Rattle.pgo_scope.proofs.captures.macro_captures.Goals as goal

pub returns : goal.returns
returns c =
    let b = c.args.table.now.binders.now in
    let own : (x : Name) → some_binds b c.in_ok-own.own x ≡ is_bound_in false c.args.uses.now x = λ x. c.in_ok-own.ensures b x ∙ ap (λ v. c.binds_some.result && v) (c.requires x) ∙ under c.binds_some.result (is_bound_in false c.args.uses.now x) (λ e. c.binds_some.ensures e x) in
    let made = c.in_ok-handed.ensures b ∙ parameters_are (see_captures c.args.table.now) c.args.uses.now b c.in_ok-found.found c.in_ok-own.own own c.in_ok-found.ensures (names_of c.args.params.now) in
    λ i. (made i, λ x. own x i)
