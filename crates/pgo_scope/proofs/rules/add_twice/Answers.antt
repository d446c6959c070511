use Rattle.std.proofs.Common.{◌≡◌, ◌++◌, List, ap, ◌∙◌, subst, append_assoc, IfOk}
use Rattle.std.specs.Prelude.{flat_map}
use Rattle.pgo_uses.specs.Heads.{unit_names}
use Rattle.pgo_uses.specs.PieceView.{placed_names}
use Rattle.pgo_scope.specs.declared.finding.Finding.{Finding}
use Rattle.pgo_scope.specs.Rules.{hidden}
use Rattle.pgo_scope.specs.RulesView.{see}
use Rattle.pgo_scope.specs.Twice.{declared_twice, reserved_name}
use Rattle.pgo_scope.proofs.rules.add_twice.Goals as goal

pub returns : goal.returns
returns c =
    let o = c.args.out.now.items in
    let s = (see c.args.c.now).spec in
    let a = declared_twice s in
    let b = flat_map reserved_name (unit_names s) in
    let h = hidden (see c.args.c.now) in
    let names : placed_names c.as_slice.result.now ≡ unit_names s = ap placed_names c.as_slice.ensures.value ∙ c.in_ok-names.ensures in
    let r : c.add_reserved.new.out.items ≡ (o ++ a) ++ b =
    c.in_ok-add_reserved.ensures ∙ ap (λ l. l ++ flat_map reserved_name (placed_names c.as_slice.result.now)) c.in_ok-add_declared_twice.ensures
    ∙ ap (λ xs. (o ++ a) ++ flat_map reserved_name xs) names in
    let e = ap (λ l. l ++ h) (r ∙ append_assoc o a b) ∙ append_assoc o (a ++ b) h in
    subst (λ (x : List Finding). IfOk c.add_hidden.result (λ u. c.add_hidden.new.out.items ≡ x)) e c.add_hidden.ensures
