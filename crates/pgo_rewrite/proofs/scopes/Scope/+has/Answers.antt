use Rattle.std.proofs.Common.{◌||◌, take, sym, ap, ◌∙◌}
use Rattle.pgo_model.specs.Names.{is_among}
use Rattle.pgo_rewrite.specs.Scopes.{in_scope}
use Rattle.pgo_rewrite.specs.ScopeView.{groups_of}
use Rattle.pgo_rewrite.proofs.Among.{below_has}
use Rattle.pgo_rewrite.proofs.scopes.Scope.+has.Goals as goal

pub returns-then-has_before : goal.returns-then-has_before
returns-then-has_before t c =
    let x = c.args.name.now in
    let ns = in_scope c.in-Within.outer.now in
    c.if-has_before.true ∙ sym (ap (λ b. b || is_among x ns) (sym c.has_before.ensures ∙ c.if-has_before.true))
    ∙ below_has x (take c.in-Within.count c.in-Within.names.now) ns
    ∙ ap (λ l. is_among x (in_scope (groups_of l))) (sym c.in-Within.is) ∙ ap (λ g. is_among x (in_scope g)) c.self.view_is

pub returns-else-has_before : goal.returns-else-has_before
returns-else-has_before t c =
    let x = c.args.name.now in
    let ns = in_scope c.in-Within.outer.now in
    c.has.ensures ∙ sym (ap (λ b. b || is_among x ns) (sym c.has_before.ensures ∙ c.if-has_before.false))
    ∙ below_has x (take c.in-Within.count c.in-Within.names.now) ns
    ∙ ap (λ l. is_among x (in_scope (groups_of l))) (sym c.in-Within.is) ∙ ap (λ g. is_among x (in_scope g)) c.self.view_is
