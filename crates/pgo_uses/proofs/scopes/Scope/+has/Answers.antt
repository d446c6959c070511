use Rattle.std.proofs.Common.{◌||◌, sym, ap, ◌∙◌}
use Rattle.pgo_model.specs.Names.{is_among}
use Rattle.pgo_uses.specs.Scopes.{in_scope}
use Rattle.pgo_uses.specs.ScopeView.{groups_of}
use Rattle.pgo_uses.proofs.Scoped.{among_is, within_has}
use Rattle.pgo_uses.proofs.scopes.Scope.+has.Goals as goal

pub returns-in-All : goal.returns-in-All
returns-in-All t c =
    let x = c.args.name.now in
    c.has.ensures ∙ among_is x c.in-All.names.now
    ∙ ap (λ l. is_among x (in_scope (groups_of l))) (sym c.in-All.is) ∙ ap (λ g. is_among x (in_scope g)) c.self.view_is

pub returns-then-is_earlier : goal.returns-then-is_earlier
returns-then-is_earlier t c =
    let x = c.args.name.now in
    let ns = in_scope c.in-Within.outer.now in
    c.if-is_earlier.true ∙ sym (ap (λ b. b || is_among x ns) (sym c.is_earlier.ensures ∙ c.if-is_earlier.true))
    ∙ within_has x ns c.in-Within.names.now c.in-Within.count
    ∙ ap (λ l. is_among x (in_scope (groups_of l))) (sym c.in-Within.is) ∙ ap (λ g. is_among x (in_scope g)) c.self.view_is

pub returns-else-is_earlier : goal.returns-else-is_earlier
returns-else-is_earlier t c =
    let x = c.args.name.now in
    let ns = in_scope c.in-Within.outer.now in
    c.has-else-is_earlier.ensures ∙ sym (ap (λ b. b || is_among x ns) (sym c.is_earlier.ensures ∙ c.if-is_earlier.false))
    ∙ within_has x ns c.in-Within.names.now c.in-Within.count
    ∙ ap (λ l. is_among x (in_scope (groups_of l))) (sym c.in-Within.is) ∙ ap (λ g. is_among x (in_scope g)) c.self.view_is
