use Rattle.std.proofs.Common.{ap, ◌∙◌, [], ◌∷◌, ◌++◌, List}
use Rattle.pgo_sections.specs.Code.{Skip as SkipCode}
use Rattle.pgo_effects.specs.declared.todo.Todo.{Todo}
use Rattle.pgo_effects.specs.declared.todo.Todo.TheVariants.{Skip}
use Rattle.pgo_effects.specs.Todos.{codes_of}
use Rattle.pgo_effects.proofs.calls.body_row.Goals as goal

pub returns : goal.returns
returns c =
    let e = c.in_ok-push-2.ensures.items ∙ ap (λ l. l ++ c.in_ok-body_todo.field-0 ∷ []) (c.in_ok-push.ensures.items ∙ ap (λ l. l ++ Skip ∷ []) c.new-todos.ensures.items) in
    λ s. ap (λ (l : List Todo). codes_of s l) e ∙ ap (λ d. SkipCode ∷ d ∷ []) (c.in_ok-body_todo.ensures s)
