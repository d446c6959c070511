use Rattle.std.proofs.Common.{◌≡◌, ◌∙◌, [], ◌∷◌, ◌++◌, ap, sym}
use Rattle.pgo_effects.specs.Todos.{codes_of}
use Rattle.pgo_sections.specs.Code.{in_turn}
use Rattle.pgo_lower.specs.Lowered.{lowered}
use Rattle.pgo_lower.specs.Work.{tasks_before}
use Rattle.pgo_lower.proofs.WorkLaws.{no_item, row_step}
use Rattle.pgo_lower.proofs.turns.push_all.Goals as goal

pub loop-todo-preserved : goal.loop-todo-preserved
loop-todo-preserved c = λ s t is.
    let rest = c.next.new.self.rest.items in
    let ds = c.loop-todo.todo-iterator.rest.items in
    let next : ds ≡ c.in-Some.todo ∷ rest = c.in-Some.ensures.steps.0 in
    ap (λ l. tasks_before s t l (lowered t (in_turn (codes_of s rest)) ++ is)) c.in_ok-push.ensures
    ∙ row_step s t c.loop-todo.tasks ds rest c.in-Some.todo is next
    ∙ c.loop-todo.invariant s t is

pub returns : goal.returns
returns c = λ s t is.
    let ds = c.loop-todo.todo-iterator.rest.items in
    let none : ds ≡ [] = no_item ds c.loop-todo.todo-iterator.rest.len c.loop-todo.todo-iterator.rest.ok.0 c.in-None.ensures.steps.0 in
    ap (λ l. tasks_before s t c.loop-todo.tasks (lowered t (in_turn (codes_of s l)) ++ is)) (sym none) ∙ c.loop-todo.invariant s t is
