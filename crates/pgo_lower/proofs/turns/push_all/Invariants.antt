use Rattle.std.proofs.Common.{◌≡◌, ◌++◌, List}
use Rattle.pgo_code.specs.Steps.{Step}
use Rattle.pgo_effects.specs.Todos.{codes_of}
use Rattle.pgo_meaning.specs.Statements.{Setting}
use Rattle.pgo_sections.specs.Code.{in_turn}
use Rattle.pgo_lower.specs.Lowered.{Tables, lowered}
use Rattle.pgo_lower.specs.Work.{tasks_before}
use Rattle.pgo_lower.proofs.turns.push_all.Given as goal

abbrev pub invariant-loop-todo : goal.invariant-loop-todo
invariant-loop-todo l = (s : Setting) (t : Tables) (is : List Step)
    → tasks_before s t l.tasks (lowered t (in_turn (codes_of s l.todo-iterator.rest.items)) ++ is)
    ≡ tasks_before s t l.initial.tasks (lowered t (in_turn (codes_of s l.fn.todos.items)) ++ is)
