-- The codes of what stands already and of what is left are those of the whole.
use Rattle.std.proofs.Common.{◌≡◌, ◌++◌, drop}
use Rattle.pgo_effects.specs.Todos.{codes_of}
use Rattle.pgo_meaning.specs.Statements.{Setting}
use Rattle.pgo_section_list.proofs.sections.before.Given as goal

abbrev pub invariant-loop-todo : goal.invariant-loop-todo
invariant-loop-todo l = (s : Setting) → codes_of s l.todos.items ++ codes_of s (drop l.todo-index l.follow.todos.items) ≡ codes_of s l.fn.todos.items ++ codes_of s l.follow.todos.items
