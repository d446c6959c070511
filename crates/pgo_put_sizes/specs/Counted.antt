-- The nodes of the expressions of one level of code, counted before it is looked at.
use Rattle.std.specs.Prelude.{ℕ, ◌+◌, List, [], ◌∷◌, map}
use Rattle.pgo_effects.specs.Around.{around_view}
use Rattle.pgo_syntax.specs.Origins.{origin_tree}
use Rattle.pgo_effects.specs.Puts.{Layers, puts_tree, puts_left, behind_name}
use Rattle.pgo_effects.specs.declared.todo.Part.{Part}
use Rattle.pgo_effects.specs.declared.todo.Part.TheVariants as parts
use Rattle.pgo_effects.specs.declared.todo.Todo.{Todo}
use Rattle.pgo_effects.specs.declared.todo.Todo.TheVariants as todos
use Rattle.pgo_put_sizes.specs.Lefts.{steps_nodes}
use Rattle.pgo_sections.specs.Nodes.{tree_nodes}
use Rattle.pgo_syntax.specs.Statement.{Statement, assign, if_then, if_else, while_do, await_that, with_in, print_out, assert_that, GuardedStatements, no_guarded, more_guarded, guarded}
use Rattle.pgo_syntax.specs.StatementView.{statement, branch_parts}
use Rattle.pgo_syntax.specs.declared.assignment.Assignment.{Assignment}
use Rattle.pgo_syntax.specs.declared.binding.WithName.{WithName}

-- of the indices and the right sides of assignments
abbrev pub assignment_nodes : Layers → Assignment → ℕ
assignment_nodes ls a = steps_nodes [] (puts_left ls a.left).path + tree_nodes (puts_tree ls a.right)

abbrev pub assignments_nodes : Layers → List Assignment → ℕ
assignments_nodes ls [] = 0
assignments_nodes ls (a ∷ as') = assignment_nodes ls a + assignments_nodes ls as'

-- of the names of a `with`, each under the arguments that stand behind those before it
abbrev pub names_nodes : Layers → List WithName → ℕ
names_nodes ls [] = 0
names_nodes ls (w ∷ ws) = tree_nodes (puts_tree ls (origin_tree w.origin)) + names_nodes (behind_name ls w.name.name) ws

-- of the first condition
abbrev pub branches_nodes : Layers → GuardedStatements → ℕ
branches_nodes ls no_guarded = 0
branches_nodes ls (more_guarded p e t bs) = tree_nodes (puts_tree ls e)

abbrev pub statement_nodes : Layers → Statement → ℕ
statement_nodes ls (assign p as') = assignments_nodes ls as'
statement_nodes ls (if_then p bs) = branches_nodes ls bs
statement_nodes ls (if_else p bs t) = branches_nodes ls bs
statement_nodes ls (while_do p e t) = tree_nodes (puts_tree ls e)
statement_nodes ls (await_that p e) = tree_nodes (puts_tree ls e)
statement_nodes ls (with_in p ws t) = names_nodes ls ws
statement_nodes ls (print_out p e) = tree_nodes (puts_tree ls e)
statement_nodes ls (assert_that p e) = tree_nodes (puts_tree ls e)
statement_nodes ls _ = 0

abbrev pub part_nodes : Layers → Part → ℕ
part_nodes ls (parts.Statement t) = statement_nodes ls (statement t.now)
part_nodes ls (parts.Order ts) = 0
part_nodes ls (parts.Branches bs t) = branches_nodes ls (guarded (map branch_parts bs.now))
part_nodes ls (parts.Loop t) = 0

abbrev pub todo_nodes : Todo → ℕ
todo_nodes (todos.Text p a) = part_nodes (around_view a).layers p
todo_nodes _ = 0
