-- Nodes of the indices of a left side with arguments in place.
use Rattle.std.specs.Prelude.{ℕ, ◌+◌, List, [], ◌∷◌, Option, Some, None, option_map}
use Rattle.pgo_base.specs.ExprView.{tree}
use Rattle.pgo_base.specs.Lookup.{Name, find}
use Rattle.pgo_base.specs.Tree.{Tree, index, field}
use Rattle.pgo_effects.specs.Puts.{Layers, puts_tree}
use Rattle.pgo_meaning.specs.MacrosPlaced.{only, left_of}
use Rattle.pgo_model.specs.Options.{on}
use Rattle.pgo_put_sizes.specs.declared.lefts.Spelled.{Spelled}
use Rattle.pgo_put_sizes.specs.declared.lefts.SpineStep.{SpineStep}
use Rattle.pgo_sections.specs.Nodes.{tree_nodes}
use Rattle.pgo_syntax.specs.declared.assignment.Left.{Left}
use Rattle.pgo_syntax.specs.declared.assignment.Step.{Step}
use Rattle.pgo_syntax.specs.declared.assignment.Step.TheVariants as step

-- of a step of a path, and of a path
abbrev pub step_nodes : Layers → Step → ℕ
step_nodes ls (step.Index e) = tree_nodes (puts_tree ls e)
step_nodes ls (step.Field x) = 0

abbrev pub steps_nodes : Layers → List Step → ℕ
steps_nodes ls [] = 0
steps_nodes ls (s ∷ path) = step_nodes ls s + steps_nodes ls path

-- the index of an expression that spells a left side, and the expression that is indexed or whose field it is
abbrev pub spine_step : Tree → Option (Option Tree × Tree)
spine_step (index f ts) = on None (only ts) (λ i. Some (Some i, f))
spine_step (field r x) = Some (None, r)
spine_step _ = None

abbrev pub step_view : SpineStep → Option Tree × Tree
step_view s = (option_map (λ i. tree i.now) s.index, tree s.inner.now)

abbrev pub index_nodes : Layers → Option Tree → ℕ
index_nodes ls o = on 0 o (λ i. tree_nodes (puts_tree ls i))

-- of all indices of an expression that spells a left side
abbrev pub spine_nodes : Layers → Tree → ℕ
spine_nodes ls (index f ts) = on 0 (only ts) (λ i. tree_nodes (puts_tree ls i) + spine_nodes ls f)
spine_nodes ls (field r x) = spine_nodes ls r
spine_nodes ls _ = 0

-- the name of the left side that an expression spells
abbrev pub head_of : Tree → Option Name
head_of t = option_map (λ l. l.name.name) (left_of t)

-- of the indices that come in by a name, where an argument that spells a left side stands for it
abbrev pub name_nodes : Layers → Name → ℕ
name_nodes [] x = 0
name_nodes (es ∷ ls) x = on (name_nodes ls x) (on None (find x es) left_of) (λ m. steps_nodes ls m.path + name_nodes ls m.name.name)

abbrev pub spelled_view : Spelled → Tree × Name
spelled_view s = (tree s.e.now, s.name.now)

-- of a left side
abbrev pub left_nodes : Layers → Left → ℕ
left_nodes ls l = name_nodes ls l.name.name + steps_nodes ls l.path
