-- What is counted of a level of code is no more than the least nodes of its expansions.
use Rattle.std.proofs.Common.{◌≡◌, ◌≤◌, ℕ, suc, ◌+◌, Bool, true, false, List, [], ◌∷◌, ◌++◌, map, Option, Some, None, refl, ap, arith}
use Rattle.std.specs.Prelude.{if◌then◌else◌}
use Rattle.pgo_base.specs.Lookup.{Name, find}
use Rattle.pgo_base.specs.Tree.{Tree}
use Rattle.pgo_effects.specs.Around.{Surroundings, around_view, written_label}
use Rattle.pgo_syntax.specs.Origins.{origin_tree}
use Rattle.pgo_effects.specs.Puts.{Layers, puts, puts_tree, puts_assignment, puts_origin, puts_name, puts_names, puts_guarded, behind_name, behind_names}
use Rattle.pgo_effects.specs.Todos.{otherwise, part_code, code_of}
use Rattle.pgo_effects.specs.declared.todo.Part.{Part as Text_part}
use Rattle.pgo_effects.specs.declared.todo.Part.TheVariants as parts
use Rattle.pgo_effects.specs.declared.todo.Todo.{Todo}
use Rattle.pgo_effects.specs.declared.todo.Todo.TheVariants as todos
use Rattle.pgo_effects.proofs.PutLaws.{guarded_more, puts_assign, puts_if, puts_if_else, puts_while, puts_await, puts_print, puts_assert, puts_with, puts_equals, puts_in}
use Rattle.pgo_meaning.specs.MacrosPlaced.{Bodies, unmarked, placed, placed_guarded}
use Rattle.pgo_meaning.specs.Statements.{Setting, Part, Index, Field, assigned, alone, steps, assign_all, assignment_code, bind_name, bind_names, code, branches}
use Rattle.pgo_model.specs.Options.{on}
use Rattle.pgo_put_sizes.specs.Counted.{assignment_nodes, assignments_nodes, names_nodes, branches_nodes, statement_nodes, part_nodes, todo_nodes}
use Rattle.pgo_put_sizes.specs.Lefts.{steps_nodes}
use Rattle.pgo_put_sizes.specs.Least.{yields, least}
use Rattle.pgo_put_sizes.proofs.EvaluatedLaws.{evaluated_law}
use Rattle.pgo_sections.specs.Access.{Mapped, place, evaluated}
use Rattle.pgo_sections.specs.Code.{Code, Whole, Empty, Let, Pick, Set, Await, Assert, Print, If, Seq, Goto, at_base, val_base, old_base, content_name}
use Rattle.pgo_sections.specs.Nodes.{tree_nodes}
use Rattle.pgo_syntax.specs.Statement.{Statement, assign, if_then, if_else, while_do, await_that, with_in, print_out, assert_that, GuardedStatements, no_guarded, more_guarded, guarded}
use Rattle.pgo_syntax.specs.StatementView.{statement, branch_parts}
use Rattle.pgo_syntax.specs.declared.assignment.Assignment.{Assignment}
use Rattle.pgo_syntax.specs.declared.assignment.Step.{Step}
use Rattle.pgo_syntax.specs.declared.assignment.Step.TheVariants as step
use Rattle.pgo_syntax.specs.declared.binding.Origin.{Origin}
use Rattle.pgo_syntax.specs.declared.binding.Origin.TheVariants.{Equals, In}
use Rattle.pgo_syntax.specs.declared.binding.WithName.{WithName}

-- no argument is to be put in
abbrev plain : List Assignment → ℕ
plain as' = assignments_nodes [] as'

plain_put : (ls : Layers) (as' : List Assignment) → plain (map (puts_assignment ls) as') ≡ assignments_nodes ls as'
plain_put ls [] = refl
plain_put ls (a ∷ as') = ap (λ n. assignment_nodes ls a + n) (plain_put ls as')

origin_put : (ls : Layers) (o : Origin) → origin_tree (puts_origin ls o) ≡ puts_tree ls (origin_tree o)
origin_put ls (Equals e) = ap origin_tree (puts_equals ls e)
origin_put ls (In e) = ap origin_tree (puts_in ls e)

least_as : (c d : Code) (n : ℕ) → d ≡ c → n ≤ least c → n ≤ least d
least_as c d n e h = let l : least d ≡ least c = ap least e in omega (arith, l, h)

alone_path : (path : List Step) (r e : Tree) → elim path [ [] ↦ Some r | s ∷ p ↦ None ] ≡ Some e → steps_nodes [] path + tree_nodes r ≤ suc (tree_nodes e)
alone_path [] r e h = let s : tree_nodes r ≡ tree_nodes e = ap (λ o. on 0 o tree_nodes) h in omega (arith, s)
alone_path (s ∷ p) r e h = absurd (cc h)

alone_nodes : (as' : List Assignment) (e : Tree) → alone as' ≡ Some e → plain as' ≤ suc (tree_nodes e)
alone_nodes [] e h = absurd (cc h)
alone_nodes (a ∷ []) e h = omega (arith, alone_path a.left.path a.right e h)
alone_nodes (a ∷ b ∷ as') e h = absurd (cc h)

module _ (s : Setting) (ok : (x : Name) (m : Mapped) → find x s.mapped ≡ Some m → yields m.reads ≡ true) where
  -- what comes behind an expression has m nodes or more
  behind : (e : Tree) (k m : ℕ) (f : Tree → ℕ → Code) → ((e' : Tree) (k' : ℕ) → tree_nodes e' + m ≤ least (f e' k')) → tree_nodes e + m ≤ least (evaluated s.mapped e k f)
  behind e k m f h = evaluated_law s.mapped ok e k m f h

  first : (e : Tree) (f : Tree → ℕ → Code) → ((e' : Tree) (k' : ℕ) → tree_nodes e' ≤ least (f e' k')) → tree_nodes e ≤ least (evaluated s.mapped e 0 f)
  first e f h = omega (arith, behind e 0 0 f (λ e' k'. omega (arith, h e' k')))

  steps_least : (path : List Step) (k m : ℕ) (f : List Part → ℕ → Code) → ((ps : List Part) (j : ℕ) → m ≤ least (f ps j)) → steps_nodes [] path + m ≤ least (steps s path k f)
  steps_least [] k m f h = omega (arith, h [] k)
  steps_least (step.Index e ∷ path) k m f h =
      omega (
        arith,
        behind e k (steps_nodes [] path + m) (λ e' j. Let at_base (place j) e' (steps s path (suc j) (λ parts. f (Index (place j) ∷ parts))))
            (λ e' j. omega (arith, steps_least path (suc j) m (λ parts. f (Index (place j) ∷ parts)) (λ ps i. h (Index (place j) ∷ ps) i))),
      )
  steps_least (step.Field x ∷ path) k m f h = omega (arith, steps_least path k m (λ parts. f (Field x ∷ parts)) (λ ps i. h (Field x ∷ ps) i))

  all_least : (as' : List Assignment) (k : ℕ) (cs : List Code) → plain as' ≤ least (assign_all s as' k cs)
  all_least [] k cs = omega arith
  all_least (a ∷ as') k cs =
      let then' = λ (path : List Part) (j : ℕ). cs ++ assigned s a.left.name.name path (place j) ∷ [] in
      omega (
        arith,
        steps_least a.left.path k (tree_nodes a.right + plain as') (λ path k1. evaluated s.mapped a.right k1 (λ e k2. Let val_base (place k2) e (assign_all s as' (suc k2) (then' path k2))))
            (λ path k1. behind a.right k1 (plain as') (λ e k2. Let val_base (place k2) e (assign_all s as' (suc k2) (then' path k2))) (λ e k2. omega (arith, all_least as' (suc k2) (then' path k2)))),
      )

  assignments_least : (as' : List Assignment) → plain as' ≤ least (assignment_code s as')
  assignments_least as' = go s.is_block (alone as') (λ e h. alone_nodes as' e h)
    where
      go : (b : Bool) (o : Option Tree) → ((e : Tree) → o ≡ Some e → plain as' ≤ suc (tree_nodes e))
          → plain as' ≤ least (on (assign_all s as' 0 []) (if b then o else None) (λ e. Set old_base (Whole content_name) e))
      go false o h = all_least as' 0 []
      go true None h = all_least as' 0 []
      go true (Some e) h = h e refl

  name_least : (x : Name) (o : Origin) (c : Code) (m : ℕ) → m ≤ least c → tree_nodes (origin_tree o) + m ≤ least (bind_name s x o c)
  name_least x (Equals e) c m h = behind e 0 m (λ e' k. Let (unmarked x) x e' c) (λ e' k. omega (arith, h))
  name_least x (In e) c m h = behind e 0 m (λ e' k. Pick (unmarked x) x e' c) (λ e' k. omega (arith, h))

  names_least : (ls : Layers) (ws : List WithName) (c : Code) → names_nodes ls ws ≤ least (bind_names s (puts_names ls ws) c)
  names_least ls [] c = omega arith
  names_least ls (w ∷ ws) c =
      let n = puts_name ls w in
      let rest = bind_names s (puts_names (behind_name ls w.name.name) ws) c in
      let e : tree_nodes (origin_tree n.origin) ≡ tree_nodes (puts_tree ls (origin_tree w.origin)) = ap tree_nodes (origin_put ls w.origin) in
      omega (arith, e, name_least n.name.name n.origin rest (names_nodes (behind_name ls w.name.name) ws) (names_least (behind_name ls w.name.name) ws c))

  branches_least : (l : Name) (ls : Layers) (ms : Bodies) (bs : GuardedStatements) (c : Code) → branches_nodes ls bs ≤ least (branches s l (puts_guarded ls (placed_guarded ms bs)) c)
  branches_least l ls ms no_guarded c = omega arith
  branches_least l ls ms (more_guarded p e t bs) c =
      least_as (branches s l (more_guarded p (puts_tree ls e) (puts ls (placed ms t)) (puts_guarded ls (placed_guarded ms bs))) c) _ (tree_nodes (puts_tree ls e))
      (ap (λ g. branches s l g c) (guarded_more ls p e (placed ms t) (placed_guarded ms bs)))
      (first (puts_tree ls e) (λ e' k. If e' (code s l (puts ls (placed ms t))) (branches s l (puts_guarded ls (placed_guarded ms bs)) c)) (λ e' k. omega arith))

  statement_least : (l : Name) (ls : Layers) (ms : Bodies) (t : Statement) → statement_nodes ls t ≤ least (code s l (puts ls (placed ms t)))
  statement_least l ls ms (assign p as') =
      least_as (assignment_code s (map (puts_assignment ls) as')) _ (assignments_nodes ls as') (ap (code s l) (puts_assign ls p as'))
      (omega (arith, plain_put ls as', assignments_least (map (puts_assignment ls) as')))
  statement_least l ls ms (if_then p bs) =
      least_as (branches s l (puts_guarded ls (placed_guarded ms bs)) Empty) _ (branches_nodes ls bs) (ap (code s l) (puts_if ls p (placed_guarded ms bs)))
      (branches_least l ls ms bs Empty)
  statement_least l ls ms (if_else p bs t) =
      least_as (branches s l (puts_guarded ls (placed_guarded ms bs)) (code s l (puts ls (placed ms t)))) _ (branches_nodes ls bs) (ap (code s l) (puts_if_else ls p (placed_guarded ms bs) (placed ms t)))
      (branches_least l ls ms bs (code s l (puts ls (placed ms t))))
  statement_least l ls ms (while_do p e t) =
      least_as (code s l (while_do p (puts_tree ls e) (puts ls (placed ms t)))) _ (tree_nodes (puts_tree ls e)) (ap (code s l) (puts_while ls p e (placed ms t)))
      (first (puts_tree ls e) (λ e' k. If e' (Seq (code s l (puts ls (placed ms t))) (Goto l)) Empty) (λ e' k. omega arith))
  statement_least l ls ms (await_that p e) =
      least_as (code s l (await_that p (puts_tree ls e))) _ (tree_nodes (puts_tree ls e)) (ap (code s l) (puts_await ls p e)) (first (puts_tree ls e) (λ e' k. Await e') (λ e' k. omega arith))
  statement_least l ls ms (with_in p ws t) =
      least_as (bind_names s (puts_names ls ws) (code s l (puts (behind_names ls ws) (placed ms t)))) _ (names_nodes ls ws) (ap (code s l) (puts_with ls p ws (placed ms t)))
      (names_least ls ws (code s l (puts (behind_names ls ws) (placed ms t))))
  statement_least l ls ms (print_out p e) =
      least_as (code s l (print_out p (puts_tree ls e))) _ (tree_nodes (puts_tree ls e)) (ap (code s l) (puts_print ls p e)) (first (puts_tree ls e) (λ e' k. Print e') (λ e' k. omega arith))
  statement_least l ls ms (assert_that p e) =
      least_as (code s l (assert_that p (puts_tree ls e))) _ (tree_nodes (puts_tree ls e)) (ap (code s l) (puts_assert ls p e)) (first (puts_tree ls e) (λ e' k. Assert e') (λ e' k. omega arith))
  statement_least l ls ms t = omega arith

  part_least : (a : Surroundings) (p : Text_part) → part_nodes a.layers p ≤ least (part_code s a p)
  part_least a (parts.Statement t) = statement_least (written_label s a.label) a.layers a.bodies (statement t.now)
  part_least a (parts.Order ts) = omega arith
  part_least a (parts.Branches bs t) = branches_least (written_label s a.label) a.layers a.bodies (guarded (map branch_parts bs.now)) (otherwise s a t)
  part_least a (parts.Loop t) = omega arith

  pub todo_least : (t : Todo) → todo_nodes t ≤ least (code_of s t)
  todo_least (todos.Text p a) = part_least (around_view a) p
  todo_least t = omega arith
