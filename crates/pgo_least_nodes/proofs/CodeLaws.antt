-- The code of a statement, with macros and their arguments in place, has what is counted of the statement.
use Rattle.std.proofs.Common.{◌≡◌, ◌≤◌, ℕ, suc, ◌+◌, Bool, true, false, List, [], ◌∷◌, ◌++◌, map, Option, Some, None, refl, sym, subst, arith}
use Rattle.std.specs.Prelude.{if◌then◌else◌, ◌&&◌}
use Rattle.pgo_base.specs.Lookup.{Name, find, same_name}
use Rattle.pgo_base.specs.Tree.{Tree}
use Rattle.pgo_effects.specs.Puts.{Layers, puts, puts_each, puts_among, puts_guarded, puts_tree, puts_assignment, puts_origin, puts_name, puts_names, behind_name, behind_names}
use Rattle.pgo_effects.proofs.PutLaws.{each_none, each_more, among_none, among_more, guarded_none, guarded_more, puts_skip, puts_assign, puts_if, puts_if_else, puts_while, puts_either, puts_await, puts_print, puts_assert, puts_call, puts_block, puts_walked, puts_with, puts_equals, puts_in}
use Rattle.pgo_meaning.specs.MacrosPlaced.{argument, put_tree, Body, Bodies, bodies_with, bodies, handed, put, walked, unmarked, placed, placed_each, placed_among, placed_guarded}
use Rattle.pgo_meaning.specs.Statements.{Setting, Part, Index, Field, to_variable, assigned, index_of, steps, assign_all, assignment_code, bind_name, bind_names, code, branches, arms, in_order}
use Rattle.pgo_model.specs.Options.{on}
use Rattle.pgo_put_sizes.specs.Least.{passes, yields}
use Rattle.pgo_sections.specs.Access.{Mapped, MappedNames, place, evaluated}
use Rattle.pgo_sections.specs.Nodes.{tree_nodes}
use Rattle.pgo_put_sizes.proofs.Replaced.{replaced_nodes}
use Rattle.pgo_syntax.specs.Origins.{origin_tree}
use Rattle.pgo_sections.specs.Code.{Place, Code, Empty, Skip, Let, Pick, Await, Assert, Print, If, Seq, Goto, in_turn, at_base, val_base, Write}
use Rattle.pgo_syntax.specs.Statement.{Statement, skip, assign, if_then, if_else, while_do, either_of as either, await_that, with_in, print_out, assert_that, go_to, call_macro, yield_as, block, Statements, no_statements, more_statements, LabeledStatements, no_labeled, more_labeled, GuardedStatements, no_guarded, more_guarded, labeled}
use Rattle.pgo_syntax.specs.declared.assignment.Assignment.{Assignment}
use Rattle.pgo_syntax.specs.declared.assignment.Step.{Step}
use Rattle.pgo_syntax.specs.declared.assignment.Step.TheVariants as steps_of
use Rattle.pgo_syntax.specs.declared.binding.Origin.{Origin}
use Rattle.pgo_syntax.specs.declared.binding.Origin.TheVariants.{Equals, In}
use Rattle.pgo_syntax.specs.declared.binding.WithName.{WithName}
use Rattle.pgo_syntax.specs.declared.macros.Macro.{Macro}
use Rattle.pgo_syntax.specs.declared.name.PlacedName.{PlacedName}
use Rattle.pgo_least_nodes.specs.Counts.{none, step, jump, plain, both, then', said, said_first, called, Table, counts, arms_counts, branches_counts, row_counts, counts_with, macro_counts}
use Rattle.pgo_least_nodes.specs.declared.count.Count.{Count}
use Rattle.pgo_least_nodes.specs.declared.count.Counts.{Counts}
use Rattle.pgo_least_nodes.proofs.Numbers.{step_then}
use Rattle.pgo_least_nodes.proofs.Paths.{Has, HasMore, ArmsHave, passes_has, jump_has, skip_has, then_has, let_has, let_keeps, pick_has, await_has, assert_has, print_has, if_has, fewer, no_more_of, with_none, said_then, said_only, either_has, no_arms_have, more_arms_have, reads_keep, evaluated_has}

-- the statements of a process
abbrev pub process_setting : Name → MappedNames → List (Name × Place) → Setting
process_setting p mapped places = record { process = p; mapped = mapped; places = places; is_block = false }

abbrev pub ReadsYield : MappedNames → Type 0
ReadsYield mapped = (x : Name) (m : Mapped) → find x mapped ≡ Some m → yields m.reads ≡ true

abbrev pub WritesYield : MappedNames → Type 0
WritesYield mapped = (x : Name) (m : Mapped) → find x mapped ≡ Some m → yields m.writes ≡ true

-- each of these leads on
abbrev Lead : List Code → Type 0
Lead [] = Unit {0}
Lead (c ∷ cs) = (passes c ≡ true) × Lead cs

one_more : (cs : List Code) (c : Code) → Lead cs → passes c ≡ true → Lead (cs ++ c ∷ [])
one_more [] c h g = (g, tt)
one_more (d ∷ ds) c h g = (h.0, one_more ds c h.1 g)

turn_leads : (cs : List Code) → Lead cs → passes (in_turn cs) ≡ true
turn_leads [] h = refl
turn_leads (c ∷ cs) h = λ i. h.0 i && turn_leads cs h.1 i

-- arguments in the place of names lose no node
puts_nodes : (ls : Layers) (e : Tree) → tree_nodes e ≤ tree_nodes (puts_tree ls e)
puts_nodes [] e = omega arith
puts_nodes (es ∷ ls) e = omega (arith, replaced_nodes (argument es) [] e, puts_nodes ls (put_tree es e))

module _ (p : Name) (mapped : MappedNames) (places : List (Name × Place)) (reads : ReadsYield mapped) (writes : WritesYield mapped) where
  abbrev s : Setting
  s = process_setting p mapped places

  read_before : (w : Count) (e : Tree) (k : ℕ) (f : Tree → ℕ → Code) → ((e' : Tree) (k' : ℕ) → HasMore (suc (tree_nodes e')) w (f e' k')) → HasMore (suc (tree_nodes e)) w (evaluated mapped e k f)
  read_before w e k f h = evaluated_has mapped reads w e k f h

  -- what follows a value that is bound has what it has
  bound_before : (w : Count) (b x : Name) (e : Tree) (c : Code) → Has w c → HasMore (suc (tree_nodes e)) w (Let b x e c)
  bound_before w b x e c h = fewer (suc (tree_nodes e) + 0) (suc (tree_nodes e)) w (Let b x e c) (omega arith) (let_has 0 w b x e c (with_none w c h))

  picked_before : (w : Count) (b x : Name) (e : Tree) (c : Code) → Has w c → HasMore (suc (tree_nodes e)) w (Pick b x e c)
  picked_before w b x e c h = fewer (suc (tree_nodes e) + 0) (suc (tree_nodes e)) w (Pick b x e c) (omega arith) (pick_has 0 w b x e c (with_none w c h))

  -- ---- assignments

  variable_leads : (x : Name) (path : List Part) (w : Name) (o : Option Place) → passes (on Empty o (to_variable s x path w)) ≡ true
  variable_leads x path w None = refl
  variable_leads x [] w (Some q) = refl
  variable_leads x (i ∷ path) w (Some q) = refl

  assigned_leads : (x : Name) (path : List Part) (w : Name) → passes (assigned s x path w) ≡ true
  assigned_leads x path w = go (find x mapped) (λ m e. writes x m e)
    where
      go : (o : Option Mapped) → ((m : Mapped) → o ≡ Some m → yields m.writes ≡ true)
          → passes (on (on Empty (find x places) (to_variable s x path w)) o (λ m. Write m.global (index_of path) w m.writes)) ≡ true
      go None h = variable_leads x path w (find x places)
      go (Some m) h = h m refl

  steps_have : (r : ℕ) (w : Count) (path : List Step) (k : ℕ) (f : List Part → ℕ → Code) → ((ps : List Part) (j : ℕ) → HasMore r w (f ps j)) → HasMore r w (steps s path k f)
  steps_have r w [] k f h = h [] k
  steps_have r w (steps_of.Index e ∷ path) k f h =
      reads_keep mapped reads r w e k (λ e' j. Let at_base (place j) e' (steps s path (suc j) (λ parts. f (Index (place j) ∷ parts))))
      (λ e' j.
      let_keeps r w at_base (place j) e' (steps s path (suc j) (λ parts. f (Index (place j) ∷ parts)))
      (steps_have r w path (suc j) (λ parts. f (Index (place j) ∷ parts)) (λ ps i. h (Index (place j) ∷ ps) i)))
  steps_have r w (steps_of.Field x ∷ path) k f h = steps_have r w path k (λ parts. f (Field x ∷ parts)) (λ ps j. h (Field x ∷ ps) j)

  -- the assignments behind the first
  all_lead : (as' : List Assignment) (k : ℕ) (cs : List Code) → Lead cs → Has (step 0) (assign_all s as' k cs)
  all_lead [] k cs h = passes_has (in_turn cs) (turn_leads cs h)
  all_lead (a ∷ as') k cs h =
      let more = λ (path : List Part) (j : ℕ). cs ++ assigned s a.left.name.name path (place j) ∷ [] in
      no_more_of 0 (step 0) (assign_all s (a ∷ as') k cs)
      (steps_have 0 (step 0) a.left.path k (λ path k1. evaluated mapped a.right k1 (λ e k2. Let val_base (place k2) e (assign_all s as' (suc k2) (more path k2))))
      (λ path k1.
      reads_keep mapped reads 0 (step 0) a.right k1 (λ e k2. Let val_base (place k2) e (assign_all s as' (suc k2) (more path k2)))
      (λ e k2.
      let_keeps 0 (step 0) val_base (place k2) e (assign_all s as' (suc k2) (more path k2))
      (with_none (step 0) (assign_all s as' (suc k2) (more path k2))
      (all_lead as' (suc k2) (more path k2) (one_more cs (assigned s a.left.name.name path (place k2)) h (assigned_leads a.left.name.name path (place k2))))))))

  first_has : (a : Assignment) (as' : List Assignment) → HasMore (suc (tree_nodes a.right)) (step 0) (assign_all s (a ∷ as') 0 [])
  first_has a as' =
      let more = λ (path : List Part) (j : ℕ). assigned s a.left.name.name path (place j) ∷ [] in
      steps_have (suc (tree_nodes a.right)) (step 0) a.left.path 0 (λ path k1. evaluated mapped a.right k1 (λ e k2. Let val_base (place k2) e (assign_all s as' (suc k2) (more path k2))))
      (λ path k1.
      read_before (step 0) a.right k1 (λ e k2. Let val_base (place k2) e (assign_all s as' (suc k2) (more path k2)))
      (λ e k2.
      bound_before (step 0) val_base (place k2) e (assign_all s as' (suc k2) (more path k2))
      (all_lead as' (suc k2) (more path k2) (assigned_leads a.left.name.name path (place k2), tt))))

  assign_has : (ls : Layers) (as' : List Assignment) → Has (said_first (map (λ a. a.right) as')) (assignment_code s (map (puts_assignment ls) as'))
  assign_has ls [] = all_lead [] 0 [] tt
  assign_has ls (a ∷ as') =
      said_only a.right (tree_nodes (puts_tree ls a.right)) (assign_all s (map (puts_assignment ls) (a ∷ as')) 0 []) (puts_nodes ls a.right)
      (first_has (puts_assignment ls a) (map (puts_assignment ls) as'))

  -- ---- the names of a `with`

  name_has : (w : Count) (x : Name) (o : Origin) (c : Code) → Has w c → HasMore (suc (tree_nodes (origin_tree o))) w (bind_name s x o c)
  name_has w x (Equals e) c h = read_before w e 0 (λ e' k. Let (unmarked x) x e' c) (λ e' k. bound_before w (unmarked x) x e' c h)
  name_has w x (In e) c h = read_before w e 0 (λ e' k. Pick (unmarked x) x e' c) (λ e' k. picked_before w (unmarked x) x e' c h)

  names_keep : (w : Count) (ws : List WithName) (c : Code) → Has w c → Has w (bind_names s ws c)
  names_keep w [] c h = h
  names_keep w (n ∷ ns) c h =
      no_more_of (suc (tree_nodes (origin_tree n.origin))) w (bind_name s n.name.name n.origin (bind_names s ns c)) (name_has w n.name.name n.origin (bind_names s ns c) (names_keep w ns c h))

  origin_nodes : (ls : Layers) (o : Origin) → tree_nodes (origin_tree o) ≤ tree_nodes (origin_tree (puts_origin ls o))
  origin_nodes ls (Equals e) = subst (λ o. tree_nodes e ≤ tree_nodes (origin_tree o)) (sym (puts_equals ls e)) (puts_nodes ls e)
  origin_nodes ls (In e) = subst (λ o. tree_nodes e ≤ tree_nodes (origin_tree o)) (sym (puts_in ls e)) (puts_nodes ls e)

  names_have : (w : Count) (ls : Layers) (ws : List WithName) (c : Code) → Has w c → Has (then' (said_first (map (λ w. origin_tree w.origin) ws)) w) (bind_names s (puts_names ls ws) c)
  names_have w ls [] c h = λ m ps ren cur n k j y g. omega (arith, step_then 0 w m, h m ps ren cur n k j y g)
  names_have w ls (x ∷ ws) c h =
      let n = puts_name ls x in
      let rest = puts_names (behind_name ls x.name.name) ws in
      said_then (origin_tree x.origin) (tree_nodes (origin_tree n.origin)) w (bind_name s n.name.name n.origin (bind_names s rest c)) (origin_nodes ls x.origin)
      (name_has w n.name.name n.origin (bind_names s rest c) (names_keep w rest c h))

  -- ---- statements

  -- what is counted of a macro is there whatever its arguments are
  abbrev pub MacroHas : Option Count → Option Body → Type 0
  MacroHas None None = Unit {0}
  MacroHas (Some w) (Some b) = (ls : Layers) (l : Name) → Has w (code s l (puts ls b.statement))
  MacroHas None (Some b) = ⊥
  MacroHas (Some w) None = ⊥

  abbrev pub MacrosHave : Table → Bodies → Type 0
  MacrosHave ts ms = (x : Name) → MacroHas (find x ts) (find x ms)

  has_as : (w : Count) (l : Name) (t u : Statement) → t ≡ u → Has w (code s l u) → Has w (code s l t)
  has_as w l t u e h = subst (λ v. Has w (code s l v)) (sym e) h

  call_has : (l : Name) (ls : Layers) (q : ℕ) (x : PlacedName) (es : List Tree) (o : Option Count) (b : Option Body) → MacroHas o b
      → Has (called o) (code s l (puts ls (on (call_macro q x es) b (λ m. walked q (put (handed m.parameters es) m.statement)))))
  call_has l ls q x es None None h = has_as (step 0) l (puts ls (call_macro q x es)) (call_macro q x es) (puts_call ls q x es) (passes_has Empty refl)
  call_has l ls q x es (Some w) (Some b) h =
      has_as (then' (step 1) w) l (puts ls (walked q (put (handed b.parameters es) b.statement))) (walked q (puts (handed b.parameters es ∷ ls) b.statement))
      (puts_walked ls q (put (handed b.parameters es) b.statement))
      (then_has (step 1) w Skip (Seq (code s l (puts (handed b.parameters es ∷ ls) b.statement)) Empty) skip_has
      (λ m ps ren cur n k j y g. h (handed b.parameters es ∷ ls) l m ps ren cur n (λ cur' n'. k cur' n') j y g))
  call_has l ls q x es None (Some b) h = absurd h
  call_has l ls q x es (Some w) None h = absurd h

  test_has : (ls : Layers) (a b : Count) (e : Tree) (c d : Code) → Has a c → Has b d → Has (then' (said e) (both a b)) (evaluated mapped (puts_tree ls e) 0 (λ e' k. If e' c d))
  test_has ls a b e c d f g =
      said_then e (tree_nodes (puts_tree ls e)) (both a b) (evaluated mapped (puts_tree ls e) 0 (λ e' k. If e' c d)) (puts_nodes ls e)
      (read_before (both a b) (puts_tree ls e) 0 (λ e' k. If e' c d) (λ e' k. if_has a b e' c d f g))

  alone_has : (ls : Layers) (e : Tree) (f : Tree → Code) → ((e' : Tree) → HasMore (suc (tree_nodes e')) (step 0) (f e')) → Has (said e) (evaluated mapped (puts_tree ls e) 0 (λ e' k. f e'))
  alone_has ls e f h =
      said_only e (tree_nodes (puts_tree ls e)) (evaluated mapped (puts_tree ls e) 0 (λ e' k. f e')) (puts_nodes ls e) (read_before (step 0) (puts_tree ls e) 0 (λ e' k. f e') (λ e' k. h e'))

  module _ (ts : Table) (ms : Bodies) (ok : MacrosHave ts ms) where
    mutual
      pub code_has : (l : Name) (ls : Layers) (t : Statement) → Has (counts ts t).own (code s l (puts ls (placed ms t)))
      code_has l ls (skip q) = has_as (step 1) l _ (skip q) (puts_skip ls q) skip_has
      code_has l ls (assign q as') = has_as (said_first (map (λ a. a.right) as')) l _ (assign q (map (puts_assignment ls) as')) (puts_assign ls q as') (assign_has ls as')
      code_has l ls (if_then q bs) =
          has_as (branches_counts ts (plain (step 0)) bs).own l _ (if_then q (puts_guarded ls (placed_guarded ms bs))) (puts_if ls q (placed_guarded ms bs))
          (branches_have l ls bs (plain (step 0)) Empty (passes_has Empty refl))
      code_has l ls (if_else q bs t) =
          has_as (branches_counts ts (counts ts t) bs).own l _ (if_else q (puts_guarded ls (placed_guarded ms bs)) (puts ls (placed ms t))) (puts_if_else ls q (placed_guarded ms bs) (placed ms t))
          (branches_have l ls bs (counts ts t) (code s l (puts ls (placed ms t))) (code_has l ls t))
      code_has l ls (while_do q e t) =
          let body = code s l (puts ls (placed ms t)) in
          has_as (counts ts (while_do q e t)).own l _ (while_do q (puts_tree ls e) (puts ls (placed ms t))) (puts_while ls q e (placed ms t))
          (test_has ls (then' (counts ts t).own jump) (step 0) e (Seq body (Goto l)) Empty
          (then_has (counts ts t).own jump body (Goto l) (code_has l ls t) (jump_has (Goto l)))
          (passes_has Empty refl))
      code_has l ls (either q us) =
          has_as (counts ts (either q us)).own l _ (either q (puts_each ls (placed_each ms us))) (puts_either ls q (placed_each ms us))
          (either_has (arms_counts ts us).own (arms s l (puts_each ls (placed_each ms us))) (arms_have l ls us))
      code_has l ls (await_that q e) =
          has_as (said e) l _ (await_that q (puts_tree ls e)) (puts_await ls q e) (alone_has ls e (λ e'. Await e') (λ e'. await_has e'))
      code_has l ls (with_in q ws t) =
          has_as (counts ts (with_in q ws t)).own l _ (with_in q (puts_names ls ws) (puts (behind_names ls ws) (placed ms t))) (puts_with ls q ws (placed ms t))
          (names_have (counts ts t).own ls ws (code s l (puts (behind_names ls ws) (placed ms t))) (code_has l (behind_names ls ws) t))
      code_has l ls (print_out q e) =
          has_as (said e) l _ (print_out q (puts_tree ls e)) (puts_print ls q e) (alone_has ls e (λ e'. Print e') (λ e'. print_has e'))
      code_has l ls (assert_that q e) =
          has_as (said e) l _ (assert_that q (puts_tree ls e)) (puts_assert ls q e) (alone_has ls e (λ e'. Assert e') (λ e'. assert_has e'))
      code_has l ls (go_to q x) = jump_has (code s l (puts ls (go_to q x)))
      code_has l ls (call_macro q x es) = call_has l ls q x es (find x.name ts) (find x.name ms) (ok x.name)
      code_has l ls (yield_as q e) = jump_has (code s l (puts ls (yield_as q e)))
      code_has l ls (block q us) = has_as (row_counts ts us).own l _ (block q (puts_among ls (placed_among ms us))) (puts_block ls q (placed_among ms us)) (row_has l ls us)

      arms_have : (l : Name) (ls : Layers) (us : Statements) → ArmsHave (arms_counts ts us).own (arms s l (puts_each ls (placed_each ms us)))
      arms_have l ls no_statements = subst (λ v. ArmsHave none (arms s l v)) (sym (each_none ls)) no_arms_have
      arms_have l ls (more_statements t us) =
          subst (λ v. ArmsHave (both (counts ts t).own (arms_counts ts us).own) (arms s l v)) (sym (each_more ls (placed ms t) (placed_each ms us)))
          (more_arms_have (counts ts t).own (arms_counts ts us).own (code s l (puts ls (placed ms t))) (arms s l (puts_each ls (placed_each ms us))) (code_has l ls t) (arms_have l ls us))

      branches_have : (l : Name) (ls : Layers) (bs : GuardedStatements) (other : Counts) (c : Code) → Has other.own c
          → Has (branches_counts ts other bs).own (branches s l (puts_guarded ls (placed_guarded ms bs)) c)
      branches_have l ls no_guarded other c h = subst (λ v. Has other.own (branches s l v c)) (sym (guarded_none ls)) h
      branches_have l ls (more_guarded q e t bs) other c h =
          let rest = branches s l (puts_guarded ls (placed_guarded ms bs)) c in
          subst (λ v. Has (branches_counts ts other (more_guarded q e t bs)).own (branches s l v c)) (sym (guarded_more ls q e (placed ms t) (placed_guarded ms bs)))
          (test_has ls (counts ts t).own (branches_counts ts other bs).own e (code s l (puts ls (placed ms t))) rest (code_has l ls t) (branches_have l ls bs other c h))

      pub row_has : (l : Name) (ls : Layers) (us : LabeledStatements) → Has (row_counts ts us).own (in_order s l (puts_among ls (placed_among ms us)))
      row_has l ls no_labeled = subst (λ v. Has (step 0) (in_order s l v)) (sym (among_none ls)) (passes_has Empty refl)
      row_has l ls (more_labeled None t us) =
          subst (λ v. Has (then' (counts ts t).own (row_counts ts us).own) (in_order s l v)) (sym (among_more ls None (placed ms t) (placed_among ms us)))
          (then_has (counts ts t).own (row_counts ts us).own (code s l (puts ls (placed ms t))) (in_order s l (puts_among ls (placed_among ms us))) (code_has l ls t) (row_has l ls us))
      row_has l ls (more_labeled (Some x) t us) = jump_has (in_order s l (puts_among ls (placed_among ms (more_labeled (Some x) t us))))

  -- ---- macros

  one_more_has : (ts : Table) (ms : Bodies) (m : Macro) (b : Body) (w : Count) → MacrosHave ts ms → MacroHas (Some w) (Some b) → MacrosHave ((m.name.name, w) ∷ ts) ((m.name.name, b) ∷ ms)
  one_more_has ts ms m b w ok h x = go (same_name x m.name.name)
    where
      go : (c : Bool) → MacroHas (if c then Some w else find x ts) (if c then Some b else find x ms)
      go true = h
      go false = ok x

  macros_with : (ts : Table) (ms : Bodies) (rest : List Macro) → MacrosHave ts ms → MacrosHave (counts_with ts rest) (bodies_with ms rest)
  macros_with ts ms [] ok = ok
  macros_with ts ms (m ∷ rest) ok =
      let b : Body = record { parameters = map (λ p. p.name) m.params; statement = placed ms (block 0 (labeled m.body)) } in
      let w = (row_counts ts (labeled m.body)).own in
      macros_with ((m.name.name, w) ∷ ts) ((m.name.name, b) ∷ ms) rest
      (one_more_has ts ms m b w ok (λ ls l. code_has ts ms ok l ls (block 0 (labeled m.body))))

  pub macros_have : (ms : List Macro) → MacrosHave (macro_counts ms) (bodies ms)
  macros_have ms = macros_with [] [] ms (λ x. tt)
