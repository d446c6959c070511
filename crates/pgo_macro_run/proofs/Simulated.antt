-- What the statements of a macro's block do is what their code does.
use Rattle.std.proofs.Common.{◌≡◌, ℕ, zero, suc, Bool, true, false, List, [], ◌∷◌, ◌++◌, map, length, get_or, replicate, Option, Some, None, option_map, refl, ap, sym, ◌∙◌, subst, append_assoc}
use Rattle.std.proofs.lemmas.List.{append-nil}
use Rattle.std.specs.Prelude.{if◌then◌else◌, option_and_then}
use Rattle.pgo_base.specs.Data.{Data}
use Rattle.pgo_base.specs.Lookup.{Name, Names, Vars, same_name}
use Rattle.pgo_base.specs.Tree.{Tree, name}
use Rattle.pgo_model.specs.Choice.{pick}
use Rattle.pgo_model.specs.Operators.{members_of, truth_of}
use Rattle.pgo_model.specs.Options.{on}
use Rattle.pgo_model.specs.Outcome.{Kind, Blocked, NoValue, AssertFails}
use Rattle.pgo_model.specs.System.{Words}
use Rattle.pgo_model.specs.Val.{Defined, meanings}
use Rattle.pgo_syntax.specs.Statement.{Statement, skip, assign, if_then, if_else, while_do, either_of, await_that, with_in, print_out, assert_that, go_to, call_macro, yield_as, block, Statements, no_statements, more_statements, LabeledStatements, no_labeled, more_labeled, GuardedStatements, no_guarded, more_guarded}
use Rattle.pgo_syntax.specs.declared.assignment.Assignment.{Assignment}
use Rattle.pgo_syntax.specs.declared.assignment.Step.{Step}
use Rattle.pgo_syntax.specs.declared.assignment.Step.TheVariants as step
use Rattle.pgo_syntax.specs.declared.binding.Origin.{Origin}
use Rattle.pgo_syntax.specs.declared.binding.Origin.TheVariants.{Equals, In}
use Rattle.pgo_syntax.specs.declared.binding.WithName.{WithName}
use Rattle.pgo_syntax.specs.declared.name.PlacedName.{PlacedName}
use Rattle.pgo_sections.specs.Access.{place, evaluated}
use Rattle.pgo_sections.specs.BoundValues.{bindable}
use Rattle.pgo_sections.specs.Code as codes
use Rattle.pgo_sections.specs.Code.{Whole, Code, Let, Pick, Set, Seq, Goto, Await, Print, Assert, If, in_turn, content_name, old_base, val_base, at_base}
use Rattle.pgo_sections.specs.Context as contexts
use Rattle.pgo_sections.specs.Context.{Context, block_context, new_content}
use Rattle.pgo_sections.specs.Exec.{exec_arm_with, read_unmapped, becoming}
use Rattle.pgo_sections.specs.Exec as execs
use Rattle.pgo_sections.specs.Macros.{no_reads, no_writes, exec_block}
use Rattle.pgo_sections.specs.SectionRun as runs
use Rattle.pgo_sections.specs.SectionRun.{ChoiceMade, choice_among, SectionRun, Out, Go, Jump, Yielded, Stop, with_value, if_true, go_on, chosen}
use Rattle.pgo_meaning.specs.MacrosPlaced.{unmarked}
use Rattle.pgo_meaning.specs.Parameters.{block_setting}
use Rattle.pgo_meaning.specs.Statements as code
use Rattle.pgo_meaning.specs.Statements.{Part, Index, Field, part_tree, alone, label_of}
use Rattle.pgo_macro_run.specs.Given as given
use Rattle.pgo_macro_run.specs.Given.{Given, Now, Answer, Goes, Yields, Fails, needs, decide, then_do, next_pick, drawn, then_in, setting}
use Rattle.pgo_macro_run.specs.Assigned as assigned
use Rattle.pgo_macro_run.specs.Assigned.{first_mark, next_mark, path_trees, target}
use Rattle.pgo_macro_run.specs.Runs as run_specs
use Rattle.pgo_macro_run.specs.Runs.{jumps}
use Rattle.pgo_macro_run.proofs.Unhoisted.{evaluated_plain}

-- ---- choices of what may be missing, one after another
needs_then : {A B : Type 0} (o : Option A) (f : A → Option B) (u : List ChoiceMade) (h : B → Answer) → needs (option_and_then f o) u h ≡ needs o u (λ v. needs (f v) u h)
needs_then None f u h = refl
needs_then (Some v) f u h = refl

needs_map : {A B C : Type 0} (o : Option A) (f : A → B) (t : B → Option C) (u : List ChoiceMade) (h : C → Answer) → needs (option_and_then t (option_map f o)) u h ≡ needs o u (λ v. needs (t (f v)) u h)
needs_map None f t u h = refl
needs_map (Some v) f t u h = refl

needs_two : {P A B C : Type 0} (o : Option P) (q : P → Option A) (f : P → A → B) (t : B → Option C) (u : List ChoiceMade) (h : C → Answer)
    → needs (option_and_then t (option_and_then (λ p. option_map (f p) (q p)) o)) u h ≡ needs o u (λ p. needs (q p) u (λ v. needs (t (f p v)) u h))
needs_two None q f t u h = refl
needs_two (Some p) q f t u h = needs_map (q p) (f p) t u h

-- ---- made names
replicate_end : (n x : ℕ) → replicate (suc n) x ≡ replicate n x ++ x ∷ []
replicate_end zero x = refl
replicate_end (suc n) x = ap (λ l. x ∷ l) (replicate_end n x)

mark_next : (k : ℕ) → next_mark (place k) ≡ place (suc k)
mark_next k = sym (replicate_end (suc k) 35)

parts_of : List Step → ℕ → List Part
parts_of [] k = []
parts_of (step.Index e ∷ path) k = Index (place k) ∷ parts_of path (suc k)
parts_of (step.Field x ∷ path) k = Field x ∷ parts_of path k

behind : List Step → ℕ → ℕ
behind [] k = k
behind (step.Index e ∷ path) k = behind path (suc k)
behind (step.Field x ∷ path) k = behind path k

-- ---- changes and the content that the block assigned
module _ (old : Data) where
  abbrev pub Holding : Vars → Option Data → Type 0
  Holding [] c = ⊥
  Holding (q ∷ []) c = (q ≡ (content_name, old)) × (c ≡ None)
  Holding (q ∷ (p ∷ rest)) c = (v : Data) × (q ≡ (content_name, v)) × (c ≡ Some v)

  more : (ch : Vars) (c : Option Data) → Holding ch c → (v : Data) → Holding ((content_name, v) ∷ ch) (Some v)
  more [] c h v = absurd h
  more (q ∷ rest) c h v = (v, refl, refl)

  pub new_is : (ch : Vars) (c : Option Data) → Holding ch c → new_content ch ≡ Some c
  new_is [] c h = absurd h
  new_is (q ∷ []) c h = ap Some (sym h.1)
  new_is (q ∷ (p ∷ rest)) c h = ap (λ z. new_content (z ∷ (p ∷ rest))) h.1 ∙ ap Some (sym h.2)

module _ (ds : List Defined) (id old : Data) (d : Words) where
  abbrev pub g : Given
  g = record { defs = ds; id = id; old = old; words = d }

  abbrev pub k : Context
  k = block_context (meanings ds [] None) id

  abbrev pub Agrees : SectionRun → Now → Type 0
  Agrees run n = Holding old run.changes n.content × (run.choices ≡ n.choices)

  -- both end in one way
  abbrev pub Same : Out → Answer → Type 0
  Same (Go run) x = (n : Now) × (x ≡ Goes n) × Agrees run n
  Same (Jump l run) x = x ≡ Fails NoValue run.choices
  Same (Yielded v run) x = (n : Now) × (x ≡ Yields v n) × Agrees run n
  Same (Stop kind run) x = x ≡ Fails kind run.choices

  abbrev exec : Code → Names → SectionRun → Out
  exec c env run = exec_block k c env d run

  value_same : (ch : Vars) (c : Option Data) → Holding old ch c → (e : Tree) (env : Names) → contexts.value_of k e env ch ≡ given.value_of g e env c
  value_same [] c h e env = absurd h
  value_same (q ∷ []) c h e env = ap (λ z. contexts.value_of k e env (z ∷ [])) h.0 ∙ ap (given.value_of g e env) (sym h.1)
  value_same (q ∷ (p ∷ rest)) c h e env = ap (λ z. contexts.value_of k e env (z ∷ (p ∷ rest))) h.1 ∙ ap (given.value_of g e env) (sym h.2)

  failed : (kind : Kind) (run : SectionRun) (n : Now) → Agrees run n → Fails kind n.choices ≡ Fails kind run.choices
  failed kind run n ag = ap (Fails kind) (sym ag.1)

  gone : (run : SectionRun) (n : Now) → Agrees run n → Same (Go run) (Goes n)
  gone run n ag = (n, refl, ag)

  same_value : {A : Type 0} (o p : Option A) → o ≡ p → (run : SectionRun) (n : Now) → Agrees run n → (f : A → Out) (h : A → Answer)
      → ((v : A) → Same (f v) (h v)) → Same (with_value o run f) (needs p n.choices h)
  same_value {A = A} o p e run n ag f h each = subst (λ q. Same (with_value o run f) (needs q n.choices h)) e (go o)
    where
      go : (q : Option A) → Same (with_value q run f) (needs q n.choices h)
      go None = failed NoValue run n ag
      go (Some v) = each v

  same_if : (o p : Option Bool) → o ≡ p → (run : SectionRun) (n : Now) → Agrees run n → (a b : Out) (x y : Answer)
      → Same a x → Same b y → Same (if_true o run a b) (decide p n.choices x y)
  same_if o p e run n ag a b x y s t = subst (λ q. Same (if_true o run a b) (decide q n.choices x y)) e (go o)
    where
      go : (q : Option Bool) → Same (if_true q run a b) (decide q n.choices x y)
      go None = failed NoValue run n ag
      go (Some true) = s
      go (Some false) = t

  same_then : (a : Out) (x : Answer) → Same a x → (f : SectionRun → Out) (h : Now → Answer)
      → ((run : SectionRun) (n : Now) → Agrees run n → Same (f run) (h n)) → Same (go_on a f) (then_do x h)
  same_then (Go run) x s f h each = subst (λ y. Same (f run) (then_do y h)) (sym s.1) (each run s.0 s.2)
  same_then (Jump l run) x s f h each = ap (λ y. then_do y h) s
  same_then (Yielded v run) x s f h each = (s.0, ap (λ y. then_do y h) s.1, s.2)
  same_then (Stop kind run) x s f h each = ap (λ y. then_do y h) s

  -- what comes with a name that is bound to what was found
  abbrev named_then : Name → Names → Answer → (Names → Now → Answer) → Answer
  named_then x env (Goes n) h = h env n
  named_then x env (Yields v n) h = h ((x, Some v) ∷ env) n
  named_then x env (Fails kind u) h = Fails kind u

  named_needs : {A : Type 0} (x : Name) (env : Names) (o : Option A) (u : List ChoiceMade) (f : A → Answer) (h : Names → Now → Answer)
      → named_then x env (needs o u f) h ≡ needs o u (λ v. named_then x env (f v) h)
  named_needs x env None u f h = refl
  named_needs x env (Some v) u f h = refl

  named_in : (x : Name) (env : Names) (a : Answer) (f : Names → Now → given.Bound) (h : Names → Now → Answer)
      → then_in (given.named x env a f) h ≡ named_then x env a (λ env' m. then_in (f env' m) h)
  named_in x env (Goes n) f h = refl
  named_in x env (Yields v n) f h = refl
  named_in x env (Fails kind u) f h = refl

  same_picked : (x : Name) (env : Names) (ms : List Data) (run : SectionRun) (n : Now) → Agrees run n → (f : Data → SectionRun → Out) (h : Names → Now → Answer)
      → ((v : Data) (run' : SectionRun) (m : Now) → Agrees run' m → Same (f v run') (h ((x, Some v) ∷ env) m)) → Same (runs.picked ms d run f) (named_then x env (given.choose d ms n) h)
  same_picked x env [] run n ag f h each = failed Blocked run n ag
  same_picked x env (m ∷ ms) run n ag f h each =
      let count = length (m ∷ ms) in
      let i = pick (d (length run.choices)) count in
      subst (λ cs. let j = pick (d (length cs)) count in Same (f (get_or (m ∷ ms) i m) (chosen count i run)) (h ((x, Some (get_or (m ∷ ms) j m)) ∷ env) (drawn count j n))) ag.1
      (each (get_or (m ∷ ms) i m) (chosen count i run) (drawn count i n) (ag.0, ap (λ cs. choice_among count i ∷ cs) ag.1))

  -- an expression is evaluated as it stands
  plainly : (e : Tree) (j : ℕ) (f : Tree → ℕ → Code) (env : Names) (run : SectionRun) (x : Answer) → Same (exec (f e j) env run) x → Same (exec (evaluated [] e j f) env run) x
  plainly e j f env run x s = subst (λ c. Same (exec c env run) x) (sym (evaluated_plain e j f)) s

  -- ---- `with`
  abbrev Each : Code → (Names → Now → Answer) → Type 0
  Each c h = (env : Names) (run : SectionRun) (n : Now) → Agrees run n → Same (exec c env run) (h env n)

  same_bind : (x : Name) (o : Origin) (c : Code) (h : Names → Now → Answer) → Each c h → Each (code.bind_name block_setting x o c) (λ env n. named_then x env (given.origin g o env n) h)
  same_bind x (Equals e) c h each = λ env run n ag.
      plainly e 0 (λ e' j. Let (unmarked x) x e' c) env run _
      (subst (λ y. Same (exec (Let (unmarked x) x e c) env run) y)
      (sym (named_needs x env (bindable (given.value_of g e env n.content)) n.choices (λ v. Yields v n) h))
      (same_value _ _ (ap bindable (value_same run.changes n.content ag.0 e env)) (read_unmapped k e run) n ag
      (λ v. exec c ((x, Some v) ∷ env) (read_unmapped k e run)) (λ v. h ((x, Some v) ∷ env) n)
      (λ v. each ((x, Some v) ∷ env) (read_unmapped k e run) n ag)))
  same_bind x (In e) c h each = λ env run n ag.
      plainly e 0 (λ e' j. Pick (unmarked x) x e' c) env run _
      (subst (λ y. Same (exec (Pick (unmarked x) x e c) env run) y)
      (sym (named_needs x env (option_and_then members_of (given.value_of g e env n.content)) n.choices (λ ms. given.choose d ms n) h))
      (same_value _ _ (ap (option_and_then members_of) (value_same run.changes n.content ag.0 e env)) (read_unmapped k e run) n ag
      (λ ms. runs.picked ms d (read_unmapped k e run) (λ v then'. exec c ((x, Some v) ∷ env) then'))
      (λ ms. named_then x env (given.choose d ms n) h)
      (λ ms. same_picked x env ms (read_unmapped k e run) n ag (λ v then'. exec c ((x, Some v) ∷ env) then') h
      (λ v run' m ag'. each ((x, Some v) ∷ env) run' m ag'))))

  same_bind_all : (ws : List WithName) (c : Code) (h : Names → Now → Answer) → Each c h → Each (code.bind_names block_setting ws c) (λ env n. then_in (given.bind_all g ws env n) h)
  same_bind_all [] c h each = each
  same_bind_all (w ∷ ws) c h each = λ env run n ag.
      subst (λ y. Same (exec (code.bind_names block_setting (w ∷ ws) c) env run) y)
      (sym (named_in w.name.name env (given.origin g w.origin env n) (λ env' m. given.bind_all g ws env' m) h))
      (same_bind w.name.name w.origin (code.bind_names block_setting ws c) (λ env' m. then_in (given.bind_all g ws env' m) h) (same_bind_all ws c h each) env run n ag)

  -- ---- assignments
  abbrev value : Tree → Names → Option Data → Option Data
  value e env c = given.value_of g e env c

  set_then : (o : Option (Option Data)) (f : Option Data → Option (Option Data)) (n : Now) → setting (option_and_then f o) n ≡ then_do (setting o n) (λ m. setting (f m.content) m)
  set_then None f n = refl
  set_then (Some c) f n = refl

  set_put : (o : Option Data) (n : Now) → setting (option_map (λ v. Some v) o) n ≡ needs o n.choices (λ v. Goes (record n { content = Some v }))
  set_put None n = refl
  set_put (Some v) n = refl

  same_set : (b : Name) (e : Tree) (env : Names) (run : SectionRun) (n : Now) → Agrees run n
      → Same (exec (Set b (Whole content_name) e) env run) (setting (option_map (λ v. Some v) (bindable (value e env n.content))) n)
  same_set b e env run n ag =
      subst (λ y. Same (exec (Set b (Whole content_name) e) env run) y) (sym (set_put (bindable (value e env n.content)) n))
      (same_value _ _ (ap bindable (value_same run.changes n.content ag.0 e env)) (read_unmapped k e run) n ag
      (λ v. Go (becoming (Whole content_name) v (read_unmapped k e run))) (λ v. Goes (record n { content = Some v }))
      (λ v. (record n { content = Some v }, refl, (more old run.changes n.content ag.0 v, ag.1))))

  same_one : (x : Name) (parts : List Part) (w : Name) (env : Names) (run : SectionRun) (n : Now) → Agrees run n
      → Same (exec (code.assigned block_setting x parts w) env run) (setting (assigned.set_one value x (target x (map part_tree parts) w) env n.content) n)
  same_one x parts w env run n ag = go (same_name x content_name)
    where
      go : (b : Bool) → Same (exec (on codes.Empty (if b then Some (Whole content_name) else None) (code.to_variable block_setting x parts w)) env run)
          (setting (if b then option_map (λ v. Some v) (bindable (value (target x (map part_tree parts) w) env n.content)) else Some n.content) n)
      go true = (elim parts as (λ ps. Same (exec (code.to_variable block_setting x ps w (Whole content_name)) env run)
          (setting (option_map (λ v. Some v) (bindable (value (target x (map part_tree ps) w) env n.content))) n)) [
            | [] ↦ same_set old_base (name w) env run n ag
            | p ∷ ps ↦ same_set old_base (code.changed x (p ∷ ps) w) env run n ag
          ])
      go false = gone run n ag

  same_steps : (path : List Step) (j : ℕ) (f : List Part → ℕ → Code) (h : Name × Names → Answer) (env : Names) (run : SectionRun) (n : Now) → Agrees run n
      → ((env' : Names) (run' : SectionRun) → Agrees run' n → Same (exec (f (parts_of path j) (behind path j)) env' run') (h (place (behind path j), env')))
      → Same (exec (code.steps block_setting path j f) env run) (needs (assigned.indices value path (place j) env n.content) n.choices h)
  unfolding parts_of behind
  same_steps [] j f h env run n ag each = each env run ag
  same_steps (step.Index e ∷ path) j f h env run n ag each =
      plainly e j (λ e' i. Let at_base (place i) e' (code.steps block_setting path (suc i) (λ parts. f (Index (place i) ∷ parts)))) env run _
      (subst (λ x. Same (exec (Let at_base (place j) e (code.steps block_setting path (suc j) (λ parts. f (Index (place j) ∷ parts)))) env run) x)
      (sym (needs_then (bindable (given.value_of g e env n.content)) (λ v. assigned.indices value path (next_mark (place j)) ((place j, Some v) ∷ env) n.content) n.choices h))
      (same_value _ _ (ap bindable (value_same run.changes n.content ag.0 e env)) (read_unmapped k e run) n ag
      (λ v. exec (code.steps block_setting path (suc j) (λ parts. f (Index (place j) ∷ parts))) ((place j, Some v) ∷ env) (read_unmapped k e run))
      (λ v. needs (assigned.indices value path (next_mark (place j)) ((place j, Some v) ∷ env) n.content) n.choices h)
      (λ v. subst (λ m. Same (exec (code.steps block_setting path (suc j) (λ parts. f (Index (place j) ∷ parts))) ((place j, Some v) ∷ env) (read_unmapped k e run))
      (needs (assigned.indices value path m ((place j, Some v) ∷ env) n.content) n.choices h)) (sym (mark_next j))
      (same_steps path (suc j) (λ parts. f (Index (place j) ∷ parts)) h ((place j, Some v) ∷ env) (read_unmapped k e run) n ag each))))
  same_steps (step.Field x ∷ path) j f h env run n ag each = same_steps path j (λ parts. f (Field x ∷ parts)) h env run n ag each

  path_same : (path : List Step) (j : ℕ) → path_trees path (place j) ≡ (place (behind path j), map part_tree (parts_of path j))
  unfolding parts_of behind
  path_same [] j = refl
  path_same (step.Index e ∷ path) j =
      ap (λ m. let q = path_trees path m in (q.0, name (place j) ∷ q.1)) (mark_next j) ∙ ap (λ (q : Name × List Tree). (q.0, name (place j) ∷ q.1)) (path_same path (suc j))
  path_same (step.Field x ∷ path) j = ap (λ (q : Name × List Tree). (q.0, part_tree (Field x) ∷ q.1)) (path_same path j)

  codes_of : List Assignment → ℕ → List Code
  codes_of [] j = []
  codes_of (a ∷ as') j = code.assigned block_setting a.left.name.name (parts_of a.left.path j) (place (behind a.left.path j)) ∷ codes_of as' (suc (behind a.left.path j))

  same_sets : (as' : List Assignment) (j : ℕ) (env : Names) (run : SectionRun) (n : Now) → Agrees run n
      → Same (exec (in_turn (codes_of as' j)) env run) (setting (assigned.set_all value as' (place j) env n.content) n)
  unfolding codes_of
  same_sets [] j env run n ag = gone run n ag
  same_sets (a ∷ as') j env run n ag =
      let x = a.left.name.name in
      let b = behind a.left.path j in
      let c = code.assigned block_setting x (parts_of a.left.path j) (place b) in
      subst (λ (q : Name × List Tree). Same (go_on (exec c env run) (λ now. exec (in_turn (codes_of as' (suc b))) env now))
      (setting (option_and_then (λ c'. assigned.set_all value as' (next_mark q.0) env c') (assigned.set_one value x (target x q.1 q.0) env n.content)) n)) (sym (path_same a.left.path j))
      (subst (λ y. Same (go_on (exec c env run) (λ now. exec (in_turn (codes_of as' (suc b))) env now)) y)
      (sym (set_then (assigned.set_one value x (target x (map part_tree (parts_of a.left.path j)) (place b)) env n.content) (λ c'. assigned.set_all value as' (next_mark (place b)) env c') n))
      (same_then (exec c env run) (setting (assigned.set_one value x (target x (map part_tree (parts_of a.left.path j)) (place b)) env n.content) n)
      (same_one x (parts_of a.left.path j) (place b) env run n ag)
      (λ now. exec (in_turn (codes_of as' (suc b))) env now) (λ m. setting (assigned.set_all value as' (next_mark (place b)) env m.content) m)
      (λ now m ag'. subst (λ w. Same (exec (in_turn (codes_of as' (suc b))) env now) (setting (assigned.set_all value as' w env m.content) m)) (sym (mark_next b)) (same_sets as' (suc b) env now m ag'))))

  same_operands : (as' : List Assignment) (j : ℕ) (then' : List Code) (h : Name × Names → Answer) (env : Names) (run : SectionRun) (n : Now) → Agrees run n
      → ((env' : Names) (run' : SectionRun) → Agrees run' n → (m : Name) → Same (exec (in_turn (then' ++ codes_of as' j)) env' run') (h (m, env')))
      → Same (exec (code.assign_all block_setting as' j then') env run) (needs (assigned.all_operands value as' (place j) env n.content) n.choices h)
  unfolding codes_of
  same_operands [] j then' h env run n ag each = subst (λ cs. Same (exec (in_turn cs) env run) (h (place j, env))) (append-nil then') (each env run ag (place j))
  same_operands (a ∷ as') j then' h env run n ag each =
      let x = a.left.name.name in
      let right : Names → Option Data = λ env'. bindable (value a.right env' n.content) in
      let rest : Name → Names → Option (Name × Names) = λ m env'. assigned.all_operands value as' m env' n.content in
      let f : List Part → ℕ → Code = λ path k1. evaluated [] a.right k1 (λ e k2. Let val_base (place k2) e (code.assign_all block_setting as' (suc k2) (then' ++ code.assigned block_setting x path (place k2) ∷ []))) in
      let hh : Name × Names → Answer = λ p. needs (right p.1) n.choices (λ v. needs (rest (next_mark p.0) ((p.0, Some v) ∷ p.1)) n.choices h) in
      subst (λ y. Same (exec (code.steps block_setting a.left.path j f) env run) y)
      (sym (needs_two (assigned.indices value a.left.path (place j) env n.content) (λ p. right p.1) (λ p v. (next_mark p.0, (p.0, Some v) ∷ p.1)) (λ p. rest p.0 p.1) n.choices h))
      (same_steps a.left.path j f hh env run n ag (λ env' run' ag'.
      let b = behind a.left.path j in
      let c = code.assigned block_setting x (parts_of a.left.path j) (place b) in
      plainly a.right b (λ e k2. Let val_base (place k2) e (code.assign_all block_setting as' (suc k2) (then' ++ code.assigned block_setting x (parts_of a.left.path j) (place k2) ∷ []))) env' run' _
      (same_value _ _ (ap bindable (value_same run'.changes n.content ag'.0 a.right env')) (read_unmapped k a.right run') n ag'
      (λ v. exec (code.assign_all block_setting as' (suc b) (then' ++ c ∷ [])) ((place b, Some v) ∷ env') (read_unmapped k a.right run'))
      (λ v. needs (rest (next_mark (place b)) ((place b, Some v) ∷ env')) n.choices h)
      (λ v. subst (λ m. Same (exec (code.assign_all block_setting as' (suc b) (then' ++ c ∷ [])) ((place b, Some v) ∷ env') (read_unmapped k a.right run'))
      (needs (rest m ((place b, Some v) ∷ env')) n.choices h)) (sym (mark_next b))
      (same_operands as' (suc b) (then' ++ c ∷ []) h ((place b, Some v) ∷ env') (read_unmapped k a.right run') n ag'
      (λ env2 run2 ag2 m2. subst (λ cs. Same (exec (in_turn cs) env2 run2) (h (m2, env2))) (sym (append_assoc then' (c ∷ []) (codes_of as' (suc b)))) (each env2 run2 ag2 m2)))))))

  same_assigned : (as' : List Assignment) (env : Names) (run : SectionRun) (n : Now) → Agrees run n
      → Same (exec (code.assignment_code block_setting as') env run) (setting (assigned.assigned value as' env n.content) n)
  same_assigned as' env run n ag = go (alone as')
    where
      go : (o : Option Tree) → Same (exec (on (code.assign_all block_setting as' 0 []) o (λ e. Set old_base (Whole content_name) e)) env run)
          (setting (on (option_and_then (λ env'. assigned.set_all value as' first_mark env' n.content) (option_map (λ p. p.1) (assigned.all_operands value as' first_mark env n.content))) o (λ e. option_map (λ v. Some v) (bindable (value e env n.content)))) n)
      go (Some e) = same_set old_base e env run n ag
      go None =
          subst (λ y. Same (exec (code.assign_all block_setting as' 0 []) env run) y)
          (sym (needs_map (assigned.all_operands value as' first_mark env n.content) (λ (p : Name × Names). p.1) (λ env'. assigned.set_all value as' first_mark env' n.content) n.choices (λ c. Goes (record n { content = c }))))
          (same_operands as' 0 [] (λ p. setting (assigned.set_all value as' first_mark p.1 n.content) n) env run n ag (λ env' run' ag' m. same_sets as' 0 env' run' n ag'))

  -- ---- statements
  arms_counted : (l : Name) (ts : Statements) → execs.count (code.arms block_setting l ts) ≡ run_specs.count ts
  arms_counted l no_statements = refl
  arms_counted l (more_statements t ts) = ap suc (arms_counted l ts)

  module _ (l : Name) where
    labelled : (x : Option PlacedName) (c : Code) (env : Names) (run : SectionRun) (n : Now) (y : Answer) → Agrees run n → Same (exec c env run) y
        → Same (exec (on c x (λ z. Goto (label_of [] z.name))) env run) (on y x (λ z. Fails NoValue n.choices))
    labelled None c env run n y ag s = s
    labelled (Some z) c env run n y ag s = failed NoValue run n ag

    conditional : (e : Tree) (a b : Code) (env : Names) (run : SectionRun) (n : Now) (x y : Answer) → Agrees run n
        → ((run' : SectionRun) → Agrees run' n → Same (exec a env run') x) → ((run' : SectionRun) → Agrees run' n → Same (exec b env run') y)
        → Same (exec (If e a b) env run) (decide (truth_of (given.value_of g e env n.content)) n.choices x y)
    conditional e a b env run n x y ag s t =
        same_if _ _ (ap truth_of (value_same run.changes n.content ag.0 e env)) (read_unmapped k e run) n ag
        (exec a env (read_unmapped k e run)) (exec b env (read_unmapped k e run)) x y (s (read_unmapped k e run) ag) (t (read_unmapped k e run) ag)

    mutual
      pub same_run : (s : Statement) (env : Names) (run : SectionRun) (n : Now) → Agrees run n → Same (exec (code.code block_setting l s) env run) (run_specs.run g s env n)
      same_run (skip p) env run n ag = gone run n ag
      same_run (assign p as') env run n ag = same_assigned as' env run n ag
      same_run (if_then p bs) env run n ag = same_branches bs codes.Empty (Goes n) env run n ag (λ run' ag'. gone run' n ag')
      same_run (if_else p bs t) env run n ag = same_branches bs (code.code block_setting l t) (run_specs.run g t env n) env run n ag (λ run' ag'. same_run t env run' n ag')
      same_run (while_do p e t) env run n ag =
          plainly e 0 (λ e' j. If e' (Seq (code.code block_setting l t) (Goto l)) codes.Empty) env run _
          (conditional e (Seq (code.code block_setting l t) (Goto l)) codes.Empty env run n (jumps (run_specs.run g t env n)) (Goes n) ag
          (λ run' ag'. same_then (exec (code.code block_setting l t) env run') (run_specs.run g t env n) (same_run t env run' n ag')
          (λ now. exec (Goto l) env now) (λ m. Fails NoValue m.choices) (λ now m ag2. failed NoValue now m ag2))
          (λ run' ag'. gone run' n ag'))
      same_run (either_of p ts) env run n ag =
          let count = execs.count (code.arms block_setting l ts) in
          let i = pick (d (length run.choices)) count in
          subst (λ many. let j = next_pick d n many in Same (exec (codes.Either (code.arms block_setting l ts)) env run) (run_specs.arm g ts j env (drawn many j n))) (arms_counted l ts)
          (subst (λ cs. let j = pick (d (length cs)) count in Same (exec (codes.Either (code.arms block_setting l ts)) env run) (run_specs.arm g ts j env (drawn count j n))) ag.1
          (same_arm ts i env (chosen count i run) (drawn count i n) (ag.0, ap (λ cs. choice_among count i ∷ cs) ag.1)))
      same_run (await_that p e) env run n ag =
          plainly e 0 (λ e' j. Await e') env run _
          (same_if _ _ (ap truth_of (value_same run.changes n.content ag.0 e env)) (read_unmapped k e run) n ag
          (Go (read_unmapped k e run)) (Stop Blocked (read_unmapped k e run)) (Goes n) (Fails Blocked n.choices) (gone (read_unmapped k e run) n ag) (failed Blocked (read_unmapped k e run) n ag))
      same_run (with_in p ws t) env run n ag = same_bind_all ws (code.code block_setting l t) (λ env' m. run_specs.run g t env' m) (λ env' run' m ag'. same_run t env' run' m ag') env run n ag
      same_run (print_out p e) env run n ag =
          plainly e 0 (λ e' j. Print e') env run _
          (same_value _ _ (value_same run.changes n.content ag.0 e env) (read_unmapped k e run) n ag
          (λ v. Go (runs.printed v (read_unmapped k e run))) (λ v. Goes n) (λ v. (n, refl, ag)))
      same_run (assert_that p e) env run n ag =
          plainly e 0 (λ e' j. Assert e') env run _
          (same_if _ _ (ap truth_of (value_same run.changes n.content ag.0 e env)) (read_unmapped k e run) n ag
          (Go (read_unmapped k e run)) (Stop AssertFails (read_unmapped k e run)) (Goes n) (Fails AssertFails n.choices) (gone (read_unmapped k e run) n ag) (failed AssertFails (read_unmapped k e run) n ag))
      same_run (go_to p x) env run n ag = failed NoValue run n ag
      same_run (call_macro p m es) env run n ag = gone run n ag
      same_run (yield_as p e) env run n ag =
          same_value _ _ (ap bindable (value_same run.changes n.content ag.0 e env)) run n ag (λ v. Yielded v run) (λ v. Yields v n) (λ v. (n, refl, ag))
      same_run (block p ls) env run n ag = same_rows ls env run n ag

      pub same_branches : (bs : GuardedStatements) (c : Code) (x : Answer) (env : Names) (run : SectionRun) (n : Now) → Agrees run n
          → ((run' : SectionRun) → Agrees run' n → Same (exec c env run') x) → Same (exec (code.branches block_setting l bs c) env run) (run_specs.branches g bs x env n)
      same_branches no_guarded c x env run n ag other = other run ag
      same_branches (more_guarded p e t bs) c x env run n ag other =
          plainly e 0 (λ e' j. If e' (code.code block_setting l t) (code.branches block_setting l bs c)) env run _
          (conditional e (code.code block_setting l t) (code.branches block_setting l bs c) env run n (run_specs.run g t env n) (run_specs.branches g bs x env n) ag
          (λ run' ag'. same_run t env run' n ag') (λ run' ag'. same_branches bs c x env run' n ag' other))

      same_arm : (ts : Statements) (i : ℕ) (env : Names) (run : SectionRun) (n : Now) → Agrees run n
          → Same (exec_arm_with no_reads no_writes k (code.arms block_setting l ts) i env d run) (run_specs.arm g ts i env n)
      same_arm no_statements i env run n ag = failed NoValue run n ag
      same_arm (more_statements t ts) zero env run n ag = same_run t env run n ag
      same_arm (more_statements t ts) (suc i) env run n ag = same_arm ts i env run n ag

      pub same_rows : (ls : LabeledStatements) (env : Names) (run : SectionRun) (n : Now) → Agrees run n → Same (exec (code.in_order block_setting l ls) env run) (run_specs.rows g ls env n)
      same_rows no_labeled env run n ag = gone run n ag
      same_rows (more_labeled x t ls) env run n ag =
          labelled x (Seq (code.code block_setting l t) (code.in_order block_setting l ls)) env run n (then_do (run_specs.run g t env n) (λ m. run_specs.rows g ls env m)) ag
          (same_then (exec (code.code block_setting l t) env run) (run_specs.run g t env n) (same_run t env run n ag)
          (λ now. exec (code.in_order block_setting l ls) env now) (λ m. run_specs.rows g ls env m) (λ now m ag'. same_rows ls env now m ag'))
