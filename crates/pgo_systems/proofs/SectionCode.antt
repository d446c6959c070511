-- What code does on values gives values: the changes along a section, the contents that mapping macros give, and its end.
use Rattle.std.proofs.Common.{◌≡◌, ◌⊎◌, ℕ, zero, suc, Bool, true, false, if◌then◌else◌, List, [], ◌∷◌, ◌++◌, length, get_or, Option, Some, None, refl, ap, ◌∙◌, subst, option_map, option_and_then, inl, inr, ⊎_elim}
use Rattle.std.proofs.lemmas.Option.{same_Some}
use Rattle.pgo_base.specs.Data.{Data}
use Rattle.pgo_base.specs.Lookup.{Name, Names, Vars, same_name, find}
use Rattle.pgo_base.specs.Tree.{Tree}
use Rattle.pgo_model.specs.Operators.{members_of, truth_of, apply, except, set_from}
use Rattle.pgo_model.specs.Options.{on}
use Rattle.pgo_model.specs.Outcome.{Blocked, AssertFails}
use Rattle.pgo_model.specs.System.{Words}
use Rattle.pgo_model.specs.Val.{Meaning}
use Rattle.pgo_model.specs.Written.{self_name}
use Rattle.pgo_sections.specs.Code.{Place, Whole, Own, variable_of, Code, Empty, Skip, Let, Pick, Become, Set, Await, Assert, Print, If, Either, Seq, Goto, Yield, Read, Write, Codes, no_codes, more_codes}
use Rattle.pgo_sections.specs.Context.{Context, value_before, value_now, content, with_content, put_content, put_new, view, value_of, index_value}
use Rattle.pgo_sections.specs.Exec.{MacroEnd, Gives, Stops, with_choices, if_gives, touching, read_unmapped, becoming, count, Reads, Writes, exec_with, exec_arm_with}
use Rattle.pgo_sections.specs.BoundValues.{bindable, value_under, put_part}
use Rattle.pgo_sections.specs.SectionRun.{ChoiceMade, SectionRun, printed, picked_number, chosen, Out, Go, Jump, Yielded, Stop, with_value, if_true, picked, go_on}
use Rattle.pgo_values.specs.Within.{IsWithin, EachWithin, Within, NamesWithin, FoundWithin, CallsWithin, ContextWithin}
use Rattle.pgo_values.specs.Literals.{LiteralsWithin}
use Rattle.pgo_systems.specs.Literals.{CodeWithin, AllCodeWithin}
use Rattle.pgo_values.proofs.Operators.{none_within, some_within, then_within, apply_within, members_all}
use Rattle.pgo_values.proofs.Trees.{named_more, put_within, tree_within}
use Rattle.pgo_values.proofs.Definitions.{no_names}
use Rattle.pgo_values.specs.Limits.{Limits}

module _ (limits : Limits) where
  -- ---- values that are bound and put back

  bindable_within : (o : Option Data) → Within limits o → Within limits (bindable o)
  bindable_within None h v e = absurd (cc)
  bindable_within (Some w) h v e = go (set_from (w ∷ [])) e
    where
      go : (o : Option Data) → option_map (λ x. w) o ≡ Some v → IsWithin limits v
      go None k = absurd (cc)
      go (Some s) k = h v k

  except_within : (f i v : Data) → IsWithin limits f → IsWithin limits v → Within limits (except f i v)
  except_within f i v h g = put_within limits (i ∷ []) (λ part. Some v) (λ o k. some_within limits v g) (Some f) (some_within limits f h)

  pub part_within : (i : Data) (f v : Option Data) → Within limits f → Within limits v → Within limits (put_part i f v)
  part_within i f v h g = then_within limits v (λ w. option_and_then (λ x. except x i w) f) (λ w e. then_within limits f (λ x. except x i w) (λ x q. except_within x i w (h x q) (g w e)))

  -- one more variable
  pub more_found : (x : Name) (w : Data) (s : Vars) → IsWithin limits w → FoundWithin limits s → FoundWithin limits ((x, w) ∷ s)
  more_found x w s h f y = go (same_name y x)
    where
      go : (b : Bool) → Within limits (if b then Some w else find y s)
      go true = some_within limits w h
      go false = f y

  -- ---- names in scope

  -- what is found in two lists together is found in one of them
  found_either : (x : Name) (o : Option Data) (a b : Names) → find x (a ++ b) ≡ Some o → (find x a ≡ Some o) ⊎ (find x b ≡ Some o)
  found_either x o [] b k = inr k
  found_either x o (q ∷ a) b k = at (same_name x q.0) k (found_either x o a b)
    where
      at : (c : Bool) → (if c then Some q.1 else find x (a ++ b)) ≡ Some o → (find x (a ++ b) ≡ Some o → (find x a ≡ Some o) ⊎ (find x b ≡ Some o))
          → ((if c then Some q.1 else find x a) ≡ Some o) ⊎ (find x b ≡ Some o)
      at true k r = inl k
      at false k r = r k

  names_joined : (a b : Names) → NamesWithin limits a → NamesWithin limits b → NamesWithin limits (a ++ b)
  names_joined a b h g x v e = ⊎_elim (λ k. h x v k) (λ k. g x v k) (found_either x (Some v) a b e)

  under_within : (x : Name) (env : Names) → NamesWithin limits env → Within limits (value_under x env)
  under_within x env h v e = go (find x env) refl e
    where
      go : (o : Option (Option Data)) → find x env ≡ o → option_and_then (λ o. o) o ≡ Some v → IsWithin limits v
      go None q k = absurd (cc)
      go (Some w) q k = h x v (q ∙ ap Some k)

  picked_within : (ms : List Data) (i : ℕ) (m : Data) → EachWithin limits ms → IsWithin limits m → IsWithin limits (get_or ms i m)
  picked_within [] i m h o = o
  picked_within (x ∷ xs) zero m h o = h x (inl refl)
  picked_within (x ∷ xs) (suc i) m h o = picked_within xs i m (λ y k. h y (inr k)) o

  -- ---- along code

  module _ (k : Context) (within : ContextWithin limits k) where
    before_within : (p : Place) → Within limits (value_before k p)
    before_within (Whole x) = within.start x
    before_within (Own x) = then_within limits (find x k.start) (λ f. apply f k.id) (λ f e. apply_within limits f k.id (within.start x f e))

    now_within : (p : Place) (ch : Vars) → FoundWithin limits ch → Within limits (value_now k p ch)
    now_within p ch h = go (find (variable_of p) ch) (h (variable_of p))
      where
        go : (o : Option Data) → Within limits o → Within limits (on (value_before k p) o (λ v. Some v))
        go None g = before_within p
        go (Some v) g = g

    view_within : (ps : List (Name × Place)) (ch : Vars) → FoundWithin limits ch → NamesWithin limits (view k ps ch)
    view_within [] ch h = named_more limits self_name (Some k.id) [] (some_within limits k.id within.id) (no_names limits)
    view_within (p ∷ ps) ch h = named_more limits p.0 (value_now k p.1 ch) (view k ps ch) (now_within p.1 ch h) (view_within ps ch h)

    expression_within : (e : Tree) (env : Names) (ch : Vars) → LiteralsWithin limits e → NamesWithin limits env → FoundWithin limits ch → Within limits (value_of k e env ch)
    expression_within e env ch l n h =
        tree_within limits e (record { names = env ++ view k k.places ch; part = None; now = []; next = None; defs = k.defs }) l (record {
          names = names_joined env (view k k.places ch) n (view_within k.places ch h);
          part = none_within limits;
          now = λ x. none_within limits;
          next = λ x. none_within limits;
          calls = within.calls;
        })

    content_within : (g : Name) (j : Option Data) (ch : Vars) → FoundWithin limits ch → Within limits (content k g j ch)
    content_within g None ch h = now_within (Whole g) ch h
    content_within g (Some i) ch h = then_within limits (value_now k (Whole g) ch) (λ f. apply f i) (λ f e. apply_within limits f i (now_within (Whole g) ch h f e))

    with_within : (g : Name) (j v : Option Data) (ch : Vars) → Within limits v → FoundWithin limits ch → Within limits (with_content k g j v ch)
    with_within g None v ch c h = c
    with_within g (Some i) v ch c h = part_within i (value_now k (Whole g) ch) v (now_within (Whole g) ch h) c

    put_found : (g : Name) (j v : Option Data) (ch ch' : Vars) → Within limits v → FoundWithin limits ch → put_content k g j v ch ≡ Some ch' → FoundWithin limits ch'
    put_found g j v ch ch' c h e = go (bindable (with_content k g j v ch)) (bindable_within (with_content k g j v ch) (with_within g j v ch c h)) e
      where
        go : (o : Option Data) → Within limits o → option_map (λ w. (g, w) ∷ ch) o ≡ Some ch' → FoundWithin limits ch'
        go None q e = absurd (cc)
        go (Some w) q e = subst (FoundWithin limits) (same_Some ((g, w) ∷ ch) ch' e) (more_found g w ch (q w refl) h)

    new_found : (g : Name) (j v : Option Data) (ch ch' : Vars) → Within limits v → FoundWithin limits ch → put_new k g j v ch ≡ Some ch' → FoundWithin limits ch'
    new_found g j None ch ch' c h e = subst (FoundWithin limits) (same_Some ch ch' e) h
    new_found g j (Some v) ch ch' c h e = put_found g j (Some v) ch ch' c h e

  -- how code ends: its changes are values, and what a block yields is one
  abbrev pub OutWithin : Out → Type 0
  OutWithin (Go run) = FoundWithin limits run.changes
  OutWithin (Jump l run) = FoundWithin limits run.changes
  OutWithin (Yielded v run) = IsWithin limits v × FoundWithin limits run.changes
  OutWithin (Stop kind run) = Unit {0}

  abbrev pub EndWithin : {A : Type 0} → (A → Type 0) → MacroEnd A → Type 0
  EndWithin P (Gives a cs) = P a
  EndWithin P (Stops kind cs) = Unit {0}

  abbrev pub ReadWithin : Data × Option Data → Type 0
  ReadWithin r = IsWithin limits r.0 × Within limits r.1

  abbrev pub ReadsWithin : Reads → Type 0
  ReadsWithin reads =
      (block : Code) (defs : List Meaning) (id old : Data) (d : Words) (choices : List ChoiceMade) → CodeWithin limits block → CallsWithin limits defs → IsWithin limits id → IsWithin limits old → EndWithin ReadWithin (reads block defs id old d choices)

  abbrev pub WritesWithin : Writes → Type 0
  WritesWithin writes =
      (block : Code) (defs : List Meaning) (id old v : Data) (d : Words) (choices : List ChoiceMade) → CodeWithin limits block → CallsWithin limits defs → IsWithin limits id → IsWithin limits old → IsWithin limits v → EndWithin (IsWithin limits) (writes block defs id old v d choices)

  value_out : {A : Type 0} (o : Option A) (run : SectionRun) (f : A → Out) → ((v : A) → o ≡ Some v → OutWithin (f v)) → OutWithin (with_value o run f)
  value_out None run f h = tt
  value_out (Some v) run f h = h v refl

  picked_out : (ms : List Data) (d : Words) (run : SectionRun) (f : Data → SectionRun → Out) → EachWithin limits ms → ((v : Data) (n i : ℕ) → IsWithin limits v → OutWithin (f v (chosen n i run))) → OutWithin (picked ms d run f)
  picked_out [] d run f c h = tt
  picked_out (m ∷ ms) d run f c h =
      h (get_or (m ∷ ms) (picked_number d run (length (m ∷ ms))) m) (length (m ∷ ms)) (picked_number d run (length (m ∷ ms))) (picked_within (m ∷ ms) (picked_number d run (length (m ∷ ms))) m c (c m (inl refl)))

  true_out : (o : Option Bool) (run : SectionRun) (a b : Out) → OutWithin a → OutWithin b → OutWithin (if_true o run a b)
  true_out (Some true) run a b h g = h
  true_out (Some false) run a b h g = g
  true_out None run a b h g = tt

  go_out : (o : Out) (f : SectionRun → Out) → OutWithin o → ((run : SectionRun) → FoundWithin limits run.changes → OutWithin (f run)) → OutWithin (go_on o f)
  go_out (Go run) f h g = g run h
  go_out (Jump l run) f h g = h
  go_out (Yielded v run) f h g = h
  go_out (Stop kind run) f h g = tt

  gives_out : {A : Type 0} (P : A → Type 0) (m : MacroEnd A) (run : SectionRun) (f : A → SectionRun → Out) → EndWithin P m → ((a : A) (cs : List ChoiceMade) → P a → OutWithin (f a (with_choices cs run))) → OutWithin (if_gives m run f)
  gives_out P (Gives a cs) run f e h = h a cs e
  gives_out P (Stops kind cs) run f e h = tt

  module _ (reads : Reads) (writes : Writes) (rc : ReadsWithin reads) (wc : WritesWithin writes) (k : Context) (within : ContextWithin limits k) where
    mutual
      pub code_within : (c : Code) (env : Names) (d : Words) (run : SectionRun) → CodeWithin limits c → NamesWithin limits env → FoundWithin limits run.changes → OutWithin (exec_with reads writes k c env d run)
      code_within Empty env d run l n h = h
      code_within Skip env d run l n h = h
      code_within (Let b w e c) env d run l n h =
          let now = read_unmapped k e run in
          let o = value_of k e env run.changes in
          value_out (bindable o) now (λ v. exec_with reads writes k c ((w, Some v) ∷ env) d now) (λ v q.
          let x = bindable_within o (expression_within k within e env run.changes l.0 n h) v q in
          code_within c ((w, Some v) ∷ env) d now l.1 (named_more limits w (Some v) env (some_within limits v x) n) h)
      code_within (Pick b w e c) env d run l n h =
          let now = read_unmapped k e run in
          let o = value_of k e env run.changes in
          let f = λ (v : Data) (then' : SectionRun). exec_with reads writes k c ((w, Some v) ∷ env) d then' in
          value_out (option_and_then members_of o) now (λ ms. picked ms d now f) (λ ms q.
          picked_out ms d now f (members_all limits o ms (expression_within k within e env run.changes l.0 n h) q) (λ v m i x.
          code_within c ((w, Some v) ∷ env) d (chosen m i now) l.1 (named_more limits w (Some v) env (some_within limits v x) n) h))
      code_within (Become p w) env d run l n h =
          value_out (value_under w env) run (λ v. Go (becoming p v run)) (λ v q. more_found (variable_of p) v run.changes (under_within w env n v q) h)
      code_within (Set b p e) env d run l n h =
          let now = read_unmapped k e run in
          let o = value_of k e env run.changes in
          value_out (bindable o) now (λ v. Go (becoming p v now)) (λ v q.
          more_found (variable_of p) v run.changes (bindable_within o (expression_within k within e env run.changes l n h) v q) h)
      code_within (Await e) env d run l n h =
          let now = read_unmapped k e run in true_out (truth_of (value_of k e env run.changes)) now (Go now) (Stop Blocked now) h tt
      code_within (Assert e) env d run l n h =
          let now = read_unmapped k e run in true_out (truth_of (value_of k e env run.changes)) now (Go now) (Stop AssertFails now) h tt
      code_within (Print e) env d run l n h =
          let now = read_unmapped k e run in value_out (value_of k e env run.changes) now (λ v. Go (printed v now)) (λ v q. h)
      code_within (If e x y) env d run l n h =
          let now = read_unmapped k e run in
          true_out (truth_of (value_of k e env run.changes)) now (exec_with reads writes k x env d now) (exec_with reads writes k y env d now) (code_within x env d now l.1 n h) (code_within y env d now l.2 n h)
      code_within (Either cs) env d run l n h =
          let i = picked_number d run (count cs) in arm_within cs i env d (chosen (count cs) i run) l n h
      code_within (Seq x y) env d run l n h =
          go_out (exec_with reads writes k x env d run) (λ now. exec_with reads writes k y env d now) (code_within x env d run l.0 n h) (λ now g. code_within y env d now l.1 n g)
      code_within (Goto x) env d run l n h = h
      code_within (Yield e) env d run l n h =
          let o = value_of k e env run.changes in
          value_out (bindable o) run (λ v. Yielded v run) (λ v q. (bindable_within o (expression_within k within e env run.changes l n h) v q, h))
      code_within (Read w g i block c) env d run l n h =
          value_out (index_value i env) run (λ j.
          with_value (bindable (content k g j run.changes)) (touching k g j run) (λ old.
          if_gives (reads block k.defs k.id old d run.choices) (touching k g j run) (λ r then'.
          with_value (put_new k g j r.1 run.changes) then' (λ ch.
          exec_with reads writes k c ((w, Some r.0) ∷ env) d (record then' { changes = ch }))))) (λ j q.
          let now = touching k g j run in
          let o = content k g j run.changes in
          value_out (bindable o) now (λ old. if_gives (reads block k.defs k.id old d run.choices) now (λ r then'.
          with_value (put_new k g j r.1 run.changes) then' (λ ch.
          exec_with reads writes k c ((w, Some r.0) ∷ env) d (record then' { changes = ch })))) (λ old p.
          gives_out ReadWithin (reads block k.defs k.id old d run.choices) now (λ r then'.
          with_value (put_new k g j r.1 run.changes) then' (λ ch.
          exec_with reads writes k c ((w, Some r.0) ∷ env) d (record then' { changes = ch })))
          (rc block k.defs k.id old d run.choices l.0 within.calls within.id (bindable_within o (content_within k within g j run.changes h) old p)) (λ r cs a.
          value_out (put_new k g j r.1 run.changes) (with_choices cs now) (λ ch.
          exec_with reads writes k c ((w, Some r.0) ∷ env) d (record (with_choices cs now) { changes = ch })) (λ ch z.
          code_within c ((w, Some r.0) ∷ env) d (record (with_choices cs now) { changes = ch }) l.1 (named_more limits w (Some r.0) env (some_within limits r.0 a.0) n) (new_found k within g j r.1 run.changes ch a.1 h z)))))
      code_within (Write g i w block) env d run l n h =
          value_out (index_value i env) run (λ j.
          with_value (bindable (content k g j run.changes)) (touching k g j run) (λ old.
          with_value (value_under w env) (touching k g j run) (λ v.
          if_gives (writes block k.defs k.id old v d run.choices) (touching k g j run) (λ new then'.
          with_value (put_content k g j (Some new) run.changes) then' (λ ch.
          Go (record then' { changes = ch })))))) (λ j q.
          let now = touching k g j run in
          let o = content k g j run.changes in
          value_out (bindable o) now (λ old. with_value (value_under w env) now (λ v.
          if_gives (writes block k.defs k.id old v d run.choices) now (λ new then'.
          with_value (put_content k g j (Some new) run.changes) then' (λ ch.
          Go (record then' { changes = ch }))))) (λ old p.
          value_out (value_under w env) now (λ v.
          if_gives (writes block k.defs k.id old v d run.choices) now (λ new then'.
          with_value (put_content k g j (Some new) run.changes) then' (λ ch.
          Go (record then' { changes = ch })))) (λ v u.
          gives_out (IsWithin limits) (writes block k.defs k.id old v d run.choices) now (λ new then'.
          with_value (put_content k g j (Some new) run.changes) then' (λ ch.
          Go (record then' { changes = ch })))
          (wc block k.defs k.id old v d run.choices l within.calls within.id (bindable_within o (content_within k within g j run.changes h) old p) (under_within w env n v u)) (λ new cs a.
          value_out (put_content k g j (Some new) run.changes) (with_choices cs now) (λ ch.
          Go (record (with_choices cs now) { changes = ch })) (λ ch z.
          put_found k within g j (Some new) run.changes ch (some_within limits new a) h z)))))

      arm_within : (cs : Codes) (i : ℕ) (env : Names) (d : Words) (run : SectionRun) → AllCodeWithin limits cs → NamesWithin limits env → FoundWithin limits run.changes → OutWithin (exec_arm_with reads writes k cs i env d run)
      arm_within no_codes i env d run l n h = tt
      arm_within (more_codes c cs) zero env d run l n h = code_within c env d run l.0 n h
      arm_within (more_codes c cs) (suc i) env d run l n h = arm_within cs i env d run l.1 n h
