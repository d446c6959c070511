-- What code prints is within limits, where the values that it sees are.
--
-- That what it sees stays within them is shown in pgo_systems (`code_within`). A value that code binds is within them, since code that
-- puts it into a variable ends in such values (`kept_under`).
use Rattle.std.proofs.Common.{◌≡◌, ◌⊎◌, ℕ, zero, suc, Bool, true, false, if◌then◌else◌, List, [], ◌∷◌, ◌++◌, length, get_or, Option, Some, None, refl, sym, ap, subst, option_and_then, inl, inr, ⊎_elim}
use Rattle.pgo_base.specs.Data.{Data}
use Rattle.pgo_base.specs.Lookup.{Name, Names, Vars, same_name, find}
use Rattle.pgo_base.specs.Tree.{Tree}
use Rattle.pgo_model.specs.Machine.{nth}
use Rattle.pgo_model.specs.Names.{same_name-self}
use Rattle.pgo_model.specs.Operators.{members_of, truth_of, apply}
use Rattle.pgo_model.specs.Options.{on}
use Rattle.pgo_model.specs.Outcome.{Blocked, AssertFails, NoValue, Next, Stuck}
use Rattle.pgo_model.specs.State.{is_shallow}
use Rattle.pgo_model.specs.System.{Words}
use Rattle.pgo_model.specs.Written.{self_name}
use Rattle.pgo_syntax.specs.declared.bound.Bound.{Bound}
use Rattle.pgo_syntax.specs.declared.bound.Instance.{Instance}
use Rattle.pgo_bound.specs.Among.{IsAmong}
use Rattle.pgo_bound.specs.State.{IsState}
use Rattle.pgo_sections.specs.Code.{Place, Whole, Own, variable_of, Code, Empty, Skip, Let, Pick, Become, Set, Await, Assert, Print, If, Either, Seq, Goto, Yield, Read, Write, Codes, no_codes, more_codes}
use Rattle.pgo_sections.specs.Context.{Context, value_before, value_now, content, put_content, put_new, view, value_of, index_value}
use Rattle.pgo_sections.specs.Exec.{MacroEnd, Gives, Stops, with_choices, if_gives, touching, read_unmapped, becoming, count, Reads, Writes, exec_with, exec_arm_with}
use Rattle.pgo_sections.specs.BoundValues.{bindable, value_under}
use Rattle.pgo_sections.specs.Macros.{block_read, block_write, exec}
use Rattle.pgo_sections.specs.Section.{closed, end_of, if_shallow, section}
use Rattle.pgo_sections.specs.SectionRun.{ChoiceMade, SectionRun, begun, printed, picked_number, chosen, Out, Go, Jump, Yielded, Stop, with_value, if_true, picked, go_on}
use Rattle.pgo_meaning.specs.Sect.{Sect, context_of}
use Rattle.pgo_values.specs.Limits.{Limits}
use Rattle.pgo_values.specs.Literals.{LiteralsWithin}
use Rattle.pgo_values.specs.Within.{IsWithin, EachWithin, Within, AllWithin, NamesWithin, FoundWithin, ContextWithin}
use Rattle.pgo_values.proofs.Definitions.{no_names}
use Rattle.pgo_values.proofs.Operators.{none_within, some_within, then_within, apply_within, append_all}
use Rattle.pgo_values.proofs.Trees.{named_more, tree_within}
use Rattle.pgo_systems.specs.Literals.{CodeWithin, AllCodeWithin}
use Rattle.pgo_systems.specs.StatementLiterals.{InstanceWithin}
use Rattle.pgo_systems.proofs.Blocks.{nothing_found, reads_within, writes_within}
use Rattle.pgo_systems.proofs.SectionCode.{OutWithin, ReadsWithin, WritesWithin, code_within}
use Rattle.pgo_systems.proofs.States.{context_within, from_label}

module _ (limits : Limits) where
  -- ---- values of expressions

  -- what is found in two lists together is found in one of them
  found_either : (x : Name) (o : Option Data) (a b : Names) → find x (a ++ b) ≡ Some o → (find x a ≡ Some o) ⊎ (find x b ≡ Some o)
  found_either x o [] b k = inr k
  found_either x o (q ∷ a) b k = at (same_name x q.0) k (found_either x o a b)
    where
      at : (c : Bool) → (if c then Some q.1 else find x (a ++ b)) ≡ Some o → (find x (a ++ b) ≡ Some o → (find x a ≡ Some o) ⊎ (find x b ≡ Some o))
          → ((if c then Some q.1 else find x a) ≡ Some o) ⊎ (find x b ≡ Some o)
      at true k r = inl k
      at false k r = r k

  names_joined : (a b : Names) → NamesWithin limits a → NamesWithin limits b → NamesWithin limits (a ++ b)
  names_joined a b h g x v e = ⊎_elim (λ k. h x v k) (λ k. g x v k) (found_either x (Some v) a b e)

  module _ (k : Context) (within : ContextWithin limits k) where
    before_within : (p : Place) → Within limits (value_before k p)
    before_within (Whole x) = within.start x
    before_within (Own x) = then_within limits (find x k.start) (λ f. apply f k.id) (λ f e. apply_within limits f k.id (within.start x f e))

    now_within : (p : Place) (ch : Vars) → FoundWithin limits ch → Within limits (value_now k p ch)
    now_within p ch h = go (find (variable_of p) ch) (h (variable_of p))
      where
        go : (o : Option Data) → Within limits o → Within limits (on (value_before k p) o (λ v. Some v))
        go None g = before_within p
        go (Some v) g = g

    view_within : (ps : List (Name × Place)) (ch : Vars) → FoundWithin limits ch → NamesWithin limits (view k ps ch)
    view_within [] ch h = named_more limits self_name (Some k.id) [] (some_within limits k.id within.id) (no_names limits)
    view_within (p ∷ ps) ch h = named_more limits p.0 (value_now k p.1 ch) (view k ps ch) (now_within p.1 ch h) (view_within ps ch h)

    expression_within : (e : Tree) (env : Names) (ch : Vars) → LiteralsWithin limits e → NamesWithin limits env → FoundWithin limits ch → Within limits (value_of k e env ch)
    expression_within e env ch l n h =
        tree_within limits e (record { names = env ++ view k k.places ch; part = None; now = []; next = None; defs = k.defs }) l (record {
          names = names_joined env (view k k.places ch) n (view_within k.places ch h);
          part = none_within limits;
          now = λ x. none_within limits;
          next = λ x. none_within limits;
          calls = within.calls;
        })

  -- ---- how code ends

  -- what was printed; a block's prints are dropped
  abbrev PrintsWithin : Out → Type 0
  PrintsWithin (Go run) = EachWithin limits run.prints
  PrintsWithin (Jump l run) = EachWithin limits run.prints
  PrintsWithin (Yielded v run) = Unit {0}
  PrintsWithin (Stop kind run) = Unit {0}

  true_prints : (o : Option Bool) (run : SectionRun) (a b : Out) → PrintsWithin a → PrintsWithin b → PrintsWithin (if_true o run a b)
  true_prints (Some true) run a b h g = h
  true_prints (Some false) run a b h g = g
  true_prints None run a b h g = tt

  go_prints : (o : Out) (f : SectionRun → Out) → PrintsWithin o → OutWithin limits o → ((run : SectionRun) → FoundWithin limits run.changes → EachWithin limits run.prints → PrintsWithin (f run)) → PrintsWithin (go_on o f)
  go_prints (Go run) f h w g = g run w h
  go_prints (Jump l run) f h w g = h
  go_prints (Yielded v run) f h w g = tt
  go_prints (Stop kind run) f h w g = tt

  -- Beside code that ends so, other code that comes to the same values: what is known of it there.
  value_prints : {A : Type 0} (o : Option A) (run : SectionRun) (f p : A → Out) → OutWithin limits (with_value o run p) → ((v : A) → o ≡ Some v → OutWithin limits (p v) → PrintsWithin (f v)) → PrintsWithin (with_value o run f)
  value_prints None run f p w h = tt
  value_prints (Some v) run f p w h = h v refl w

  picked_prints : (ms : List Data) (d : Words) (run : SectionRun) (f p : Data → SectionRun → Out) → OutWithin limits (picked ms d run p) → ((v : Data) (n i : ℕ) → OutWithin limits (p v (chosen n i run)) → PrintsWithin (f v (chosen n i run))) → PrintsWithin (picked ms d run f)
  picked_prints [] d run f p w h = tt
  picked_prints (m ∷ ms) d run f p w h = let n = length (m ∷ ms) in h (get_or (m ∷ ms) (picked_number d run n) m) n (picked_number d run n) w

  -- of two such codes
  value_both : {A : Type 0} (o : Option A) (run : SectionRun) (f p q : A → Out) → OutWithin limits (with_value o run p) → OutWithin limits (with_value o run q)
      → ((v : A) → OutWithin limits (p v) → OutWithin limits (q v) → PrintsWithin (f v)) → PrintsWithin (with_value o run f)
  value_both None run f p q w u h = tt
  value_both (Some v) run f p q w u h = h v w u

  gives_both : {A : Type 0} (m : MacroEnd A) (run : SectionRun) (f p q : A → SectionRun → Out) → OutWithin limits (if_gives m run p) → OutWithin limits (if_gives m run q)
      → ((a : A) (cs : List ChoiceMade) → OutWithin limits (p a (with_choices cs run)) → OutWithin limits (q a (with_choices cs run)) → PrintsWithin (f a (with_choices cs run))) → PrintsWithin (if_gives m run f)
  gives_both (Gives a cs) run f p q w u h = h a cs w u
  gives_both (Stops kind cs) run f p q w u h = tt

  -- the value of a name, where code that puts it into a variable of that name ends in such values
  kept_under : (w : Name) (v : Data) (env : Names) (run : SectionRun) → OutWithin limits (with_value (value_under w ((w, Some v) ∷ env)) run (λ x. Go (becoming (Whole w) x run))) → IsWithin limits v
  kept_under w v env run h =
      let self = same_name-self w in
      let under : value_under w ((w, Some v) ∷ env) ≡ Some v = ap (λ b. option_and_then (λ o. o) (if b then Some (Some v) else find w env)) self in
      let out : OutWithin limits (Go (becoming (Whole w) v run)) = subst (λ o. OutWithin limits (with_value o run (λ x. Go (becoming (Whole w) x run)))) under h in
      out w v (ap (λ b. if b then Some v else find w run.changes) self)

  -- ---- along code

  module _ (reads : Reads) (writes : Writes) (rc : ReadsWithin limits reads) (wc : WritesWithin limits writes) (k : Context) (within : ContextWithin limits k) where
    out_within : (c : Code) (env : Names) (d : Words) (run : SectionRun) → CodeWithin limits c → NamesWithin limits env → FoundWithin limits run.changes → OutWithin limits (exec_with reads writes k c env d run)
    out_within c env d run l n h = code_within limits reads writes rc wc k within c env d run l n h

    more : (w : Name) (v : Data) (env : Names) → IsWithin limits v → NamesWithin limits env → NamesWithin limits ((w, Some v) ∷ env)
    more w v env x n = named_more limits w (Some v) env (some_within limits v x) n

    one_more : (e : Tree) (env : Names) (ps : List Data) (ch : Vars) (v : Data) → LiteralsWithin limits e → NamesWithin limits env → FoundWithin limits ch → EachWithin limits ps → value_of k e env ch ≡ Some v → EachWithin limits (ps ++ v ∷ [])
    one_more e env ps ch v l n h g q = append_all limits ps (v ∷ []) g (λ x m. one (expression_within k within e env ch l n h v q) x m)
      where
        one : IsWithin limits v → (x : Data) → IsAmong x (v ∷ []) → IsWithin limits x
        one i x (inl e) = subst (IsWithin limits) (sym e) i
        one i x (inr m) = absurd m

    mutual
      code_prints : (c : Code) (env : Names) (d : Words) (run : SectionRun) → CodeWithin limits c → NamesWithin limits env → FoundWithin limits run.changes → EachWithin limits run.prints → PrintsWithin (exec_with reads writes k c env d run)
      code_prints Empty env d run l n h g = g
      code_prints Skip env d run l n h g = g
      code_prints (Let b w e c) env d run l n h g =
          let now = read_unmapped k e run in
          value_prints (bindable (value_of k e env run.changes)) now (λ v. exec_with reads writes k c ((w, Some v) ∷ env) d now) (λ v. exec_with reads writes k (Become (Whole w) w) ((w, Some v) ∷ env) d now)
          (out_within (Let b w e (Become (Whole w) w)) env d run (l.0, tt) n h) (λ v q o.
          code_prints c ((w, Some v) ∷ env) d now l.1 (more w v env (kept_under w v env now o) n) h g)
      code_prints (Pick b w e c) env d run l n h g =
          let now = read_unmapped k e run in
          let f = λ (v : Data) (then' : SectionRun). exec_with reads writes k c ((w, Some v) ∷ env) d then' in
          let p = λ (v : Data) (then' : SectionRun). exec_with reads writes k (Become (Whole w) w) ((w, Some v) ∷ env) d then' in
          value_prints (option_and_then members_of (value_of k e env run.changes)) now (λ ms. picked ms d now f) (λ ms. picked ms d now p)
          (out_within (Pick b w e (Become (Whole w) w)) env d run (l.0, tt) n h) (λ ms q o.
          picked_prints ms d now f p o (λ v m i u.
          code_prints c ((w, Some v) ∷ env) d (chosen m i now) l.1 (more w v env (kept_under w v env (chosen m i now) u) n) h g))
      code_prints (Become p w) env d run l n h g = value_prints (value_under w env) run (λ v. Go (becoming p v run)) (λ v. Go (becoming p v run)) (out_within (Become p w) env d run l n h) (λ v q o. g)
      code_prints (Set b p e) env d run l n h g =
          let now = read_unmapped k e run in value_prints (bindable (value_of k e env run.changes)) now (λ v. Go (becoming p v now)) (λ v. Go (becoming p v now)) (out_within (Set b p e) env d run l n h) (λ v q o. g)
      code_prints (Await e) env d run l n h g =
          let now = read_unmapped k e run in true_prints (truth_of (value_of k e env run.changes)) now (Go now) (Stop Blocked now) g tt
      code_prints (Assert e) env d run l n h g =
          let now = read_unmapped k e run in true_prints (truth_of (value_of k e env run.changes)) now (Go now) (Stop AssertFails now) g tt
      code_prints (Print e) env d run l n h g =
          let now = read_unmapped k e run in
          value_prints (value_of k e env run.changes) now (λ v. Go (printed v now)) (λ v. Go (printed v now)) (out_within (Print e) env d run l n h) (λ v q o.
          one_more e env run.prints run.changes v l n h g q)
      code_prints (If e x y) env d run l n h g =
          let now = read_unmapped k e run in
          true_prints (truth_of (value_of k e env run.changes)) now (exec_with reads writes k x env d now) (exec_with reads writes k y env d now) (code_prints x env d now l.1 n h g) (code_prints y env d now l.2 n h g)
      code_prints (Either cs) env d run l n h g =
          let i = picked_number d run (count cs) in arm_prints cs i env d (chosen (count cs) i run) l n h g
      code_prints (Seq x y) env d run l n h g =
          go_prints (exec_with reads writes k x env d run) (λ now. exec_with reads writes k y env d now) (code_prints x env d run l.0 n h g) (out_within x env d run l.0 n h) (λ now w p. code_prints y env d now l.1 n w p)
      code_prints (Goto x) env d run l n h g = g
      code_prints (Yield e) env d run l n h g = value_prints (bindable (value_of k e env run.changes)) run (λ v. Yielded v run) (λ v. Yielded v run) (out_within (Yield e) env d run l n h) (λ v q o. tt)
      code_prints (Read w z i block c) env d run l n h g =
          -- the code behind the read, and two that put what it gives into a variable, and end at once
          let after : Code → Option Data → Data × Option Data → SectionRun → Out = λ x j r then'.
          with_value (put_new k z j r.1 run.changes) then' (λ ch. exec_with reads writes k x ((w, Some r.0) ∷ env) d (record then' { changes = ch })) in
          let inside : Code → Option Data → Data → Out = λ x j old. if_gives (reads block k.defs k.id old d run.choices) (touching k z j run) (after x j) in
          let whole : Code → Option Data → Out = λ x j. with_value (bindable (content k z j run.changes)) (touching k z j run) (inside x j) in
          value_both (index_value i env) run (whole c) (whole (Become (Whole w) w)) (whole (Goto [])) (out_within (Read w z i block (Become (Whole w) w)) env d run (l.0, tt) n h) (out_within (Read w z i block (Goto [])) env d run (l.0, tt) n h) (λ j o u.
          let now = touching k z j run in
          value_both (bindable (content k z j run.changes)) now (inside c j) (inside (Become (Whole w) w) j) (inside (Goto []) j) o u (λ old o u.
          gives_both (reads block k.defs k.id old d run.choices) now (after c j) (after (Become (Whole w) w) j) (after (Goto []) j) o u (λ r cs o u.
          let last = with_choices cs now in
          value_both (put_new k z j r.1 run.changes) last (λ ch. exec_with reads writes k c ((w, Some r.0) ∷ env) d (record last { changes = ch })) (λ ch. exec_with reads writes k (Become (Whole w) w) ((w, Some r.0) ∷ env) d (record last { changes = ch })) (λ ch. exec_with reads writes k (Goto []) ((w, Some r.0) ∷ env) d (record last { changes = ch })) o u (λ ch o u.
          code_prints c ((w, Some r.0) ∷ env) d (record last { changes = ch }) l.1 (more w r.0 env (kept_under w r.0 env (record last { changes = ch }) o) n) u g))))
      code_prints (Write z i w block) env d run l n h g =
          let after : Option Data → Data → SectionRun → Out = λ j new then'. with_value (put_content k z j (Some new) run.changes) then' (λ ch. Go (record then' { changes = ch })) in
          let inside : Option Data → Data → Data → Out = λ j old v. if_gives (writes block k.defs k.id old v d run.choices) (touching k z j run) (after j) in
          let under : Option Data → Data → Out = λ j old. with_value (value_under w env) (touching k z j run) (inside j old) in
          let whole : Option Data → Out = λ j. with_value (bindable (content k z j run.changes)) (touching k z j run) (under j) in
          let u = out_within (Write z i w block) env d run l n h in
          value_both (index_value i env) run whole whole whole u u (λ j o u.
          let now = touching k z j run in
          value_both (bindable (content k z j run.changes)) now (under j) (under j) (under j) o u (λ old o u.
          value_both (value_under w env) now (inside j old) (inside j old) (inside j old) o u (λ v o u.
          gives_both (writes block k.defs k.id old v d run.choices) now (after j) (after j) (after j) o u (λ new cs o u.
          let last = with_choices cs now in
          let end : Vars → Out = λ ch. Go (record last { changes = ch }) in
          value_both (put_content k z j (Some new) run.changes) last end end end o u (λ ch o u. g)))))

      arm_prints : (cs : Codes) (i : ℕ) (env : Names) (d : Words) (run : SectionRun) → AllCodeWithin limits cs → NamesWithin limits env → FoundWithin limits run.changes → EachWithin limits run.prints → PrintsWithin (exec_arm_with reads writes k cs i env d run)
      arm_prints no_codes i env d run l n h g = tt
      arm_prints (more_codes c cs) zero env d run l n h g = code_prints c env d run l.0 n h g
      arm_prints (more_codes c cs) (suc i) env d run l n h g = arm_prints cs i env d run l.1 n h g

  -- ---- sections

  -- what is printed where a section ends was printed along its code
  end_prints : (k : Context) (o : Out) (t : Vars) (prints : List Data) → PrintsWithin o → end_of k o ≡ Next t prints → EachWithin limits prints
  end_prints k (Go run) t prints h e = absurd (cc)
  end_prints k (Jump l run) t prints h e = go (closed k l run.changes k.start) e
    where
      same : (u : Vars) (b : Bool) → (if b then Next u run.prints else Stuck NoValue) ≡ Next t prints → run.prints ≡ prints
      same u true e = cc
      same u false e = absurd (cc)

      go : (o : Option Vars) → on (Stuck NoValue) o (if_shallow run.prints) ≡ Next t prints → EachWithin limits prints
      go None e = absurd (cc)
      go (Some u) e = subst (EachWithin limits) (same u (is_shallow u) e) h
  end_prints k (Yielded z run) t prints h e = absurd (cc)
  end_prints k (Stop kind run) t prints h e = absurd (cc)

  section_prints : (k : Context) → ContextWithin limits k → (c : Code) (d : Words) (t : Vars) (prints : List Data) → CodeWithin limits c → (section k c d).end ≡ Next t prints → EachWithin limits prints
  section_prints k within c d t prints l e =
      end_prints k (exec k c [] d (begun [] [])) t prints
      (code_prints block_read block_write (reads_within limits) (writes_within limits) k within c [] d (begun [] []) l (no_names limits) (nothing_found limits) (λ x m. absurd m)) e

  -- a section of an instance prints such values on a state of such values
  pub sect_prints : (b : Bound) (k : ℕ) (i : Instance) (s : Vars) (d : Words) (t : Vars) (prints : List Data) → nth b.instances k ≡ Some i → InstanceWithin limits b i → IsState b s → AllWithin limits s
      → (Sect b k s d).end ≡ Next t prints → EachWithin limits prints
  sect_prints b k i s d t prints at_k l is h e =
      let f = from_label b k i s d t prints at_k e in
      section_prints (context_of b i s) (context_within limits b k i at_k s l is h) f.code d t prints (l.sections f.label f.code f.there) f.ends
