-- Where a section ends, its instance is at the label at which its code ends it, and the others are where they were.
use Rattle.std.proofs.Common.{◌≡◌, ℕ, zero, suc, Bool, true, false, if◌then◌else◌, List, [], ◌∷◌, length, get_or, Option, Some, None, refl, sym, ap, ◌∙◌, subst, option_and_then, inl, inr}
use Rattle.std.proofs.lemmas.Option.{same_Some}
use Rattle.pgo_base.specs.Data.{Data, string, function, Pairs, pairs, graph, keys, graph-pairs}
use Rattle.pgo_base.specs.Lookup.{Name, Names, Vars, same_name, find}
use Rattle.pgo_model.specs.Names.{same_name-self}
use Rattle.pgo_model.specs.Operators.{members_of, truth_of, apply, except, same_data, lookup, replace_at, function_of}
use Rattle.pgo_model.specs.Options.{on}
use Rattle.pgo_model.specs.Outcome.{Blocked, NoValue, AssertFails, Next, Stuck}
use Rattle.pgo_model.specs.State.{is_shallow}
use Rattle.pgo_model.specs.System.{Words}
use Rattle.pgo_model.specs.Variables.{IsFunctionOn}
use Rattle.pgo_model.specs.Written.{pc}
use Rattle.pgo_bound.specs.Among.{IsAmong}
use Rattle.pgo_bound.specs.Declares.{value_in}
use Rattle.pgo_bound.specs.Lookups.{same_itself}
use Rattle.pgo_sections.specs.Code.{Code, Empty, Skip, Let, Pick, Become, Set, Await, Assert, Print, If, Either, Seq, Goto, Yield, Read, Write, Codes, no_codes, more_codes}
use Rattle.pgo_sections.specs.Context.{Context, content, put_content, put_new, value_of, index_value}
use Rattle.pgo_sections.specs.Exec.{MacroEnd, Gives, Stops, with_choices, if_gives, touching, read_unmapped, becoming, count, Reads, Writes, exec_with, exec_arm_with}
use Rattle.pgo_sections.specs.Macros.{block_read, block_write, exec}
use Rattle.pgo_sections.specs.BoundValues.{bindable, value_under, put_part}
use Rattle.pgo_sections.specs.SectionRun.{SectionRun, begun, printed, picked_number, chosen, Out, Go, Jump, Yielded, Stop, with_value, if_true, picked, go_on}
use Rattle.pgo_sections.specs.Section.{closed_value, closed, if_shallow, end_of, section}
use Rattle.pgo_sections.proofs.Closing.{closed_at}
use Rattle.pgo_workers.proofs.Components.{lookup_replaced, lookup_other}
use Rattle.pgo_systems.specs.Premises.{Jumps, AllJump}
use Rattle.pgo_values.proofs.Lists.{built_is, both_parts}

module _ (P : Name → Type 0) where
  abbrev JumpsOut : Out → Type 0
  JumpsOut (Go run) = Unit {0}
  JumpsOut (Jump l run) = P l
  JumpsOut (Yielded v run) = Unit {0}
  JumpsOut (Stop kind run) = Unit {0}

  value_jumps : {A : Type 0} (o : Option A) (run : SectionRun) (f : A → Out) → ((v : A) → JumpsOut (f v)) → JumpsOut (with_value o run f)
  value_jumps None run f h = tt
  value_jumps (Some v) run f h = h v

  picked_jumps : (ms : List Data) (d : Words) (run : SectionRun) (f : Data → SectionRun → Out) → ((v : Data) (r : SectionRun) → JumpsOut (f v r)) → JumpsOut (picked ms d run f)
  picked_jumps [] d run f h = tt
  picked_jumps (m ∷ ms) d run f h =
      h (get_or (m ∷ ms) (picked_number d run (length (m ∷ ms))) m) (chosen (length (m ∷ ms)) (picked_number d run (length (m ∷ ms))) run)

  true_jumps : (o : Option Bool) (run : SectionRun) (a b : Out) → JumpsOut a → JumpsOut b → JumpsOut (if_true o run a b)
  true_jumps (Some true) run a b h g = h
  true_jumps (Some false) run a b h g = g
  true_jumps None run a b h g = tt

  go_jumps : (o : Out) (f : SectionRun → Out) → JumpsOut o → ((run : SectionRun) → JumpsOut (f run)) → JumpsOut (go_on o f)
  go_jumps (Go run) f h g = g run
  go_jumps (Jump l run) f h g = h
  go_jumps (Yielded v run) f h g = h
  go_jumps (Stop kind run) f h g = tt

  gives_jumps : {A : Type 0} (m : MacroEnd A) (run : SectionRun) (f : A → SectionRun → Out) → ((a : A) (r : SectionRun) → JumpsOut (f a r)) → JumpsOut (if_gives m run f)
  gives_jumps (Gives a cs) run f h = h a (with_choices cs run)
  gives_jumps (Stops kind cs) run f h = tt

  module _ (reads : Reads) (writes : Writes) (k : Context) where
    mutual
      code_jumps : (c : Code) (env : Names) (d : Words) (run : SectionRun) → Jumps P c → JumpsOut (exec_with reads writes k c env d run)
      code_jumps Empty env d run j = tt
      code_jumps Skip env d run j = tt
      code_jumps (Let b w e c) env d run j =
          let now = read_unmapped k e run in
          value_jumps (bindable (value_of k e env run.changes)) now (λ v. exec_with reads writes k c ((w, Some v) ∷ env) d now) (λ v. code_jumps c ((w, Some v) ∷ env) d now j)
      code_jumps (Pick b w e c) env d run j =
          let now = read_unmapped k e run in
          let f = λ (v : Data) (then' : SectionRun). exec_with reads writes k c ((w, Some v) ∷ env) d then' in
          value_jumps (option_and_then members_of (value_of k e env run.changes)) now (λ ms. picked ms d now f) (λ ms.
          picked_jumps ms d now f (λ v r. code_jumps c ((w, Some v) ∷ env) d r j))
      code_jumps (Become p w) env d run j = value_jumps (value_under w env) run (λ v. Go (becoming p v run)) (λ v. tt)
      code_jumps (Set b p e) env d run j =
          let now = read_unmapped k e run in value_jumps (bindable (value_of k e env run.changes)) now (λ v. Go (becoming p v now)) (λ v. tt)
      code_jumps (Await e) env d run j =
          let now = read_unmapped k e run in true_jumps (truth_of (value_of k e env run.changes)) now (Go now) (Stop Blocked now) tt tt
      code_jumps (Assert e) env d run j =
          let now = read_unmapped k e run in true_jumps (truth_of (value_of k e env run.changes)) now (Go now) (Stop AssertFails now) tt tt
      code_jumps (Print e) env d run j =
          let now = read_unmapped k e run in value_jumps (value_of k e env run.changes) now (λ v. Go (printed v now)) (λ v. tt)
      code_jumps (If e x y) env d run j =
          let now = read_unmapped k e run in
          true_jumps (truth_of (value_of k e env run.changes)) now (exec_with reads writes k x env d now) (exec_with reads writes k y env d now) (code_jumps x env d now j.0) (code_jumps y env d now j.1)
      code_jumps (Either cs) env d run j =
          let i = picked_number d run (count cs) in arm_jumps cs i env d (chosen (count cs) i run) j
      code_jumps (Seq x y) env d run j =
          go_jumps (exec_with reads writes k x env d run) (λ now. exec_with reads writes k y env d now) (code_jumps x env d run j.0) (λ now. code_jumps y env d now j.1)
      code_jumps (Goto l) env d run j = j
      code_jumps (Yield e) env d run j = value_jumps (bindable (value_of k e env run.changes)) run (λ v. Yielded v run) (λ v. tt)
      code_jumps (Read w g i block c) env d run j =
          value_jumps (index_value i env) run (λ x.
          with_value (bindable (content k g x run.changes)) (touching k g x run) (λ old.
          if_gives (reads block k.defs k.id old d run.choices) (touching k g x run) (λ r then'.
          with_value (put_new k g x r.1 run.changes) then' (λ ch.
          exec_with reads writes k c ((w, Some r.0) ∷ env) d (record then' { changes = ch }))))) (λ x.
          value_jumps (bindable (content k g x run.changes)) (touching k g x run) (λ old.
          if_gives (reads block k.defs k.id old d run.choices) (touching k g x run) (λ r then'.
          with_value (put_new k g x r.1 run.changes) then' (λ ch.
          exec_with reads writes k c ((w, Some r.0) ∷ env) d (record then' { changes = ch })))) (λ old.
          gives_jumps (reads block k.defs k.id old d run.choices) (touching k g x run) (λ r then'.
          with_value (put_new k g x r.1 run.changes) then' (λ ch.
          exec_with reads writes k c ((w, Some r.0) ∷ env) d (record then' { changes = ch }))) (λ r then'.
          value_jumps (put_new k g x r.1 run.changes) then' (λ ch.
          exec_with reads writes k c ((w, Some r.0) ∷ env) d (record then' { changes = ch })) (λ ch.
          code_jumps c ((w, Some r.0) ∷ env) d (record then' { changes = ch }) j))))
      code_jumps (Write g i w block) env d run j =
          value_jumps (index_value i env) run (λ x.
          with_value (bindable (content k g x run.changes)) (touching k g x run) (λ old.
          with_value (value_under w env) (touching k g x run) (λ v.
          if_gives (writes block k.defs k.id old v d run.choices) (touching k g x run) (λ new then'.
          with_value (put_content k g x (Some new) run.changes) then' (λ ch.
          Go (record then' { changes = ch })))))) (λ x.
          value_jumps (bindable (content k g x run.changes)) (touching k g x run) (λ old.
          with_value (value_under w env) (touching k g x run) (λ v.
          if_gives (writes block k.defs k.id old v d run.choices) (touching k g x run) (λ new then'.
          with_value (put_content k g x (Some new) run.changes) then' (λ ch.
          Go (record then' { changes = ch }))))) (λ old.
          value_jumps (value_under w env) (touching k g x run) (λ v.
          if_gives (writes block k.defs k.id old v d run.choices) (touching k g x run) (λ new then'.
          with_value (put_content k g x (Some new) run.changes) then' (λ ch.
          Go (record then' { changes = ch })))) (λ v.
          gives_jumps (writes block k.defs k.id old v d run.choices) (touching k g x run) (λ new then'.
          with_value (put_content k g x (Some new) run.changes) then' (λ ch.
          Go (record then' { changes = ch }))) (λ new then'.
          value_jumps (put_content k g x (Some new) run.changes) then' (λ ch.
          Go (record then' { changes = ch })) (λ ch. tt)))))

      arm_jumps : (cs : Codes) (i : ℕ) (env : Names) (d : Words) (run : SectionRun) → AllJump P cs → JumpsOut (exec_arm_with reads writes k cs i env d run)
      arm_jumps no_codes i env d run j = tt
      arm_jumps (more_codes c cs) zero env d run j = code_jumps c env d run j.0
      arm_jumps (more_codes c cs) (suc i) env d run j = arm_jumps cs i env d run j.1

-- ---- `pc` at the end

-- what EXCEPT makes at an index where there is a value
record IsPut (i w f g : Data) : Type 0 where
  pub here : apply g i ≡ Some w
  pub elsewhere : (j : Data) → same_data j i ≡ false → apply g j ≡ apply f j

put_is : (i w old g : Data) (ps : Pairs) → lookup i (graph ps) ≡ Some old → except (function ps) i w ≡ Some g → IsPut i w (function ps) g
put_is i w old g ps h e =
    let made = replace_at i w (graph ps) in
    let is : function_of made ≡ Some g = sym (ap (λ o. elim o as (λ o. Option Data) [ None ↦ Some (function ps) | Some part ↦ function_of (replace_at i w (graph ps)) ]) h) ∙ e in
    let same : function (pairs made) ≡ g = built_is (length made) (function (pairs made)) g is in
    record {
      here = ap (λ z. apply z i) (sym same) ∙ ap (lookup i) (graph-pairs made) ∙ lookup_replaced i w old (graph ps) h;
      elsewhere = λ j n. ap (λ z. apply z j) (sym same) ∙ ap (lookup j) (graph-pairs made) ∙ lookup_other i j w (graph ps) n;
    }

lookup_there : (i : Data) (ps : List (Data × Data)) → IsAmong i (keys ps) → (v : Data) × (lookup i ps ≡ Some v)
lookup_there i [] h = absurd h
lookup_there i (p ∷ ps) (inl e) = (p.1, ap (λ b. if b then Some p.1 else lookup i ps) (ap (same_data i) (sym e) ∙ same_itself i))
lookup_there i (p ∷ ps) (inr h) = go (same_data i p.0) (lookup_there i ps h)
  where
    go : (b : Bool) → (v : Data) × (lookup i ps ≡ Some v) → (v : Data) × ((if b then Some p.1 else lookup i ps) ≡ Some v)
    go true r = (p.1, refl)
    go false r = r

-- a variable of the start has a value at the end
there_still : (k : Context) (l : Name) (ch s t : Vars) → closed k l ch s ≡ Some t → (x : Name) (v : Data) → find x s ≡ Some v → (w : Data) × (find x t ≡ Some w)
there_still k l ch [] t e x v h = absurd (cc)
there_still k l ch (p ∷ s) t e x v h =
    let b = both_parts (λ v t. Some ((p.0, v) ∷ t)) (closed_value k l ch p.0 p.1) (closed k l ch s) t e in
    let r = go (same_name x p.0) b.0 b.1.0 h (λ h. there_still k l ch s b.1.0 b.1.2 x v h) in
    (r.0, ap (find x) (sym (same_Some ((p.0, b.0) ∷ b.1.0) t b.1.3)) ∙ r.1)
  where
    go : (c : Bool) (w : Data) (u : Vars) → (if c then Some p.1 else find x s) ≡ Some v → (find x s ≡ Some v → (w : Data) × (find x u ≡ Some w)) → (q : Data) × ((if c then Some w else find x u) ≡ Some q)
    go true w u h r = (w, refl)
    go false w u h r = r h

-- what `pc` has at the end
pub record EndsAt (k : Context) (P : Name → Type 0) (t : Vars) : Type 0 where
  pub label : Name
  pub meets : P label
  pub here : value_in t pc k.id ≡ Some (string label)
  pub elsewhere : (j : Data) → same_data j k.id ≡ false → value_in t pc j ≡ value_in k.start pc j

module _ (P : Name → Type 0) (k : Context) (ids : List Data) (places : IsFunctionOn ids (find pc k.start)) (among : IsAmong k.id ids) where
  closed_pc : (l : Name) (ch t : Vars) → P l → closed k l ch k.start ≡ Some t → EndsAt k P t
  closed_pc l ch t h e =
      let f = places.0 in
      let old = lookup_there k.id (graph f) (subst (IsAmong k.id) (sym places.2) among) in
      let put : find pc t ≡ except (function f) k.id (string l) = closed_at k l ch k.start t e pc ∙ ap (option_and_then (closed_value k l ch pc)) places.1
      ∙ ap (λ b. if b then put_part k.id (Some (function f)) (Some (string l)) else on (Some (function f)) (find pc ch) (λ v. Rattle.pgo_sections.specs.BoundValues.value_put (Rattle.pgo_model.specs.Names.is_among pc k.globals) k.id (Some (function f)) (Some v))) (same_name-self pc) in
      made old.0 old.1 (except (function f) k.id (string l)) refl put
    where
      no_end : find pc t ≡ None → (o : Option Data) → find pc t ≡ o → (keys_there : (v : Data) × (o ≡ Some v)) → ⊥
      no_end p o q there = absurd (let z : None ≡ Some there.0 = sym p ∙ q ∙ there.1 in cc)

      made : (old : Data) → lookup k.id (graph places.0) ≡ Some old → (o : Option Data) → except (function places.0) k.id (string l) ≡ o → find pc t ≡ o → EndsAt k P t
      made old q None g p = absurd (no_end p (find pc t) refl (there_still k l ch k.start t e pc (function places.0) places.1))
      made old q (Some g) r p =
          let is = put_is k.id (string l) old g places.0 q r in
          record {
            label = l;
            meets = h;
            here = ap (option_and_then (λ z. apply z k.id)) p ∙ is.here;
            elsewhere = λ j n. ap (option_and_then (λ z. apply z j)) p ∙ is.elsewhere j n ∙ sym (ap (option_and_then (λ z. apply z j)) places.1);
          }

  end_jumps : (o : Out) (t : Vars) (prints : List Data) → JumpsOut P o → end_of k o ≡ Next t prints → EndsAt k P t
  end_jumps (Go run) t prints h e = absurd (cc)
  end_jumps (Jump l run) t prints h e = go (closed k l run.changes k.start) refl e
    where
      shallow : (b : Bool) (u : Vars) → EndsAt k P u → (if b then Next u run.prints else Stuck NoValue) ≡ Next t prints → EndsAt k P t
      shallow true u a q = subst (EndsAt k P) (next_is u t run.prints prints q) a
        where
          next_is : (u t : Vars) (a b : List Data) → Next u a ≡ Next t b → u ≡ t
          next_is u t a b q = cc
      shallow false u a q = absurd (cc)

      go : (o : Option Vars) → closed k l run.changes k.start ≡ o → on (Stuck NoValue) o (if_shallow run.prints) ≡ Next t prints → EndsAt k P t
      go None g q = absurd (cc)
      go (Some u) g q = shallow (is_shallow u) u (closed_pc l run.changes u h g) q
  end_jumps (Yielded v run) t prints h e = absurd (cc)
  end_jumps (Stop kind run) t prints h e = absurd (cc)

  -- a section ends at a label that meets P
  pub section_jumps : (c : Code) (d : Words) (t : Vars) (prints : List Data) → Jumps P c → (section k c d).end ≡ Next t prints → EndsAt k P t
  section_jumps c d t prints j e = end_jumps (exec k c [] d (begun [] [])) t prints (code_jumps P block_read block_write k c [] d (begun [] []) j) e
