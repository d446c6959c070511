-- Code on two states beside each other: it does the same on both, up to the first access of a component on which they don't agree.
use Rattle.std.proofs.Common.{◌≡◌, ℕ, zero, suc, Bool, true, false, List, [], ◌∷◌, ◌++◌, length, get_or, Option, Some, None, ◌⊎◌, inl, inr, refl, sym, ap, ◌∙◌, subst, option_and_then}
use Rattle.pgo_base.specs.Data.{Data}
use Rattle.pgo_base.specs.Lookup.{Name, Names, Vars, find}
use Rattle.pgo_base.specs.Tree.{Tree}
use Rattle.pgo_model.specs.Names.{is_among}
use Rattle.pgo_model.specs.Operators.{members_of, truth_of}
use Rattle.pgo_model.specs.Outcome.{Kind, Blocked, NoValue, AssertFails}
use Rattle.pgo_model.specs.System.{Words, Touched}
use Rattle.pgo_sections.specs.Access.{unmapped_reads}
use Rattle.pgo_sections.specs.BoundValues.{bindable, value_under}
use Rattle.pgo_sections.specs.Code.{Place, Whole, Own, variable_of, Code, Empty, Skip, Let, Pick, Become, Set, Await, Assert, Print, If, Either, Seq, Goto, Yield, Read, Write, Codes, no_codes, more_codes}
use Rattle.pgo_sections.specs.Context.{Context, content, index_value, part_at, put_content, put_new, value_of}
use Rattle.pgo_sections.specs.Domains.{Uses, AllUse}
use Rattle.pgo_sections.specs.Exec.{MacroEnd, Gives, Stops, with_choices, if_gives, touched, touching, read_unmapped, becoming, count, exec_arm_with}
use Rattle.pgo_sections.specs.Macros.{block_read, block_write, exec}
use Rattle.pgo_sections.specs.Section.{run_of}
use Rattle.pgo_sections.specs.SectionRun.{ChoiceMade, SectionRun, seen, printed, picked_number, chosen, Out, Go, Jump, Yielded, Stop, with_value, if_true, picked, go_on}
use Rattle.pgo_workers.specs.Walk.{append_assoc}
use Rattle.pgo_accesses.specs.Assigned.{NeverYields, NoneYields}
use Rattle.pgo_frame.proofs.Changed.{K1, K2, Changed, changed_same, touched_same, content_same, PutBoth, nowhere, changes, put_both, new_both, value_same}
use Rattle.pgo_frame.proofs.Parted.{all_agree, Apart, first_apart, Parted, Past, at_once, touched_at, past, onward}

abbrev pub with_changes : Vars → SectionRun → SectionRun
with_changes ch run = record run { changes = ch }

module _ (C : Context) (s t : Vars) where
  -- two ends of code: the same but for what has changed, which is as `Changed` says; or their traces part
  pub data Sim : Out → Out → Type 0 where
    goes : (run : SectionRun) (ch' : Vars) → Changed C s t run.changes ch' → Sim (Go run) (Go (with_changes ch' run))
    jumps : (l : Name) (run : SectionRun) (ch' : Vars) → Changed C s t run.changes ch' → Sim (Jump l run) (Jump l (with_changes ch' run))
    stops : (kind : Kind) (run : SectionRun) (ch' : Vars) → Sim (Stop kind run) (Stop kind (with_changes ch' run))
    parts : (o o' : Out) → Parted s t (run_of o).trace (run_of o').trace → Sim o o'

  -- ---- traces that part

  parted_at : (l us : List Touched) (o : Out) (a : Apart s t us) (p : Past (l ++ us) o) → (run_of o).trace ≡ (l ++ a.before) ++ (a.at ∷ (a.rest ++ p.0))
  parted_at l us o a p =
      p.1
      ∙ append_assoc l us p.0
      ∙ ap (λ m. l ++ (m ++ p.0)) a.is
      ∙ ap (λ m. l ++ m) (append_assoc a.before (a.at ∷ a.rest) p.0)
      ∙ sym (append_assoc l a.before (a.at ∷ (a.rest ++ p.0)))

  -- the states agree on what is accessed, or the traces part there
  accessing : (l us : List Touched) (o o' : Out) → Past (l ++ us) o → Past (l ++ us) o' → (all_agree s t us ≡ true → Sim o o') → Sim o o'
  accessing l us o o' p q h = go (all_agree s t us) refl
    where
      go : (b : Bool) → all_agree s t us ≡ b → Sim o o'
      go true e = h e
      go false e =
          let a = first_apart s t us e in
          parts o o' (record {
            before = l ++ a.before;
            at = a.at;
            rest = a.rest ++ p.0;
            rest' = a.rest ++ q.0;
            left = parted_at l us o a p;
            right = parted_at l us o' a q;
            differs = a.differs;
          })

  further : (o o' q q' : Out) → Past (run_of o).trace q → Past (run_of o').trace q' → Parted s t (run_of o).trace (run_of o').trace → Parted s t (run_of q).trace (run_of q').trace
  further o o' q q' m m' h = record {
    before = h.before;
    at = h.at;
    rest = h.rest ++ m.0;
    rest' = h.rest' ++ m'.0;
    left = m.1 ∙ ap (λ l. l ++ m.0) h.left ∙ append_assoc h.before (h.at ∷ h.rest) m.0;
    right = m'.1 ∙ ap (λ l. l ++ m'.0) h.right ∙ append_assoc h.before (h.at ∷ h.rest') m'.0;
    differs = h.differs;
  }

  goes_past : (o : Out) (f : SectionRun → Out) → ((run : SectionRun) → Past run.trace (f run)) → Past (run_of o).trace (go_on o f)
  goes_past (Go run) f g = g run
  goes_past (Jump x run) f g = at_once (Jump x run)
  goes_past (Yielded v run) f g = at_once (Yielded v run)
  goes_past (Stop kind run) f g = at_once (Stop kind run)

  -- ---- steps

  value_sim : {A : Type 0} (o o' : Option A) (run : SectionRun) (ch' : Vars) (f f' : A → Out) → o ≡ o' → ((v : A) → o ≡ Some v → Sim (f v) (f' v)) → Sim (with_value o run f) (with_value o' (with_changes ch' run) f')
  value_sim {A} o o' run ch' f f' e h = subst (λ q. Sim (with_value o run f) (with_value q (with_changes ch' run) f')) e (go o h)
    where
      go : (o : Option A) → ((v : A) → o ≡ Some v → Sim (f v) (f' v)) → Sim (with_value o run f) (with_value o (with_changes ch' run) f')
      go None h = stops NoValue run ch'
      go (Some v) h = h v refl

  picked_sim : (ms : List Data) (d : Words) (run : SectionRun) (ch' : Vars) (f f' : Data → SectionRun → Out) → ((v : Data) (n i : ℕ) → Sim (f v (chosen n i run)) (f' v (with_changes ch' (chosen n i run)))) → Sim (picked ms d run f) (picked ms d (with_changes ch' run) f')
  picked_sim [] d run ch' f f' h = stops Blocked run ch'
  picked_sim (m ∷ ms) d run ch' f f' h = h (get_or (m ∷ ms) (picked_number d run (length (m ∷ ms))) m) (length (m ∷ ms)) (picked_number d run (length (m ∷ ms)))

  true_sim : (o o' : Option Bool) (run : SectionRun) (ch' : Vars) (a b a' b' : Out) → o ≡ o' → Sim a a' → Sim b b' → Sim (if_true o run a b) (if_true o' (with_changes ch' run) a' b')
  true_sim o o' run ch' a b a' b' e x y = subst (λ q. Sim (if_true o run a b) (if_true q (with_changes ch' run) a' b')) e (go o)
    where
      go : (o : Option Bool) → Sim (if_true o run a b) (if_true o (with_changes ch' run) a' b')
      go (Some true) = x
      go (Some false) = y
      go None = stops NoValue run ch'

  gives_sim : {A : Type 0} (m : MacroEnd A) (run : SectionRun) (ch' : Vars) (f f' : A → SectionRun → Out) → ((a : A) (cs : List ChoiceMade) → Sim (f a (with_choices cs run)) (f' a (with_changes ch' (with_choices cs run)))) → Sim (if_gives m run f) (if_gives m (with_changes ch' run) f')
  gives_sim (Gives a cs) run ch' f f' h = h a cs
  gives_sim (Stops kind cs) run ch' f f' h = stops kind (with_choices cs run) ch'

  put_sim : (o o' : Option Vars) (run : SectionRun) (ch' : Vars) (f f' : Vars → Out) → PutBoth C s t o o' → ((c c' : Vars) → Changed C s t c c' → Sim (f c) (f' c')) → Sim (with_value o run f) (with_value o' (with_changes ch' run) f')
  put_sim o o' run ch' f f' (nowhere e e') h =
      subst (λ q. Sim (with_value q run f) (with_value o' (with_changes ch' run) f')) (sym e)
      (subst (λ q. Sim (with_value None run f) (with_value q (with_changes ch' run) f')) (sym e') (stops NoValue run ch'))
  put_sim o o' run ch' f f' (changes c c' e e' g) h =
      subst (λ q. Sim (with_value q run f) (with_value o' (with_changes ch' run) f')) (sym e)
      (subst (λ q. Sim (with_value (Some c) run f) (with_value q (with_changes ch' run) f')) (sym e') (h c c' g))

  go_sim : (o o' : Out) (f f' : SectionRun → Out) → ((run : SectionRun) → Past run.trace (f run)) → ((run : SectionRun) → Past run.trace (f' run)) → Sim o o' → ((run : SectionRun) (ch' : Vars) → Changed C s t run.changes ch' → Sim (f run) (f' (with_changes ch' run))) → Sim (go_on o f) (go_on o' f')
  go_sim o o' f f' p p' (goes run ch' g) h = h run ch' g
  go_sim o o' f f' p p' (jumps l run ch' g) h = jumps l run ch' g
  go_sim o o' f f' p p' (stops kind run ch') h = stops kind run ch'
  go_sim o o' f f' p p' (parts q q' g) h = parts (go_on q f) (go_on q' f') (further q q' (go_on q f) (go_on q' f') (goes_past q f p) (goes_past q' f' p') g)

  -- ---- code

  -- what is assigned is a global or an own variable, and what is read or written a global
  abbrev pub PlaceHere : Place → Type 0
  PlaceHere (Whole g) = is_among g C.globals ≡ true
  PlaceHere (Own x) = is_among x C.owns ≡ true

  abbrev pub MappedHere : Name → Option Name → Type 0
  MappedHere g i = is_among g C.globals ≡ true

  place_mine : (p : Place) → PlaceHere p → (is_among (variable_of p) C.globals ≡ true) ⊎ (is_among (variable_of p) C.owns ≡ true)
  place_mine (Whole g) h = inl h
  place_mine (Own x) h = inr h

  becoming_sim : (p : Place) (v : Data) (run : SectionRun) (ch' : Vars) → PlaceHere p → Changed C s t run.changes ch' → Sim (Go (becoming p v run)) (Go (becoming p v (with_changes ch' run)))
  becoming_sim p v run ch' u h =
      let x = variable_of p in
      goes (becoming p v run) ((x, v) ∷ ch') (changed_same C s t x v run.changes ch' (place_mine p u) h)

  module _ (owned : (x y : Name) → find x C.places ≡ Some (Own y) → (is_among y C.globals ≡ false) × (part_at y C.id s ≡ part_at y C.id t)) (d : Words) where
    -- code that begins with the reads of an expression
    evaluating : (c : Code) (e : Tree) (env : Names) (run : SectionRun) (ch' : Vars) → Past (run.trace ++ unmapped_reads C.places e) (exec (K1 C s t) c env d run) → Past (run.trace ++ unmapped_reads C.places e) (exec (K2 C s t) c env d (with_changes ch' run)) → Changed C s t run.changes ch'
        → (value_of (K1 C s t) e env run.changes ≡ value_of (K2 C s t) e env ch' → Sim (exec (K1 C s t) c env d run) (exec (K2 C s t) c env d (with_changes ch' run)))
        → Sim (exec (K1 C s t) c env d run) (exec (K2 C s t) c env d (with_changes ch' run))
    evaluating c e env run ch' p q h f =
        accessing run.trace (unmapped_reads C.places e) (exec (K1 C s t) c env d run) (exec (K2 C s t) c env d (with_changes ch' run)) p q (λ a. f (value_same C s t owned run.changes ch' h e env a))

    -- a mapped parameter's access
    mapped : (g : Name) (o : Option (Option Data)) (run : SectionRun) (ch' : Vars) → is_among g C.globals ≡ true → Changed C s t run.changes ch'
        → (f : (j : Option Data) → SectionRun → Option Data → Out) (f' : (j : Option Data) → SectionRun → Option Data → Out)
        → Past (run.trace ++ touched_at (K1 C s t) g run.changes o) (with_value o run (λ j. f j (touching (K1 C s t) g j run) (content (K1 C s t) g j run.changes)))
        → Past (run.trace ++ touched_at (K2 C s t) g ch' o) (with_value o (with_changes ch' run) (λ j. f' j (touching (K2 C s t) g j (with_changes ch' run)) (content (K2 C s t) g j ch')))
        → ((j : Option Data) (now : SectionRun) → now.changes ≡ run.changes → all_agree s t (touched (C.by_element g) g j (content (K1 C s t) g j run.changes)) ≡ true → Sim (f j now (content (K1 C s t) g j run.changes)) (f' j (with_changes ch' now) (content (K1 C s t) g j run.changes)))
        → Sim (with_value o run (λ j. f j (touching (K1 C s t) g j run) (content (K1 C s t) g j run.changes))) (with_value o (with_changes ch' run) (λ j. f' j (touching (K2 C s t) g j (with_changes ch' run)) (content (K2 C s t) g j ch')))
    mapped g None run ch' is h f f' p q k = stops NoValue run ch'
    mapped g (Some j) run ch' is h f f' p q k =
        let old = content (K1 C s t) g j run.changes in
        let us = touched (C.by_element g) g j old in
        let same = touched_same C s t run.changes ch' h g is j in
        let first = f j (touching (K1 C s t) g j run) old in
        let second = f' j (touching (K2 C s t) g j (with_changes ch' run)) (content (K2 C s t) g j ch') in
        accessing run.trace us first second p (subst (λ l. Past (run.trace ++ l) second) (sym same) q) (λ a.
        subst (λ x. Sim first (f' j (touching (K2 C s t) g j (with_changes ch' run)) x)) (content_same C s t run.changes ch' h g is j a)
        (subst (λ l. Sim first (f' j (seen l (with_changes ch' run)) old)) same (k j (touching (K1 C s t) g j run) refl a)))

    mutual
      pub sim : (c : Code) (env : Names) (run : SectionRun) (ch' : Vars) → NeverYields c → Uses PlaceHere MappedHere c → Changed C s t run.changes ch' → Sim (exec (K1 C s t) c env d run) (exec (K2 C s t) c env d (with_changes ch' run))
      sim Empty env run ch' y u h = goes run ch' h
      sim Skip env run ch' y u h = goes run ch' h
      sim (Let b w e c) env run ch' y u h =
          let now = read_unmapped (K1 C s t) e run in
          evaluating (Let b w e c) e env run ch' (past (K1 C s t) d (Let b w e c) env run) (past (K2 C s t) d (Let b w e c) env (with_changes ch' run)) h (λ same.
          value_sim (bindable (value_of (K1 C s t) e env run.changes)) (bindable (value_of (K2 C s t) e env ch')) now ch' (λ v. exec (K1 C s t) c ((w, Some v) ∷ env) d now) (λ v. exec (K2 C s t) c ((w, Some v) ∷ env) d (with_changes ch' now)) (ap bindable same) (λ v _.
          sim c ((w, Some v) ∷ env) now ch' y u h))
      sim (Pick b w e c) env run ch' y u h =
          let now = read_unmapped (K1 C s t) e run in
          let f = λ (v : Data) (then' : SectionRun). exec (K1 C s t) c ((w, Some v) ∷ env) d then' in
          let f' = λ (v : Data) (then' : SectionRun). exec (K2 C s t) c ((w, Some v) ∷ env) d then' in
          evaluating (Pick b w e c) e env run ch' (past (K1 C s t) d (Pick b w e c) env run) (past (K2 C s t) d (Pick b w e c) env (with_changes ch' run)) h (λ same.
          value_sim (option_and_then members_of (value_of (K1 C s t) e env run.changes)) (option_and_then members_of (value_of (K2 C s t) e env ch')) now ch' (λ ms. picked ms d now f) (λ ms. picked ms d (with_changes ch' now) f') (ap (option_and_then members_of) same) (λ ms _.
          picked_sim ms d now ch' f f' (λ v n i. sim c ((w, Some v) ∷ env) (chosen n i now) ch' y u h)))
      sim (Become p w) env run ch' y u h =
          value_sim (value_under w env) (value_under w env) run ch' (λ v. Go (becoming p v run)) (λ v. Go (becoming p v (with_changes ch' run))) refl (λ v _. becoming_sim p v run ch' u h)
      sim (Set b p e) env run ch' y u h =
          let now = read_unmapped (K1 C s t) e run in
          evaluating (Set b p e) e env run ch' (past (K1 C s t) d (Set b p e) env run) (past (K2 C s t) d (Set b p e) env (with_changes ch' run)) h (λ same.
          value_sim (bindable (value_of (K1 C s t) e env run.changes)) (bindable (value_of (K2 C s t) e env ch')) now ch' (λ v. Go (becoming p v now)) (λ v. Go (becoming p v (with_changes ch' now))) (ap bindable same) (λ v _. becoming_sim p v now ch' u h))
      sim (Await e) env run ch' y u h =
          let now = read_unmapped (K1 C s t) e run in
          evaluating (Await e) e env run ch' (past (K1 C s t) d (Await e) env run) (past (K2 C s t) d (Await e) env (with_changes ch' run)) h (λ same.
          true_sim (truth_of (value_of (K1 C s t) e env run.changes)) (truth_of (value_of (K2 C s t) e env ch')) now ch' (Go now) (Stop Blocked now) (Go (with_changes ch' now)) (Stop Blocked (with_changes ch' now)) (ap truth_of same) (goes now ch' h) (stops Blocked now ch'))
      sim (Assert e) env run ch' y u h =
          let now = read_unmapped (K1 C s t) e run in
          evaluating (Assert e) e env run ch' (past (K1 C s t) d (Assert e) env run) (past (K2 C s t) d (Assert e) env (with_changes ch' run)) h (λ same.
          true_sim (truth_of (value_of (K1 C s t) e env run.changes)) (truth_of (value_of (K2 C s t) e env ch')) now ch' (Go now) (Stop AssertFails now) (Go (with_changes ch' now)) (Stop AssertFails (with_changes ch' now)) (ap truth_of same) (goes now ch' h) (stops AssertFails now ch'))
      sim (Print e) env run ch' y u h =
          let now = read_unmapped (K1 C s t) e run in
          evaluating (Print e) e env run ch' (past (K1 C s t) d (Print e) env run) (past (K2 C s t) d (Print e) env (with_changes ch' run)) h (λ same.
          value_sim (value_of (K1 C s t) e env run.changes) (value_of (K2 C s t) e env ch') now ch' (λ v. Go (printed v now)) (λ v. Go (printed v (with_changes ch' now))) same (λ v _. goes (printed v now) ch' h))
      sim (If e a b) env run ch' y u h =
          let now = read_unmapped (K1 C s t) e run in
          evaluating (If e a b) e env run ch' (past (K1 C s t) d (If e a b) env run) (past (K2 C s t) d (If e a b) env (with_changes ch' run)) h (λ same.
          true_sim (truth_of (value_of (K1 C s t) e env run.changes)) (truth_of (value_of (K2 C s t) e env ch')) now ch'
          (exec (K1 C s t) a env d now) (exec (K1 C s t) b env d now) (exec (K2 C s t) a env d (with_changes ch' now)) (exec (K2 C s t) b env d (with_changes ch' now)) (ap truth_of same)
          (sim a env now ch' y.0 u.0 h) (sim b env now ch' y.1 u.1 h))
      sim (Either cs) env run ch' y u h =
          let i = picked_number d run (count cs) in sim_arm cs i env (chosen (count cs) i run) ch' y u h
      sim (Seq a b) env run ch' y u h =
          go_sim (exec (K1 C s t) a env d run) (exec (K2 C s t) a env d (with_changes ch' run)) (λ now. exec (K1 C s t) b env d now) (λ now. exec (K2 C s t) b env d now) (λ now. onward (K1 C s t) d b env now) (λ now. onward (K2 C s t) d b env now)
          (sim a env run ch' y.0 u.0 h) (λ now ch2 g. sim b env now ch2 y.1 u.1 g)
      sim (Goto l) env run ch' y u h = jumps l run ch' h
      sim (Yield e) env run ch' y u h = absurd y
      sim (Read w g i block c) env run ch' y u h =
          let m = λ (old : Data). block_read block C.defs C.id old d run.choices in
          let end = λ (r : Data × Option Data) (then' : SectionRun) (ch : Vars). exec (K1 C s t) c ((w, Some r.0) ∷ env) d (record then' { changes = ch }) in
          let end' = λ (r : Data × Option Data) (then' : SectionRun) (ch : Vars). exec (K2 C s t) c ((w, Some r.0) ∷ env) d (record then' { changes = ch }) in
          let rest = λ (j : Option Data) (r : Data × Option Data) (then' : SectionRun). with_value (put_new (K1 C s t) g j r.1 run.changes) then' (end r then') in
          let rest' = λ (j : Option Data) (r : Data × Option Data) (then' : SectionRun). with_value (put_new (K2 C s t) g j r.1 ch') then' (end' r then') in
          let f = λ (j : Option Data) (now : SectionRun) (x : Option Data). with_value (bindable x) now (λ old. if_gives (m old) now (rest j)) in
          let f' = λ (j : Option Data) (now : SectionRun) (x : Option Data). with_value (bindable x) now (λ old. if_gives (m old) now (rest' j)) in
          mapped g (index_value i env) run ch' u.0 h f f' (past (K1 C s t) d (Read w g i block c) env run) (past (K2 C s t) d (Read w g i block c) env (with_changes ch' run)) (λ j now _ a.
          let x = bindable (content (K1 C s t) g j run.changes) in
          value_sim x x now ch' (λ old. if_gives (m old) now (rest j)) (λ old. if_gives (m old) (with_changes ch' now) (rest' j)) refl (λ old _.
          gives_sim (m old) now ch' (rest j) (rest' j) (λ r cs.
          let then' = with_choices cs now in
          put_sim (put_new (K1 C s t) g j r.1 run.changes) (put_new (K2 C s t) g j r.1 ch') then' ch' (end r then') (end' r (with_changes ch' then')) (new_both C s t run.changes ch' h g u.0 j r.1 a) (λ c1 c2 k.
          sim c ((w, Some r.0) ∷ env) (record then' { changes = c1 }) c2 y u.1 k))))
      sim (Write g i w block) env run ch' y u h =
          let m = λ (old v : Data). block_write block C.defs C.id old v d run.choices in
          let end = λ (then' : SectionRun) (ch : Vars). Go (record then' { changes = ch }) in
          let rest = λ (j : Option Data) (new : Data) (then' : SectionRun). with_value (put_content (K1 C s t) g j (Some new) run.changes) then' (end then') in
          let rest' = λ (j : Option Data) (new : Data) (then' : SectionRun). with_value (put_content (K2 C s t) g j (Some new) ch') then' (end then') in
          let f = λ (j : Option Data) (now : SectionRun) (x : Option Data). with_value (bindable x) now (λ old. with_value (value_under w env) now (λ v. if_gives (m old v) now (rest j))) in
          let f' = λ (j : Option Data) (now : SectionRun) (x : Option Data). with_value (bindable x) now (λ old. with_value (value_under w env) now (λ v. if_gives (m old v) now (rest' j))) in
          mapped g (index_value i env) run ch' u h f f' (past (K1 C s t) d (Write g i w block) env run) (past (K2 C s t) d (Write g i w block) env (with_changes ch' run)) (λ j now _ a.
          let x = bindable (content (K1 C s t) g j run.changes) in
          value_sim x x now ch' (λ old. with_value (value_under w env) now (λ v. if_gives (m old v) now (rest j))) (λ old. with_value (value_under w env) (with_changes ch' now) (λ v. if_gives (m old v) (with_changes ch' now) (rest' j))) refl (λ old _.
          value_sim (value_under w env) (value_under w env) now ch' (λ v. if_gives (m old v) now (rest j)) (λ v. if_gives (m old v) (with_changes ch' now) (rest' j)) refl (λ v _.
          gives_sim (m old v) now ch' (rest j) (rest' j) (λ new cs.
          let then' = with_choices cs now in
          put_sim (put_content (K1 C s t) g j (Some new) run.changes) (put_content (K2 C s t) g j (Some new) ch') then' ch' (end then') (end (with_changes ch' then')) (put_both C s t run.changes ch' h g u j new a) (λ c1 c2 k.
          goes (record then' { changes = c1 }) c2 k)))))

      sim_arm : (cs : Codes) (i : ℕ) (env : Names) (run : SectionRun) (ch' : Vars) → NoneYields cs → AllUse PlaceHere MappedHere cs → Changed C s t run.changes ch' → Sim (exec_arm_with block_read block_write (K1 C s t) cs i env d run) (exec_arm_with block_read block_write (K2 C s t) cs i env d (with_changes ch' run))
      sim_arm no_codes i env run ch' y u h = stops NoValue run ch'
      sim_arm (more_codes c cs) zero env run ch' y u h = sim c env run ch' y.0 u.0 h
      sim_arm (more_codes c cs) (suc i) env run ch' y u h = sim_arm cs i env run ch' y.1 u.1 h
