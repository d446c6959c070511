-- A variable that code neither assigns nor writes is at the end of a section what it was.
use Rattle.std.proofs.Common.{◌≡◌, ℕ, zero, suc, Bool, true, false, if◌then◌else◌, List, [], ◌∷◌, length, get_or, Option, Some, None, refl, ap, ◌∙◌, subst, option_map, option_and_then}
use Rattle.std.proofs.lemmas.Option.{same_Some}
use Rattle.pgo_base.specs.Data.{Data}
use Rattle.pgo_base.specs.Lookup.{Name, Names, Vars, same_name, find}
use Rattle.pgo_model.specs.Operators.{members_of, truth_of}
use Rattle.pgo_model.specs.Options.{on}
use Rattle.pgo_model.specs.Outcome.{Blocked, NoValue, AssertFails, Next, Stuck}
use Rattle.pgo_model.specs.State.{is_shallow}
use Rattle.pgo_model.specs.System.{Words}
use Rattle.pgo_model.specs.Written.{pc}
use Rattle.pgo_model.specs.Names.{is_among}
use Rattle.pgo_sections.specs.Code.{Place, variable_of, Code, Empty, Skip, Let, Pick, Become, Set, Await, Assert, Print, If, Either, Seq, Goto, Yield, Read, Write, Codes, no_codes, more_codes}
use Rattle.pgo_sections.specs.Context.{Context, content, with_content, put_content, put_new, value_of, index_value}
use Rattle.pgo_sections.specs.Domains.{Uses, AllUse}
use Rattle.pgo_sections.specs.Exec.{MacroEnd, Gives, Stops, with_choices, if_gives, touching, read_unmapped, becoming, count, Reads, Writes, exec_with, exec_arm_with}
use Rattle.pgo_sections.specs.Macros.{block_read, block_write, exec}
use Rattle.pgo_sections.specs.BoundValues.{bindable, value_under, put_part, value_put}
use Rattle.pgo_sections.specs.SectionRun.{SectionRun, begun, printed, picked_number, chosen, Out, Go, Jump, Yielded, Stop, with_value, if_true, picked, go_on}
use Rattle.pgo_sections.specs.Section.{closed_value, closed, if_shallow, end_of, section}
use Rattle.pgo_sections.proofs.Closing.{closed_at}

module _ (x : Name) where
  abbrev OtherPlace : Place → Type 0
  OtherPlace p = same_name x (variable_of p) ≡ false

  abbrev OtherGlobal : Name → Option Name → Type 0
  OtherGlobal g i = same_name x g ≡ false

  abbrev pub Leaves : Code → Type 0
  Leaves c = Uses (λ p. same_name x (variable_of p) ≡ false) (λ g i. same_name x g ≡ false) c

  abbrev AllLeave : Codes → Type 0
  AllLeave cs = AllUse (λ p. same_name x (variable_of p) ≡ false) (λ g i. same_name x g ≡ false) cs

  abbrev Still : Vars → Type 0
  Still ch = find x ch ≡ None

  abbrev StillOut : Out → Type 0
  StillOut (Go run) = Still run.changes
  StillOut (Jump l run) = Still run.changes
  StillOut (Yielded v run) = Unit {0}
  StillOut (Stop kind run) = Unit {0}

  more_still : (z : Name) (w : Data) (ch : Vars) → same_name x z ≡ false → Still ch → Still ((z, w) ∷ ch)
  more_still z w ch n h = ap (λ b. if b then Some w else find x ch) n ∙ h

  value_still : {A : Type 0} (o : Option A) (run : SectionRun) (f : A → Out) → ((v : A) → o ≡ Some v → StillOut (f v)) → StillOut (with_value o run f)
  value_still None run f h = tt
  value_still (Some v) run f h = h v refl

  picked_still : (ms : List Data) (d : Words) (run : SectionRun) (f : Data → SectionRun → Out) → ((v : Data) (n i : ℕ) → StillOut (f v (chosen n i run))) → StillOut (picked ms d run f)
  picked_still [] d run f h = tt
  picked_still (m ∷ ms) d run f h = h (get_or (m ∷ ms) (picked_number d run (length (m ∷ ms))) m) (length (m ∷ ms)) (picked_number d run (length (m ∷ ms)))

  true_still : (o : Option Bool) (run : SectionRun) (a b : Out) → StillOut a → StillOut b → StillOut (if_true o run a b)
  true_still (Some true) run a b h g = h
  true_still (Some false) run a b h g = g
  true_still None run a b h g = tt

  go_still : (o : Out) (f : SectionRun → Out) → StillOut o → ((run : SectionRun) → Still run.changes → StillOut (f run)) → StillOut (go_on o f)
  go_still (Go run) f h g = g run h
  go_still (Jump l run) f h g = h
  go_still (Yielded v run) f h g = tt
  go_still (Stop kind run) f h g = tt

  gives_still : {A : Type 0} (m : MacroEnd A) (run : SectionRun) (f : A → SectionRun → Out) → ((a : A) (r : SectionRun) → StillOut (f a r)) → StillOut (if_gives m run f)
  gives_still (Gives a cs) run f h = h a (with_choices cs run)
  gives_still (Stops kind cs) run f h = tt

  put_still : (k : Context) (g : Name) (j v : Option Data) (ch ch' : Vars) → same_name x g ≡ false → Still ch → put_content k g j v ch ≡ Some ch' → Still ch'
  put_still k g j v ch ch' n h e = go (bindable (with_content k g j v ch)) e
    where
      go : (o : Option Data) → option_map (λ w. (g, w) ∷ ch) o ≡ Some ch' → Still ch'
      go None e = absurd (cc)
      go (Some w) e = subst Still (same_Some ((g, w) ∷ ch) ch' e) (more_still g w ch n h)

  new_still : (k : Context) (g : Name) (j v : Option Data) (ch ch' : Vars) → same_name x g ≡ false → Still ch → put_new k g j v ch ≡ Some ch' → Still ch'
  new_still k g j None ch ch' n h e = subst Still (same_Some ch ch' e) h
  new_still k g j (Some v) ch ch' n h e = put_still k g j (Some v) ch ch' n h e

  module _ (reads : Reads) (writes : Writes) (k : Context) where
    mutual
      code_still : (c : Code) (env : Names) (d : Words) (run : SectionRun) → Leaves c → Still run.changes → StillOut (exec_with reads writes k c env d run)
      code_still Empty env d run l h = h
      code_still Skip env d run l h = h
      code_still (Let b w e c) env d run l h =
          let now = read_unmapped k e run in
          value_still (bindable (value_of k e env run.changes)) now (λ v. exec_with reads writes k c ((w, Some v) ∷ env) d now) (λ v q. code_still c ((w, Some v) ∷ env) d now l h)
      code_still (Pick b w e c) env d run l h =
          let now = read_unmapped k e run in
          let f = λ (v : Data) (then' : SectionRun). exec_with reads writes k c ((w, Some v) ∷ env) d then' in
          value_still (option_and_then members_of (value_of k e env run.changes)) now (λ ms. picked ms d now f) (λ ms q.
          picked_still ms d now f (λ v n i. code_still c ((w, Some v) ∷ env) d (chosen n i now) l h))
      code_still (Become p w) env d run l h = value_still (value_under w env) run (λ v. Go (becoming p v run)) (λ v q. more_still (variable_of p) v run.changes l h)
      code_still (Set b p e) env d run l h =
          let now = read_unmapped k e run in
          value_still (bindable (value_of k e env run.changes)) now (λ v. Go (becoming p v now)) (λ v q. more_still (variable_of p) v run.changes l h)
      code_still (Await e) env d run l h =
          let now = read_unmapped k e run in true_still (truth_of (value_of k e env run.changes)) now (Go now) (Stop Blocked now) h tt
      code_still (Assert e) env d run l h =
          let now = read_unmapped k e run in true_still (truth_of (value_of k e env run.changes)) now (Go now) (Stop AssertFails now) h tt
      code_still (Print e) env d run l h =
          let now = read_unmapped k e run in value_still (value_of k e env run.changes) now (λ v. Go (printed v now)) (λ v q. h)
      code_still (If e a z) env d run l h =
          let now = read_unmapped k e run in
          true_still (truth_of (value_of k e env run.changes)) now (exec_with reads writes k a env d now) (exec_with reads writes k z env d now) (code_still a env d now l.0 h) (code_still z env d now l.1 h)
      code_still (Either cs) env d run l h =
          let i = picked_number d run (count cs) in arm_still cs i env d (chosen (count cs) i run) l h
      code_still (Seq a z) env d run l h =
          go_still (exec_with reads writes k a env d run) (λ now. exec_with reads writes k z env d now) (code_still a env d run l.0 h) (λ now g. code_still z env d now l.1 g)
      code_still (Goto z) env d run l h = h
      code_still (Yield e) env d run l h = value_still (bindable (value_of k e env run.changes)) run (λ v. Yielded v run) (λ v q. tt)
      code_still (Read w g i block c) env d run l h =
          value_still (index_value i env) run (λ j.
          with_value (bindable (content k g j run.changes)) (touching k g j run) (λ old.
          if_gives (reads block k.defs k.id old d run.choices) (touching k g j run) (λ r then'.
          with_value (put_new k g j r.1 run.changes) then' (λ ch.
          exec_with reads writes k c ((w, Some r.0) ∷ env) d (record then' { changes = ch }))))) (λ j q.
          value_still (bindable (content k g j run.changes)) (touching k g j run) (λ old.
          if_gives (reads block k.defs k.id old d run.choices) (touching k g j run) (λ r then'.
          with_value (put_new k g j r.1 run.changes) then' (λ ch.
          exec_with reads writes k c ((w, Some r.0) ∷ env) d (record then' { changes = ch })))) (λ old o.
          gives_still (reads block k.defs k.id old d run.choices) (touching k g j run) (λ r then'.
          with_value (put_new k g j r.1 run.changes) then' (λ ch.
          exec_with reads writes k c ((w, Some r.0) ∷ env) d (record then' { changes = ch }))) (λ r then'.
          value_still (put_new k g j r.1 run.changes) then' (λ ch.
          exec_with reads writes k c ((w, Some r.0) ∷ env) d (record then' { changes = ch })) (λ ch z.
          code_still c ((w, Some r.0) ∷ env) d (record then' { changes = ch }) l.1 (new_still k g j r.1 run.changes ch l.0 h z)))))
      code_still (Write g i w block) env d run l h =
          value_still (index_value i env) run (λ j.
          with_value (bindable (content k g j run.changes)) (touching k g j run) (λ old.
          with_value (value_under w env) (touching k g j run) (λ v.
          if_gives (writes block k.defs k.id old v d run.choices) (touching k g j run) (λ new then'.
          with_value (put_content k g j (Some new) run.changes) then' (λ ch.
          Go (record then' { changes = ch })))))) (λ j q.
          value_still (bindable (content k g j run.changes)) (touching k g j run) (λ old.
          with_value (value_under w env) (touching k g j run) (λ v.
          if_gives (writes block k.defs k.id old v d run.choices) (touching k g j run) (λ new then'.
          with_value (put_content k g j (Some new) run.changes) then' (λ ch.
          Go (record then' { changes = ch }))))) (λ old o.
          value_still (value_under w env) (touching k g j run) (λ v.
          if_gives (writes block k.defs k.id old v d run.choices) (touching k g j run) (λ new then'.
          with_value (put_content k g j (Some new) run.changes) then' (λ ch.
          Go (record then' { changes = ch })))) (λ v u.
          gives_still (writes block k.defs k.id old v d run.choices) (touching k g j run) (λ new then'.
          with_value (put_content k g j (Some new) run.changes) then' (λ ch.
          Go (record then' { changes = ch }))) (λ new then'.
          value_still (put_content k g j (Some new) run.changes) then' (λ ch.
          Go (record then' { changes = ch })) (λ ch z. put_still k g j (Some new) run.changes ch l h z)))))

      arm_still : (cs : Codes) (i : ℕ) (env : Names) (d : Words) (run : SectionRun) → AllLeave cs → Still run.changes → StillOut (exec_arm_with reads writes k cs i env d run)
      arm_still no_codes i env d run l h = tt
      arm_still (more_codes c cs) zero env d run l h = code_still c env d run l.0 h
      arm_still (more_codes c cs) (suc i) env d run l h = arm_still cs i env d run l.1 h

  module _ (k : Context) (not_place : same_name x pc ≡ false) where
    closed_still : (l : Name) (ch t : Vars) → Still ch → closed k l ch k.start ≡ Some t → find x t ≡ find x k.start
    closed_still l ch t h e = closed_at k l ch k.start t e x ∙ each (find x k.start)
      where
        each : (o : Option Data) → option_and_then (closed_value k l ch x) o ≡ o
        each None = refl
        each (Some old) =
            ap (λ b. if b then put_part k.id (Some old) (Some (Rattle.pgo_base.specs.Data.string l)) else on (Some old) (find x ch) (λ v. value_put (is_among x k.globals) k.id (Some old) (Some v))) not_place
            ∙ ap (λ o. on (Some old) o (λ v. value_put (is_among x k.globals) k.id (Some old) (Some v))) h

    end_still : (o : Out) (t : Vars) (prints : List Data) → StillOut o → end_of k o ≡ Next t prints → find x t ≡ find x k.start
    end_still (Go run) t prints h e = absurd (cc)
    end_still (Jump l run) t prints h e = go (closed k l run.changes k.start) refl e
      where
        shallow : (b : Bool) (u : Vars) → find x u ≡ find x k.start → (if b then Next u run.prints else Stuck NoValue) ≡ Next t prints → find x t ≡ find x k.start
        shallow true u a q = subst (λ u. find x u ≡ find x k.start) (next_is u t run.prints prints q) a
          where
            next_is : (u t : Vars) (a b : List Data) → Next u a ≡ Next t b → u ≡ t
            next_is u t a b q = cc
        shallow false u a q = absurd (cc)

        go : (o : Option Vars) → closed k l run.changes k.start ≡ o → on (Stuck NoValue) o (if_shallow run.prints) ≡ Next t prints → find x t ≡ find x k.start
        go None g q = absurd (cc)
        go (Some u) g q = shallow (is_shallow u) u (closed_still l run.changes u h g) q
    end_still (Yielded v run) t prints h e = absurd (cc)
    end_still (Stop kind run) t prints h e = absurd (cc)

    pub section_still : (c : Code) (d : Words) (t : Vars) (prints : List Data) → Leaves c → (section k c d).end ≡ Next t prints → find x t ≡ find x k.start
    section_still c d t prints l e = end_still (exec k c [] d (begun [] [])) t prints (code_still block_read block_write k c [] d (begun [] []) l refl) e
