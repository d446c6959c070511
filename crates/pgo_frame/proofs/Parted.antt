-- Traces that part at a component on which two states don't agree; and that a run's trace only grows.
use Rattle.std.proofs.Common.{◌≡◌, ℕ, zero, suc, Bool, true, false, ◌&&◌, List, [], ◌∷◌, ◌++◌, length, get_or, Option, Some, None, refl, sym, ap, ◌∙◌, subst, arith, option_and_then}
use Rattle.pgo_base.specs.Data.{Data}
use Rattle.pgo_base.specs.Lookup.{Name, Names, Vars}
use Rattle.pgo_model.specs.Operators.{same_data, members_of, truth_of}
use Rattle.pgo_model.specs.Options.{on}
use Rattle.pgo_model.specs.Outcome.{Kind, Blocked, NoValue, AssertFails}
use Rattle.pgo_model.specs.System.{Words, Touched}
use Rattle.pgo_sections.specs.Access.{unmapped_reads, touched_whole}
use Rattle.pgo_sections.specs.BoundValues.{bindable, value_under}
use Rattle.pgo_sections.specs.Code.{Code, Empty, Skip, Let, Pick, Become, Set, Await, Assert, Print, If, Either, Seq, Goto, Yield, Read, Write, Codes, no_codes, more_codes}
use Rattle.pgo_sections.specs.Context.{Context, content, index_value, put_content, put_new, value_of}
use Rattle.pgo_sections.specs.Exec.{MacroEnd, Gives, Stops, with_choices, if_gives, touched, touching, read_unmapped, becoming, count, exec_arm_with}
use Rattle.pgo_sections.specs.Macros.{block_read, block_write, exec}
use Rattle.pgo_sections.specs.Section.{run_of}
use Rattle.pgo_sections.specs.SectionRun.{ChoiceMade, SectionRun, printed, picked_number, chosen, Out, Go, Jump, Yielded, Stop, with_value, if_true, picked, go_on}
use Rattle.pgo_sections.proofs.Domains.{same_of}
use Rattle.pgo_workers.specs.Walk.{append_assoc}
use Rattle.pgo_accesses.proofs.Parts.{same_self}
use Rattle.pgo_frame.specs.Agreement.{value_at, AgreeAt}

-- ---- lists

pub append_none : {A : Type 0} (l : List A) → l ++ [] ≡ l
append_none [] = refl
append_none (x ∷ l) = ap (λ m. x ∷ m) (append_none l)

-- ---- whether two states agree

abbrev pub same_option : Option Data → Option Data → Bool
same_option None None = true
same_option None (Some w) = false
same_option (Some v) None = false
same_option (Some v) (Some w) = same_data v w

option_is : (o p : Option Data) → same_option o p ≡ true → o ≡ p
option_is None None h = refl
option_is None (Some w) h = absurd (grind (arith, h))
option_is (Some v) None h = absurd (grind (arith, h))
option_is (Some v) (Some w) h = ap Some (same_of v w h)

option_self : (o : Option Data) → same_option o o ≡ true
option_self None = refl
option_self (Some v) = same_self v

pub both_true : (a b : Bool) → a && b ≡ true → (a ≡ true) × (b ≡ true)
both_true true b h = (refl, h)
both_true false b h = absurd (grind (arith, h))

module _ (s t : Vars) where
  abbrev pub agrees : Touched → Bool
  agrees c = same_option (value_at c s) (value_at c t)

  abbrev pub all_agree : List Touched → Bool
  all_agree [] = true
  all_agree (c ∷ cs) = agrees c && all_agree cs

  pub agree_is : (c : Touched) → agrees c ≡ true → AgreeAt s t c
  agree_is c h = option_is (value_at c s) (value_at c t) h

  pub agree_test : (c : Touched) → AgreeAt s t c → agrees c ≡ true
  agree_test c h = subst (λ o. same_option (value_at c s) o ≡ true) h (option_self (value_at c s))

  -- the first of these on which they don't agree
  pub record Apart (cs : List Touched) : Type 0 where
    pub before : List Touched
    pub at : Touched
    pub rest : List Touched
    pub is : cs ≡ before ++ (at ∷ rest)
    pub differs : agrees at ≡ false

  pub first_apart : (cs : List Touched) → all_agree cs ≡ false → Apart cs
  first_apart [] h = absurd (grind (arith, h))
  first_apart (c ∷ cs) h = go (agrees c) refl h (λ e. first_apart cs e)
    where
      go : (b : Bool) → agrees c ≡ b → b && all_agree cs ≡ false → (all_agree cs ≡ false → Apart cs) → Apart (c ∷ cs)
      go true e h more = let r = more h in record { before = c ∷ r.before; at = r.at; rest = r.rest; is = ap (λ l. c ∷ l) r.is; differs = r.differs }
      go false e h more = record { before = []; at = c; rest = cs; is = refl; differs = e }

  -- two traces are the same up to a component on which they don't agree, which is in both
  pub record Parted (l m : List Touched) : Type 0 where
    pub before : List Touched
    pub at : Touched
    pub rest : List Touched
    pub rest' : List Touched
    pub left : l ≡ before ++ (at ∷ rest)
    pub right : m ≡ before ++ (at ∷ rest')
    pub differs : agrees at ≡ false

-- ---- a trace grows

abbrev pub Past : List Touched → Out → Type 0
Past l o = (more : List Touched) × ((run_of o).trace ≡ l ++ more)

pub shorter : (l m : List Touched) (o : Out) → Past (l ++ m) o → Past l o
shorter l m o h = (m ++ h.0, h.1 ∙ append_assoc l m h.0)

pub at_once : (o : Out) → Past (run_of o).trace o
at_once o = ([], sym (append_none (run_of o).trace))

pub nothing_more : (l : List Touched) (o : Out) → (run_of o).trace ≡ l → Past (l ++ []) o
nothing_more l o h = ([], h ∙ sym (append_none l) ∙ sym (append_none (l ++ [])))

value_past : {A : Type 0} (l : List Touched) (o : Option A) (run : SectionRun) (f : A → Out) → Past l (Stop NoValue run) → ((v : A) → Past l (f v)) → Past l (with_value o run f)
value_past l None run f h g = h
value_past l (Some v) run f h g = g v

picked_past : (l : List Touched) (ms : List Data) (d : Words) (run : SectionRun) (f : Data → SectionRun → Out) → Past l (Stop Blocked run) → ((v : Data) (n i : ℕ) → Past l (f v (chosen n i run))) → Past l (picked ms d run f)
picked_past l [] d run f h g = h
picked_past l (m ∷ ms) d run f h g = g (get_or (m ∷ ms) (picked_number d run (length (m ∷ ms))) m) (length (m ∷ ms)) (picked_number d run (length (m ∷ ms)))

true_past : (l : List Touched) (o : Option Bool) (run : SectionRun) (a b : Out) → Past l (Stop NoValue run) → Past l a → Past l b → Past l (if_true o run a b)
true_past l (Some true) run a b h x y = x
true_past l (Some false) run a b h x y = y
true_past l None run a b h x y = h

pub go_past : (l : List Touched) (o : Out) (f : SectionRun → Out) → Past l o → ((run : SectionRun) → Past run.trace (f run)) → Past l (go_on o f)
go_past l (Go run) f h g = let r = g run in (h.0 ++ r.0, r.1 ∙ ap (λ m. m ++ r.0) h.1 ∙ append_assoc l h.0 r.0)
go_past l (Jump x run) f h g = h
go_past l (Yielded v run) f h g = h
go_past l (Stop kind run) f h g = h

gives_past : {A : Type 0} (l : List Touched) (m : MacroEnd A) (run : SectionRun) (f : A → SectionRun → Out) → ((kind : Kind) (cs : List ChoiceMade) → Past l (Stop kind (with_choices cs run))) → ((a : A) (cs : List ChoiceMade) → Past l (f a (with_choices cs run))) → Past l (if_gives m run f)
gives_past l (Gives a cs) run f h g = g a cs
gives_past l (Stops kind cs) run f h g = h kind cs

-- what code accesses at its very start
abbrev pub touched_at : Context → Name → Vars → Option (Option Data) → List Touched
touched_at k g ch o = on [] o (λ j. touched (k.by_element g) g j (content k g j ch))

abbrev pub first_accesses : Context → Code → Names → Vars → List Touched
first_accesses k Empty env ch = []
first_accesses k Skip env ch = []
first_accesses k (Let b w e c) env ch = unmapped_reads k.places e
first_accesses k (Pick b w e c) env ch = unmapped_reads k.places e
first_accesses k (Become p w) env ch = []
first_accesses k (Set b p e) env ch = unmapped_reads k.places e
first_accesses k (Await e) env ch = unmapped_reads k.places e
first_accesses k (Assert e) env ch = unmapped_reads k.places e
first_accesses k (Print e) env ch = unmapped_reads k.places e
first_accesses k (If e a b) env ch = unmapped_reads k.places e
first_accesses k (Either cs) env ch = []
first_accesses k (Seq a b) env ch = []
first_accesses k (Goto l) env ch = []
first_accesses k (Yield e) env ch = []
first_accesses k (Read w g i block c) env ch = touched_at k g ch (index_value i env)
first_accesses k (Write g i w block) env ch = touched_at k g ch (index_value i env)

module _ (k : Context) (d : Words) where
  index_past : (g : Name) (run : SectionRun) (o : Option (Option Data)) (f : Option Data → Out) → ((j : Option Data) → Past (touching k g j run).trace (f j)) → Past (run.trace ++ touched_at k g run.changes o) (with_value o run f)
  index_past g run None f h = nothing_more run.trace (Stop NoValue run) refl
  index_past g run (Some j) f h = h j

  mutual
    -- code goes past what it accesses first
    pub past : (c : Code) (env : Names) (run : SectionRun) → Past (run.trace ++ first_accesses k c env run.changes) (exec k c env d run)
    past Empty env run = nothing_more run.trace (Go run) refl
    past Skip env run = nothing_more run.trace (Go run) refl
    past (Let b w e c) env run =
        let now = read_unmapped k e run in
        value_past now.trace (bindable (value_of k e env run.changes)) now (λ v. exec k c ((w, Some v) ∷ env) d now) (at_once (Go now)) (λ v. shorter now.trace (first_accesses k c ((w, Some v) ∷ env) now.changes) (exec k c ((w, Some v) ∷ env) d now) (past c ((w, Some v) ∷ env) now))
    past (Pick b w e c) env run =
        let now = read_unmapped k e run in
        let f = λ (v : Data) (then' : SectionRun). exec k c ((w, Some v) ∷ env) d then' in
        value_past now.trace (option_and_then members_of (value_of k e env run.changes)) now (λ ms. picked ms d now f) (at_once (Go now)) (λ ms.
        picked_past now.trace ms d now f (at_once (Go now)) (λ v n i. shorter (chosen n i now).trace (first_accesses k c ((w, Some v) ∷ env) (chosen n i now).changes) (exec k c ((w, Some v) ∷ env) d (chosen n i now)) (past c ((w, Some v) ∷ env) (chosen n i now))))
    past (Become p w) env run =
        subst (λ l. Past l (exec k (Become p w) env d run)) (sym (append_none run.trace))
        (value_past run.trace (value_under w env) run (λ v. Go (becoming p v run)) (at_once (Go run)) (λ v. (touched_whole (Some p) [], refl)))
    past (Set b p e) env run =
        let now = read_unmapped k e run in
        value_past now.trace (bindable (value_of k e env run.changes)) now (λ v. Go (becoming p v now)) (at_once (Go now)) (λ v. (touched_whole (Some p) [], refl))
    past (Await e) env run =
        let now = read_unmapped k e run in
        true_past now.trace (truth_of (value_of k e env run.changes)) now (Go now) (Stop Blocked now) (at_once (Go now)) (at_once (Go now)) (at_once (Go now))
    past (Assert e) env run =
        let now = read_unmapped k e run in
        true_past now.trace (truth_of (value_of k e env run.changes)) now (Go now) (Stop AssertFails now) (at_once (Go now)) (at_once (Go now)) (at_once (Go now))
    past (Print e) env run =
        let now = read_unmapped k e run in
        value_past now.trace (value_of k e env run.changes) now (λ v. Go (printed v now)) (at_once (Go now)) (λ v. at_once (Go now))
    past (If e a b) env run =
        let now = read_unmapped k e run in
        true_past now.trace (truth_of (value_of k e env run.changes)) now (exec k a env d now) (exec k b env d now) (at_once (Go now)) (shorter now.trace (first_accesses k a env now.changes) (exec k a env d now) (past a env now)) (shorter now.trace (first_accesses k b env now.changes) (exec k b env d now) (past b env now))
    past (Either cs) env run =
        let i = picked_number d run (count cs) in
        subst (λ l. Past l (exec k (Either cs) env d run)) (sym (append_none run.trace)) (past_arm cs i env (chosen (count cs) i run))
    past (Seq a b) env run =
        subst (λ l. Past l (exec k (Seq a b) env d run)) (sym (append_none run.trace))
        (go_past run.trace (exec k a env d run) (λ now. exec k b env d now) (shorter run.trace (first_accesses k a env run.changes) (exec k a env d run) (past a env run)) (λ now. shorter now.trace (first_accesses k b env now.changes) (exec k b env d now) (past b env now)))
    past (Goto l) env run = nothing_more run.trace (Jump l run) refl
    past (Yield e) env run =
        subst (λ l. Past l (exec k (Yield e) env d run)) (sym (append_none run.trace))
        (value_past run.trace (bindable (value_of k e env run.changes)) run (λ v. Yielded v run) (at_once (Go run)) (λ v. at_once (Go run)))
    past (Read w g i block c) env run =
        let m = λ (old : Data). block_read block k.defs k.id old d run.choices in
        let end = λ (r : Data × Option Data) (then' : SectionRun) (ch : Vars). exec k c ((w, Some r.0) ∷ env) d (record then' { changes = ch }) in
        let rest = λ (j : Option Data) (r : Data × Option Data) (then' : SectionRun). with_value (put_new k g j r.1 run.changes) then' (end r then') in
        index_past g run (index_value i env) (λ j. with_value (bindable (content k g j run.changes)) (touching k g j run) (λ old. if_gives (m old) (touching k g j run) (rest j))) (λ j.
        let now = touching k g j run in
        value_past now.trace (bindable (content k g j run.changes)) now (λ old. if_gives (m old) now (rest j)) (at_once (Go now)) (λ old.
        gives_past now.trace (m old) now (rest j) (λ kind cs. at_once (Go now)) (λ a cs.
        value_past now.trace (put_new k g j a.1 run.changes) (with_choices cs now) (end a (with_choices cs now)) (at_once (Go now)) (λ ch.
        shorter (record (with_choices cs now) { changes = ch }).trace (first_accesses k c ((w, Some a.0) ∷ env) (record (with_choices cs now) { changes = ch }).changes) (exec k c ((w, Some a.0) ∷ env) d (record (with_choices cs now) { changes = ch })) (past c ((w, Some a.0) ∷ env) (record (with_choices cs now) { changes = ch }))))))
    past (Write g i w block) env run =
        let m = λ (old v : Data). block_write block k.defs k.id old v d run.choices in
        let end = λ (then' : SectionRun) (ch : Vars). Go (record then' { changes = ch }) in
        let rest = λ (j : Option Data) (new : Data) (then' : SectionRun). with_value (put_content k g j (Some new) run.changes) then' (end then') in
        index_past g run (index_value i env) (λ j. with_value (bindable (content k g j run.changes)) (touching k g j run) (λ old. with_value (value_under w env) (touching k g j run) (λ v. if_gives (m old v) (touching k g j run) (rest j)))) (λ j.
        let now = touching k g j run in
        value_past now.trace (bindable (content k g j run.changes)) now (λ old. with_value (value_under w env) now (λ v. if_gives (m old v) now (rest j))) (at_once (Go now)) (λ old.
        value_past now.trace (value_under w env) now (λ v. if_gives (m old v) now (rest j)) (at_once (Go now)) (λ v.
        gives_past now.trace (m old v) now (rest j) (λ kind cs. at_once (Go now)) (λ a cs.
        value_past now.trace (put_content k g j (Some a) run.changes) (with_choices cs now) (end (with_choices cs now)) (at_once (Go now)) (λ ch. at_once (Go now))))))

    past_arm : (cs : Codes) (i : ℕ) (env : Names) (run : SectionRun) → Past run.trace (exec_arm_with block_read block_write k cs i env d run)
    past_arm no_codes i env run = at_once (Go run)
    past_arm (more_codes c cs) zero env run = shorter run.trace (first_accesses k c env run.changes) (exec k c env d run) (past c env run)
    past_arm (more_codes c cs) (suc i) env run = past_arm cs i env run

  -- so its trace begins with that of the run before it
  pub onward : (c : Code) (env : Names) (run : SectionRun) → Past run.trace (exec k c env d run)
  onward c env run = shorter run.trace (first_accesses k c env run.changes) (exec k c env d run) (past c env run)
