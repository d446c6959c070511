-- Code that ends at a label goes on nowhere, and code without `yield` yields nothing.
use Rattle.std.proofs.Common.{ℕ, zero, suc, Bool, true, false, List, [], ◌∷◌, length, Option, Some, None, option_and_then}
use Rattle.std.specs.Prelude.{get_or}
use Rattle.pgo_base.specs.Data.{Data}
use Rattle.pgo_base.specs.Lookup.{Names}
use Rattle.pgo_model.specs.Operators.{members_of, truth_of}
use Rattle.pgo_model.specs.Outcome.{Blocked, AssertFails}
use Rattle.pgo_model.specs.System.{Words}
use Rattle.pgo_sections.specs.BoundValues.{bindable, value_under}
use Rattle.pgo_sections.specs.Code.{Code, Empty, Skip, Let, Pick, Become, Set, Await, Assert, Print, If, Either, Seq, Goto, Yield, Read, Write, Codes, no_codes, more_codes}
use Rattle.pgo_sections.specs.Context.{Context, content, index_value, put_content, put_new, value_of}
use Rattle.pgo_sections.specs.Exec.{MacroEnd, Gives, Stops, if_gives, with_choices, read_unmapped, becoming, touching, count, exec_arm_with}
use Rattle.pgo_sections.specs.Macros.{exec, block_read, block_write}
use Rattle.pgo_sections.specs.SectionRun.{SectionRun, chosen, picked_number, printed, Out, Go, Jump, Yielded, Stop, with_value, if_true, picked, go_on}
use Rattle.pgo_accesses.specs.Assigned.{JumpsAtEnd, NeverYields, NoneYields}

abbrev pub GoesOn : Out → Type 0
GoesOn (Go run) = ⊥
GoesOn (Jump l run) = Unit {0}
GoesOn (Yielded v run) = Unit {0}
GoesOn (Stop kind run) = Unit {0}

abbrev pub Yields : Out → Type 0
Yields (Go run) = Unit {0}
Yields (Jump l run) = Unit {0}
Yields (Yielded v run) = ⊥
Yields (Stop kind run) = Unit {0}

goes_behind : (o : Out) (f : SectionRun → Out) → ((run : SectionRun) → GoesOn (f run)) → GoesOn (go_on o f)
goes_behind (Go run) f h = h run
goes_behind (Jump l run) f h = tt
goes_behind (Yielded v run) f h = tt
goes_behind (Stop kind run) f h = tt

pub jumps : (c : Code) (k : Context) (env : Names) (d : Words) (run : SectionRun) → JumpsAtEnd c → GoesOn (exec k c env d run)
jumps (Goto l) k env d run h = tt
jumps (Seq x y) k env d run h = goes_behind (exec k x env d run) (λ now. exec k y env d now) (λ now. jumps y k env d now h)
jumps Empty k env d run h = absurd h
jumps Skip k env d run h = absurd h
jumps (Let b w e c) k env d run h = absurd h
jumps (Pick b w e c) k env d run h = absurd h
jumps (Become p w) k env d run h = absurd h
jumps (Set b p e) k env d run h = absurd h
jumps (Await e) k env d run h = absurd h
jumps (Assert e) k env d run h = absurd h
jumps (Print e) k env d run h = absurd h
jumps (If e x y) k env d run h = absurd h
jumps (Either cs) k env d run h = absurd h
jumps (Yield e) k env d run h = absurd h
jumps (Read w g i block c) k env d run h = absurd h
jumps (Write g i w block) k env d run h = absurd h

valued : {A : Type 0} (o : Option A) (run : SectionRun) (f : A → Out) → ((v : A) → Yields (f v)) → Yields (with_value o run f)
valued None run f h = tt
valued (Some v) run f h = h v

decided : (o : Option Bool) (run : SectionRun) (a b : Out) → Yields a → Yields b → Yields (if_true o run a b)
decided (Some true) run a b h g = h
decided (Some false) run a b h g = g
decided None run a b h g = tt

chosen_one : (ms : List Data) (d : Words) (run : SectionRun) (f : Data → SectionRun → Out) → ((v : Data) (n i : ℕ) → Yields (f v (chosen n i run))) → Yields (picked ms d run f)
chosen_one [] d run f h = tt
chosen_one (m ∷ ms) d run f h = h (get_or (m ∷ ms) (picked_number d run (length (m ∷ ms))) m) (length (m ∷ ms)) (picked_number d run (length (m ∷ ms)))

sequel : (o : Out) (f : SectionRun → Out) → Yields o → ((run : SectionRun) → Yields (f run)) → Yields (go_on o f)
sequel (Go run) f h g = g run
sequel (Jump l run) f h g = tt
sequel (Yielded v run) f h g = h
sequel (Stop kind run) f h g = tt

gives : {A : Type 0} (m : MacroEnd A) (run : SectionRun) (f : A → SectionRun → Out) → ((a : A) (then' : SectionRun) → Yields (f a then')) → Yields (if_gives m run f)
gives (Gives a n) run f h = h a (with_choices n run)
gives (Stops kind n) run f h = tt

mutual
  pub yields_nothing : (c : Code) (k : Context) (env : Names) (d : Words) (run : SectionRun) → NeverYields c → Yields (exec k c env d run)
  yields_nothing Empty k env d run h = tt
  yields_nothing Skip k env d run h = tt
  yields_nothing (Let b w t c) k env d run h =
      let now = read_unmapped k t run in
      valued (bindable (value_of k t env run.changes)) now (λ v. exec k c ((w, Some v) ∷ env) d now) (λ v. yields_nothing c k ((w, Some v) ∷ env) d now h)
  yields_nothing (Pick b w t c) k env d run h =
      let now = read_unmapped k t run in
      let f = λ (v : Data) (then' : SectionRun). exec k c ((w, Some v) ∷ env) d then' in
      valued (option_and_then members_of (value_of k t env run.changes)) now (λ ms. picked ms d now f) (λ ms. chosen_one ms d now f (λ v n i. yields_nothing c k ((w, Some v) ∷ env) d (chosen n i now) h))
  yields_nothing (Become p w) k env d run h = valued (value_under w env) run (λ v. Go (becoming p v run)) (λ v. tt)
  yields_nothing (Set b p t) k env d run h = valued (bindable (value_of k t env run.changes)) (read_unmapped k t run) (λ v. Go (becoming p v (read_unmapped k t run))) (λ v. tt)
  yields_nothing (Await t) k env d run h = decided (truth_of (value_of k t env run.changes)) (read_unmapped k t run) (Go (read_unmapped k t run)) (Stop Blocked (read_unmapped k t run)) tt tt
  yields_nothing (Assert t) k env d run h = decided (truth_of (value_of k t env run.changes)) (read_unmapped k t run) (Go (read_unmapped k t run)) (Stop AssertFails (read_unmapped k t run)) tt tt
  yields_nothing (Print t) k env d run h = valued (value_of k t env run.changes) (read_unmapped k t run) (λ v. Go (printed v (read_unmapped k t run))) (λ v. tt)
  yields_nothing (If t a b) k env d run h =
      let now = read_unmapped k t run in
      decided (truth_of (value_of k t env run.changes)) now (exec k a env d now) (exec k b env d now) (yields_nothing a k env d now h.0) (yields_nothing b k env d now h.1)
  yields_nothing (Either arms) k env d run h = let i = picked_number d run (count arms) in none_yields arms i k env d (chosen (count arms) i run) h
  yields_nothing (Seq a b) k env d run h = sequel (exec k a env d run) (λ r. exec k b env d r) (yields_nothing a k env d run h.0) (λ r. yields_nothing b k env d r h.1)
  yields_nothing (Goto l) k env d run h = tt
  yields_nothing (Yield t) k env d run h = absurd h
  yields_nothing (Read w g i block c) k env d run h =
      let m = λ (old : Data). block_read block k.defs k.id old d run.choices in
      let end = λ (r : Data × Option Data) (then' : SectionRun) (ch : _). exec k c ((w, Some r.0) ∷ env) d (record then' { changes = ch }) in
      let rest = λ (j : Option Data) (r : Data × Option Data) (then' : SectionRun). with_value (put_new k g j r.1 run.changes) then' (end r then') in
      valued (index_value i env) run (λ j. with_value (bindable (content k g j run.changes)) (touching k g j run) (λ old. if_gives (m old) (touching k g j run) (rest j))) (λ j.
      valued (bindable (content k g j run.changes)) (touching k g j run) (λ old. if_gives (m old) (touching k g j run) (rest j)) (λ old.
      gives (m old) (touching k g j run) (rest j) (λ r then'.
      valued (put_new k g j r.1 run.changes) then' (end r then') (λ ch. yields_nothing c k ((w, Some r.0) ∷ env) d (record then' { changes = ch }) h))))
  yields_nothing (Write g i w block) k env d run h =
      let m = λ (old v : Data). block_write block k.defs k.id old v d run.choices in
      let end = λ (then' : SectionRun) (ch : _). Go (record then' { changes = ch }) in
      let rest = λ (j : Option Data) (new : Data) (then' : SectionRun). with_value (put_content k g j (Some new) run.changes) then' (end then') in
      valued (index_value i env) run (λ j. with_value (bindable (content k g j run.changes)) (touching k g j run) (λ old. with_value (value_under w env) (touching k g j run) (λ v. if_gives (m old v) (touching k g j run) (rest j)))) (λ j.
      valued (bindable (content k g j run.changes)) (touching k g j run) (λ old. with_value (value_under w env) (touching k g j run) (λ v. if_gives (m old v) (touching k g j run) (rest j))) (λ old.
      valued (value_under w env) (touching k g j run) (λ v. if_gives (m old v) (touching k g j run) (rest j)) (λ v.
      gives (m old v) (touching k g j run) (rest j) (λ new then'.
      valued (put_content k g j (Some new) run.changes) then' (end then') (λ ch. tt)))))

  none_yields : (arms : Codes) (i : ℕ) (k : Context) (env : Names) (d : Words) (run : SectionRun) → NoneYields arms → Yields (exec_arm_with block_read block_write k arms i env d run)
  none_yields no_codes i k env d run h = tt
  none_yields (more_codes c arms) zero k env d run h = yields_nothing c k env d run h.0
  none_yields (more_codes c arms) (suc i) k env d run h = none_yields arms i k env d run h.1
