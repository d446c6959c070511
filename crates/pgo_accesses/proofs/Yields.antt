-- What a macro's block gives can stand in a set.
use Rattle.std.proofs.Common.{◌≡◌, ℕ, zero, suc, Bool, true, false, List, [], ◌∷◌, length, Option, Some, None, refl, subst, option_and_then}
use Rattle.std.specs.Prelude.{get_or, nat_le}
use Rattle.pgo_base.specs.Data.{Data}
use Rattle.pgo_base.specs.Lookup.{Names}
use Rattle.pgo_base.specs.Size.{depth}
use Rattle.pgo_model.specs.Operators.{members_of, truth_of}
use Rattle.pgo_model.specs.Options.{on}
use Rattle.pgo_model.specs.Outcome.{Blocked, NoValue, AssertFails}
use Rattle.pgo_model.specs.System.{Words}
use Rattle.pgo_model.specs.Val.{Meaning}
use Rattle.pgo_sections.specs.BoundValues.{bindable, value_under}
use Rattle.pgo_sections.specs.Code.{Code, Empty, Skip, Let, Pick, Become, Set, Await, Assert, Print, If, Either, Seq, Goto, Yield, Read, Write, Codes, no_codes, more_codes}
use Rattle.pgo_sections.specs.Context.{Context, content, index_value, value_of, block_context, content_state, new_content}
use Rattle.pgo_sections.specs.Exec.{MacroEnd, Gives, Stops, read_end, read_unmapped, becoming, touching, count, exec_arm_with}
use Rattle.pgo_sections.specs.Macros.{exec_block, block_read, no_reads, no_writes}
use Rattle.pgo_sections.specs.SectionRun.{ChoiceMade, SectionRun, begun, chosen, picked_number, printed, Out, Go, Jump, Yielded, Stop, with_value, if_true, picked, go_on}
use Rattle.pgo_accesses.proofs.Parts.{bound_low}

abbrev pub IsLow : Data → Type 0
IsLow v = nat_le (depth v) 2047 ≡ true

abbrev YieldsLow : Out → Type 0
YieldsLow (Go run) = Unit {0}
YieldsLow (Jump l run) = Unit {0}
YieldsLow (Yielded v run) = IsLow v
YieldsLow (Stop kind run) = Unit {0}

valued : {A : Type 0} (o : Option A) (run : SectionRun) (f : A → Out) → ((v : A) → o ≡ Some v → YieldsLow (f v)) → YieldsLow (with_value o run f)
valued None run f h = tt
valued (Some v) run f h = h v refl

decided : (o : Option Bool) (run : SectionRun) (a b : Out) → YieldsLow a → YieldsLow b → YieldsLow (if_true o run a b)
decided (Some true) run a b h g = h
decided (Some false) run a b h g = g
decided None run a b h g = tt

chosen_one : (ms : List Data) (d : Words) (run : SectionRun) (f : Data → SectionRun → Out) → ((v : Data) (n i : ℕ) → YieldsLow (f v (chosen n i run))) → YieldsLow (picked ms d run f)
chosen_one [] d run f h = tt
chosen_one (m ∷ ms) d run f h = h (get_or (m ∷ ms) (picked_number d run (length (m ∷ ms))) m) (length (m ∷ ms)) (picked_number d run (length (m ∷ ms)))

sequel : (o : Out) (f : SectionRun → Out) → YieldsLow o → ((run : SectionRun) → YieldsLow (f run)) → YieldsLow (go_on o f)
sequel (Go run) f h g = g run
sequel (Jump l run) f h g = tt
sequel (Yielded v run) f h g = h
sequel (Stop kind run) f h g = tt

mutual
  yields : (c : Code) (k : Context) (env : Names) (d : Words) (run : SectionRun) → YieldsLow (exec_block k c env d run)
  yields Empty k env d run = tt
  yields Skip k env d run = tt
  yields (Let b w t c) k env d run =
      let now = read_unmapped k t run in
      valued (bindable (value_of k t env run.changes)) now (λ v. exec_block k c ((w, Some v) ∷ env) d now) (λ v e. yields c k ((w, Some v) ∷ env) d now)
  yields (Pick b w t c) k env d run =
      let now = read_unmapped k t run in
      let f = λ (v : Data) (then' : SectionRun). exec_block k c ((w, Some v) ∷ env) d then' in
      valued (option_and_then members_of (value_of k t env run.changes)) now (λ ms. picked ms d now f) (λ ms e. chosen_one ms d now f (λ v n i. yields c k ((w, Some v) ∷ env) d (chosen n i now)))
  yields (Become p w) k env d run = valued (value_under w env) run (λ v. Go (becoming p v run)) (λ v e. tt)
  yields (Set b p t) k env d run = valued (bindable (value_of k t env run.changes)) (read_unmapped k t run) (λ v. Go (becoming p v (read_unmapped k t run))) (λ v e. tt)
  yields (Await t) k env d run = decided (truth_of (value_of k t env run.changes)) (read_unmapped k t run) (Go (read_unmapped k t run)) (Stop Blocked (read_unmapped k t run)) tt tt
  yields (Assert t) k env d run = decided (truth_of (value_of k t env run.changes)) (read_unmapped k t run) (Go (read_unmapped k t run)) (Stop AssertFails (read_unmapped k t run)) tt tt
  yields (Print t) k env d run = valued (value_of k t env run.changes) (read_unmapped k t run) (λ v. Go (printed v (read_unmapped k t run))) (λ v e. tt)
  yields (If t a b) k env d run =
      let now = read_unmapped k t run in
      decided (truth_of (value_of k t env run.changes)) now (exec_block k a env d now) (exec_block k b env d now) (yields a k env d now) (yields b k env d now)
  yields (Either arms) k env d run = let i = picked_number d run (count arms) in arm_yields arms i k env d (chosen (count arms) i run)
  yields (Seq a b) k env d run = sequel (exec_block k a env d run) (λ r. exec_block k b env d r) (yields a k env d run) (λ r. yields b k env d r)
  yields (Goto l) k env d run = tt
  yields (Yield t) k env d run =
      valued (bindable (value_of k t env run.changes)) run (λ v. Yielded v run) (λ v e. (bound_low (value_of k t env run.changes) v e).1)
  yields (Read w g i block c) k env d run =
      valued (index_value i env) run (λ j. with_value (bindable (content k g j run.changes)) (touching k g j run) (λ old. Stop NoValue (touching k g j run)))
      (λ j e. valued (bindable (content k g j run.changes)) (touching k g j run) (λ old. Stop NoValue (touching k g j run)) (λ old f. tt))
  yields (Write g i w block) k env d run =
      valued (index_value i env) run (λ j. with_value (bindable (content k g j run.changes)) (touching k g j run) (λ old. with_value (value_under w env) (touching k g j run) (λ v. Stop NoValue (touching k g j run))))
      (λ j e. valued (bindable (content k g j run.changes)) (touching k g j run) (λ old. with_value (value_under w env) (touching k g j run) (λ v. Stop NoValue (touching k g j run)))
      (λ old f. valued (value_under w env) (touching k g j run) (λ v. Stop NoValue (touching k g j run)) (λ v q. tt)))

  arm_yields : (arms : Codes) (i : ℕ) (k : Context) (env : Names) (d : Words) (run : SectionRun) → YieldsLow (exec_arm_with no_reads no_writes k arms i env d run)
  arm_yields no_codes i k env d run = tt
  arm_yields (more_codes c arms) zero k env d run = yields c k env d run
  arm_yields (more_codes c arms) (suc i) k env d run = arm_yields arms i k env d run

-- what a read gives
abbrev GivesLow : MacroEnd (Data × Option Data) → Type 0
GivesLow (Gives a cs) = IsLow a.0
GivesLow (Stops kind cs) = Unit {0}

read_low : (o : Out) → YieldsLow o → GivesLow (read_end o)
read_low (Go run) h = tt
read_low (Jump l run) h = tt
read_low (Yielded v run) h = go (new_content run.changes)
  where
    go : (o : Option (Option Data)) → GivesLow (on (Stops NoValue run.choices) o (λ new. Gives (v, new) run.choices))
    go None = tt
    go (Some new) = h
read_low (Stop kind run) h = tt

pub block_gives_low : (block : Code) (defs : List Meaning) (id old : Data) (d : Words) (cs : List ChoiceMade) (a : Data × Option Data) (ds : List ChoiceMade) → block_read block defs id old d cs ≡ Gives a ds → IsLow a.0
block_gives_low block defs id old d cs a ds e =
    let P : MacroEnd (Data × Option Data) → Type 0 = λ m. GivesLow m in
    subst P e (read_low (exec_block (block_context defs id) block [] d (begun (content_state old) cs)) (yields block (block_context defs id) [] d (begun (content_state old) cs)))
