-- A section's code never ends in Many, which is of attempts alone.
use Rattle.std.proofs.Common.{ℕ, zero, suc, Bool, true, false, List, [], ◌∷◌, length, get_or, Option, Some, None, option_and_then}
use Rattle.pgo_base.specs.Data.{Data}
use Rattle.pgo_base.specs.Lookup.{Names}
use Rattle.pgo_model.specs.Operators.{members_of, truth_of}
use Rattle.pgo_model.specs.Options.{on}
use Rattle.pgo_model.specs.Outcome.{Kind, Blocked, NoValue, AssertFails, Many}
use Rattle.pgo_model.specs.System.{Words}
use Rattle.pgo_model.specs.Val.{Meaning}
use Rattle.pgo_sections.specs.BoundValues.{bindable, value_under}
use Rattle.pgo_sections.specs.Code.{Code, Empty, Skip, Let, Pick, Become, Set, Await, Assert, Print, If, Either, Seq, Goto, Yield, Read, Write, Codes, no_codes, more_codes, value_name}
use Rattle.pgo_sections.specs.Context.{Context, block_context, content, content_state, index_value, new_content, put_content, put_new, value_of}
use Rattle.pgo_sections.specs.Exec.{MacroEnd, Gives, Stops, read_end, write_end, with_choices, if_gives, touching, read_unmapped, becoming, count, Reads, Writes, exec_with, exec_arm_with}
use Rattle.pgo_sections.specs.Macros.{no_reads, no_writes, exec_block, block_read, block_write, exec}
use Rattle.pgo_sections.specs.SectionRun.{ChoiceMade, SectionRun, begun, printed, chosen, picked_number, Out, Go, Jump, Yielded, Stop, with_value, if_true, picked, go_on}

abbrev pub IsOfSection : Kind → Type 0
IsOfSection Blocked = Unit {0}
IsOfSection NoValue = Unit {0}
IsOfSection AssertFails = Unit {0}
IsOfSection Many = ⊥

abbrev pub EndsSo : Out → Type 0
EndsSo (Go run) = Unit {0}
EndsSo (Jump l run) = Unit {0}
EndsSo (Yielded v run) = Unit {0}
EndsSo (Stop kind run) = IsOfSection kind

abbrev pub GivesSo : {A : Type 0} → MacroEnd A → Type 0
GivesSo (Gives a cs) = Unit {0}
GivesSo (Stops kind cs) = IsOfSection kind

valued : {A : Type 0} (o : Option A) (run : SectionRun) (f : A → Out) → ((v : A) → EndsSo (f v)) → EndsSo (with_value o run f)
valued None run f h = tt
valued (Some v) run f h = h v

judged : (o : Option Bool) (run : SectionRun) (a b : Out) → EndsSo a → EndsSo b → EndsSo (if_true o run a b)
judged (Some true) run a b h k = h
judged (Some false) run a b h k = k
judged None run a b h k = tt

chose : (d : Words) (ms : List Data) (run : SectionRun) (f : Data → SectionRun → Out) → ((v : Data) (then' : SectionRun) → EndsSo (f v then')) → EndsSo (picked ms d run f)
chose d [] run f h = tt
chose d (m ∷ ms) run f h = let i = picked_number d run (length (m ∷ ms)) in h (get_or (m ∷ ms) i m) (chosen (length (m ∷ ms)) i run)

went : (o : Out) (f : SectionRun → Out) → EndsSo o → ((run : SectionRun) → EndsSo (f run)) → EndsSo (go_on o f)
went (Go run) f e h = h run
went (Jump l run) f e h = tt
went (Yielded v run) f e h = tt
went (Stop kind run) f e h = e

given : {A : Type 0} (e : MacroEnd A) (run : SectionRun) (f : A → SectionRun → Out) → GivesSo e → ((a : A) (then' : SectionRun) → EndsSo (f a then')) → EndsSo (if_gives e run f)
given (Gives a cs) run f e h = h a (with_choices cs run)
given (Stops kind cs) run f e h = e

read_so : (o : Out) → EndsSo o → GivesSo (read_end o)
read_so (Go run) h = tt
read_so (Jump l run) h = tt
read_so (Yielded v run) h = go (new_content run.changes)
  where
    given_by : Option (Option Data) → MacroEnd (Data × Option Data)
    given_by o = on (Stops NoValue run.choices) o (λ new. Gives (v, new) run.choices)

    go : (o : Option (Option Data)) → GivesSo (given_by o)
    go None = tt
    go (Some new) = tt
read_so (Stop kind run) h = h

write_so : (o : Out) → EndsSo o → GivesSo (write_end o)
write_so (Go run) h = tt
write_so (Jump l run) h = tt
write_so (Yielded v run) h = tt
write_so (Stop kind run) h = h

module _ (reads : Reads) (writes : Writes) (d : Words)
    (reads_so : (block : Code) (defs : List Meaning) (id old : Data) (cs : List ChoiceMade) → GivesSo (reads block defs id old d cs))
    (writes_so : (block : Code) (defs : List Meaning) (id old v : Data) (cs : List ChoiceMade) → GivesSo (writes block defs id old v d cs)) where
  mutual
    pub code_so : (k : Context) (c : Code) (env : Names) (run : SectionRun) → EndsSo (exec_with reads writes k c env d run)
    code_so k Empty env run = tt
    code_so k Skip env run = tt
    code_so k (Let b w e c) env run = let now = read_unmapped k e run in valued (bindable (value_of k e env run.changes)) now _ (λ v. code_so k c ((w, Some v) ∷ env) now)
    code_so k (Pick b w e c) env run =
        let now = read_unmapped k e run in
        valued (option_and_then members_of (value_of k e env run.changes)) now _ (λ ms. chose d ms now (λ v then'. exec_with reads writes k c ((w, Some v) ∷ env) d then') (λ v then'. code_so k c ((w, Some v) ∷ env) then'))
    code_so k (Become p w) env run = valued (value_under w env) run (λ v. Go (becoming p v run)) (λ v. tt)
    code_so k (Set b p e) env run = let now = read_unmapped k e run in valued (bindable (value_of k e env run.changes)) now (λ v. Go (becoming p v now)) (λ v. tt)
    code_so k (Await e) env run = let now = read_unmapped k e run in judged (truth_of (value_of k e env run.changes)) now (Go now) (Stop Blocked now) tt tt
    code_so k (Assert e) env run = let now = read_unmapped k e run in judged (truth_of (value_of k e env run.changes)) now (Go now) (Stop AssertFails now) tt tt
    code_so k (Print e) env run = let now = read_unmapped k e run in valued (value_of k e env run.changes) now (λ v. Go (printed v now)) (λ v. tt)
    code_so k (If e a b) env run = let now = read_unmapped k e run in judged (truth_of (value_of k e env run.changes)) now (exec_with reads writes k a env d now) (exec_with reads writes k b env d now) (code_so k a env now) (code_so k b env now)
    code_so k (Either cs) env run = let i = picked_number d run (count cs) in arm_so k cs i env (chosen (count cs) i run)
    code_so k (Seq a b) env run = went (exec_with reads writes k a env d run) (λ now. exec_with reads writes k b env d now) (code_so k a env run) (λ now. code_so k b env now)
    code_so k (Goto l) env run = tt
    code_so k (Yield e) env run = valued (bindable (value_of k e env run.changes)) run (λ v. Yielded v run) (λ v. tt)
    code_so k (Read w g i block c) env run =
        valued (index_value i env) run _ (λ j.
        let now = touching k g j run in
        valued (bindable (content k g j run.changes)) now _ (λ old.
        given (reads block k.defs k.id old d run.choices) now
        (λ r then'. with_value (put_new k g j r.1 run.changes) then' (λ ch. exec_with reads writes k c ((w, Some r.0) ∷ env) d (record then' { changes = ch })))
        (reads_so block k.defs k.id old run.choices)
        (λ r then'. valued (put_new k g j r.1 run.changes) then' _ (λ ch. code_so k c ((w, Some r.0) ∷ env) (record then' { changes = ch })))))
    code_so k (Write g i w block) env run =
        valued (index_value i env) run _ (λ j.
        let now = touching k g j run in
        valued (bindable (content k g j run.changes)) now _ (λ old.
        valued (value_under w env) now _ (λ v.
        given (writes block k.defs k.id old v d run.choices) now
        (λ new then'. with_value (put_content k g j (Some new) run.changes) then' (λ ch. Go (record then' { changes = ch })))
        (writes_so block k.defs k.id old v run.choices)
        (λ new then'. valued (put_content k g j (Some new) run.changes) then' _ (λ ch. tt)))))

    arm_so : (k : Context) (cs : Codes) (i : ℕ) (env : Names) (run : SectionRun) → EndsSo (exec_arm_with reads writes k cs i env d run)
    arm_so k no_codes i env run = tt
    arm_so k (more_codes c cs) zero env run = code_so k c env run
    arm_so k (more_codes c cs) (suc i) env run = arm_so k cs i env run

block_so : (d : Words) (k : Context) (c : Code) (env : Names) (run : SectionRun) → EndsSo (exec_block k c env d run)
block_so d = code_so no_reads no_writes d (λ block defs id old cs. tt) (λ block defs id old v cs. tt)

pub section_so : (d : Words) (k : Context) (c : Code) (env : Names) (run : SectionRun) → EndsSo (exec k c env d run)
section_so d =
    code_so block_read block_write d
    (λ block defs id old cs. read_so (exec_block (block_context defs id) block [] d (begun (content_state old) cs)) (block_so d (block_context defs id) block [] (begun (content_state old) cs)))
    (λ block defs id old v cs. write_so (exec_block (block_context defs id) block ((value_name, Some v) ∷ []) d (begun (content_state old) cs)) (block_so d (block_context defs id) block ((value_name, Some v) ∷ []) (begun (content_state old) cs)))
