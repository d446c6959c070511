-- What code does on a state, with words of choice, where it is given what reads and writes of mapped parameters do. Macros
-- gives these: so this is the meaning of the blocks of mapping macros, which have no mapped parameters, and of sections.
use Rattle.std.specs.Prelude.{ℕ, zero, suc, Bool, true, false, List, [], ◌∷◌, Option, Some, None, option_and_then}
use Rattle.pgo_base.specs.Data.{Data}
use Rattle.pgo_base.specs.Lookup.{Name, Names}
use Rattle.pgo_base.specs.Tree.{Tree}
use Rattle.pgo_model.specs.Operators.{members_of, truth_of}
use Rattle.pgo_model.specs.Options.{on}
use Rattle.pgo_model.specs.Outcome.{Kind, Blocked, NoValue, AssertFails}
use Rattle.pgo_model.specs.System.{Words, Touched}
use Rattle.pgo_model.specs.Val.{Meaning}
use Rattle.pgo_sections.specs.Access.{unmapped_reads, touched_whole}
use Rattle.pgo_sections.specs.Code.{Place, variable_of, Code, Empty, Skip, Let, Pick, Become, Set, Await, Assert, Print, If, Either, Seq, Goto, Yield, Read, Write, Codes, no_codes, more_codes}
use Rattle.pgo_sections.specs.Context.{Context, content, put_content, put_new, new_content, value_of, index_value}
use Rattle.pgo_sections.specs.BoundValues.{bindable, value_under}
use Rattle.pgo_sections.specs.SectionRun.{ChoiceMade, SectionRun, changed, seen, printed, picked_number, chosen, Out, Go, Jump, Yielded, Stop, with_value, if_true, picked, go_on}

-- how a macro's block ends: with what it gives, or stopped; and all choices that are made then, the newest first
pub data MacroEnd (A : Type 0) : Type 0 where
  Gives : (a : A) → (choices : List ChoiceMade) → MacroEnd A
  Stops : (kind : Kind) → (choices : List ChoiceMade) → MacroEnd A

-- a read gives the value, and the new content where the block assigned it
abbrev pub read_end : Out → MacroEnd (Data × Option Data)
read_end (Go run) = Stops NoValue run.choices
read_end (Jump l run) = Stops NoValue run.choices
read_end (Yielded v run) = on (Stops NoValue run.choices) (new_content run.changes) (λ new. Gives (v, new) run.choices)
read_end (Stop kind run) = Stops kind run.choices

-- a write gives the new content
abbrev pub write_end : Out → MacroEnd Data
write_end (Go run) = Stops NoValue run.choices
write_end (Jump l run) = Stops NoValue run.choices
write_end (Yielded v run) = Gives v run.choices
write_end (Stop kind run) = Stops kind run.choices

abbrev pub with_choices : List ChoiceMade → SectionRun → SectionRun
with_choices cs run = record run { choices = cs }

-- the section goes on where the block gives something
abbrev pub if_gives : {A : Type 0} → MacroEnd A → SectionRun → (A → SectionRun → Out) → Out
if_gives (Gives a cs) run f = f a (with_choices cs run)
if_gives (Stops kind cs) run f = Stop kind (with_choices cs run)

-- The resource is read or written: of a global that is bound by element an index outside its domain is no resource. `old` is the
-- current content; that its domain is the one of the start is a law (`sections_keep`).
abbrev pub touched : Bool → Name → Option Data → Option Data → List Touched
touched false g i old = (g, None) ∷ []
touched true g i None = []
touched true g i (Some old) = (g, i) ∷ []

abbrev pub touching : Context → Name → Option Data → SectionRun → SectionRun
touching k g i run = seen (touched (k.by_element g) g i (content k g i run.changes)) run

-- an expression's unmapped parameters are read
abbrev pub read_unmapped : Context → Tree → SectionRun → SectionRun
read_unmapped k e run = seen (unmapped_reads k.places e) run

-- a place becomes v
abbrev pub becoming : Place → Data → SectionRun → SectionRun
becoming p v run = changed (variable_of p) v (seen (touched_whole (Some p) []) run)

abbrev pub count : Codes → ℕ
count no_codes = 0
count (more_codes c cs) = suc (count cs)

-- what reads and writes of mapped parameters do, by the macro's block, the definitions, `self`, the old content, for a write the
-- value, the words of choice, and the choices made before, each of which has used a word
abbrev pub Reads : Type 0
Reads = (block : Code) → (defs : List Meaning) → (id old : Data) → Words → (choices : List ChoiceMade) → MacroEnd (Data × Option Data)

abbrev pub Writes : Type 0
Writes = (block : Code) → (defs : List Meaning) → (id old v : Data) → Words → (choices : List ChoiceMade) → MacroEnd Data

module _ (reads : Reads) (writes : Writes) where
  abbrev mutual
    pub exec_with : Context → Code → Names → Words → SectionRun → Out
    exec_with k Empty env d run = Go run
    exec_with k Skip env d run = Go run
    exec_with k (Let b w e c) env d run =
        let now = read_unmapped k e run in with_value (bindable (value_of k e env run.changes)) now (λ v. exec_with k c ((w, Some v) ∷ env) d now)
    exec_with k (Pick b w e c) env d run =
        let now = read_unmapped k e run in
        with_value (option_and_then members_of (value_of k e env run.changes)) now (λ ms.
        picked ms d now (λ v then'. exec_with k c ((w, Some v) ∷ env) d then'))
    exec_with k (Become p w) env d run = with_value (value_under w env) run (λ v. Go (becoming p v run))
    exec_with k (Set b p e) env d run =
        let now = read_unmapped k e run in with_value (bindable (value_of k e env run.changes)) now (λ v. Go (becoming p v now))
    exec_with k (Await e) env d run =
        let now = read_unmapped k e run in if_true (truth_of (value_of k e env run.changes)) now (Go now) (Stop Blocked now)
    exec_with k (Assert e) env d run =
        let now = read_unmapped k e run in if_true (truth_of (value_of k e env run.changes)) now (Go now) (Stop AssertFails now)
    exec_with k (Print e) env d run =
        let now = read_unmapped k e run in with_value (value_of k e env run.changes) now (λ v. Go (printed v now))
    exec_with k (If e a b) env d run =
        let now = read_unmapped k e run in
        if_true (truth_of (value_of k e env run.changes)) now (exec_with k a env d now) (exec_with k b env d now)
    exec_with k (Either cs) env d run =
        let i = picked_number d run (count cs) in exec_arm_with k cs i env d (chosen (count cs) i run)
    exec_with k (Seq a b) env d run = go_on (exec_with k a env d run) (λ now. exec_with k b env d now)
    exec_with k (Goto l) env d run = Jump l run
    exec_with k (Yield e) env d run = with_value (bindable (value_of k e env run.changes)) run (λ v. Yielded v run)
    exec_with k (Read w g i block c) env d run =
        with_value (index_value i env) run (λ j.
        let now = touching k g j run in
        with_value (bindable (content k g j run.changes)) now (λ old.
        if_gives (reads block k.defs k.id old d run.choices) now (λ r then'.
        with_value (put_new k g j r.1 run.changes) then' (λ ch.
        exec_with k c ((w, Some r.0) ∷ env) d (record then' { changes = ch })))))
    exec_with k (Write g i w block) env d run =
        with_value (index_value i env) run (λ j.
        let now = touching k g j run in
        with_value (bindable (content k g j run.changes)) now (λ old.
        with_value (value_under w env) now (λ v.
        if_gives (writes block k.defs k.id old v d run.choices) now (λ new then'.
        with_value (put_content k g j (Some new) run.changes) then' (λ ch.
        Go (record then' { changes = ch }))))))

    pub exec_arm_with : Context → Codes → ℕ → Names → Words → SectionRun → Out
    exec_arm_with k no_codes i env d run = Stop NoValue run
    exec_arm_with k (more_codes c cs) zero env d run = exec_with k c env d run
    exec_arm_with k (more_codes c cs) (suc i) env d run = exec_arm_with k cs i env d run
