-- What goes along a section, and how code ends.
use Rattle.std.specs.Prelude.{ℕ, zero, suc, Bool, true, false, List, [], ◌∷◌, ◌++◌, length, get_or, Option, Some, None}
use Rattle.pgo_base.specs.Data.{Data}
use Rattle.pgo_base.specs.Lookup.{Name, Vars}
use Rattle.pgo_model.specs.Choice.{pick}
use Rattle.pgo_model.specs.Outcome.{Kind, Blocked, NoValue}
use Rattle.pgo_model.specs.System.{Words, Touched}
pub use Rattle.pgo_tries.specs.Chosen.{ChoiceMade}

-- each variable that changed with its value, at the identifier where it is the instance's own, the newest first; the reads and
-- writes of resources, in order; the choices that were made, the newest first; and what was printed
pub record SectionRun : Type 0 where
  pub changes : Vars
  pub trace : List Touched
  pub choices : List ChoiceMade
  pub prints : List Data

abbrev pub begun : Vars → List ChoiceMade → SectionRun
begun ch choices = record { changes = ch; trace = []; choices = choices; prints = [] }

abbrev pub changed : Name → Data → SectionRun → SectionRun
changed x v run = record run { changes = (x, v) ∷ run.changes }

abbrev pub seen : List Touched → SectionRun → SectionRun
seen ts run = record run { trace = run.trace ++ ts }

abbrev pub printed : Data → SectionRun → SectionRun
printed v run = record run { prints = run.prints ++ v ∷ [] }

-- ---- choices

-- each choice takes one word, so the number of choices is that of the words that are used
abbrev pub words_used : SectionRun → ℕ
words_used run = length run.choices

-- the number that is picked among n
abbrev pub picked_number : Words → SectionRun → ℕ → ℕ
picked_number d run n = pick (d (words_used run)) n

-- what has no arm counts as a choice of one
abbrev pub choice_among : ℕ → ℕ → ChoiceMade
choice_among zero i = record { count = 1; taken = 0 }
choice_among (suc n) i = record { count = suc n; taken = i }

abbrev pub chosen : ℕ → ℕ → SectionRun → SectionRun
chosen n i run = record run { choices = choice_among n i ∷ run.choices }

-- ---- how code ends: each way with what went before
pub data Out : Type 0 where
  -- the section goes on behind it
  Go : (run : SectionRun) → Out
  -- the section ends at this written label
  Jump : (label : Name) → (run : SectionRun) → Out
  -- the block ends with this value
  Yielded : (v : Data) → (run : SectionRun) → Out
  Stop : (kind : Kind) → (run : SectionRun) → Out

-- what comes where there is a value, and NoValue where there is none
abbrev pub with_value : {A : Type 0} → Option A → SectionRun → (A → Out) → Out
with_value None run f = Stop NoValue run
with_value (Some v) run f = f v

-- a condition
abbrev pub if_true : Option Bool → SectionRun → Out → Out → Out
if_true (Some true) run a b = a
if_true (Some false) run a b = b
if_true None run a b = Stop NoValue run

-- what comes with the member that is picked; there is none in an empty set
abbrev pub picked : List Data → Words → SectionRun → (Data → SectionRun → Out) → Out
picked [] d run f = Stop Blocked run
picked (m ∷ ms) d run f =
    let n = length (m ∷ ms) in let i = picked_number d run n in f (get_or (m ∷ ms) i m) (chosen n i run)

abbrev pub go_on : Out → (SectionRun → Out) → Out
go_on (Go run) f = f run
go_on (Jump l run) f = Jump l run
go_on (Yielded v run) f = Yielded v run
go_on (Stop kind run) f = Stop kind run
