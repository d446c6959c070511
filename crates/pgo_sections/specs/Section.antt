-- A section whole: what code does from a state to a state.
use Rattle.std.specs.Prelude.{◌≡◌, ℕ, if◌then◌else◌, List, [], ◌∷◌, Option, Some}
use Rattle.pgo_base.specs.Data.{Data, string}
use Rattle.pgo_base.specs.Lookup.{Name, Vars, same_name, find}
use Rattle.pgo_model.specs.Choice.{word_at}
use Rattle.pgo_model.specs.Operators.{both}
use Rattle.pgo_model.specs.Options.{on}
use Rattle.pgo_model.specs.Outcome.{NoValue, Outcome, Next, Stuck, Nowhere, Section}
use Rattle.pgo_model.specs.State.{is_shallow}
use Rattle.pgo_model.specs.System.{Words, Touched}
use Rattle.pgo_model.specs.Written.{pc}
use Rattle.pgo_model.specs.Names.{is_among}
use Rattle.pgo_sections.specs.Code.{Code}
use Rattle.pgo_sections.specs.Context.{Context}
use Rattle.pgo_sections.specs.BoundValues.{put_part, value_put}
use Rattle.pgo_sections.specs.Macros.{exec}
use Rattle.pgo_sections.specs.SectionRun.{SectionRun, begun, Out, Go, Jump, Yielded, Stop}

-- what a variable becomes where the section ends at this written label with these changes
abbrev pub closed_value : Context → Name → Vars → Name → Data → Option Data
closed_value k l ch x old =
    if same_name x pc then put_part k.id (Some old) (Some (string l))
    else on (Some old) (find x ch) (λ v. value_put (is_among x k.globals) k.id (Some old) (Some v))

abbrev pub closed : Context → Name → Vars → Vars → Option Vars
closed k l ch [] = Some []
closed k l ch (p ∷ s) = both (λ v t. Some ((p.0, v) ∷ t)) (closed_value k l ch p.0 p.1) (closed k l ch s)

-- No value is more than 256 deep at the end, or there is no value. Nothing else that makes a state is looked at: what did not
-- change is as it was at the start, and the rest is a law on sections that begin in a state, of ends whose values are values
-- (`ends_are_states` of pgo_meaning).
abbrev pub if_shallow : List Data → Vars → Outcome Vars
if_shallow prints t = if is_shallow t then Next t prints else Stuck NoValue

abbrev pub end_of : Context → Out → Outcome Vars
end_of k (Go run) = Nowhere
end_of k (Jump l run) = on (Stuck NoValue) (closed k l run.changes k.start) (if_shallow run.prints)
end_of k (Yielded v run) = Nowhere
end_of k (Stop kind run) = Stuck kind

abbrev pub run_of : Out → SectionRun
run_of (Go run) = run
run_of (Jump l run) = run
run_of (Yielded v run) = run
run_of (Stop kind run) = run

-- what code that ended so has read and written, and its end
abbrev pub ended : Context → Out → Section Touched Vars
ended k o = record { trace = (run_of o).trace; end = end_of k o }

abbrev pub section : Context → Code → Words → Section Touched Vars
section k c d = ended k (exec k c [] d (begun [] []))

-- some words of choice lead to t
pub record SectionReaches (k : Context) (c : Code) (t : Vars) : Type 0 where
  pub words : List ℕ
  pub prints : List Data
  pub leads : (section k c (word_at words)).end ≡ Next t prints
