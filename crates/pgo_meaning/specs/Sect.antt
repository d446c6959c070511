-- The meaning of a section: one step of one instance on a whole state.
-- Source: one step of PlusCal (A PlusCal User's Manual) and one critical section of Modular PlusCal.
use Rattle.std.specs.Prelude.{◌≡◌, ℕ, List, [], map, Option, Some, None}
use Rattle.pgo_base.specs.Data.{Data, string}
use Rattle.pgo_base.specs.Lookup.{Vars, find}
use Rattle.pgo_model.specs.Machine.{nth}
use Rattle.pgo_model.specs.ModuleView.{defined_view}
use Rattle.pgo_model.specs.Options.{on}
use Rattle.pgo_model.specs.Outcome.{Next, Nowhere, Section}
use Rattle.pgo_model.specs.Val.{meanings}
use Rattle.pgo_model.specs.Written.{pc}
use Rattle.pgo_syntax.specs.declared.bound.Bound.{Bound}
use Rattle.pgo_syntax.specs.declared.bound.Instance.{Instance}
use Rattle.pgo_bound.specs.Declares.{value_in}
pub use Rattle.pgo_bound.specs.Kinds.{is_by_element}
use Rattle.pgo_bound.specs.State.{id_of, kind_in}
use Rattle.pgo_sections.specs.Code.{Code}
use Rattle.pgo_sections.specs.Context.{Context}
use Rattle.pgo_model.specs.System.{Words, Touched}
use Rattle.pgo_sections.specs.Section.{section}
use Rattle.pgo_model.specs.Choice.{word_at}
use Rattle.pgo_meaning.specs.Parameters.{places_of, own_variables}
use Rattle.pgo_meaning.specs.Sections.{sections_of}

abbrev pub context_of : Bound → Instance → Vars → Context
context_of b i s = record {
  start = s;
  id = id_of i;
  places = places_of i.process i.archetype i.bindings;
  globals = map (λ d. d.name.name) b.spec.globals;
  owns = own_variables i.process i.archetype i.bindings;
  defs = meanings (map defined_view b.defs) [] None;
  by_element = λ g. is_by_element (kind_in b g);
}

-- the section of the label at which the instance is
abbrev pub code_at : Bound → Instance → Option Data → Option Code
code_at b i (Some (string l)) = find l (sections_of b.spec.macros i.process i.archetype i.bindings)
code_at b i _ = None

abbrev pub nothing : Section Touched Vars
nothing = record { trace = []; end = Nowhere }

-- The section of instance k on s, with the words d of choice. Of its end the depth alone is tested: where s is a state, the end is
-- one too, if its values are values (`ends_are_states`). Where s is none, the end may be none.
abbrev pub Sect : Bound → ℕ → Vars → Words → Section Touched Vars
Sect b k s d =
    on nothing (nth b.instances k) (λ i. on nothing (code_at b i (value_in s pc (id_of i))) (λ c. section (context_of b i s) c d))

-- some words of choice lead from s to t, which are meant to be states
pub record Allows (b : Bound) (k : ℕ) (s t : Vars) : Type 0 where
  pub words : List ℕ
  pub prints : List Data
  pub leads : (Sect b k s (word_at words)).end ≡ Next t prints
