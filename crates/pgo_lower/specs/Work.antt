-- What is still to be done of a section, from its end to its start, and the steps behind that.
use Rattle.std.specs.Prelude.{ℕ, ◌-◌, List, [], ◌∷◌, ◌++◌, length, map}
use Rattle.pgo_sections.specs.Code.{Code}
use Rattle.pgo_meaning.specs.Statements.{Setting}
use Rattle.pgo_effects.specs.Todos.{code_of, codes_of}
use Rattle.pgo_code.specs.See.{evaluation_view}
use Rattle.pgo_code.specs.Steps.{Step, Branch, Jump}
use Rattle.pgo_lower.specs.declared.work.Task.{Task}
use Rattle.pgo_lower.specs.declared.work.Task.TheVariants as tasks
use Rattle.pgo_lower.specs.Heads.{heads}
use Rattle.pgo_lower.specs.Lowered.{Tables, choice, lowered}

module _ (t : Tables) where
  -- arms, each of which jumps to the last n steps
  abbrev pub arms_before : List Code → ℕ → List Step → List Step
  arms_before [] n is = is
  arms_before (c ∷ cs) n is = let rest = arms_before cs n is in lowered t c ++ Jump (length rest - n) ∷ rest

  -- how many steps there are from the start of each arm
  abbrev pub arm_lengths : List Code → ℕ → List Step → List ℕ
  arm_lengths [] n is = []
  arm_lengths (c ∷ cs) n is = length (arms_before (c ∷ cs) n is) ∷ arm_lengths cs n is

  -- a choice among arms, and among arms that are there already, of which that many steps there are from the start of each
  abbrev pub chosen_before : List Code → List ℕ → ℕ → List Step → List Step
  chosen_before cs ns n is = let all = arms_before cs n is in choice (map (λ k. length all - k) (arm_lengths cs n is ++ ns)) ∷ all

module _ (s : Setting) (t : Tables) where
  -- what a task makes before these steps
  abbrev pub task_before : Task → List Step → List Step
  task_before (tasks.Do d) is = lowered t (code_of s d) ++ is
  task_before (tasks.Effects es) is = heads t es.items is
  task_before (tasks.Else e d n) is =
      let js = lowered t (code_of s d) ++ Jump (length is - n) ∷ is in Branch (evaluation_view e) (length js - length is) ∷ js
  task_before (tasks.Then e n) is = Branch (evaluation_view e) (length is - n) ∷ is
  task_before (tasks.Arms ds ns n) is = chosen_before t (codes_of s ds.items) (length is ∷ ns) n is

  abbrev pub tasks_before : List Task → List Step → List Step
  tasks_before [] is = is
  tasks_before (x ∷ xs) is = tasks_before xs (task_before x is)
