-- The lines of a row of statements: those before what follows the row, and those behind it.
use Rattle.std.specs.Prelude.{ℕ, zero, suc, ◌+◌, Bool, true, false, if◌then◌else◌, List, [], ◌∷◌, ◌++◌, codes}
use Rattle.pgo_base.specs.ExprView.{tree}
use Rattle.pgo_base.specs.Lookup.{Name}
use Rattle.pgo_pluscal.specs.declared.part.Step.{Step}
use Rattle.pgo_pluscal.specs.declared.part.Step.TheVariants as steps
use Rattle.pgo_pluscal.specs.Text.{line, value_text}

-- whether what follows a statement is its part
abbrev pub opens : Step → Bool
opens (steps.With x e) = true
opens (steps.In x e) = true
opens s = false

-- how many blocks stand around what follows a statement
abbrev pub level_after : ℕ → Step → ℕ
level_after n s = if opens s then n + 1 else n

abbrev pub level_within : ℕ → List Step → ℕ
level_within n [] = n
level_within n (s ∷ ss) = level_within (level_after n s) ss

abbrev pub step_text : List Name → ℕ → Step → List ℕ
step_text own n (steps.With x e) = line n (codes "with (" ∷ x ∷ codes " = " ∷ value_text own (tree e) ∷ codes ") {" ∷ [])
step_text own n (steps.In x e) = line n (codes "with (" ∷ x ∷ codes " \\in " ∷ value_text own (tree e) ∷ codes ") {" ∷ [])
step_text own n steps.Skip = []
step_text own n (steps.Await e) = line n (codes "await " ∷ value_text own (tree e) ∷ codes ";" ∷ [])
step_text own n (steps.Assert e) = line n (codes "assert " ∷ value_text own (tree e) ∷ codes ";" ∷ [])
step_text own n (steps.Print e) = line n (codes "print " ∷ value_text own (tree e) ∷ codes ";" ∷ [])

abbrev pub opened : List Name → ℕ → List Step → List ℕ
opened own n [] = []
opened own n (s ∷ ss) = step_text own n s ++ opened own (level_after n s) ss

-- k blocks that are closed, the innermost first; n blocks stand around them
abbrev pub closings : ℕ → ℕ → List ℕ
closings n zero = []
closings n (suc k) = line (n + k) (codes "}" ∷ []) ++ closings n k
