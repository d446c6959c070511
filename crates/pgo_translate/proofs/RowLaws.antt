-- Rows of statements that grow at their end, and lists whose last stands first.
use Rattle.std.proofs.Common.{◌≡◌, List, [], ◌∷◌, ◌++◌, reverse, refl, ap, ◌∙◌}
use Rattle.std.proofs.lemmas.List.{reverse-append}
use Rattle.pgo_base.specs.Lookup.{Name}
use Rattle.pgo_base.specs.Tree.{Tree}
use Rattle.pgo_sections.specs.Expansion.{Expansion}
use Rattle.pgo_pluscal.specs.declared.part.Step.{Step}
use Rattle.pgo_pluscal.specs.declared.part.Step.TheVariants as steps
use Rattle.pgo_pluscal.specs.PartView.{before, around}
use Rattle.pgo_translate.specs.Items.{items}
use Rattle.pgo_translate.specs.Rows.{step_items, row_items}

pub row_more : (ss : List Step) (s : Step) (rest : List Tree) → row_items (ss ++ s ∷ []) rest ≡ row_items ss (step_items s rest)
row_more [] s rest = refl
row_more (x ∷ ss) s rest = ap (step_items x) (row_more ss s rest)

step_before : (vs gs : List Name) (s : Step) (x : Expansion) → items vs gs (before s x) ≡ step_items s (items vs gs x)
step_before vs gs (steps.With y e) x = refl
step_before vs gs (steps.In y e) x = refl
step_before vs gs steps.Skip x = refl
step_before vs gs (steps.Await e) x = refl
step_before vs gs (steps.Assert e) x = refl
step_before vs gs (steps.Print e) x = refl

pub row_around : (vs gs : List Name) (ss : List Step) (x : Expansion) → items vs gs (around ss x) ≡ row_items ss (items vs gs x)
row_around vs gs [] x = refl
row_around vs gs (s ∷ ss) x = step_before vs gs s (around ss x) ∙ ap (step_items s) (row_around vs gs ss x)

pub reversed_more : {A : Type 0} (xs : List A) (x : A) → reverse (xs ++ x ∷ []) ≡ x ∷ reverse xs
reversed_more xs x = reverse-append xs (x ∷ [])
