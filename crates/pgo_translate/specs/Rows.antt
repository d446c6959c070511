-- The items of a row of statements, from the items of what follows it.
use Rattle.std.specs.Prelude.{List, [], ◌∷◌}
use Rattle.pgo_base.specs.ExprView.{tree}
use Rattle.pgo_base.specs.Tree.{Tree}
use Rattle.pgo_model.specs.Module.{all_of}
use Rattle.pgo_pluscal.specs.declared.part.Step.{Step}
use Rattle.pgo_pluscal.specs.declared.part.Step.TheVariants as steps
use Rattle.pgo_translate.specs.Items.{some_in, only, asserts, prints}

-- what follows a choice of a value stands inside it; what follows a test beside it
abbrev pub step_items : Step → List Tree → List Tree
step_items (steps.With x e) rest = some_in x (only (tree e)) (all_of rest) ∷ []
step_items (steps.In x e) rest = some_in x (tree e) (all_of rest) ∷ []
step_items steps.Skip rest = rest
step_items (steps.Await e) rest = tree e ∷ rest
step_items (steps.Assert e) rest = asserts (tree e) ∷ rest
step_items (steps.Print e) rest = prints (tree e) ∷ rest

abbrev pub row_items : List Step → List Tree → List Tree
row_items [] rest = rest
row_items (s ∷ ss) rest = step_items s (row_items ss rest)
