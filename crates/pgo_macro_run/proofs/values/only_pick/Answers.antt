use Rattle.std.proofs.Common.{ℕ, List, ◌∷◌, ap, ◌∙◌}
use Rattle.pgo_sections.specs.SectionRun.{ChoiceMade}
use Rattle.pgo_resource.specs.Picked.{choices_of}
use Rattle.pgo_macro_run.proofs.Arms.{none_else}
use Rattle.pgo_macro_run.proofs.values.only_pick.Goals as goal

pub returns-clause-made : goal.returns-clause-made
returns-clause-made c =
    let one : ℕ → List ChoiceMade = λ j. record { count = 1; taken = j } ∷ choices_of c.args.picks.now in
    c.in_ok-_only.ensures.made ∙ ap one (c.in_ok-_only.ensures.number ∙ none_else _)
