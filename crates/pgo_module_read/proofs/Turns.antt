-- The turns of the loop over the steps of Next.
use Rattle.std.proofs.Common.{◌≡◌, List, [], ◌∷◌, ◌++◌, reverse, Some, None, ap, sym, ◌∙◌}
use Rattle.pgo_base.specs.Tree.{Tree}
use Rattle.pgo_mpcal_read.specs.ReadingSpec.{if_some}
use Rattle.pgo_module_read.specs.declared.steps.Step.{Step}
use Rattle.pgo_module_read.specs.Building.{or_parts, union_parts, step, steps_before}
use Rattle.pgo_module_read.proofs.Reversed.{reversed_more}
use Rattle.pgo_module_read.proofs.StepsExact.{steps_or, steps_last}

-- one step more
pub step_or : (t s c d u v : Tree) (all : List Step) (x : Step) → or_parts t ≡ Some (c, d) → union_parts s ≡ Some (u, v) → step d v ≡ Some x → steps_before t s (reverse all) ≡ steps_before c u (reverse (all ++ x ∷ []))
step_or t s c d u v all x e f g =
    steps_or t s c d (reverse all) e
    ∙ ap (λ o. if_some o (λ p. if_some (step d p.1) (λ y. steps_before c p.0 (y ∷ reverse all)))) f
    ∙ ap (λ o. if_some o (λ y. steps_before c u (y ∷ reverse all))) g
    ∙ ap (steps_before c u) (sym (reversed_more all x))

pub step_no_union : (t s c d : Tree) (all : List Step) → or_parts t ≡ Some (c, d) → union_parts s ≡ None → steps_before t s (reverse all) ≡ None
step_no_union t s c d all e f =
    steps_or t s c d (reverse all) e ∙ ap (λ o. if_some o (λ p. if_some (step d p.1) (λ y. steps_before c p.0 (y ∷ reverse all)))) f

pub step_none : (t s c d u v : Tree) (all : List Step) → or_parts t ≡ Some (c, d) → union_parts s ≡ Some (u, v) → step d v ≡ None → steps_before t s (reverse all) ≡ None
step_none t s c d u v all e f g =
    steps_or t s c d (reverse all) e
    ∙ ap (λ o. if_some o (λ p. if_some (step d p.1) (λ y. steps_before c p.0 (y ∷ reverse all)))) f
    ∙ ap (λ o. if_some o (λ y. steps_before c u (y ∷ reverse all))) g

pub step_last : (t s : Tree) (all : List Step) (x : Step) → or_parts t ≡ None → step t s ≡ Some x → steps_before t s (reverse all) ≡ Some (reverse (all ++ x ∷ []))
step_last t s all x e f = steps_last t s (reverse all) e ∙ ap (λ o. if_some o (λ y. Some (y ∷ reverse all))) f ∙ ap Some (sym (reversed_more all x))

pub last_none : (t s : Tree) (all : List Step) → or_parts t ≡ None → step t s ≡ None → steps_before t s (reverse all) ≡ None
last_none t s all e f = steps_last t s (reverse all) e ∙ ap (λ o. if_some o (λ y. Some (y ∷ reverse all))) f
