-- The module of a specification agrees with what the specification is bound to.
use Rattle.std.proofs.Common.{◌↔◌, List}
use Rattle.pgo_base.specs.Data.{Data}
use Rattle.pgo_base.specs.Lookup.{Name}
use Rattle.pgo_syntax.specs.declared.bound.Bound.{Bound}
use Rattle.pgo_syntax.specs.declared.spec.Spec.{Spec}
use Rattle.pgo_bound.specs.BoundOf.{bound_of}
use Rattle.pgo_bound.specs.State.{id_of}
use Rattle.pgo_translate.specs.Accepted.{Accepted}
use Rattle.pgo_translate.specs.Agrees.{Agrees, StepsAgree, BeginsAgree}
use Rattle.pgo_translate.specs.ModuleOf.{module_of, constants_with}
use Rattle.pgo_translate.specs.Named.{TreesAreNamed}
use Rattle.pgo_translate.proofs.LabelTrees.{TreesLaw, SectionsLaw, LabelsLaw, ActionsLaw, tree_named}
use Rattle.pgo_translate.proofs.NextSteps.{next-agrees}
use Rattle.pgo_translate.proofs.Kleene.{iff_then}

module _ (trees : TreesLaw) (sections : SectionsLaw) (labels : LabelsLaw) (actions : ActionsLaw) (naming : TreesAreNamed) (s : Spec) (consts : List (Name × Data)) (h : Accepted s consts) where
  abbrev b : Bound
  b = bound_of s consts

  at_label : {P A B : Type 0} → (P → A ↔ B) → (P × A) ↔ (P × B)
  at_label f = (λ k. (k.0, (f k.0).0 k.1), λ k. (k.0, (f k.0).1 k.1))

  steps : StepsAgree (module_of s) (constants_with s consts) b
  steps k i l u t at_k is_label is_u is_t =
      let n = h.instances k i at_k in
      iff_then (actions s consts l h.names (tree_named sections naming s consts h i n l is_label) (id_of i) u t is_u is_t)
      (at_label (λ at_l. trees b k i l u t at_k n.named n.labels h.unlabelled n.done is_label is_u is_t at_l))

  pub agrees : BeginsAgree (module_of s) (constants_with s consts) b → Agrees (module_of s) (constants_with s consts) b
  agrees starts = record { steps = steps; starts = starts; next = next-agrees sections labels actions naming s consts h }
