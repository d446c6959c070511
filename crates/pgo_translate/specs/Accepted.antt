-- What is asked of a specification with constants, so that its module agrees with what it is bound to. Each field follows from
-- what the grammar, the rules on names, on labels and of binding, and the limits on expansions let pass (`pgo_agrees`), but for
-- `constants`.
use Rattle.std.specs.Prelude.{◌≡◌, ℕ, List, [], Some, None}
use Rattle.pgo_base.specs.Data.{Data}
use Rattle.pgo_base.specs.Lookup.{Name, find}
use Rattle.pgo_model.specs.Machine.{nth}
use Rattle.pgo_syntax.specs.declared.bound.Bound.{Bound}
use Rattle.pgo_syntax.specs.declared.bound.Instance.{Instance}
use Rattle.pgo_syntax.specs.declared.spec.Spec.{Spec}
use Rattle.pgo_bound.specs.BoundOf.{bound_of}
use Rattle.pgo_bound.specs.Sound.{WellNamed}
use Rattle.pgo_heads.specs.Refusals.{bind_refusal}
use Rattle.pgo_sections.specs.Code.{Code}
use Rattle.pgo_sections.specs.WellFormed.{PlainCode}
use Rattle.pgo_meaning.specs.LabelSections.{AreUnlabelled, NoneIsDone}
use Rattle.pgo_meaning.specs.Parameters.{places_of}
use Rattle.pgo_meaning.specs.TreesAgree.{Named, OwnLabels, sections_at}
use Rattle.pgo_translate.specs.ModuleOf.{declared}
use Rattle.pgo_translate.specs.Premises.{ModuleNames, StartNames, ConstantsAreValues, taken_names}

-- of an instance: what the law of trees asks; and its sections name no further definition
pub record InstanceAccepted (s : Spec) (b : Bound) (i : Instance) : Type 0 where
  pub named : Named b i
  pub labels : OwnLabels b i
  pub done : NoneIsDone i
  pub sections : (l : Name) (c : Code) → find l (sections_at b i) ≡ Some c
      → PlainCode (taken_names s) (declared s.globals) (places_of i.process i.archetype i.bindings) [] c

pub record Accepted (s : Spec) (consts : List (Name × Data)) : Type 0 where
  pub names : ModuleNames s
  pub starts : StartNames s consts
  pub constants : ConstantsAreValues s consts
  pub well : WellNamed s
  pub binding : bind_refusal s consts ≡ None
  pub unlabelled : AreUnlabelled s.macros
  pub instances : (k : ℕ) (i : Instance) → nth (bound_of s consts).instances k ≡ Some i → InstanceAccepted s (bound_of s consts) i
