-- Why the labels of a specification are refused.
use Rattle.std.specs.Prelude.{◌≡◌, ◌⊎◌, List, [], ◌∷◌, Option, Some, None, Result, MatchResult}
use Rattle.pgo_syntax.specs.declared.spec.Spec.{Spec}
use Rattle.pgo_labels.specs.declared.errors.LabelError.{LabelError}
use Rattle.pgo_labels.specs.declared.errors.LabelError.TheVariants.{NoMemory}
use Rattle.pgo_labels.specs.declared.finding.Finding.{Finding}
use Rattle.pgo_syntax.specs.Least.{least}
use Rattle.pgo_labels.specs.Rules.{findings}

-- the first rule that finds something, at its least place
abbrev pub first_refusal : List (List Finding) → Option LabelError
first_refusal [] = None
first_refusal (fs ∷ rules) = elim (least (λ f. f.place) fs) [ None ↦ first_refusal rules | Some f ↦ Some f.error ]

abbrev pub label_refusal : Spec → Option LabelError
label_refusal s = first_refusal (findings s)

-- `Ok` where nothing is refused, and otherwise the refusal, but for want of memory
abbrev pub Answers : {A : Type 0} → Option LabelError → Result A LabelError → Type 0
Answers refusal result = MatchResult result (λ _. refusal ≡ None) (λ e. (refusal ≡ Some e) ⊎ (e ≡ NoMemory))
