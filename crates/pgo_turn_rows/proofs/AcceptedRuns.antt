-- What a text is bound to can be run, where no rule refuses it.
use Rattle.std.proofs.Common.{◌≡◌, ℕ, List, None, Ok, sym, subst}
use Rattle.pgo_base.specs.Data.{Data}
use Rattle.pgo_base.specs.Lookup.{Name}
use Rattle.pgo_model.specs.Core.{Settings}
use Rattle.pgo_syntax.specs.declared.bound.Bound.{Bound}
use Rattle.pgo_syntax.specs.declared.spec.Spec.{Spec}
use Rattle.pgo_bound.specs.BoundOf.{bound_of}
use Rattle.pgo_bound.specs.Sound.{Sound}
use Rattle.pgo_heads.specs.Refusals.{bind_refusal}
use Rattle.pgo_labels.specs.Refusal.{label_refusal}
use Rattle.pgo_scope.specs.Refusal.{scope_refusal}
use Rattle.pgo_meaning.specs.System.{system_of}
use Rattle.pgo_accesses.specs.Programs.{tree_of}
use Rattle.pgo_accesses.specs.Runnable.{Runnable}
use Rattle.pgo_section.specs.Programs.{RunsSystem}
use Rattle.pgo_mpcal_read.specs.Texts.{SpellsSpec}
use Rattle.pgo_accept.specs.Answers.{Answers, spelled, bound}
use Rattle.pgo_agrees.specs.Accepted.{IsAccepted}
use Rattle.pgo_turn_rows.specs.Runs.{Runs}

module _
    (accepts : (text : List ℕ) (s : Spec) (consts : List (Name × Data)) → SpellsSpec text s → scope_refusal s ≡ None → label_refusal s ≡ None → bind_refusal s consts ≡ None → IsAccepted s consts)
    (runs : (s : Spec) (consts : List (Name × Data)) → IsAccepted s consts → Sound (bound_of s consts) → Runnable (bound_of s consts))
    (works : (s : Spec) (consts : List (Name × Data)) (settings : Settings) → IsAccepted s consts → Sound (bound_of s consts) → RunsSystem (system_of (bound_of s consts)) (tree_of (bound_of s consts)) settings)
  where
    pub accepted_runs : (text : List ℕ) (consts : List (Name × Data)) (b : Bound) → Answers text consts (Ok b) → Sound b → Runs b
    accepted_runs text consts b (spelled s r spells only (bound c names labels binding e)) sound =
        let a = accepts text s consts spells names labels binding in let h = subst Sound e sound in
        subst Runs (sym e) (record { runnable = runs s consts a h; workers = λ settings. works s consts settings a h })
