-- What is asked of a specification, so that its states are kept, of every accepted one that a text spells.
use Rattle.std.proofs.Common.{◌≡◌, ℕ, List, Some, Ok, refl, sym, subst}
use Rattle.std.specs.List.{AllByRecursion}
use Rattle.pgo_base.specs.Data.{Data}
use Rattle.pgo_base.specs.Lookup.{Name}
use Rattle.pgo_model.specs.Machine.{nth}
use Rattle.pgo_model.specs.State.{AllValues}
use Rattle.pgo_syntax.specs.declared.bound.Instance.{Instance}
use Rattle.pgo_syntax.specs.declared.spec.Spec.{Spec}
use Rattle.pgo_labels.specs.Rules.{needs_label, unknown_label}
use Rattle.pgo_bound.specs.Among.{none_flat_map}
use Rattle.pgo_bound.specs.BoundOf.{bound_of}
use Rattle.pgo_bound.specs.Sound.{Sound}
use Rattle.pgo_bind.proofs.SoundBound.{sound_answer}
use Rattle.pgo_systems.specs.Counted.{AllCounted, counted}
use Rattle.pgo_systems.specs.Gotos.{GotosKnown}
use Rattle.pgo_systems.specs.StatementLiterals.{SpecificationFits}
use Rattle.pgo_agrees.specs.Accepted.{IsAccepted}
use Rattle.pgo_agrees.proofs.Instances.{runs_as}
use Rattle.pgo_agrees.proofs.Premises as premises
use Rattle.pgo_accounts.specs.Texts.{AllLiteralsFit, NeverJumps}
use Rattle.pgo_accounts.proofs.InstanceLiterals.{text_fits}
use Rattle.pgo_accounts.proofs.Labels.{none_found, known, whiles}

-- ---- values

module _ (s : Spec) (consts : List (Name × Data)) (h : IsAccepted s consts) (literals : AllLiteralsFit s) (quiet : AllByRecursion NeverJumps s.macros) where
  pub gotos_known : (k : ℕ) (i : Instance) → nth (bound_of s consts).instances k ≡ Some i → GotosKnown (bound_of s consts) i
  gotos_known k i at_k =
      let r = runs_as s consts k i at_k in
      let found = none_found s h.labels in
      subst (GotosKnown (bound_of s consts)) (sym r.is) (record {
        body = known r.archetype (none_flat_map unknown_label r.archetype s.archetypes found.unknown r.declared);
        whiles = whiles r.archetype (none_flat_map needs_label r.archetype s.archetypes found.needs r.declared);
        macros = quiet;
        unlabelled = premises.unlabelled s consts h;
      })

  module _ (given : AllCounted consts) where
    -- what it is bound to is sound, where what it starts with are values
    pub is_sound : AllValues (bound_of s consts).start → Sound (bound_of s consts)
    is_sound v = sound_answer s consts (Ok (bound_of s consts)) (h.binding, refl) v (premises.well s consts h)

    pub fits : AllValues (bound_of s consts).start → SpecificationFits s consts
    fits v = record {
      sound = is_sound v;
      refs = premises.refs s consts h;
      differ = (premises.well s consts h).variables_differ;
      constants = given;
      start = literals.start;
      elements = premises.keeps_elements s consts h;
      texts = text_fits counted s consts literals;
      gotos = gotos_known;
    }
