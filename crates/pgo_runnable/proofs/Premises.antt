-- What is asked of a bound specification, of every accepted one.
use Rattle.std.proofs.Common.{◌≡◌, ℕ, true, List, Some, Ok, refl, sym, subst, ap}
use Rattle.pgo_base.specs.Data.{Data}
use Rattle.pgo_base.specs.Lookup.{Name}
use Rattle.pgo_model.specs.Log.{own_names}
use Rattle.pgo_model.specs.Machine.{nth}
use Rattle.pgo_model.specs.State.{AllValues}
use Rattle.pgo_syntax.specs.Statement.{labeled}
use Rattle.pgo_syntax.specs.declared.bound.Instance.{Instance}
use Rattle.pgo_syntax.specs.declared.spec.Spec.{Spec}
use Rattle.pgo_bound.specs.Among.{among_nth}
use Rattle.pgo_bound.specs.BoundOf.{bound_of}
use Rattle.pgo_bound.specs.Sound.{Sound}
use Rattle.pgo_bound.specs.State.{id_of}
use Rattle.pgo_model.specs.Names.{is_among}
use Rattle.pgo_meaning.specs.MacrosPlaced.{bodies, placed_among}
use Rattle.pgo_meaning.specs.Parameters.{own_variables}
use Rattle.pgo_meaning.specs.System.{system_of}
use Rattle.pgo_meaning.specs.SystemStates.{GlobalsBound}
use Rattle.pgo_accesses.specs.Runnable.{Runnable}
use Rattle.pgo_accesses.specs.WithoutYield.{LabeledWithout}
use Rattle.pgo_bind.proofs.SoundBound.{sound_answer}
use Rattle.pgo_agrees.specs.Accepted.{IsAccepted}
use Rattle.pgo_agrees.proofs.Instances.{RunsAs, runs_as}
use Rattle.pgo_agrees.proofs.Premises as premises
use Rattle.pgo_runnable.proofs.Bodies.{body_without}
use Rattle.pgo_runnable.proofs.OwnNames.{own_is}

module _ (s : Spec) (consts : List (Name × Data)) (h : IsAccepted s consts) where
  pub is_sound : AllValues (bound_of s consts).start → Sound (bound_of s consts)
  is_sound v = sound_answer s consts (Ok (bound_of s consts)) (h.binding, refl) v (premises.well s consts h)

  module _ (k : ℕ) (i : Instance) (at_k : nth (bound_of s consts).instances k ≡ Some i) where
    r : RunsAs s consts i
    r = runs_as s consts k i at_k

    owns : (x : Name) → is_among x (own_variables i.process i.archetype i.bindings) ≡ true → is_among x (own_names (id_of i) (system_of (bound_of s consts)).own) ≡ true
    owns x e =
        own_is (bound_of s consts) r.process r.archetype r.among r.named i (among_nth i (bound_of s consts).instances k at_k) (ap (λ (z : Instance). z.process) r.is) x
        (subst (λ (z : Instance). is_among x (own_variables z.process z.archetype z.bindings) ≡ true) r.is e)

    yields : LabeledWithout (placed_among (bodies s.macros) (labeled i.archetype.body))
    yields =
        subst (λ (z : Instance). LabeledWithout (placed_among (bodies s.macros) (labeled z.archetype.body))) (sym r.is) (body_without s consts h r.process r.archetype r.among r.named r.declared)

  pub runnable : Sound (bound_of s consts) → GlobalsBound (bound_of s consts) → Runnable (bound_of s consts)
  runnable v g = record {
    sound = v;
    differ = (premises.well s consts h).variables_differ;
    globals = g;
    keeps = premises.keeps_elements s consts h;
    owns = λ k i x at_k e. owns k i at_k x e;
    unlabelled = premises.unlabelled s consts h;
    none_done = premises.none_done s consts h;
    yields = yields;
  }
