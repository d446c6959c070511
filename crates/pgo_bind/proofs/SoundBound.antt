-- What a specification with well-formed names is bound to is sound.
use Rattle.std.proofs.Common.{◌≡◌, List, None, Result, Ok, Err, sym, subst}
use Rattle.std.specs.Prelude.{IfOk}
use Rattle.pgo_base.specs.Data.{Data}
use Rattle.pgo_base.specs.Lookup.{Name}
use Rattle.pgo_model.specs.State.{AllValues}
use Rattle.pgo_syntax.specs.declared.bound.Bound.{Bound}
use Rattle.pgo_syntax.specs.declared.spec.Spec.{Spec}
use Rattle.pgo_bound.specs.BoundOf.{globals_of, bound_of}
use Rattle.pgo_bound.specs.Runs.{runs_of}
use Rattle.pgo_bound.specs.Sound.{Sound, WellNamed}
use Rattle.pgo_bound.specs.Values.{defs_of}
use Rattle.pgo_heads.specs.declared.errors.BindError.{BindError}
use Rattle.pgo_heads.specs.Answers.{Answers}
use Rattle.pgo_heads.specs.Refusals.{constants_refused, heads_refused, bind_refusal}
use Rattle.pgo_bind.proofs.Passing.{none_next}
use Rattle.pgo_bind.proofs.Places.{numbers, at_labels}
use Rattle.pgo_bind.proofs.SoundResources.{differ, are_global, element_domain, has_domain}
use Rattle.pgo_bind.proofs.SoundStart.{start_is_state}

sound : (s : Spec) (consts : List (Name × Data)) → WellNamed s → bind_refusal s consts ≡ None → AllValues (bound_of s consts).start → Sound (bound_of s consts)
sound s consts w h v =
    let ds = defs_of s consts in
    let g = none_next (constants_refused s consts) (heads_refused s.archetypes ds (runs_of s ds) (globals_of s ds (runs_of s ds))) h in
    record {
      numbered = numbers s consts h;
      resources_differ = differ s ds w g v;
      resources_global = are_global s ds w g;
      start = start_is_state s ds w g v;
      domains = element_domain s ds w g;
      indexed = has_domain s ds w g;
      labels = at_labels s consts w h;
    }

pub sound_answer : (s : Spec) (consts : List (Name × Data)) (r : Result Bound BindError) → Answers (bind_refusal s consts) (bound_of s consts) r → IfOk r (λ b. AllValues b.start) → WellNamed s → IfOk r Sound
sound_answer s consts (Ok b) a v w = subst Sound (sym a.1) (sound s consts w a.0 (subst (λ x. AllValues x.start) a.1 v))
sound_answer s consts (Err e) a v w = tt
