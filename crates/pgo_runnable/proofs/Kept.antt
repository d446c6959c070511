-- What is asked of a bound specification, so that its states are kept, of every accepted one.
use Rattle.std.proofs.Common.{◌≡◌, ℕ, List, Some}
use Rattle.pgo_base.specs.Data.{Data}
use Rattle.pgo_base.specs.Lookup.{Name}
use Rattle.pgo_model.specs.Machine.{nth}
use Rattle.pgo_model.specs.State.{AllValues}
use Rattle.pgo_syntax.specs.declared.bound.Instance.{Instance}
use Rattle.pgo_syntax.specs.declared.spec.Spec.{Spec}
use Rattle.pgo_bound.specs.BoundOf.{bound_of}
use Rattle.pgo_meaning.specs.SystemStates.{GlobalsBound}
use Rattle.pgo_systems.specs.Counted.{AllCounted}
use Rattle.pgo_systems.specs.Premises.{EndsAtLabels, KeepsStates, LiteralsFitIn, OwnsApart}
use Rattle.pgo_agrees.specs.Accepted.{IsAccepted}
use Rattle.pgo_agrees.proofs.Premises as premises
use Rattle.pgo_runnable.proofs.Premises.{is_sound}

pub keeps : (s : Spec) (consts : List (Name × Data)) → IsAccepted s consts → AllValues (bound_of s consts).start → GlobalsBound (bound_of s consts) → AllCounted (bound_of s consts).start
    → ((k : ℕ) (i : Instance) → nth (bound_of s consts).instances k ≡ Some i → LiteralsFitIn (bound_of s consts) i)
    → ((k : ℕ) (i : Instance) → nth (bound_of s consts).instances k ≡ Some i → EndsAtLabels (bound_of s consts) i)
    → ((k : ℕ) (i : Instance) → nth (bound_of s consts).instances k ≡ Some i → OwnsApart (bound_of s consts) i)
    → KeepsStates (bound_of s consts)
keeps s consts h v g counted literals ends owns = record {
  sound = is_sound s consts h v;
  globals = g;
  differ = (premises.well s consts h).variables_differ;
  counted = counted;
  elements = premises.keeps_elements s consts h;
  literals = literals;
  ends = ends;
  owns = owns;
}
