-- All that is asked of a specification, for its module to agree with what it is bound to, holds of an accepted one.
use Rattle.std.specs.Prelude.{◌≡◌, ℕ, List, [], Some}
use Rattle.std.specs.List.{AllByRecursion}
use Rattle.pgo_base.specs.Data.{Data}
use Rattle.pgo_base.specs.Lookup.{Name}
use Rattle.pgo_model.specs.Machine.{nth}
use Rattle.pgo_model.specs.State.{AllValues}
use Rattle.pgo_syntax.specs.declared.bound.Instance.{Instance}
use Rattle.pgo_syntax.specs.declared.spec.Spec.{Spec}
use Rattle.pgo_bound.specs.BoundOf.{bound_of}
use Rattle.pgo_accept.proofs.Fitting.{ArgumentsFit}
use Rattle.pgo_meaning.specs.Parameters.{places_of}
use Rattle.pgo_translate.specs.Accepted.{Accepted, InstanceAccepted}
use Rattle.pgo_translate.specs.ModuleOf.{declared}
use Rattle.pgo_translate.specs.Premises.{taken_names}
use Rattle.pgo_agrees.specs.Accepted.{IsAccepted, AreSmall}
use Rattle.pgo_agrees.proofs.ConstantValues.{constants_are_values}
use Rattle.pgo_agrees.proofs.Fewer.{code_fewer}
use Rattle.pgo_agrees.proofs.Further.{names_written}
use Rattle.pgo_agrees.proofs.Kept.{NoFindings, NoLabelFindings}
use Rattle.pgo_agrees.proofs.ModuleNames.{module_names}
use Rattle.pgo_agrees.proofs.Premises as premises
use Rattle.pgo_agrees.proofs.StartNames.{taken_written, start_names}

pub module_accepted : (s : Spec) (consts : List (Name × Data)) → IsAccepted s consts → AreSmall s → AllValues consts → Accepted s consts
module_accepted s consts h small values = record {
  names = module_names s names labels fit h.of_text;
  starts = start_names s names labels fit h.of_text consts;
  constants = constants_are_values s consts values;
  well = premises.well s consts h;
  binding = h.binding;
  unlabelled = premises.unlabelled s consts h;
  instances = instance;
}
  where
    names : NoFindings s
    names = premises.names s consts h

    labels : NoLabelFindings s
    labels = premises.labels s consts h

    fit : AllByRecursion (ArgumentsFit s.archetypes) s.processes
    fit = premises.fit s consts h

    instance : (k : ℕ) (i : Instance) → nth (bound_of s consts).instances k ≡ Some i → InstanceAccepted s (bound_of s consts) i
    instance k i at_k = record {
      named = premises.named s consts h k i at_k small;
      labels = premises.own_labels s consts h k i at_k;
      done = premises.none_done s consts h k i at_k;
      sections = λ l c e. code_fewer (names_written s) (taken_names s) (taken_written s names labels fit h.of_text) (declared s.globals) (places_of i.process i.archetype i.bindings) [] c (premises.written_plain s consts h k i at_k l c e);
    }
