-- An instance is of a process that runs its archetype.
use Rattle.std.proofs.Common.{◌≡◌, ℕ, List, Some, ap, ◌∙◌}
use Rattle.pgo_base.specs.Data.{Data}
use Rattle.pgo_base.specs.Lookup.{Name}
use Rattle.pgo_model.specs.Machine.{nth}
use Rattle.pgo_syntax.specs.declared.archetype.Archetype.{Archetype}
use Rattle.pgo_syntax.specs.declared.bound.Instance.{Instance}
use Rattle.pgo_syntax.specs.declared.process.Process.{Process}
use Rattle.pgo_syntax.specs.declared.spec.Spec.{Spec}
use Rattle.pgo_bound.specs.Among.{IsAmong, from_filter_map, mapped_some}
use Rattle.pgo_bound.specs.BoundOf.{bound_of, instance_at}
use Rattle.pgo_bound.specs.Instances.{instance_from, archetype_among}
use Rattle.pgo_bound.specs.Runs.{Run, archetype_named, run_with, run_of, runs_of}
use Rattle.pgo_bound.specs.Values.{defs_of}

-- instance i is at an identifier of the process p, whose archetype is a
pub record RunsAs (s : Spec) (consts : List (Name × Data)) (i : Instance) : Type 0 where
  pub process : Process
  pub among : IsAmong process s.processes
  pub archetype : Archetype
  pub named : archetype_named process.archetype.name s.archetypes ≡ Some archetype
  pub declared : IsAmong archetype s.archetypes
  pub number : ℕ
  pub id : Data
  pub is : i ≡ instance_at s number (run_with (defs_of s consts) process archetype, id)

pub runs_as : (s : Spec) (consts : List (Name × Data)) (k : ℕ) (i : Instance) → nth (bound_of s consts).instances k ≡ Some i → RunsAs s consts i
runs_as s consts k i h =
    let ds = defs_of s consts in
    let f = instance_from s (runs_of s ds) i k h in
    let p = from_filter_map (run_of s ds) f.0 s.processes f.1 in
    let a = mapped_some (run_with ds p.0) (archetype_named p.0.archetype.name s.archetypes) f.0 p.2 in
    record {
      process = p.0;
      among = p.1;
      archetype = a.0;
      named = a.1;
      declared = archetype_among p.0.archetype.name s.archetypes a.0 a.1;
      number = f.2.2.1.0;
      id = f.2.0;
      is = f.2.2.1.1 ∙ ap (λ (r : Run). instance_at s f.2.2.1.0 (r, f.2.0)) a.2;
    }
