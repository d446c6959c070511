-- The sections of a bound specification as trees of accesses, and what workers run of it.
use Rattle.std.specs.Prelude.{ℕ, Bool, [], map, None}
use Rattle.pgo_base.specs.Lookup.{Vars, find}
use Rattle.pgo_model.specs.Choice.{Seeded, words_of}
use Rattle.pgo_model.specs.Core as core
use Rattle.pgo_model.specs.Log.{Effect}
use Rattle.pgo_model.specs.Machine.{nth}
use Rattle.pgo_model.specs.ModuleView.{defined_view}
use Rattle.pgo_model.specs.Options.{on}
use Rattle.pgo_model.specs.Outcome.{most_leaves}
use Rattle.pgo_model.specs.System.{Words}
use Rattle.pgo_model.specs.Val.{meanings}
use Rattle.pgo_model.specs.Written.{pc, done}
use Rattle.pgo_syntax.specs.declared.bound.Bound.{Bound}
use Rattle.pgo_syntax.specs.declared.bound.Instance.{Instance}
use Rattle.pgo_bound.specs.State.{id_of, kind_in}
use Rattle.pgo_meaning.specs.Parameters.{places_of}
use Rattle.pgo_meaning.specs.Sect.{code_at, is_by_element}
use Rattle.pgo_meaning.specs.System.{system_of}
use Rattle.pgo_tries.specs.Sections.{along}
use Rattle.pgo_workers.specs.Programs as workers
use Rattle.pgo_workers.specs.Tried.{LeafTree, attempting}
use Rattle.pgo_workers.specs.Walk.{Own, Walk}
use Rattle.pgo_workers.specs.Worker.{Program}
use Rattle.pgo_workers.specs.View.{World}
use Rattle.pgo_workers.specs.Worlds.{layout_of, world_of}
use Rattle.pgo_accesses.specs.Accesses.{Attempt, accesses_of, no_value}

abbrev pub attempt_of : Bound → Instance → Own → Words → Attempt
attempt_of b i own d = record {
  id = id_of i;
  places = places_of i.process i.archetype i.bindings;
  defs = meanings (map defined_view b.defs) [] None;
  by_element = λ g. is_by_element (kind_in b g);
  resources = (system_of b).resources;
  own = own;
  words = d;
}

-- the section of the label at which the own components are, with the words d
abbrev pub leaf_with : Bound → Words → ℕ → Own → LeafTree
leaf_with b d k own = on no_value (nth b.instances k) (λ i. on no_value (code_at b i (find pc own)) (λ c. accesses_of (attempt_of b i own d) c))

-- an attempt on it: it tries the choices of the section one after another, the words d first
abbrev pub tree_with : Bound → Words → ℕ → Own → Walk
tree_with b d k own = attempting (λ p. leaf_with b (along 0 p d) k own) d most_leaves

-- what attempt a of instance k does under a seed
abbrev pub tree_of : Bound → (seed : ℕ) → (k a : ℕ) → Own → Walk
tree_of b seed k a own = tree_with b (words_of (Seeded seed k a)) k own

-- an instance whose own components are these is at Done
abbrev pub is_done : Own → Bool
is_done o = core.is_place done (find pc o)

-- what the workers of a bound specification run
abbrev pub program_of : Bound → core.Settings → Program Vars Effect
program_of b settings = workers.program_of (system_of b) (tree_of b) settings

-- the states and entries of a bound specification
abbrev pub world_at : Bound → World Vars Effect
world_at b = world_of (layout_of (system_of b))
