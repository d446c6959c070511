-- What an attempt does, from its first place on.
use Rattle.std.specs.Prelude.{ℕ, suc, false, [], length, map, None}
use Rattle.pgo_model.specs.Machine.{nth}
use Rattle.pgo_base.specs.Data.{Data}
use Rattle.pgo_base.specs.Lookup.{find}
use Rattle.pgo_model.specs.Choice.{Seeded, words_of}
use Rattle.pgo_model.specs.ModuleView.{defined_view}
use Rattle.pgo_model.specs.Options.{on}
use Rattle.pgo_model.specs.Outcome.{most_leaves}
use Rattle.pgo_model.specs.System.{Words}
use Rattle.pgo_model.specs.Val.{meanings}
use Rattle.pgo_model.specs.Written.{pc}
use Rattle.pgo_tries.specs.Sections.{along}
use Rattle.pgo_syntax.specs.declared.bound.Bound.{Bound}
use Rattle.pgo_bound.specs.State.{id_of}
use Rattle.pgo_meaning.specs.System.{resource_of}
use Rattle.pgo_workers.specs.Tried.{LeafTree, trying}
use Rattle.pgo_workers.specs.Walk.{Own, Walk, settled}
use Rattle.pgo_accesses.specs.Accesses.{Attempt, no_value}
use Rattle.pgo_code.specs.declared.program.Code.{Code}
use Rattle.pgo_code.specs.declared.program.Program.{Program}
use Rattle.pgo_places.specs.FirstStands.{steps_named, fixed_of, start_of}
use Rattle.pgo_places.specs.PlaceWalk.{count_of}
use Rattle.pgo_places.specs.Stands.{limited, resume}

-- what the expressions and accesses of an instance with this identifier see besides
abbrev pub attempt_with : Bound → Data → Attempt
attempt_with b id = record {
  id = id;
  places = [];
  defs = meanings (map defined_view b.defs) [] None;
  by_element = λ g. false;
  resources = map resource_of b.resources;
  own = [];
  words = λ n. 0;
}

-- what the section with these own components does with the words d, of an attempt with the words `first`
abbrev pub leaf_named : Program → Code → (id : Data) → Own → (first words : Words) → LeafTree
leaf_named p c id own first d =
    limited (count_of p.bound.now)
    (on no_value (steps_named (find pc own) c) (λ xs. resume (attempt_with p.bound.now id) (fixed_of c) (suc (length xs)) xs (start_of c own first d)))

-- what an instance does
abbrev pub leaf_of : Program → (first words : Words) → ℕ → Own → LeafTree
leaf_of p first d k own =
    limited (count_of p.bound.now)
    (on no_value (nth p.codes.items k) (λ c.
    on no_value (nth p.bound.now.instances k) (λ i.
    on no_value (steps_named (find pc own) c) (λ xs.
    resume (attempt_with p.bound.now (id_of i)) (fixed_of c) (suc (length xs)) xs (start_of c own first d)))))

-- the leaves of attempt a of instance k under a seed, one after another
abbrev pub tries_in : Program → (seed k a : ℕ) → Own → Walk
tries_in p seed k a own =
    let first = words_of (Seeded seed k a) in trying (λ path. leaf_of p first (along 0 path first) k own) first most_leaves []

-- what attempt a of instance k does under a seed
abbrev pub tree_in : Program → (seed k a : ℕ) → Own → Walk
tree_in p seed k a own = settled (tries_in p seed k a own)
