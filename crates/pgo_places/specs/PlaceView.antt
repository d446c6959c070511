-- Stands in memory, as the stands that they are.
use Rattle.std.specs.Prelude.{false, [], map, option_map, reverse, None}
use Rattle.pgo_base.specs.BindingsView.{named_view}
use Rattle.pgo_base.specs.View.{data_of}
use Rattle.pgo_model.specs.ModuleView.{defined_view}
use Rattle.pgo_model.specs.Val.{meanings}
use Rattle.pgo_syntax.specs.declared.bound.Bound.{Bound}
use Rattle.pgo_meaning.specs.System.{resource_of}
use Rattle.pgo_resource.specs.Picked.{attempt_words, words_of, choices_of}
use Rattle.pgo_accesses.specs.Accesses.{Attempt, Progress}
use Rattle.pgo_places.specs.declared.stand.Fixed as memory_fixed
use Rattle.pgo_places.specs.declared.stand.Stand as memory_stand
use Rattle.pgo_places.specs.Stands.{Fixed, Stand}

abbrev pub fixed_view : memory_fixed.Fixed → Fixed
fixed_view x = record { identity = x.identity; owners = x.owners.items }

abbrev pub progress_view : memory_stand.Stand → Progress
progress_view s = record { changes = []; too_deep = s.too_deep.items; points = choices_of s.picks; prints = map data_of s.prints.items }

abbrev pub stand_view : memory_stand.Stand → Stand
stand_view s = record {
  done = s.done;
  value = option_map data_of s.value;
  env = reverse (map named_view s.env.items);
  variables = map named_view s.variables.items;
  own = s.own;
  first = attempt_words s.picks;
  words = words_of s.picks;
  progress = progress_view s;
}

-- what an attempt's expressions and accesses see besides
abbrev pub attempt_view : Bound → memory_fixed.Fixed → Attempt
attempt_view b x = record {
  id = data_of x.id;
  places = [];
  defs = meanings (map defined_view b.defs) [] None;
  by_element = λ g. false;
  resources = map resource_of b.resources;
  own = [];
  words = λ n. 0;
}
