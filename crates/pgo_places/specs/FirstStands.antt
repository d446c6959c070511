-- Where an attempt stands first.
use Rattle.std.specs.Prelude.{List, [], map, reverse, Option, Some, None}
use Rattle.pgo_base.specs.Data.{Data, string}
use Rattle.pgo_base.specs.Lookup.{Name, find}
use Rattle.pgo_model.specs.Options.{on}
use Rattle.pgo_model.specs.System.{Words}
use Rattle.pgo_model.specs.Written.{self_name}
use Rattle.pgo_workers.specs.Walk.{Own}
use Rattle.pgo_accesses.specs.Accesses.{begun}
use Rattle.pgo_code.specs.Steps.{Step}
use Rattle.pgo_code.specs.See.{section_view}
use Rattle.pgo_code.specs.declared.program.Code.{Code}
use Rattle.pgo_code.specs.declared.program.Variable.{Variable}
use Rattle.pgo_places.specs.Stands.{Fixed, Stand}

-- the section of the label at which the own components are
abbrev pub steps_named : Option Data → Code → Option (List Step)
steps_named (Some (string l)) c = find l (map section_view c.sections.items)
steps_named o c = None

abbrev pub fixed_of : Code → Fixed
fixed_of c = record { identity = self_name; owners = reverse (map (λ v. v.own) c.variables.items) }

-- what a variable has at the start
abbrev pub variable_of : Own → Variable → Name × Option Data
variable_of own v = (v.name, on None v.own (λ y. find y own))

-- with the attempt's words and those of the leaf
abbrev pub start_of : Code → Own → (first words : Words) → Stand
start_of c own first d = record {
  done = 0;
  value = None;
  env = [];
  variables = reverse (map (variable_of own) c.variables.items);
  own = own;
  first = first;
  words = d;
  progress = begun;
}
