-- The specification whose labels are expanded that belongs to a specification: its header, its heads, each process with its own variables
-- by their written names, and one tree for each label.
use Rattle.std.specs.Prelude.{List, [], ◌++◌, map, Option, Some, None}
use Rattle.std.specs.List.{filter_map}
use Rattle.pgo_base.specs.Lookup.{Name}
use Rattle.pgo_base.specs.Tree.{Tree, set_of, no_trees, more_trees}
use Rattle.pgo_model.specs.Options.{on}
use Rattle.pgo_model.specs.Written.{written}
use Rattle.pgo_syntax.specs.declared.archetype.Archetype.{Archetype}
use Rattle.pgo_syntax.specs.declared.binding.Origin.{Origin}
use Rattle.pgo_syntax.specs.declared.binding.Origin.TheVariants.{Equals, In}
use Rattle.pgo_syntax.specs.declared.declaration.Declaration.{Declaration}
use Rattle.pgo_syntax.specs.declared.name.PlacedName.{PlacedName}
use Rattle.pgo_syntax.specs.declared.process.Argument.{Argument}
use Rattle.pgo_syntax.specs.declared.process.Argument.TheVariants as arguments
use Rattle.pgo_syntax.specs.declared.process.Process.{Process}
use Rattle.pgo_syntax.specs.declared.spec.Spec.{Spec}
use Rattle.pgo_bound.specs.Runs.{archetype_named, handed_from}
use Rattle.pgo_meaning.specs.Expansions.{process_expansions}
use Rattle.pgo_pluscal.specs.declared.pluscal.ExpandedProcess.{ExpandedProcess}
use Rattle.pgo_pluscal.specs.declared.pluscal.Header.{Header}
use Rattle.pgo_pluscal.specs.declared.pluscal.PlusCal.{PlusCal}

-- `P = e` has the identifiers of `P \in {e}`
abbrev pub ids_tree : Origin → Tree
ids_tree (Equals e) = set_of (more_trees e no_trees)
ids_tree (In e) = e

-- local or value parameter x of process p by its written name
abbrev pub written_name : Name → PlacedName → PlacedName
written_name p x = record { name = written p x.name; place = x.place }

-- a value parameter starts with what it is handed
abbrev pub parameter_declaration : Name → PlacedName → Argument → Option Declaration
parameter_declaration p x (arguments.Ref g e) = None
parameter_declaration p x (arguments.Value place e) = Some (record { name = written_name p x; initial = Some (Equals e) })

abbrev pub local_declaration : Name → Declaration → Declaration
local_declaration p d = record { name = written_name p d.name; initial = d.initial }

-- the value parameters, and then the locals
abbrev pub own_declarations : Process → Archetype → List Declaration
own_declarations p a =
    filter_map (λ h. parameter_declaration p.name.name h.parameter.name h.argument) (handed_from 1 a.params p.arguments)
    ++ map (local_declaration p.name.name) a.locals

abbrev pub process_of : Spec → Process → ExpandedProcess
process_of s p = record {
  name = p.name.name;
  ids = ids_tree p.ids;
  variables = on [] (archetype_named p.archetype.name s.archetypes) (own_declarations p);
  trees = process_expansions s p;
}

-- what stands before the algorithm
abbrev pub header_of : Spec → Header
header_of s = record { name = s.name.name; constants = s.constants; definitions = s.definitions }

abbrev pub pluscal_of : Spec → PlusCal
pluscal_of s = record {
  header = header_of s;
  name = s.algorithm.name;
  globals = s.globals;
  define = s.define;
  processes = map (process_of s) s.processes;
}
