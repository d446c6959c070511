-- The names in the heads of a specification's units, which are not among those that stand in it.
use Rattle.std.specs.Prelude.{List, [], ◌∷◌, ◌++◌}
use Rattle.pgo_syntax.specs.declared.name.PlacedName.{PlacedName}
use Rattle.pgo_syntax.specs.declared.declaration.Declaration.{Declaration}
use Rattle.pgo_syntax.specs.declared.declaration.Definition.{Definition}
use Rattle.pgo_syntax.specs.declared.macros.Macro.{Macro}
use Rattle.pgo_syntax.specs.declared.macros.MappingMacro.{MappingMacro}
use Rattle.pgo_syntax.specs.declared.archetype.Archetype.{Archetype}
use Rattle.pgo_syntax.specs.declared.process.Argument.{Argument}
use Rattle.pgo_syntax.specs.declared.process.Argument.TheVariants.{Value, Ref}
use Rattle.pgo_syntax.specs.declared.process.MappingTarget.{MappingTarget}
use Rattle.pgo_syntax.specs.declared.process.MappingTarget.TheVariants as targets
use Rattle.pgo_syntax.specs.declared.process.MappingClause.{MappingClause}
use Rattle.pgo_syntax.specs.declared.process.Process.{Process}
use Rattle.pgo_syntax.specs.declared.spec.Spec.{Spec}
use Rattle.pgo_uses.specs.Tables.{all_definitions}

abbrev pub definition_names : List Definition → List PlacedName
definition_names [] = []
definition_names (d ∷ ds) = d.name ∷ definition_names ds

abbrev pub declared_names : List Declaration → List PlacedName
declared_names [] = []
declared_names (d ∷ ds) = d.name ∷ declared_names ds

abbrev pub macro_names : List Macro → List PlacedName
macro_names [] = []
macro_names (m ∷ ms) = m.name ∷ macro_names ms

abbrev pub mapping_names : List MappingMacro → List PlacedName
mapping_names [] = []
mapping_names (m ∷ ms) = m.name ∷ mapping_names ms

abbrev pub archetype_names : List Archetype → List PlacedName
archetype_names [] = []
archetype_names (r ∷ rs) = r.name ∷ archetype_names rs

abbrev pub process_names : List Process → List PlacedName
process_names [] = []
process_names (p ∷ ps) = p.name ∷ process_names ps

-- constants, definitions and globals, which share one scope
abbrev pub shared_names : Spec → List PlacedName
shared_names s = s.constants ++ definition_names (all_definitions s) ++ declared_names s.globals

-- the names that a specification declares in heads
abbrev pub unit_names : Spec → List PlacedName
unit_names s =
    shared_names s ++ macro_names s.macros ++ mapping_names s.mappings ++ archetype_names s.archetypes ++ process_names s.processes

abbrev pub argument_names : List Argument → List PlacedName
argument_names [] = []
argument_names (Value p e ∷ rest) = argument_names rest
argument_names (Ref x extent ∷ rest) = x ∷ argument_names rest

abbrev pub target_names : MappingTarget → List PlacedName
target_names (targets.Global x extent) = x ∷ []
target_names (targets.Argument p n extent) = []

abbrev pub clause_names : List MappingClause → List PlacedName
clause_names [] = []
clause_names (c ∷ cs) = target_names c.target ++ c.mapping ∷ clause_names cs

-- what a process names: its archetype, the globals of its arguments and of its clauses, its mapping macros
abbrev pub named_by : List Process → List PlacedName
named_by [] = []
named_by (p ∷ ps) = p.archetype ∷ argument_names p.arguments ++ clause_names p.clauses ++ named_by ps

abbrev pub head_names : Spec → List PlacedName
head_names s = s.name ∷ s.extends ++ s.algorithm ∷ unit_names s ++ named_by s.processes
