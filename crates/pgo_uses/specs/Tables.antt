-- The names that a specification declares, by kind, and the names that it has anyway.
use Rattle.std.specs.Prelude.{List, [], ◌∷◌, ◌++◌, length, codes}
pub use Rattle.pgo_model.specs.Written.{content_name as variable_name, value_name}
use Rattle.pgo_syntax.specs.declared.name.PlacedName.{PlacedName}
use Rattle.pgo_syntax.specs.declared.declaration.Declaration.{Declaration}
use Rattle.pgo_syntax.specs.declared.declaration.Definition.{Definition}
use Rattle.pgo_syntax.specs.declared.macros.Macro.{Macro}
use Rattle.pgo_syntax.specs.declared.macros.MappingMacro.{MappingMacro}
use Rattle.pgo_syntax.specs.declared.archetype.Archetype.{Archetype}
use Rattle.pgo_syntax.specs.declared.spec.Spec.{Spec}
use Rattle.pgo_syntax.specs.Defines.{define_of}
use Rattle.pgo_uses.specs.declared.tables.Tables.{Tables}
use Rattle.pgo_uses.specs.Names.{Rows}

-- those before the algorithm and those of `define`, in the order of the text
abbrev pub all_definitions : Spec → List Definition
all_definitions s = s.definitions ++ define_of s.define

abbrev pub name_rows : List PlacedName → Rows
name_rows [] = []
name_rows (n ∷ ns) = (n.name, 0) ∷ name_rows ns

-- a definition with the number of its parameters
abbrev pub definition_rows : List Definition → Rows
definition_rows [] = []
definition_rows (d ∷ ds) = (d.name.name, length d.params) ∷ definition_rows ds

abbrev pub variable_rows : List Declaration → Rows
variable_rows [] = []
variable_rows (d ∷ ds) = (d.name.name, 0) ∷ variable_rows ds

abbrev pub macro_rows : List Macro → Rows
macro_rows [] = []
macro_rows (m ∷ ms) = (m.name.name, length m.params) ∷ macro_rows ms

abbrev pub mapping_rows : List MappingMacro → Rows
mapping_rows [] = []
mapping_rows (m ∷ ms) = (m.name.name, 0) ∷ mapping_rows ms

abbrev pub archetype_rows : List Archetype → Rows
archetype_rows [] = []
archetype_rows (a ∷ rest) = (a.name.name, length a.params) ∷ archetype_rows rest

abbrev pub tables_of : Spec → Tables
tables_of s = record {
  constants = name_rows s.constants;
  definitions = definition_rows (all_definitions s);
  globals = variable_rows s.globals;
  macros = macro_rows s.macros;
  mappings = mapping_rows s.mappings;
  archetypes = archetype_rows s.archetypes;
}

-- the operators of the modules, with the numbers of their arguments
abbrev pub operator_rows : Rows
operator_rows =
    (codes "Len", 1) ∷
    (codes "Head", 1) ∷
    (codes "Tail", 1) ∷
    (codes "Append", 2) ∷
    (codes "SubSeq", 3) ∷
    (codes "Cardinality", 1) ∷
    (codes "Assert", 2) ∷
    (codes "PrintT", 1) ∷ []
