-- The names that stand in a specification outside the heads of its units: each with its home, its place and what is known
-- there.
use Rattle.std.specs.Prelude.{ℕ, suc, false, List, [], ◌∷◌, ◌++◌, Some, None}
use Rattle.pgo_base.specs.Lookup.{Name}
use Rattle.pgo_syntax.specs.declared.name.PlacedName.{PlacedName}
pub use Rattle.pgo_syntax.specs.PlacedNames.{names_of}
use Rattle.pgo_syntax.specs.declared.binding.Origin.{Origin}
use Rattle.pgo_syntax.specs.declared.binding.Origin.TheVariants.{Equals, In}
use Rattle.pgo_syntax.specs.declared.declaration.Declaration.{Declaration}
use Rattle.pgo_syntax.specs.declared.declaration.Definition.{Definition}
use Rattle.pgo_syntax.specs.declared.macros.Macro.{Macro}
use Rattle.pgo_syntax.specs.declared.macros.MappingMacro.{MappingMacro}
use Rattle.pgo_syntax.specs.declared.archetype.Parameter.{Parameter}
use Rattle.pgo_syntax.specs.declared.archetype.Archetype.{Archetype}
use Rattle.pgo_syntax.specs.declared.process.Argument.{Argument}
use Rattle.pgo_syntax.specs.declared.process.Argument.TheVariants.{Value, Ref}
use Rattle.pgo_syntax.specs.declared.process.Process.{Process}
use Rattle.pgo_syntax.specs.declared.spec.Spec.{Spec}
use Rattle.pgo_syntax.specs.Origins.{origin_tree}
use Rattle.pgo_syntax.specs.Statement.{labeled}
use Rattle.pgo_uses.specs.declared.uses.Around.{Around}
use Rattle.pgo_uses.specs.declared.uses.Home.{Home}
use Rattle.pgo_uses.specs.declared.uses.Home.TheVariants as homes
use Rattle.pgo_uses.specs.declared.uses.Form.{Form}
use Rattle.pgo_uses.specs.declared.uses.Form.TheVariants as forms
use Rattle.pgo_uses.specs.declared.uses.Use.{Use}
use Rattle.pgo_uses.specs.Tables.{all_definitions, variable_name, value_name}
use Rattle.pgo_uses.specs.Uses.{uses}
use Rattle.pgo_uses.specs.StatementUses.{placed, uses_of_block}

-- at the beginning of something of this home
abbrev pub start : Home → ℕ → Around
start h p = record { home = h; place = p; hidden = false; indexed = false; passed = false }

abbrev pub parameter_names : List Parameter → List Name
parameter_names [] = []
parameter_names (p ∷ ps) = p.name.name ∷ parameter_names ps

abbrev pub variable_names : List Declaration → List Name
variable_names [] = []
variable_names (d ∷ ds) = d.name.name ∷ variable_names ds

-- names that are declared one after another, each in the scope of those before it
abbrev pub heads : Form → List Name → Around → List PlacedName → List Use
heads f ns a [] = []
heads f ns a (x ∷ xs) = placed ns a x f ++ heads f (ns ++ x.name ∷ []) a xs

-- the place of the last of these, or p
abbrev pub last_place : ℕ → List PlacedName → ℕ
last_place p [] = p
last_place p (x ∷ xs) = last_place x.place xs

-- a definition, with its number: its parameters, and its body in their scope
abbrev pub definition_uses : ℕ → Definition → List Use
definition_uses i d =
    let p = last_place d.name.place d.params in
    heads forms.Bound [] (start (homes.Definition i) p) d.params
    ++ uses (names_of d.params) (start (homes.Definition i) p) d.body

abbrev pub definitions_uses : ℕ → List Definition → List Use
definitions_uses i [] = []
definitions_uses i (d ∷ ds) = definition_uses i d ++ definitions_uses (suc i) ds

abbrev pub global_uses : ℕ → Declaration → List Use
global_uses i d = elim d.initial [ None ↦ [] | Some o ↦ uses [] (start (homes.Global i) d.name.place) (origin_tree o) ]

abbrev pub globals_uses : ℕ → List Declaration → List Use
globals_uses i [] = []
globals_uses i (d ∷ ds) = global_uses i d ++ globals_uses (suc i) ds

-- a macro, with its number: its parameters, and its body in their scope
abbrev pub macro_uses : ℕ → Macro → List Use
macro_uses i m =
    heads forms.Named [] (start (homes.Macro i) m.name.place) m.params
    ++ uses_of_block (names_of m.params) (start (homes.Macro i) m.name.place) (labeled m.body)

abbrev pub macros_uses : ℕ → List Macro → List Use
macros_uses i [] = []
macros_uses i (m ∷ ms) = macro_uses i m ++ macros_uses (suc i) ms

-- the blocks of a mapping macro, which see `$variable` and `$value`
abbrev pub mapping_uses : MappingMacro → List Use
mapping_uses m =
    let ns = variable_name ∷ value_name ∷ [] in
    uses_of_block ns (start homes.Mapping m.name.place) (labeled m.read)
    ++ uses_of_block ns (start homes.Mapping m.name.place) (labeled m.write)

abbrev pub mappings_uses : List MappingMacro → List Use
mappings_uses [] = []
mappings_uses (m ∷ ms) = mapping_uses m ++ mappings_uses ms

abbrev pub parameter_uses : List Name → Around → List Parameter → List Use
parameter_uses ns a [] = []
parameter_uses ns a (p ∷ ps) = placed ns a p.name forms.Named ++ parameter_uses (ns ++ p.name.name ∷ []) a ps

-- where the initial value of a local variable of archetype j stands
abbrev pub initial_home : ℕ → Origin → Home
initial_home j (Equals e) = homes.Initial j
initial_home j (In e) = homes.InitialSet j

-- it sees no name of the archetype
abbrev pub initial_uses : ℕ → Declaration → List Use
initial_uses j d = elim d.initial [ None ↦ [] | Some o ↦ uses [] (start (initial_home j o) d.name.place) (origin_tree o) ]

abbrev pub local_uses : ℕ → List Name → Around → List Declaration → List Use
local_uses j ns a [] = []
local_uses j ns a (d ∷ ds) = placed ns a d.name forms.Named ++ initial_uses j d ++ local_uses j (ns ++ d.name.name ∷ []) a ds

-- an archetype, with its number: its parameters, its local variables, and its body in the scope of both
abbrev pub archetype_uses : ℕ → Archetype → List Use
archetype_uses j r =
    let a = start (homes.Body j) r.name.place in
    parameter_uses [] a r.params
    ++ local_uses j (parameter_names r.params) a r.locals
    ++ uses_of_block (parameter_names r.params ++ variable_names r.locals) a (labeled r.body)

abbrev pub archetypes_uses : ℕ → List Archetype → List Use
archetypes_uses j [] = []
archetypes_uses j (r ∷ rs) = archetype_uses j r ++ archetypes_uses (suc j) rs

abbrev pub value_uses : List Argument → List Use
value_uses [] = []
value_uses (Value p e ∷ rest) = uses [] (start homes.Argument p) e ++ value_uses rest
value_uses (Ref x extent ∷ rest) = value_uses rest

-- a process: its identifiers, and its value arguments
abbrev pub process_uses : Process → List Use
process_uses p = uses [] (start homes.Process p.name.place) (origin_tree p.ids) ++ value_uses p.arguments

abbrev pub processes_uses : List Process → List Use
processes_uses [] = []
processes_uses (p ∷ ps) = process_uses p ++ processes_uses ps

abbrev pub all_uses : Spec → List Use
all_uses s =
    definitions_uses 0 (all_definitions s)
    ++ globals_uses 0 s.globals
    ++ macros_uses 0 s.macros
    ++ mappings_uses s.mappings
    ++ archetypes_uses 0 s.archetypes
    ++ processes_uses s.processes
