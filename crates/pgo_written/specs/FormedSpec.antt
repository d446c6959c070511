-- What the text of a specification gives of its names and expressions.
use Rattle.std.specs.Prelude.{◌≡◌, true, [], ◌∷◌, Option, Some, None}
use Rattle.std.specs.List.{AllByRecursion}
use Rattle.pgo_expr_write.specs.WellFormed.{IsName}
use Rattle.pgo_syntax.specs.Statement.{labeled}
use Rattle.pgo_syntax.specs.declared.archetype.Archetype.{Archetype}
use Rattle.pgo_syntax.specs.declared.archetype.Parameter.{Parameter}
use Rattle.pgo_syntax.specs.declared.binding.Origin.{Origin}
use Rattle.pgo_syntax.specs.declared.binding.Origin.TheVariants.{Equals, In}
use Rattle.pgo_syntax.specs.declared.declaration.Declaration.{Declaration}
use Rattle.pgo_syntax.specs.declared.declaration.Definition.{Definition}
use Rattle.pgo_syntax.specs.declared.macros.Macro.{Macro}
use Rattle.pgo_syntax.specs.declared.macros.MappingMacro.{MappingMacro}
use Rattle.pgo_syntax.specs.declared.name.PlacedName.{PlacedName}
use Rattle.pgo_syntax.specs.declared.process.Argument.{Argument}
use Rattle.pgo_syntax.specs.declared.process.Argument.TheVariants as arguments
use Rattle.pgo_syntax.specs.declared.process.Process.{Process}
use Rattle.pgo_syntax.specs.declared.spec.Spec.{Spec}
use Rattle.pgo_bound.specs.Values.{define_of}
use Rattle.pgo_sections.specs.Code.{content_name, value_name}
use Rattle.pgo_written.specs.Formed.{Formed, RangeFormed}
use Rattle.pgo_written.specs.FormedCode.{IsShort}
use Rattle.pgo_written.specs.FormedStatements.{LabeledFormed}

abbrev pub NameShort : PlacedName → Type 0
NameShort x = IsShort x.name

abbrev pub DefinitionFormed : Definition → Type 0
DefinitionFormed d = NameShort d.name × AllByRecursion NameShort d.params × Formed IsName d.body

abbrev pub StartFormed : Origin → Type 0
StartFormed (Equals e) = Formed IsName e
StartFormed (In e) = RangeFormed IsName e

abbrev pub IfStartFormed : Option Origin → Type 0
IfStartFormed None = Unit {0}
IfStartFormed (Some o) = StartFormed o

abbrev pub DeclarationFormed : Declaration → Type 0
DeclarationFormed d = NameShort d.name × IfStartFormed d.initial

abbrev pub MacroFormed : Macro → Type 0
MacroFormed m = LabeledFormed true true [] (labeled m.body)

-- `$variable` and `$value` stand in mapping macros alone
abbrev pub MappingFormed : MappingMacro → Type 0
MappingFormed m =
    LabeledFormed true true (content_name ∷ value_name ∷ []) (labeled m.read) × LabeledFormed true true (content_name ∷ value_name ∷ []) (labeled m.write)

abbrev pub ParameterFormed : Parameter → Type 0
ParameterFormed p = NameShort p.name

abbrev pub ArchetypeFormed : Archetype → Type 0
ArchetypeFormed a = AllByRecursion ParameterFormed a.params × AllByRecursion DeclarationFormed a.locals × LabeledFormed true true [] (labeled a.body)

abbrev pub ArgumentFormed : Argument → Type 0
ArgumentFormed (arguments.Value place e) = Formed IsName e
ArgumentFormed (arguments.Ref g extent) = NameShort g

abbrev pub ProcessFormed : Process → Type 0
ProcessFormed p = NameShort p.name × StartFormed p.ids × AllByRecursion ArgumentFormed p.arguments

pub record SpecFormed (s : Spec) : Type 0 where
  pub name : NameShort s.name
  pub constants : AllByRecursion NameShort s.constants
  pub definitions : AllByRecursion DefinitionFormed s.definitions
  pub define : AllByRecursion DefinitionFormed (define_of s.define)
  pub globals : AllByRecursion DeclarationFormed s.globals
  pub macros : AllByRecursion MacroFormed s.macros
  pub mappings : AllByRecursion MappingFormed s.mappings
  pub archetypes : AllByRecursion ArchetypeFormed s.archetypes
  pub processes : AllByRecursion ProcessFormed s.processes
  pub some : s.processes ≡ [] → ⊥
