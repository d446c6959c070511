-- What is accepted: a specification of a text that no rule of names, labels or binding refuses.
use Rattle.std.specs.Prelude.{◌≡◌, ◌≤◌, ◌-◌, ◌^◌, true, List, Option, None, Some}
use Rattle.std.specs.List.{AllByRecursion}
use Rattle.pgo_base.specs.Data.{Data}
use Rattle.pgo_base.specs.Lookup.{Name, find}
use Rattle.pgo_model.specs.ValueText.{is_identifier}
use Rattle.pgo_syntax.specs.Statement.{labeled}
use Rattle.pgo_syntax.specs.declared.binding.Origin.{Origin}
use Rattle.pgo_syntax.specs.declared.archetype.Archetype.{Archetype}
use Rattle.pgo_syntax.specs.declared.archetype.Parameter.{Parameter}
use Rattle.pgo_syntax.specs.declared.declaration.Declaration.{Declaration}
use Rattle.pgo_syntax.specs.declared.declaration.Definition.{Definition}
use Rattle.pgo_syntax.specs.declared.macros.Macro.{Macro}
use Rattle.pgo_syntax.specs.declared.macros.MappingMacro.{MappingMacro}
use Rattle.pgo_syntax.specs.declared.name.PlacedName.{PlacedName}
use Rattle.pgo_syntax.specs.declared.process.Argument.{Argument}
use Rattle.pgo_syntax.specs.declared.process.Argument.TheVariants as arguments
use Rattle.pgo_syntax.specs.declared.process.Process.{Process}
use Rattle.pgo_syntax.specs.declared.spec.Spec.{Spec}
use Rattle.pgo_uses.specs.StatementUses.{origin_tree}
use Rattle.pgo_uses.specs.Tables.{all_definitions}
use Rattle.pgo_bound.specs.Sound.{labels_among}
use Rattle.pgo_scope.specs.Refusal.{scope_refusal}
use Rattle.pgo_labels.specs.Refusal.{label_refusal}
use Rattle.pgo_heads.specs.Refusals.{bind_refusal}
use Rattle.pgo_sections.specs.Expansion.{Expansion}
use Rattle.pgo_sections.specs.Nodes.{nodes}
use Rattle.pgo_meaning.specs.Expansions.{trees_of}
use Rattle.pgo_agrees.specs.Spoken.{Spoken, LabeledSpoken}

abbrev pub DefinitionOfText : Definition → Type 0
DefinitionOfText d = (is_identifier d.name.name ≡ true) × Spoken d.body

abbrev pub MacroParameterOfText : PlacedName → Type 0
MacroParameterOfText p = is_identifier p.name ≡ true

-- a `yield` stands in a mapping macro alone
abbrev pub MacroOfText : Macro → Type 0
MacroOfText m = AllByRecursion MacroParameterOfText m.params × LabeledSpoken ⊥ (labeled m.body)

abbrev pub MappingOfText : MappingMacro → Type 0
MappingOfText m = LabeledSpoken (Unit {0}) (labeled m.read) × LabeledSpoken (Unit {0}) (labeled m.write)

abbrev pub ParameterOfText : Parameter → Type 0
ParameterOfText p = is_identifier p.name.name ≡ true

abbrev pub OriginOfText : Option Origin → Type 0
OriginOfText None = Unit {0}
OriginOfText (Some o) = Spoken (origin_tree o)

abbrev pub DeclarationOfText : Declaration → Type 0
DeclarationOfText d = (is_identifier d.name.name ≡ true) × OriginOfText d.initial

abbrev pub LabelOfText : Name → Type 0
LabelOfText x = is_identifier x ≡ true

abbrev pub ArchetypeOfText : Archetype → Type 0
ArchetypeOfText a =
    AllByRecursion ParameterOfText a.params × AllByRecursion DeclarationOfText a.locals × LabeledSpoken ⊥ (labeled a.body)
    × AllByRecursion LabelOfText (labels_among (labeled a.body))

abbrev pub ArgumentOfText : Argument → Type 0
ArgumentOfText (arguments.Value place e) = Spoken e
ArgumentOfText (arguments.Ref g extent) = Unit {0}

abbrev pub ProcessOfText : Process → Type 0
ProcessOfText p =
    (is_identifier p.name.name ≡ true) × Spoken (origin_tree p.ids) × AllByRecursion ArgumentOfText p.arguments

-- what the grammar says of a specification that a text spells, as far as the laws here ask for it
pub record IsOfText (s : Spec) : Type 0 where
  pub globals : AllByRecursion DeclarationOfText s.globals
  pub definitions : AllByRecursion DefinitionOfText (all_definitions s)
  pub macros : AllByRecursion MacroOfText s.macros
  pub mappings : AllByRecursion MappingOfText s.mappings
  pub archetypes : AllByRecursion ArchetypeOfText s.archetypes
  pub processes : AllByRecursion ProcessOfText s.processes

-- no rule refuses it with these constants
pub record IsAccepted (s : Spec) (consts : List (Name × Data)) : Type 0 where
  pub of_text : IsOfText s
  pub names : scope_refusal s ≡ None
  pub labels : label_refusal s ≡ None
  pub binding : bind_refusal s consts ≡ None

-- the expansion of each label is within a limit on nodes that fits 64 bits
abbrev pub AreSmall : Spec → Type 0
AreSmall s = (l : Name) (x : Expansion) → find l (trees_of s) ≡ Some x → nodes x ≤ 2 ^ 64 - 1
