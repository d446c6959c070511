-- The expressions and names of a specification that a text spells are well formed.
use Rattle.std.proofs.Common.{ℕ, Bool, true, false, List, [], ◌∷◌, refl, sym, ◌∙◌}
use Rattle.std.specs.List.{AllByRecursion}
use Rattle.pgo_lexer.specs.declared.symbol.Symbol.TheVariants as symbol
use Rattle.pgo_lexer.specs.declared.token.Lexeme.{Lexeme}
use Rattle.pgo_mpcal_read.specs.Elements.{IsName}
use Rattle.pgo_mpcal_read.specs.Elements as elements
use Rattle.pgo_mpcal_read.specs.Spells.{IsHeader, IsPart, declarations_of, SpellsTokens}
use Rattle.pgo_mpcal_read.specs.Spells as spells
use Rattle.pgo_mpcal_read.specs.Statements.{IsOrigin}
use Rattle.pgo_mpcal_read.specs.Statements as m
use Rattle.pgo_mpcal_read.specs.Texts.{SpellsSpec}
use Rattle.pgo_mpcal_read.specs.Units.{IsDefinition, IsDeclaration, IsDeclarations, IsVariables, IsParameter, IsMacro, IsMappingMacro, IsLocals, IsArchetype, IsArgument, IsProcess, IsDefine, IsUnit, AreUnits}
use Rattle.pgo_mpcal_read.specs.Units as unit
use Rattle.pgo_mpcal_read.specs.declared.header.Header.{Header}
use Rattle.pgo_mpcal_read.specs.declared.units.Units.{Units}
use Rattle.pgo_syntax.specs.declared.archetype.Archetype.{Archetype}
use Rattle.pgo_syntax.specs.declared.archetype.Parameter.{Parameter}
use Rattle.pgo_syntax.specs.declared.binding.Origin.{Origin}
use Rattle.pgo_syntax.specs.declared.declaration.Declaration.{Declaration}
use Rattle.pgo_syntax.specs.declared.declaration.Definition.{Definition}
use Rattle.pgo_syntax.specs.declared.macros.Macro.{Macro}
use Rattle.pgo_syntax.specs.declared.macros.MappingMacro.{MappingMacro}
use Rattle.pgo_syntax.specs.declared.name.PlacedName.{PlacedName}
use Rattle.pgo_syntax.specs.declared.process.Argument.{Argument}
use Rattle.pgo_syntax.specs.declared.process.Process.{Process}
use Rattle.pgo_syntax.specs.declared.spec.Spec.{Spec}
use Rattle.pgo_bound.specs.Values.{define_of}
use Rattle.pgo_sections.specs.Code.{content_name, value_name}
use Rattle.pgo_agrees.proofs.EachToken.{all_joined, one_more, cut, all_items, all_in_brackets, all_in_row}
use Rattle.pgo_written.specs.FormedSpec.{NameShort, DefinitionFormed, StartFormed, DeclarationFormed, MacroFormed, MappingFormed, ParameterFormed, ArchetypeFormed, ArgumentFormed, ProcessFormed, SpecFormed}
use Rattle.pgo_written.proofs.FormedSpelled.{AllOk, plain_expression, plain_range, body_spelled}
use Rattle.pgo_written.proofs.FormedTokens.{tokens_told, ok_plain, ok_macro}

name_of : (b : Bool) (xs : List Lexeme) (x : PlacedName) → IsName xs x → AllOk b xs → NameShort x
name_of b xs x elements.name h = h.0.0

origin_of : (xs : List Lexeme) (o : Origin) → IsOrigin xs o → AllOk false xs → StartFormed o
origin_of xs o (m.equals d) h = plain_expression d h.1
origin_of xs o (m.member d) h = plain_range d h.1

definition_of : (xs : List Lexeme) (d : Definition) → IsDefinition xs d → AllOk false xs → DefinitionFormed d
definition_of xs d (unit.without_params i) h = (h.0.0, tt, plain_expression i h.1.1)
definition_of xs d (unit.with_params c e {xs = ys} {ts = ts} {ps = ps} n i) h =
    let q = cut _ ys _ h.1.1 in (h.0.0, all_items _ IsName NameShort (name_of false) symbol.Comma ys ps n q.0, plain_expression i q.1.1.1)

declaration_of : (xs : List Lexeme) (d : Declaration) → IsDeclaration xs d → AllOk false xs → DeclarationFormed d
declaration_of xs d unit.without_value h = (h.0.0, tt)
declaration_of xs d (unit.with_value {ts = ys} {o = o} i) h = (h.0.0, origin_of ys o i h.1)

all_declarations : (xs : List Lexeme) (ds : List Declaration) → IsDeclarations xs ds → AllOk false xs → AllByRecursion DeclarationFormed ds
all_declarations xs ds (unit.last_declaration {xs = ys} {d = d} i e) h = (declaration_of ys d i (cut _ ys _ h).0, tt)
all_declarations xs ds (unit.declaration {xs = us} {ys = ys} {zs = zs} {d = d} {ds = es} i p r) h =
    let q = cut _ us _ h in (declaration_of us d i q.0, all_declarations ys es r (cut _ zs ys q.1).1)

variables_of : (xs : List Lexeme) (ds : List Declaration) → IsVariables xs ds → AllOk false xs → AllByRecursion DeclarationFormed ds
variables_of xs ds (unit.variables {xs = ys} i) h = all_declarations ys ds i h.1

macro_of : (xs : List Lexeme) (m : Macro) → IsMacro xs m → AllOk false xs → MacroFormed m
macro_of xs m (unit.macro_of {xs = ys} {ys = zs} i b) h = body_spelled b false [] tt (cut _ ys _ h.1.1).1

mapping_of : (xs : List Lexeme) (m : MappingMacro) → IsMappingMacro xs m → AllOk true xs → MappingFormed m
mapping_of xs m (unit.mapping_macro_of w c {xs = ys} {ys = zs} r b) h =
    let q = cut _ ys _ h.1.1.1.1.1 in
    let v = cut _ zs _ q.1.1 in
    (body_spelled r true (content_name ∷ value_name ∷ []) (refl, refl) q.0, body_spelled b true (content_name ∷ value_name ∷ []) (refl, refl) v.0)

parameter_of : (xs : List Lexeme) (p : Parameter) → IsParameter xs p → AllOk false xs → ParameterFormed p
parameter_of xs p unit.value_parameter h = h.0.0
parameter_of xs p (unit.ref_parameter e) h = h.1.0.0

locals_of : (xs : List Lexeme) (ds : List Declaration) → IsLocals xs ds → AllOk false xs → AllByRecursion DeclarationFormed ds
locals_of xs ds unit.no_locals h = tt
locals_of xs ds (unit.locals {xs = ys} i) h = variables_of ys ds i h

archetype_of : (xs : List Lexeme) (a : Archetype) → IsArchetype xs a → AllOk false xs → ArchetypeFormed a
archetype_of xs a (unit.archetype_of {xs = us} {ys = ys} {zs = zs} {ps = ps} {ds = ds} i l b) h =
    let q = cut _ us _ h.1.1 in
    let v = cut _ ys _ q.1 in
    (all_in_brackets _ IsParameter ParameterFormed parameter_of us ps i q.0, locals_of ys ds l v.0, body_spelled b false [] tt v.1)

argument_of : (xs : List Lexeme) (a : Argument) → IsArgument xs a → AllOk false xs → ArgumentFormed a
argument_of xs a (unit.value_argument d) h = plain_expression d h
argument_of xs a (unit.ref_argument e) h = h.1.0.0

process_of : (xs : List Lexeme) (p : Process) → IsProcess xs p → AllOk false xs → ProcessFormed p
process_of xs q (unit.instance_of p a n b d i m {fs = fs} {os = os} {vs = vs} {o = o} {as' = as'} f g r cs z) h =
    let front = cut _ fs _ h in
    let ids = cut _ os _ front.1.1.1.1 in
    let given = cut _ vs _ ids.1.1.1.1.1 in
    (front.1.1.1.0.0, origin_of os o g ids.0, all_in_brackets _ IsArgument ArgumentFormed argument_of vs as' r given.0)

definitions_of : (xs : List Lexeme) (ds : List Definition) → IsDefine xs ds → AllOk false xs → AllByRecursion DefinitionFormed ds
definitions_of xs ds (unit.definitions c {xs = ys} r) h = all_in_row _ IsDefinition DefinitionFormed definition_of ys ds r (cut _ ys _ h.1.1).0

-- ---- units

record UnitsFormed (u : Units) : Type 0 where
  pub define : AllByRecursion DefinitionFormed (define_of u.define)
  pub macros : AllByRecursion MacroFormed u.macros
  pub mappings : AllByRecursion MappingFormed u.mappings
  pub archetypes : AllByRecursion ArchetypeFormed u.archetypes
  pub globals : AllByRecursion DeclarationFormed (declarations_of u.globals)
  pub processes : AllByRecursion ProcessFormed u.processes

unit_of : (b a : Units) (xs : List Lexeme) → IsUnit b xs a → AllOk true xs → UnitsFormed b → UnitsFormed a
unit_of b a xs (unit.define {xs = ys} {ds = ds} n d p) h g = record { define = definitions_of ys ds d (ok_plain ys h p); macros = g.macros; mappings = g.mappings; archetypes = g.archetypes; globals = g.globals; processes = g.processes }
unit_of b a xs (unit.macro_definition {xs = ys} {m = m} d p l) h g = record { define = g.define; macros = one_more MacroFormed b.macros m g.macros (macro_of ys m d (ok_macro ys h p)); mappings = g.mappings; archetypes = g.archetypes; globals = g.globals; processes = g.processes }
unit_of b a xs (unit.mapping {xs = ys} {m = m} d l k) h g = record { define = g.define; macros = g.macros; mappings = one_more MappingFormed b.mappings m g.mappings (mapping_of ys m d h); archetypes = g.archetypes; globals = g.globals; processes = g.processes }
unit_of b a xs (unit.archetype {xs = ys} {a = r} d p l) h g = record { define = g.define; macros = g.macros; mappings = g.mappings; archetypes = one_more ArchetypeFormed b.archetypes r g.archetypes (archetype_of ys r d (ok_plain ys h p)); globals = g.globals; processes = g.processes }
unit_of b a xs (unit.globals {xs = ys} {ds = ds} n d p) h g = record { define = g.define; macros = g.macros; mappings = g.mappings; archetypes = g.archetypes; globals = variables_of ys ds d (ok_plain ys h p); processes = g.processes }
unit_of b a xs (unit.process {xs = ys} {q = q} d p) h g = record { define = g.define; macros = g.macros; mappings = g.mappings; archetypes = g.archetypes; globals = g.globals; processes = one_more ProcessFormed b.processes q g.processes (process_of ys q d (ok_plain ys h p)) }

units_of : {xs : List Lexeme} {a : Units} → AreUnits xs a → AllOk true xs → UnitsFormed a
units_of unit.no_unit h = record { define = tt; macros = tt; mappings = tt; archetypes = tt; globals = tt; processes = tt }
units_of (unit.unit {xs = xs} {ys = ys} {a = a} {b = b} r u) h = let q = cut _ xs ys h in unit_of b a ys u q.1 (units_of r q.0)

record HeaderFormed (h : Header) : Type 0 where
  pub name : NameShort h.name
  pub constants : AllByRecursion NameShort h.constants
  pub definitions : AllByRecursion DefinitionFormed h.definitions

part_of : {b a : Header} {ys : List Lexeme} → IsPart b ys a → HeaderFormed b → AllOk false ys → HeaderFormed a
part_of {b = b} (spells.constants {xs = xs} {ns = ns} w i) g k =
    record { name = g.name; constants = all_joined NameShort b.constants ns g.constants (all_items _ IsName NameShort (name_of false) symbol.Comma xs ns i k.1); definitions = g.definitions }
part_of {b = b} {ys = ys} (spells.definition {d = d} i) g k =
    record { name = g.name; constants = g.constants; definitions = one_more DefinitionFormed b.definitions d g.definitions (definition_of ys d i k) }

header_of : {xs : List Lexeme} {h : Header} → IsHeader xs h → AllOk false xs → HeaderFormed h
header_of (spells.title p n {xs = xs} d e x) h = record { name = (cut _ xs _ h).1.1.0.0; constants = tt; definitions = tt }
header_of (spells.part {xs = xs} {ys = ys} {a = a} {h = b} r d) h = let q = cut _ xs ys h in part_of d (header_of r q.0) q.1

tokens_of_spec : (hs as' : List Lexeme) (s : Spec) → SpellsTokens hs as' s → AllOk true hs → AllOk true as' → SpecFormed s
tokens_of_spec hs as' s (spells.spec c {hs = ks} {xs = xs} {h = h} {us = us} head plain units shallow some) f g =
    let u = units_of units (cut _ xs _ g.1.1).0 in
    let k = header_of head (ok_plain ks f plain) in
    record {
      name = k.name;
      constants = k.constants;
      definitions = k.definitions;
      define = u.define;
      globals = u.globals;
      macros = u.macros;
      mappings = u.mappings;
      archetypes = u.archetypes;
      processes = u.processes;
      some = λ e. (let z = sym some ∙ e in cc);
    }

pub text_formed : (bytes : List ℕ) (s : Spec) → SpellsSpec bytes s → SpecFormed s
text_formed bytes s d =
    let l = d.layout in
    tokens_of_spec d.header d.algorithm s d.spells (tokens_told l.is_header.cut l.is_header.allowed l.is_header.marks) (tokens_told l.is_algorithm.cut l.is_algorithm.allowed l.is_algorithm.marks)
