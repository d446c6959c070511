-- A specification that a text spells is one of a text.
use Rattle.std.proofs.Common.{◌≡◌, ℕ, Bool, true, false, ◌&&◌, List, [], ◌∷◌, ◌++◌, Option, Some, refl, ap, sym, ◌∙◌}
use Rattle.std.specs.List.{AllByRecursion}
use Rattle.pgo_model.specs.ValueText.{is_identifier}
use Rattle.pgo_lexer.specs.Layout.{Marked}
use Rattle.pgo_lexer.specs.Lexemes.{IsPiece}
use Rattle.pgo_lexer.specs.Lexemes as piece
use Rattle.pgo_lexer.specs.declared.symbol.Symbol.{Symbol}
use Rattle.pgo_lexer.specs.declared.symbol.Symbol.TheVariants as symbol
use Rattle.pgo_lexer.specs.declared.token.Lexeme.{Lexeme}
use Rattle.pgo_lexer.specs.declared.token.Token.{Token}
use Rattle.pgo_lexer.specs.declared.token.Token.TheVariants as t
use Rattle.pgo_spec_text.specs.SpecText.{Cut, is_allowed}
use Rattle.pgo_spec_text.specs.SpecText as text
use Rattle.pgo_mpcal_read.specs.Elements.{IsName}
use Rattle.pgo_mpcal_read.specs.Elements as elements
use Rattle.pgo_mpcal_read.specs.Spells.{IsHeader, IsPart, declarations_of, SpellsTokens}
use Rattle.pgo_mpcal_read.specs.Spells as spells
use Rattle.pgo_mpcal_read.specs.Texts.{SpellsSpec}
use Rattle.pgo_mpcal_read.specs.Units.{IsDefinition, IsDeclaration, IsDeclarations, IsVariables, IsParameter, IsMacro, IsMappingMacro, IsLocals, IsArchetype, IsArgument, IsProcess, IsDefine, IsUnit, AreUnits, is_plain, may_stand_in_macro, all_are}
use Rattle.pgo_mpcal_read.specs.Units as unit
use Rattle.pgo_mpcal_read.specs.declared.header.Header.{Header}
use Rattle.pgo_mpcal_read.specs.declared.units.Units.{Units}
use Rattle.pgo_syntax.specs.declared.archetype.Archetype.{Archetype}
use Rattle.pgo_syntax.specs.declared.archetype.Parameter.{Parameter}
use Rattle.pgo_syntax.specs.declared.declaration.Declaration.{Declaration}
use Rattle.pgo_syntax.specs.declared.declaration.Definition.{Definition}
use Rattle.pgo_syntax.specs.declared.macros.Macro.{Macro}
use Rattle.pgo_syntax.specs.declared.macros.MappingMacro.{MappingMacro}
use Rattle.pgo_syntax.specs.declared.name.PlacedName.{PlacedName}
use Rattle.pgo_syntax.specs.declared.process.Argument.{Argument}
use Rattle.pgo_syntax.specs.declared.process.Process.{Process}
use Rattle.pgo_syntax.specs.declared.spec.Spec.{Spec}
use Rattle.pgo_syntax.specs.Defines as defines
use Rattle.pgo_agrees.specs.Accepted.{DefinitionOfText, MacroParameterOfText, MacroOfText, MappingOfText, ParameterOfText, DeclarationOfText, ArchetypeOfText, ArgumentOfText, ProcessOfText, IsOfText}
use Rattle.pgo_agrees.specs.TextTokens.{AllowedSign, Allowed}
use Rattle.pgo_agrees.proofs.Names.{and_left, and_right}
use Rattle.pgo_agrees.proofs.SpokenStatements.{AllOk, expression, origin_spoken, body_spoken}
use Rattle.pgo_agrees.proofs.SpokenLabels.{body_labels}
use Rattle.pgo_agrees.proofs.EachToken.{cut, all_joined, one_more, all_in_brackets, all_in_row, all_marked}

-- ---- tokens

abbrev Told : List Lexeme → Type 0
Told = AllByRecursion (λ (l : Lexeme). Allowed l.token)

sign_allowed : (v : Symbol) → is_allowed (t.Symbol v) ≡ true → AllowedSign v
sign_allowed symbol.Prime h = cc
sign_allowed symbol.Unchanged h = cc
sign_allowed _ h = tt

piece_allowed : (front rest : List ℕ) (k : Token) (o : Option Token) → IsPiece front rest o → o ≡ Some k → is_allowed k ≡ true → Allowed k
piece_allowed front rest (t.Name x) o d e h = name_of d e
  where
    name_of : {front rest : List ℕ} {o : Option Token} → IsPiece front rest o → o ≡ Some (t.Name x) → is_identifier x ≡ true
    name_of (piece.blank b) e = absurd (cc)
    name_of (piece.line r) e = absurd (cc)
    name_of (piece.comment c) e = absurd (cc)
    name_of (piece.number r a l) e = absurd (cc)
    name_of (piece.word r f) e = absurd (cc)
    name_of (piece.name {bs = bs} r is l) e = let same : bs ≡ x = cc in ap is_identifier (sym same) ∙ is
    name_of (piece.underscore s) e = absurd (cc)
    name_of (piece.string q) e = absurd (cc)
    name_of (piece.slashed r f) e = absurd (cc)
    name_of (piece.dollar r f) e = absurd (cc)
    name_of (piece.sign s) e = absurd (cc)
piece_allowed front rest (t.Symbol v) o d e h = sign_allowed v h
piece_allowed front rest _ o d e h = tt

cut_allowed : {P : List ℕ → Type 0} {before part rest : List ℕ} {ls : List Lexeme} → Cut P before part rest ls → text.AllAllowed ls → Told ls
cut_allowed text.end h = tt
cut_allowed (text.pass p d a r) h = cut_allowed r h
cut_allowed (text.token p {part = part} {rest = rest} {token = k} d r) h = (piece_allowed p (part ++ rest) k (Some k) d refl h.0, cut_allowed r h.1)

marked_allowed : {s : Bool} {b : ℕ} {p q : Bool} {rs ms : List Lexeme} → Marked s b p rs ms q → Told rs → Told ms
marked_allowed d h = all_marked Allowed (λ o. tt) tt tt d h

-- ---- where a `yield` may stand
ok_any : (ls : List Lexeme) → Told ls → AllOk true ls
ok_any [] h = tt
ok_any (l ∷ ls) h = ((h.0, tt), ok_any ls h.1)

ok_plain : (ls : List Lexeme) → Told ls → all_are is_plain ls ≡ true → AllOk false ls
ok_plain [] h g = tt
ok_plain (l ∷ ls) h g = ((h.0, and_left (is_plain l.token) (all_are is_plain ls) g), ok_plain ls h.1 (and_right (is_plain l.token) (all_are is_plain ls) g))

ok_macro : (ls : List Lexeme) → Told ls → all_are may_stand_in_macro ls ≡ true → AllOk false ls
ok_macro [] h g = tt
ok_macro (l ∷ ls) h g =
    ((h.0, first l.token (and_left (may_stand_in_macro l.token) (all_are may_stand_in_macro ls) g)), ok_macro ls h.1 (and_right (may_stand_in_macro l.token) (all_are may_stand_in_macro ls) g))
  where
    first : (k : Token) → may_stand_in_macro k ≡ true → is_plain k ≡ true
    first k e = left (is_plain k) _ e
      where
        left : (a b : Bool) → (a && b) ≡ true → a ≡ true
        left true b e = refl
        left false b e = absurd (cc)

-- ---- definitions and declarations

definition_of : (b : Bool) (xs : List Lexeme) (d : Definition) → IsDefinition xs d → AllOk b xs → DefinitionOfText d
definition_of b xs d (unit.without_params i) h = (h.0.0, expression b i h.1.1)
definition_of b xs d (unit.with_params c e {xs = ys} {ts = ts} n i) h =
    let q = cut _ ys _ h.1.1 in (h.0.0, expression b i q.1.1.1)

declaration_of : (b : Bool) (xs : List Lexeme) (d : Declaration) → IsDeclaration xs d → AllOk b xs → DeclarationOfText d
declaration_of b xs d unit.without_value h = (h.0.0, tt)
declaration_of b xs d (unit.with_value {ts = ys} {o = o} i) h = (h.0.0, origin_spoken b ys o i h.1)

declarations_of' : (b : Bool) (xs : List Lexeme) (ds : List Declaration) → IsDeclarations xs ds → AllOk b xs → AllByRecursion DeclarationOfText ds
declarations_of' b xs ds (unit.last_declaration {xs = ys} {d = d} i e) h = (declaration_of b ys d i (cut _ ys _ h).0, tt)
declarations_of' b xs ds (unit.declaration {xs = us} {ys = ys} {zs = zs} {d = d} {ds = es} i p r) h =
    let q = cut _ us _ h in (declaration_of b us d i q.0, declarations_of' b ys es r (cut _ zs ys q.1).1)

variables_of : (b : Bool) (xs : List Lexeme) (ds : List Declaration) → IsVariables xs ds → AllOk b xs → AllByRecursion DeclarationOfText ds
variables_of b xs ds (unit.variables {xs = ys} i) h = declarations_of' b ys ds i h.1

locals_of : (b : Bool) (xs : List Lexeme) (ds : List Declaration) → IsLocals xs ds → AllOk b xs → AllByRecursion DeclarationOfText ds
locals_of b xs ds unit.no_locals h = tt
locals_of b xs ds (unit.locals {xs = ys} i) h = variables_of b ys ds i h

parameter_of : (b : Bool) (xs : List Lexeme) (p : Parameter) → IsParameter xs p → AllOk b xs → ParameterOfText p
parameter_of b xs p unit.value_parameter h = h.0.0
parameter_of b xs p (unit.ref_parameter e) h = h.1.0.0

name_of : (b : Bool) (xs : List Lexeme) (p : PlacedName) → IsName xs p → AllOk b xs → MacroParameterOfText p
name_of b xs p elements.name h = h.0.0

-- ---- units

macro_of : (xs : List Lexeme) (m : Macro) → IsMacro xs m → AllOk false xs → MacroOfText m
macro_of xs m (unit.macro_of {xs = ys} {ys = zs} {ps = ps} i r) h =
    let q = cut _ ys zs h.1.1 in (all_in_brackets _ IsName MacroParameterOfText (name_of false) ys ps i q.0, body_spoken r false q.1)

mapping_of : (xs : List Lexeme) (m : MappingMacro) → IsMappingMacro xs m → AllOk true xs → MappingOfText m
mapping_of xs m (unit.mapping_macro_of w c {xs = ys} {ys = zs} r s) h =
    let q = cut _ ys _ h.1.1.1.1.1 in (body_spoken r true q.0, body_spoken s true (cut _ zs _ q.1.1).0)

archetype_of : (xs : List Lexeme) (a : Archetype) → IsArchetype xs a → AllOk false xs → ArchetypeOfText a
archetype_of xs a (unit.archetype_of {xs = us} {ys = ys} {zs = zs} {ps = ps} {ds = ds} i l r) h =
    let q = cut _ us _ h.1.1 in
    let w = cut _ ys zs q.1 in
    (all_in_brackets _ IsParameter ParameterOfText (parameter_of false) us ps i q.0, locals_of false ys ds l w.0, body_spoken r false w.1, body_labels r false w.1)

argument_of : (b : Bool) (xs : List Lexeme) (a : Argument) → IsArgument xs a → AllOk b xs → ArgumentOfText a
argument_of b xs a (unit.value_argument d) h = expression b d h
argument_of b xs a (unit.ref_argument e) h = tt

process_of : (xs : List Lexeme) (p : Process) → IsProcess xs p → AllOk false xs → ProcessOfText p
process_of xs q (unit.instance_of p a n b d i m {fs = fs} {os = os} {vs = vs} {o = o} {as' = as'} f g r cs z) h =
    let front = cut _ fs _ h in
    let ids = cut _ os _ front.1.1.1.1 in
    let given = cut _ vs _ ids.1.1.1.1.1 in
    (front.1.1.1.0.0, origin_spoken false os o g ids.0, all_in_brackets _ IsArgument ArgumentOfText (argument_of false) vs as' r given.0)

define_of : (xs : List Lexeme) (ds : List Definition) → IsDefine xs ds → AllOk false xs → AllByRecursion DefinitionOfText ds
define_of xs ds (unit.definitions c {xs = ys} r) h = all_in_row _ IsDefinition DefinitionOfText (definition_of false) ys ds r (cut _ ys _ h.1.1).0

record UnitsOfText (u : Units) : Type 0 where
  pub define : AllByRecursion DefinitionOfText (defines.define_of u.define)
  pub macros : AllByRecursion MacroOfText u.macros
  pub mappings : AllByRecursion MappingOfText u.mappings
  pub archetypes : AllByRecursion ArchetypeOfText u.archetypes
  pub globals : AllByRecursion DeclarationOfText (declarations_of u.globals)
  pub processes : AllByRecursion ProcessOfText u.processes

unit_of : (b a : Units) (xs : List Lexeme) → IsUnit b xs a → Told xs → UnitsOfText b → UnitsOfText a
unit_of b a xs (unit.define {xs = ys} {ds = ds} n d p) h g = record { define = define_of ys ds d (ok_plain ys h p); macros = g.macros; mappings = g.mappings; archetypes = g.archetypes; globals = g.globals; processes = g.processes }
unit_of b a xs (unit.macro_definition {xs = ys} {m = m} d p l) h g = record { define = g.define; macros = one_more MacroOfText b.macros m g.macros (macro_of ys m d (ok_macro ys h p)); mappings = g.mappings; archetypes = g.archetypes; globals = g.globals; processes = g.processes }
unit_of b a xs (unit.mapping {xs = ys} {m = m} d l k) h g = record { define = g.define; macros = g.macros; mappings = one_more MappingOfText b.mappings m g.mappings (mapping_of ys m d (ok_any ys h)); archetypes = g.archetypes; globals = g.globals; processes = g.processes }
unit_of b a xs (unit.archetype {xs = ys} {a = r} d p l) h g = record { define = g.define; macros = g.macros; mappings = g.mappings; archetypes = one_more ArchetypeOfText b.archetypes r g.archetypes (archetype_of ys r d (ok_plain ys h p)); globals = g.globals; processes = g.processes }
unit_of b a xs (unit.globals {xs = ys} {ds = ds} n d p) h g = record { define = g.define; macros = g.macros; mappings = g.mappings; archetypes = g.archetypes; globals = variables_of false ys ds d (ok_plain ys h p); processes = g.processes }
unit_of b a xs (unit.process {xs = ys} {q = q} d p) h g = record { define = g.define; macros = g.macros; mappings = g.mappings; archetypes = g.archetypes; globals = g.globals; processes = one_more ProcessOfText b.processes q g.processes (process_of ys q d (ok_plain ys h p)) }

units_of : {xs : List Lexeme} {a : Units} → AreUnits xs a → Told xs → UnitsOfText a
units_of unit.no_unit h = record { define = tt; macros = tt; mappings = tt; archetypes = tt; globals = tt; processes = tt }
units_of (unit.unit {xs = xs} {ys = ys} {a = a} {b = b} r u) h = let q = cut _ xs ys h in unit_of b a ys u q.1 (units_of r q.0)

header_of : {xs : List Lexeme} {h : Header} → IsHeader xs h → Told xs → AllByRecursion DefinitionOfText h.definitions
header_of (spells.title p n d e x) h = tt
header_of (spells.part {xs = xs} {ys = ys} {a = a} {h = b} r d) h = let q = cut _ xs ys h in part_of d (header_of r q.0) q.1
  where
    part_of : {b a : Header} {ys : List Lexeme} → IsPart b ys a → AllByRecursion DefinitionOfText b.definitions → Told ys → AllByRecursion DefinitionOfText a.definitions
    part_of (spells.constants w i) g k = g
    part_of {b = b} {ys = ys} (spells.definition {d = d} i) g k = one_more DefinitionOfText b.definitions d g (definition_of true ys d i (ok_any ys k))

tokens_of_text : (hs as' : List Lexeme) (s : Spec) → SpellsTokens hs as' s → Told hs → Told as' → IsOfText s
tokens_of_text hs as' s (spells.spec c {hs = ks} {xs = xs} {h = h} {us = us} head plain units shallow some) f g =
    let u = units_of units (cut _ xs _ g.1.1).0 in
    record {
      globals = u.globals;
      definitions = all_joined DefinitionOfText h.definitions (defines.define_of us.define) (header_of head f) u.define;
      macros = u.macros;
      mappings = u.mappings;
      archetypes = u.archetypes;
      processes = u.processes;
    }

pub of_text : (bytes : List ℕ) (s : Spec) → SpellsSpec bytes s → IsOfText s
of_text bytes s d =
    let l = d.layout in
    tokens_of_text d.header d.algorithm s d.spells (marked_allowed l.is_header.marks.1 (cut_allowed l.is_header.cut l.is_header.allowed)) (marked_allowed l.is_algorithm.marks.1 (cut_allowed l.is_algorithm.cut l.is_algorithm.allowed))
