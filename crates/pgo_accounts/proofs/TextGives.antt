-- Of a specification that a text spells, the literals are within limits that the names and strings of texts are within, and macros have
-- neither `goto`s nor `while`s.
use Rattle.std.proofs.Common.{◌≡◌, IsTrue, ◌≤◌, ◌^◌, ℕ, Bool, true, List, [], ◌∷◌, Option, Some, refl, subst, arith, pos}
use Rattle.std.proofs.lemmas.Bool.{lt-ltb}
use Rattle.std.specs.List.{AllByRecursion}
use Rattle.pgo_lexer.specs.Layout.{Marked}
use Rattle.pgo_lexer.specs.Lexemes.{IsPiece, Quoted}
use Rattle.pgo_lexer.specs.Lexemes as piece
use Rattle.pgo_lexer.specs.declared.symbol.Symbol.{Symbol}
use Rattle.pgo_lexer.specs.declared.symbol.Symbol.TheVariants as symbol
use Rattle.pgo_lexer.specs.declared.token.Lexeme.{Lexeme}
use Rattle.pgo_lexer.specs.declared.token.Token.{Token}
use Rattle.pgo_lexer.specs.declared.token.Token.TheVariants as t
use Rattle.pgo_spec_text.specs.SpecText.{Cut}
use Rattle.pgo_spec_text.specs.SpecText as text
use Rattle.pgo_mpcal_read.specs.Spells.{IsHeader, IsPart, declarations_of, SpellsTokens}
use Rattle.pgo_mpcal_read.specs.Spells as spells
use Rattle.pgo_mpcal_read.specs.Texts.{SpellsSpec}
use Rattle.pgo_mpcal_read.specs.Units.{IsDefinition, IsDeclaration, IsDeclarations, IsVariables, IsMacro, IsMappingMacro, IsLocals, IsArchetype, IsArgument, IsProcess, IsDefine, IsUnit, AreUnits}
use Rattle.pgo_mpcal_read.specs.Units as unit
use Rattle.pgo_mpcal_read.specs.declared.header.Header.{Header}
use Rattle.pgo_mpcal_read.specs.declared.units.Units.{Units}
use Rattle.pgo_syntax.specs.Statement.{labeled}
use Rattle.pgo_syntax.specs.declared.archetype.Archetype.{Archetype}
use Rattle.pgo_syntax.specs.declared.declaration.Declaration.{Declaration}
use Rattle.pgo_syntax.specs.declared.declaration.Definition.{Definition}
use Rattle.pgo_syntax.specs.declared.macros.Macro.{Macro}
use Rattle.pgo_syntax.specs.declared.macros.MappingMacro.{MappingMacro}
use Rattle.pgo_syntax.specs.declared.process.Argument.{Argument}
use Rattle.pgo_syntax.specs.declared.process.Process.{Process}
use Rattle.pgo_syntax.specs.declared.spec.Spec.{Spec}
use Rattle.pgo_bound.specs.Values as values
use Rattle.pgo_values.specs.Literals.{LiteralsWithin}
use Rattle.pgo_systems.specs.Literals.{InitialWithin, OriginWithin, ArgumentWithin}
use Rattle.pgo_systems.specs.StatementLiterals.{BlocksWithin, LabeledWithin, SpecificationWithin}
use Rattle.pgo_agrees.proofs.EachToken.{one_more, cut, all_in_brackets, all_in_row, all_marked}
use Rattle.pgo_accounts.specs.Texts.{NeverJumps}
use Rattle.pgo_accounts.proofs.Tokens.{IsPlain}
use Rattle.pgo_accounts.proofs.StatementLiterals.{ArePlain, expression, origin_fits, body_fits}
use Rattle.pgo_accounts.proofs.MacroStatements.{AllMay, all_may, body_quiet}
use Rattle.pgo_model.specs.ValueText.{is_identifier}
use Rattle.pgo_systems.specs.Counted.{counted}
use Rattle.pgo_values.specs.Limits.{Limits}

pub all_first : {A : Type 0} (P Q : A → Type 0) (xs : List A) → AllByRecursion (λ x. P x × Q x) xs → AllByRecursion P xs
all_first P Q [] h = tt
all_first P Q (x ∷ xs) h = (h.0.0, all_first P Q xs h.1)

pub all_second : {A : Type 0} (P Q : A → Type 0) (xs : List A) → AllByRecursion (λ x. P x × Q x) xs → AllByRecursion Q xs
all_second P Q [] h = tt
all_second P Q (x ∷ xs) h = (h.0.1, all_second P Q xs h.1)

module _ (limits : Limits) where
  pub record TextGives (s : Spec) : Type 0 where
    pub literals : SpecificationWithin limits s
    pub macros : AllByRecursion NeverJumps s.macros

module _ (limits : Limits) (names : (x : List ℕ) → is_identifier x ≡ true → IsTrue (limits.text x)) (strings : (bs x : List ℕ) → Quoted bs x → IsTrue (limits.text x)) where
  -- ---- tokens

  of_symbol : (v : Symbol) (k : Token) → Some (t.Symbol v) ≡ Some k → IsPlain limits k
  of_symbol v k e = subst (IsPlain limits) (got e) tt
    where
      got : Some (t.Symbol v) ≡ Some k → t.Symbol v ≡ k
      got e = cc

  -- a number of a text is at most 2^63 - 1
  piece_plain : {front rest : List ℕ} (k : Token) {o : Option Token} → IsPiece front rest o → o ≡ Some k → IsPlain limits k
  piece_plain k (piece.blank b) e = absurd (cc)
  piece_plain k (piece.line r) e = absurd (cc)
  piece_plain k (piece.comment c) e = absurd (cc)
  piece_plain k (piece.number {b = b} {bs = bs} r a l) e = of_number k (piece.value (b ∷ bs)) l e
    where
      got : (n k : Token) → Some n ≡ Some k → n ≡ k
      got n k e = cc

      of_number : (k : Token) (n : ℕ) → n ≤ piece.largest → Some (t.Number (pos n)) ≡ Some k → IsPlain limits k
      of_number k n l e = subst (IsPlain limits) (got (t.Number (pos n)) k e) (lt-ltb n (2 ^ 63) (omega (arith, l)))
  piece_plain k (piece.word {symbol = v} r f) e = of_symbol v k e
  piece_plain k (piece.name {bs = bs} r is l) e = subst (IsPlain limits) (let q : t.Name bs ≡ k = cc in q) (names bs is)
  piece_plain k (piece.underscore s) e = of_symbol symbol.Underscore k e
  piece_plain k (piece.string {bs = bs} {string = x} d) e = subst (IsPlain limits) (let q : t.Text x ≡ k = cc in q) (strings bs x d)
  piece_plain k (piece.slashed {symbol = v} r f) e = of_symbol v k e
  piece_plain k (piece.dollar {symbol = v} r f) e = of_symbol v k e
  piece_plain k (piece.sign {symbol = v} s) e = of_symbol v k e

  cut_plain : {P : List ℕ → Type 0} {before part rest : List ℕ} {ls : List Lexeme} → Cut P before part rest ls → ArePlain limits ls
  cut_plain text.end = tt
  cut_plain (text.pass p d a r) = cut_plain r
  cut_plain (text.token p {token = k} d r) = (piece_plain k d refl, cut_plain r)

  marked_plain : {s : Bool} {b : ℕ} {p q : Bool} {rs ms : List Lexeme} → Marked s b p rs ms q → ArePlain limits rs → ArePlain limits ms
  marked_plain d h = all_marked (IsPlain limits) (λ o. tt) tt tt d h

  -- ---- definitions and declarations

  abbrev DefinitionWithin : Definition → Type 0
  DefinitionWithin d = LiteralsWithin limits d.body

  abbrev DeclarationWithin : Declaration → Type 0
  DeclarationWithin d = InitialWithin limits d.initial

  definition_of : (xs : List Lexeme) (d : Definition) → IsDefinition xs d → ArePlain limits xs → DefinitionWithin d
  definition_of xs d (unit.without_params i) h = expression limits i h.1.1
  definition_of xs d (unit.with_params c e {xs = ys} n i) h = let q = cut _ ys _ h.1.1 in expression limits i q.1.1.1

  declaration_of : (xs : List Lexeme) (d : Declaration) → IsDeclaration xs d → ArePlain limits xs → DeclarationWithin d
  declaration_of xs d unit.without_value h = tt
  declaration_of xs d (unit.with_value {ts = ys} {o = o} i) h = origin_fits limits ys o i h.1

  declarations_fit : (xs : List Lexeme) (ds : List Declaration) → IsDeclarations xs ds → ArePlain limits xs → AllByRecursion DeclarationWithin ds
  declarations_fit xs ds (unit.last_declaration {xs = ys} {d = d} i e) h = (declaration_of ys d i (cut _ ys _ h).0, tt)
  declarations_fit xs ds (unit.declaration {xs = us} {ys = ys} {zs = zs} {d = d} {ds = es} i p r) h =
      let q = cut _ us _ h in (declaration_of us d i q.0, declarations_fit ys es r (cut _ zs ys q.1).1)

  variables_of : (xs : List Lexeme) (ds : List Declaration) → IsVariables xs ds → ArePlain limits xs → AllByRecursion DeclarationWithin ds
  variables_of xs ds (unit.variables {xs = ys} i) h = declarations_fit ys ds i h.1

  locals_of : (xs : List Lexeme) (ds : List Declaration) → IsLocals xs ds → ArePlain limits xs → AllByRecursion DeclarationWithin ds
  locals_of xs ds unit.no_locals h = tt
  locals_of xs ds (unit.locals {xs = ys} i) h = variables_of ys ds i h

  -- ---- units

  abbrev MacroWithin : Macro → Type 0
  MacroWithin m = LabeledWithin limits (labeled m.body)

  macro_of : (xs : List Lexeme) (m : Macro) → IsMacro xs m → ArePlain limits xs → MacroWithin m
  macro_of xs m (unit.macro_of {xs = ys} {ys = zs} i r) h = body_fits limits r (cut _ ys zs h.1.1).1

  macro_quiet : (xs : List Lexeme) (m : Macro) → IsMacro xs m → AllMay xs → NeverJumps m
  macro_quiet xs m (unit.macro_of {xs = ys} {ys = zs} i r) h = body_quiet r (cut _ ys zs h.1.1).1

  mapping_of : (xs : List Lexeme) (m : MappingMacro) → IsMappingMacro xs m → ArePlain limits xs → BlocksWithin limits m
  mapping_of xs m (unit.mapping_macro_of w c {xs = ys} {ys = zs} r s) h =
      let q = cut _ ys _ h.1.1.1.1.1 in (body_fits limits r q.0, body_fits limits s (cut _ zs _ q.1.1).0)

  abbrev ArchetypeWithin : Archetype → Type 0
  ArchetypeWithin a = AllByRecursion DeclarationWithin a.locals × LabeledWithin limits (labeled a.body)

  archetype_of : (xs : List Lexeme) (a : Archetype) → IsArchetype xs a → ArePlain limits xs → ArchetypeWithin a
  archetype_of xs a (unit.archetype_of {xs = us} {ys = ys} {zs = zs} {ds = ds} i l r) h =
      let q = cut _ us _ h.1.1 in
      let w = cut _ ys zs q.1 in
      (locals_of ys ds l w.0, body_fits limits r w.1)

  argument_of : (xs : List Lexeme) (a : Argument) → IsArgument xs a → ArePlain limits xs → ArgumentWithin limits a
  argument_of xs a (unit.value_argument d) h = expression limits d h
  argument_of xs a (unit.ref_argument e) h = tt

  abbrev ProcessWithin : Process → Type 0
  ProcessWithin p = OriginWithin limits p.ids × AllByRecursion (ArgumentWithin limits) p.arguments

  process_of : (xs : List Lexeme) (p : Process) → IsProcess xs p → ArePlain limits xs → ProcessWithin p
  process_of xs q (unit.instance_of p a n b d i m {fs = fs} {os = os} {vs = vs} {o = o} {as' = as'} f g r cs z) h =
      let front = cut _ fs _ h in
      let ids = cut _ os _ front.1.1.1.1 in
      let given = cut _ vs _ ids.1.1.1.1.1 in
      (origin_fits limits os o g ids.0, all_in_brackets _ IsArgument (ArgumentWithin limits) argument_of vs as' r given.0)

  define_of : (xs : List Lexeme) (ds : List Definition) → IsDefine xs ds → ArePlain limits xs → AllByRecursion DefinitionWithin ds
  define_of xs ds (unit.definitions c {xs = ys} r) h = all_in_row _ IsDefinition DefinitionWithin definition_of ys ds r (cut _ ys _ h.1.1).0

  record UnitsWithin (u : Units) : Type 0 where
    pub define : AllByRecursion DefinitionWithin (values.define_of u.define)
    pub macros : AllByRecursion MacroWithin u.macros
    pub quiet : AllByRecursion NeverJumps u.macros
    pub mappings : AllByRecursion (BlocksWithin limits) u.mappings
    pub archetypes : AllByRecursion ArchetypeWithin u.archetypes
    pub globals : AllByRecursion DeclarationWithin (declarations_of u.globals)
    pub processes : AllByRecursion ProcessWithin u.processes

  unit_of : (b a : Units) (xs : List Lexeme) → IsUnit b xs a → ArePlain limits xs → UnitsWithin b → UnitsWithin a
  unit_of b a xs (unit.define {xs = ys} {ds = ds} n d p) h g = record { define = define_of ys ds d h; macros = g.macros; quiet = g.quiet; mappings = g.mappings; archetypes = g.archetypes; globals = g.globals; processes = g.processes }
  unit_of b a xs (unit.macro_definition {xs = ys} {m = m} d p l) h g = record { define = g.define; macros = one_more MacroWithin b.macros m g.macros (macro_of ys m d h); quiet = one_more NeverJumps b.macros m g.quiet (macro_quiet ys m d (all_may ys p)); mappings = g.mappings; archetypes = g.archetypes; globals = g.globals; processes = g.processes }
  unit_of b a xs (unit.mapping {xs = ys} {m = m} d l k) h g = record { define = g.define; macros = g.macros; quiet = g.quiet; mappings = one_more (BlocksWithin limits) b.mappings m g.mappings (mapping_of ys m d h); archetypes = g.archetypes; globals = g.globals; processes = g.processes }
  unit_of b a xs (unit.archetype {xs = ys} {a = r} d p l) h g = record { define = g.define; macros = g.macros; quiet = g.quiet; mappings = g.mappings; archetypes = one_more ArchetypeWithin b.archetypes r g.archetypes (archetype_of ys r d h); globals = g.globals; processes = g.processes }
  unit_of b a xs (unit.globals {xs = ys} {ds = ds} n d p) h g = record { define = g.define; macros = g.macros; quiet = g.quiet; mappings = g.mappings; archetypes = g.archetypes; globals = variables_of ys ds d h; processes = g.processes }
  unit_of b a xs (unit.process {xs = ys} {q = q} d p) h g = record { define = g.define; macros = g.macros; quiet = g.quiet; mappings = g.mappings; archetypes = g.archetypes; globals = g.globals; processes = one_more ProcessWithin b.processes q g.processes (process_of ys q d h) }

  units_of : {xs : List Lexeme} {a : Units} → AreUnits xs a → ArePlain limits xs → UnitsWithin a
  units_of unit.no_unit h = record { define = tt; macros = tt; quiet = tt; mappings = tt; archetypes = tt; globals = tt; processes = tt }
  units_of (unit.unit {xs = xs} {ys = ys} {a = a} {b = b} r u) h = let q = cut _ xs ys h in unit_of b a ys u q.1 (units_of r q.0)

  header_of : {xs : List Lexeme} {h : Header} → IsHeader xs h → ArePlain limits xs → AllByRecursion DefinitionWithin h.definitions
  header_of (spells.title p n d e x) h = tt
  header_of (spells.part {xs = xs} {ys = ys} {a = a} {h = b} r d) h = let q = cut _ xs ys h in part_of d (header_of r q.0) q.1
    where
      part_of : {b a : Header} {ys : List Lexeme} → IsPart b ys a → AllByRecursion DefinitionWithin b.definitions → ArePlain limits ys → AllByRecursion DefinitionWithin a.definitions
      part_of (spells.constants w i) g k = g
      part_of {b = b} {ys = ys} (spells.definition {d = d} i) g k = one_more DefinitionWithin b.definitions d g (definition_of ys d i k)

  tokens_give : (hs as' : List Lexeme) (s : Spec) → SpellsTokens hs as' s → ArePlain limits hs → ArePlain limits as' → TextGives limits s
  tokens_give hs as' s (spells.spec c {xs = xs} {h = h} {us = us} head plain units shallow some) f g =
      let u = units_of units (cut _ xs _ g.1.1).0 in
      record {
        literals = record {
          start = record {
            definitions = header_of head f;
            define = u.define;
            globals = u.globals;
            locals = all_first (λ a. AllByRecursion DeclarationWithin a.locals) (λ a. LabeledWithin limits (labeled a.body)) us.archetypes u.archetypes;
            identifiers = all_first (λ p. OriginWithin limits p.ids) (λ p. AllByRecursion (ArgumentWithin limits) p.arguments) us.processes u.processes;
            arguments = all_second (λ p. OriginWithin limits p.ids) (λ p. AllByRecursion (ArgumentWithin limits) p.arguments) us.processes u.processes;
          };
          archetypes = all_second (λ a. AllByRecursion DeclarationWithin a.locals) (λ a. LabeledWithin limits (labeled a.body)) us.archetypes u.archetypes;
          macros = u.macros;
          mappings = u.mappings;
        };
        macros = u.quiet;
      }

  pub text_within : (bytes : List ℕ) (s : Spec) → SpellsSpec bytes s → TextGives limits s
  text_within bytes s d =
      let l = d.layout in
      tokens_give d.header d.algorithm s d.spells (marked_plain l.is_header.marks.1 (cut_plain l.is_header.cut)) (marked_plain l.is_algorithm.marks.1 (cut_plain l.is_algorithm.cut))

-- nothing is asked of names and strings where literals are integers of 64 bits
pub text_gives : (bytes : List ℕ) (s : Spec) → SpellsSpec bytes s → TextGives counted s
text_gives bytes s d = text_within counted (λ x h. refl) (λ bs x h. refl) bytes s d
