-- Which code has well-formed expressions, and which expansions.
use Rattle.std.specs.Prelude.{◌≡◌, ◌≤◌, ◌⊎◌, ℕ, true, IsTrue, List, [], ◌∷◌, length, Some}
use Rattle.std.specs.List.{AllByRecursion}
use Rattle.pgo_base.specs.Lookup.{Name, find}
use Rattle.pgo_model.specs.ValueText.{is_identifier}
use Rattle.pgo_lexer.specs.Lexemes.{all_are}
use Rattle.pgo_expr_write.specs.WellFormed.{IsWellFormed, IsName, is_string_byte, is_word}
use Rattle.pgo_model.specs.Names.{is_among}
use Rattle.pgo_sections.specs.Code.{Place, Code, Empty, Skip, Let, Pick, Become, Set, Await, Assert, Print, If, Either, Seq, Goto, Yield, Read, Write, Codes, no_codes, more_codes, content_places, value_name}
use Rattle.pgo_sections.specs.Expansion.{Expansion, With, In, Skip as ESkip, Await as EAwait, Assert as EAssert, Print as EPrint, If as EIf, Either as EEither, End, Expansions, no_expansions, more_expansions}
use Rattle.pgo_sections.specs.WellFormed.{KnownIndex}
use Rattle.pgo_written.specs.Formed.{Formed, RangeFormed}

-- an identifier of at most 128 bytes
abbrev pub IsShort : Name → Type 0
IsShort x = IsTrue (is_identifier x) × (length x ≤ 128)

-- what a made name begins with: a short identifier, or two with `_` between them
abbrev pub IsBase : Name → Type 0
IsBase x = IsTrue (is_identifier x) × (length x ≤ 257)

-- bytes of a string
abbrev pub IsText : List ℕ → Type 0
IsText s = IsTrue (all_are is_string_byte s)

-- what may stand alone, where the code bound the names of ws: an identifier, one of those, or a name with a place
abbrev pub Alone : List (Name × Place) → List Name → Name → Type 0
Alone ps ws x = IsName x ⊎ ((is_among x ws ≡ true) ⊎ ((p : Place) × (find x ps ≡ Some p)))

abbrev mutual
  pub CodeFormed : List (Name × Place) → List Name → Code → Type 0
  CodeFormed ps ws Empty = Unit {0}
  CodeFormed ps ws Skip = Unit {0}
  CodeFormed ps ws (Let b w e c) = IsBase b × Formed (Alone ps ws) e × CodeFormed ps (w ∷ ws) c
  CodeFormed ps ws (Pick b w e c) = IsBase b × RangeFormed (Alone ps ws) e × CodeFormed ps (w ∷ ws) c
  CodeFormed ps ws (Become p w) = Unit {0}
  CodeFormed ps ws (Set b p e) = IsBase b × Formed (Alone ps ws) e
  CodeFormed ps ws (Await e) = Formed (Alone ps ws) e
  CodeFormed ps ws (Assert e) = Formed (Alone ps ws) e
  CodeFormed ps ws (Print e) = Formed (Alone ps ws) e
  CodeFormed ps ws (If e c d) = Formed (Alone ps ws) e × CodeFormed ps ws c × CodeFormed ps ws d
  CodeFormed ps ws (Either cs) = CodesFormed ps ws cs
  CodeFormed ps ws (Seq c d) = CodeFormed ps ws c × CodeFormed ps ws d
  CodeFormed ps ws (Goto l) = IsText l
  CodeFormed ps ws (Yield e) = Formed (Alone ps ws) e
  CodeFormed ps ws (Read w g i m c) = IsBase g × KnownIndex ws i × CodeFormed content_places [] m × CodeFormed ps (w ∷ ws) c
  CodeFormed ps ws (Write g i w m) = IsBase g × KnownIndex ws i × (is_among w ws ≡ true) × CodeFormed content_places (value_name ∷ []) m

  pub CodesFormed : List (Name × Place) → List Name → Codes → Type 0
  CodesFormed ps ws no_codes = Unit {0}
  CodesFormed ps ws (more_codes c cs) = CodeFormed ps ws c × CodesFormed ps ws cs

abbrev mutual
  -- bound names are identifiers, and expressions are well formed
  pub ExpansionFormed : Expansion → Type 0
  ExpansionFormed (With x e rest) = IsName x × IsWellFormed e × ExpansionFormed rest
  ExpansionFormed (In x e rest) = IsName x × ((is_word e ≡ true) ⊎ IsWellFormed e) × ExpansionFormed rest
  ExpansionFormed (ESkip rest) = ExpansionFormed rest
  ExpansionFormed (EAwait e rest) = IsWellFormed e × ExpansionFormed rest
  ExpansionFormed (EAssert e rest) = IsWellFormed e × ExpansionFormed rest
  ExpansionFormed (EPrint e rest) = IsWellFormed e × ExpansionFormed rest
  ExpansionFormed (EIf e a b) = IsWellFormed e × ExpansionFormed a × ExpansionFormed b
  ExpansionFormed (EEither arms) = ExpansionsFormed arms
  ExpansionFormed (End changes l) = AllByRecursion (λ c. IsName c.1) changes × IsText l

  pub ExpansionsFormed : Expansions → Type 0
  ExpansionsFormed no_expansions = Unit {0}
  ExpansionsFormed (more_expansions a rest) = ExpansionFormed a × ExpansionsFormed rest
