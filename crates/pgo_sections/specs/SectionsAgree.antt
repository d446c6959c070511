-- The promise of the expansion: it allows exactly the steps that the section allows.
use Rattle.std.specs.Prelude.{◌≡◌, ◌<◌, ◌^◌, true, false, List, [], ◌∷◌, map, ◌↔◌, Some}
use Rattle.pgo_base.specs.Data.{Data}
use Rattle.pgo_base.specs.Lookup.{Name, Vars, same_name, find}
use Rattle.pgo_model.specs.Names.{AreDifferent, is_among}
use Rattle.pgo_model.specs.State.{is_shallow}
use Rattle.pgo_model.specs.Val.{meanings, call_def}
use Rattle.pgo_model.specs.Written.{self_name}
use Rattle.pgo_sections.specs.Blocks.{HasBlocks}
use Rattle.pgo_sections.specs.Code.{Place, Whole, Own, variable_of, Code}
use Rattle.pgo_sections.specs.Context.{Context}
use Rattle.pgo_sections.specs.Section.{SectionReaches}
use Rattle.pgo_sections.specs.Expand.{expansion}
use Rattle.pgo_sections.specs.Nodes.{most_names}
use Rattle.pgo_sections.specs.Expansion.{PathContext, Path}
use Rattle.pgo_sections.specs.WellFormed.{NotMade, PlainCode}

abbrev pub keys : {A : Type 0} → List (Name × A) → List Name
keys ps = map (λ p. p.0) ps

-- a global, or an own variable of the instance
abbrev pub IsPlace : Context → Place → Type 0
IsPlace k (Whole x) = is_among x k.globals ≡ true
IsPlace k (Own x) = is_among x k.owns ≡ true

-- A path and a section of the same instance from the same state, and an end. Its premises are what the rules on names give:
-- the variables have names that differ, and none is a made name or `self`; what the archetype's names stand for is a variable;
-- and a definition means the same on the path as in the section, since it names no variable.
pub record Fit (a : PathContext) (k : Context) (t : Vars) : Type 0 where
  pub id : a.id ≡ k.id
  pub globals : a.globals ≡ k.globals
  pub before : keys k.start ≡ a.variables
  pub after : keys t ≡ a.variables
  pub shallow : is_shallow t ≡ true
  pub distinct : AreDifferent a.variables
  pub written : (x : Name) → is_among x a.variables ≡ true → NotMade x × (same_name x self_name ≡ false)
  pub inside : (p : Place) → IsPlace k p → is_among (variable_of p) a.variables ≡ true
  pub places : (x : Name) (p : Place) → find x k.places ≡ Some p → IsPlace k p
  pub defs : (x : Name) (args : List Data) → call_def x args (meanings a.defs k.start (Some t)) ≡ call_def x args k.defs

-- a path leads there exactly where the section does
abbrev pub PathAgrees : PathContext → Context → Code → Vars → Type 0
PathAgrees a k c t = Path a (expansion a.variables k.places c) ((self_name, Some a.id) ∷ []) k.start t ↔ SectionReaches k c t

-- for all code that reads and writes by blocks, has well-formed names, and whose expansion binds fewer than 2^64 names on a path:
-- past 10^64 made names are not told apart
abbrev pub SectionsAgree : Type 0
SectionsAgree = (a : PathContext) (k : Context) (c : Code) (t : Vars) → Fit a k t → HasBlocks c → PlainCode a.variables k.globals k.places [] c → most_names (expansion a.variables k.places c) < 2 ^ 64 → PathAgrees a k c t
