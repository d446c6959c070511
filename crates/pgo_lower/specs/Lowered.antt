-- Code as steps with jumps forward.
use Rattle.std.specs.Prelude.{ℕ, suc, ◌+◌, Bool, List, [], ◌∷◌, ◌++◌, length, Option, Some, None}
use Rattle.pgo_base.specs.Lookup.{Name, find}
use Rattle.pgo_base.specs.Tree.{Tree}
use Rattle.pgo_model.specs.Occurrences.{first_occurrences}
use Rattle.pgo_sections.specs.Code as codes
use Rattle.pgo_sections.specs.Code.{Place, Code, Codes, no_codes, more_codes}
use Rattle.pgo_sections.specs.FreeNames.{free_names}
use Rattle.pgo_code.specs.Steps.{Unmapped, Evaluation, Target, Resource, Own, Content, Step, Bind, Pick, Unbind, Assign, Set, Await, Assert, Print, Branch, Choose, Jump, End, Read, Write, Fail}

-- What names are: the targets that stand for the names of parameters and locals; the number of a global as a whole, if it is a
-- resource; and whether a global is bound by element.
pub record Tables : Type 0 where
  pub targets : List (Name × Target)
  pub whole : Name → Option ℕ
  pub by_element : Name → Bool

abbrev pub target_of : (whole : Name → Option ℕ) → Place → Target
target_of whole (codes.Whole g) = Resource (whole g)
target_of whole (codes.Own x) = Own x

-- what stands for the name is read before these, if it is a global as a whole
abbrev pub read_before : Name → Option Target → List Unmapped → List Unmapped
read_before x (Some (Resource r)) us = (x, r) ∷ us
read_before x (Some (Own y)) us = us
read_before x None us = us

abbrev pub reads_among : List (Name × Target) → List Name → List Unmapped
reads_among ts [] = []
reads_among ts (x ∷ xs) = read_before x (find x ts) (reads_among ts xs)

-- one of so many arms, of which each begins behind so many steps; there is none where no arm is
abbrev pub choice : List ℕ → Step
choice [] = Fail
choice (k ∷ ks) = Choose (k ∷ ks)

-- a step without the block that it doesn't run
abbrev pub bare : Step → Step
bare (Read w c i) = Read w (record c { writes = codes.Empty }) i
bare (Write c i w) = Write (record c { reads = codes.Empty }) i w
bare s = s

-- the targets are those of names
abbrev pub evaluation : List (Name × Target) → Tree → Evaluation
evaluation ts e = record { expression = e; reads = reads_among ts (first_occurrences (free_names [] e)) }

module _ (t : Tables) where
  -- a mapped parameter that is read, and one that is written
  abbrev pub read_content : Name → Code → Content
  read_content g block = record { global = g; is_element = t.by_element g; whole = t.whole g; reads = block; writes = codes.Empty }

  abbrev pub written_content : Name → Code → Content
  written_content g block = record { global = g; is_element = t.by_element g; whole = t.whole g; reads = codes.Empty; writes = block }

  abbrev mutual
    pub lowered : Code → List Step
    lowered codes.Empty = []
    lowered codes.Skip = []
    lowered (codes.Let b w e c) = Bind w (evaluation t.targets e) ∷ (lowered c ++ Unbind ∷ [])
    lowered (codes.Pick b w e c) = Pick w (evaluation t.targets e) ∷ (lowered c ++ Unbind ∷ [])
    lowered (codes.Become p w) = Assign (target_of t.whole p) w ∷ []
    lowered (codes.Set b p e) = Set (target_of t.whole p) (evaluation t.targets e) ∷ []
    lowered (codes.Await e) = Await (evaluation t.targets e) ∷ []
    lowered (codes.Assert e) = Assert (evaluation t.targets e) ∷ []
    lowered (codes.Print e) = Print (evaluation t.targets e) ∷ []
    lowered (codes.If e c d) = Branch (evaluation t.targets e) (suc (length (lowered c))) ∷ (lowered c ++ Jump (length (lowered d)) ∷ lowered d)
    lowered (codes.Either cs) = choice (arm_starts 0 cs) ∷ arms_lowered cs
    lowered (codes.Seq c d) = lowered c ++ lowered d
    lowered (codes.Goto l) = End l ∷ []
    -- a section has no value to end with
    lowered (codes.Yield e) = Fail ∷ []
    lowered (codes.Read w g i block c) = Read w (read_content g block) i ∷ (lowered c ++ Unbind ∷ [])
    lowered (codes.Write g i w block) = Write (written_content g block) i w ∷ []

    -- each arm ends with a jump behind the last
    pub arms_lowered : Codes → List Step
    arms_lowered no_codes = []
    arms_lowered (more_codes c cs) = lowered c ++ Jump (length (arms_lowered cs)) ∷ arms_lowered cs

    -- behind how many steps each arm begins, where the first begins behind n
    pub arm_starts : ℕ → Codes → List ℕ
    arm_starts n no_codes = []
    arm_starts n (more_codes c cs) = n ∷ arm_starts (n + suc (length (lowered c))) cs
