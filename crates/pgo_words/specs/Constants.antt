-- The constants that the words of a command give.
use Rattle.std.specs.Prelude.{◌≡◌, ℕ, Bool, true, false, not, ◌&&◌, ◌||◌, IsTrue, List, [], ◌∷◌, ◌++◌, Option, Some, None}
use Rattle.pgo_base.specs.Data.{Data}
use Rattle.pgo_base.specs.Lookup.{Name}
use Rattle.pgo_model.specs.ValueText.{same_bytes}
use Rattle.pgo_value_text.specs.IsValueText.{is_name, IsValueText}

-- `NAME=value`, an identifier of at most 512 bytes and the text of a value
pub record IsConstant (word : List ℕ) (c : Name × Data) : Type 0 where
  pub text : List ℕ
  pub word_is : word ≡ c.0 ++ 61 ∷ text
  pub named : IsTrue (is_name c.0)
  pub value : IsValueText text c.1

-- each word is a constant
abbrev pub AreConstants : List (List ℕ) → List (Name × Data) → Type 0
AreConstants [] [] = Unit {0}
AreConstants (w ∷ ws) (c ∷ cs) = IsConstant w c × AreConstants ws cs
AreConstants [] (c ∷ cs) = ⊥
AreConstants (w ∷ ws) [] = ⊥

-- one of them has this name
abbrev pub has_name : Name → List (Name × Data) → Bool
has_name x [] = false
has_name x (c ∷ cs) = same_bytes x c.0 || has_name x cs

-- their names differ
abbrev pub names_differ : List (Name × Data) → Bool
names_differ [] = true
names_differ (c ∷ cs) = not (has_name c.0 cs) && names_differ cs

-- the words give these constants, each name once
pub record Constants (words : List (List ℕ)) (consts : List (Name × Data)) : Type 0 where
  pub each : AreConstants words consts
  pub once : IsTrue (names_differ consts)

-- the word is this constant and no other
abbrev pub ReadsConstant : List ℕ → Option (Name × Data) → Type 0
ReadsConstant word None = (c : Name × Data) → IsConstant word c → ⊥
ReadsConstant word (Some c) = IsConstant word c × ((d : Name × Data) → IsConstant word d → d ≡ c)

-- the words give these constants and no others
abbrev pub ConstantsOnly : List (List ℕ) → Option (List (Name × Data)) → Type 0
ConstantsOnly words None = (cs : List (Name × Data)) → Constants words cs → ⊥
ConstantsOnly words (Some cs) = Constants words cs × ((ds : List (Name × Data)) → Constants words ds → ds ≡ cs)

-- what is read so far, and what is left, are the words' constants together
pub record ReadsRest (words : List (List ℕ)) (read : List (Name × Data)) (rest : List (List ℕ)) : Type 0 where
  pub sound : (cs : List (Name × Data)) → AreConstants rest cs → AreConstants words (read ++ cs)
  pub only : (ds : List (Name × Data)) → AreConstants words ds → (cs : List (Name × Data)) × AreConstants rest cs × (ds ≡ read ++ cs)
  pub once : IsTrue (names_differ read)
