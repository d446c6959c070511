-- Options among the words of a command: each is a name, and its value as the next word; `--park` has no value.
use Rattle.std.specs.Prelude.{◌≡◌, ◌⊎◌, ℕ, IsTrue, List, [], ◌∷◌, ◌++◌, None, codes}
pub use Rattle.pgo_model.specs.ValueText.{is_one_of, find_bytes}

-- the words of these options, in order
abbrev pub option_words : List (List ℕ × List ℕ) → List (List ℕ)
option_words [] = []
option_words (o ∷ os) = o.0 ∷ (o.1 ∷ option_words os)

-- each option's name is one of these, and no two have the same
abbrev pub AreOptions : List (List ℕ) → List (List ℕ × List ℕ) → Type 0
AreOptions names [] = Unit {0}
AreOptions names (o ∷ os) = IsTrue (is_one_of o.0 names) × (find_bytes o.0 os ≡ None) × AreOptions names os

-- `--park` stands once among these options, before one of them or behind the last; the other words are these
pub record HasPark (options : List (List ℕ × List ℕ)) (words others : List (List ℕ)) : Type 0 where
  pub before : List (List ℕ × List ℕ)
  pub after : List (List ℕ × List ℕ)
  pub later : List (List ℕ)
  pub options_are : options ≡ before ++ after
  pub words_are : words ≡ option_words before ++ (codes "--park" ∷ later)
  pub others_are : others ≡ option_words before ++ later

-- it stands there, or it doesn't
abbrev pub MayPark : List (List ℕ × List ℕ) → List (List ℕ) → List (List ℕ) → Type 0
MayPark options words others = (words ≡ others) ⊎ HasPark options words others
