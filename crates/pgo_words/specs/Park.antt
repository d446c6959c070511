-- The place of `--park` among the words of `run`.
use Rattle.std.specs.Prelude.{◌≡◌, ◌<◌, ◌+◌, ◌&&◌, ℕ, Bool, true, false, not, List, [], ◌∷◌, ◌++◌, drop, take, length, Option, Some, None, codes}
use Rattle.std.specs.Borrow.{Bor}
use Rattle.std.specs.List.{list_all}
use Rattle.pgo_model.specs.ValueText.{same_bytes}
use Rattle.pgo_words.specs.Options.{option_words}
use Rattle.pgo_words.specs.Parts.{Pairs, begins_option, is_option, texts}

abbrev pub park_word : List ℕ
park_word = codes "--park"

-- a name that isn't `--park`, and a value that doesn't begin with `-`
abbrev pub is_valued : List ℕ × List ℕ → Bool
is_valued o = is_option o && not (same_bytes o.0 park_word)

abbrev pub are_valued : Pairs → Bool
are_valued options = list_all is_valued options

-- the words begin with `--park`
abbrev pub begins_park : List (List ℕ) → Bool
begins_park [] = false
begins_park (word ∷ words) = same_bytes word park_word

-- the words begin with an option that has a value
abbrev pub begins_valued : List (List ℕ) → Bool
begins_valued words = begins_option words && not (begins_park words)

-- the words are these options, then `--park`, then these words
pub record IsPark (words : List (List ℕ)) (options : Pairs) (later : List (List ℕ)) : Type 0 where
  pub words_are : words ≡ option_words options ++ (park_word ∷ later)
  pub valued : are_valued options ≡ true

-- the place of `--park` behind options, or that it stands behind none
abbrev pub PlacesPark : List (Bor (List ℕ)) → Option ℕ → Type 0
PlacesPark words None = (options : Pairs) (later : List (List ℕ)) → IsPark (texts words) options later → ⊥
PlacesPark words (Some at) =
    (options : Pairs) × IsPark (texts words) options (texts (drop (at + 1) words)) × (texts (take at words) ≡ option_words options) × (at < length words)
