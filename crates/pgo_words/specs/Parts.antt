-- The options at the front of words, and the words behind them.
use Rattle.std.specs.Prelude.{◌≡◌, ◌≤◌, ◌==◌, ◌&&◌, drop, length, ℕ, Bool, true, false, not, List, [], ◌∷◌, ◌++◌, Option, Some, None, is_some, map, option_map, codes, if◌then◌else◌}
use Rattle.std.specs.Borrow.{Bor}
use Rattle.std.specs.List.{list_all, list_any}
use Rattle.pgo_words.specs.Options.{option_words, find_bytes, AreOptions}
use Rattle.pgo_words.specs.Settings.{run_options, step_options}
use Rattle.pgo_words.specs.declared.options.Options.{Options}

abbrev pub Pairs : Type 0
Pairs = List (List ℕ × List ℕ)

-- the texts behind references
abbrev pub texts : List (Bor (List ℕ)) → List (List ℕ)
texts words = map (λ w. w.now) words

-- the word doesn't begin with `-` (45)
abbrev pub is_plain : List ℕ → Bool
is_plain [] = true
is_plain (b ∷ bs) = not (b == 45)

abbrev pub are_plain : List (List ℕ) → Bool
are_plain words = list_all is_plain words

-- `--` and a name, in which there is no `=` (61)
abbrev pub is_option_name : List ℕ → Bool
is_option_name [] = false
is_option_name (a ∷ []) = false
is_option_name (a ∷ (b ∷ [])) = false
is_option_name (a ∷ (b ∷ (x ∷ xs))) = (a == 45) && ((b == 45) && not (list_any (λ y. y == 61) (x ∷ xs)))

-- a name, and a value that doesn't begin with `-`
abbrev pub is_option : List ℕ × List ℕ → Bool
is_option o = is_option_name o.0 && is_plain o.1

abbrev pub are_options : Pairs → Bool
are_options options = list_all is_option options

-- the words are these pairs of a name and a value, and then words that don't begin with `-`
pub record Parts (words : List (List ℕ)) (options : Pairs) (rest : List (List ℕ)) : Type 0 where
  pub words_are : words ≡ option_words options ++ rest
  pub formed : are_options options ≡ true
  pub plain : are_plain rest ≡ true

-- so many words are in the options, or there are no such parts
abbrev pub CutsParts : List (Bor (List ℕ)) → Option ℕ → Type 0
CutsParts words None = (options : Pairs) (rest : List (List ℕ)) → Parts (texts words) options rest → ⊥
CutsParts words (Some end) = (options : Pairs) × Parts (texts words) options (texts (drop end words)) × (end ≤ length words)

-- the words begin with an option
abbrev pub begins_option : List (List ℕ) → Bool
begins_option [] = false
begins_option (name ∷ []) = false
begins_option (name ∷ (value ∷ words)) = is_option (name, value)

-- the options of `step`, `--turns` among them, or of `run`, each at most once, no value begins with `-`, and then words that don't
-- begin with `-`
pub record HasOptions (is_step : Bool) (words : List (List ℕ)) (options : Pairs) (rest : List (List ℕ)) : Type 0 where
  pub words_are : words ≡ option_words options ++ rest
  pub options_are : AreOptions (if is_step then step_options else run_options) options
  pub turns_given : is_step ≡ true → is_some (find_bytes (codes "--turns") options) ≡ true
  pub values_plain : are_plain (map (λ o. o.1) options) ≡ true
  pub rest_plain : are_plain rest ≡ true

abbrev pub now_of : Option (Bor (List ℕ)) → Option (List ℕ)
now_of value = option_map (λ s. s.now) value

-- the options' values
pub record HasValues (options : Pairs) (o : Options) : Type 0 where
  pub turns : now_of o.turns ≡ find_bytes (codes "--turns") options
  pub seed : now_of o.seed ≡ find_bytes (codes "--seed") options
  pub attempts : now_of o.attempts ≡ find_bytes (codes "--attempts") options
  pub steps : now_of o.steps ≡ find_bytes (codes "--steps") options
  pub fail : now_of o.fail ≡ find_bytes (codes "--fail") options

abbrev pub ReadsOptions : Bool → List (Bor (List ℕ)) → Option Options → Type 0
ReadsOptions is_step words None = (options : Pairs) (rest : List (List ℕ)) → HasOptions is_step (texts words) options rest → ⊥
ReadsOptions is_step words (Some o) = (options : Pairs) × HasOptions is_step (texts words) options (texts o.rest.now) × HasValues options o
