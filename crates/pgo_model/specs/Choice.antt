-- The words of choice of an attempt, from a seed. Source: this project's choice, over PCG (O'Neill).
use Rattle.std.specs.Prelude.{ℕ, zero, suc, ◌+◌, ◌%◌, ◌^◌, List, [], ◌∷◌}
use Rattle.rand_pcg.specs.Lcg.{Lcg, started, increment_of}
use Rattle.rand_pcg.specs.Pcg.{pcg32, multiplier_64}
use Rattle.pgo_model.specs.System.{Words}

-- the number that a word picks among n
abbrev pub pick : (word n : ℕ) → ℕ
pick w n = w % n

-- a list of words, which is 0 past its end
abbrev pub word_at : List ℕ → Words
word_at [] d = 0
word_at (w ∷ ws) zero = w
word_at (w ∷ ws) (suc d) = word_at ws d

-- a list of words, or a seed with an instance and an attempt
pub data Source : Type 0 where
  Listed : (words : List ℕ) → Source
  Seeded : (seed instance attempt : ℕ) → Source

-- the generator of an attempt: PCG-XSH-RR 64/32 started at seed + attempt, on the instance's stream
unfoldable pub generator : (seed instance attempt : ℕ) → Lcg
generator seed k a = started 64 multiplier_64 ((seed + a) % 2 ^ 64) (increment_of 64 k)

unfoldable pub word_from : Lcg → ℕ → ℕ
word_from g zero = (pcg32 g).0
word_from g (suc d) = word_from (pcg32 g).1 d

-- word d of a source
abbrev pub words_of : Source → Words
words_of (Listed words) = word_at words
words_of (Seeded seed k a) = word_from (generator seed k a)
