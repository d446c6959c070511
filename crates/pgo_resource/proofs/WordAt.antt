-- Words of choice by their numbers.
use Rattle.std.proofs.Common.{◌≡◌, ℕ, zero, suc, ◌≤◌, List, [], ◌∷◌, length, get_or, refl, arith}
use Rattle.rand_pcg.specs.Lcg.{Lcg, next, advance, state_after}
use Rattle.rand_pcg.specs.Pcg.{pcg32, multiplier_64}
use Rattle.pgo_model.specs.Choice.{word_at, word_from}

-- a listed word
pub word_at-get : (ws : List ℕ) (d : ℕ) → word_at ws d ≡ get_or ws d 0
word_at-get [] d = refl
word_at-get (w ∷ ws) zero = refl
word_at-get (w ∷ ws) (suc d) = word_at-get ws d

-- behind the last
pub word_at-behind : (ws : List ℕ) (d : ℕ) → length ws ≤ d → word_at ws d ≡ 0
word_at-behind [] d h = refl
word_at-behind (w ∷ ws) zero h = absurd (omega arith)
word_at-behind (w ∷ ws) (suc d) h = word_at-behind ws d (omega arith)

-- a generator's word is that of the generator after a jump
pub word_from-advance : (g : Lcg) (d : ℕ) → word_from g d ≡ (pcg32 (advance 64 multiplier_64 d g)).0
unfolding word_from state_after
word_from-advance g zero = refl
word_from-advance g (suc d) = word_from-advance (next 64 multiplier_64 g) d
