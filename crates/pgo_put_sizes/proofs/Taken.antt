-- What is left behind a part and the rest is what is left behind both.
use Rattle.std.proofs.Common.{◌≡◌, ◌+◌, ◌<◌, ℕ, arith, Option, Some, None, sym, ap, ◌∙◌}
use Rattle.pgo_sizes.specs.Left.{left_after}
use Rattle.pgo_sizes.proofs.NodesIn.{less_left, both_left}

pub nothing_left : (l m n w total : ℕ) (o : Option ℕ) → m ≡ w → o ≡ left_after l m → o ≡ None → w + n ≡ total → None ≡ left_after l total
nothing_left l m n w total o e h is whole = sym (ap (left_after l) (sym whole ∙ ap (λ z. z + n) (sym e)) ∙ less_left l m n (sym h ∙ is))

pub some_left : (l m n w r total : ℕ) (o : Option ℕ) → m ≡ w → o ≡ left_after l m → o ≡ Some r → w + n ≡ total → left_after r n ≡ left_after l total
some_left l m n w r total o e h is whole = both_left l m n r (sym h ∙ is) ∙ ap (left_after l) (ap (λ z. z + n) e ∙ whole)

-- nothing is left where there is less than is taken
pub less_than : (l n : ℕ) → left_after l n ≡ None → l < n
less_than l n h = grind (arith, h)
