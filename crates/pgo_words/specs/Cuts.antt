-- A text cut at the first place of a byte.
use Rattle.std.specs.Prelude.{◌≡◌, ◌<◌, ◌++◌, ℕ, List, ◌∷◌, length, slice_index, Option, Some, None}
use Rattle.std.specs.Borrow.{Bor}

-- the byte stands nowhere in the text
abbrev pub Lacks : ℕ → List ℕ → Type 0
Lacks b bs = (i : ℕ) → i < length bs → slice_index bs i ≡ b → ⊥

-- the parts before and behind the first place of the byte, or nothing where it stands nowhere
abbrev pub Cuts : ℕ → List ℕ → Option (Bor (List ℕ) × Bor (List ℕ)) → Type 0
Cuts b bs None = Lacks b bs
Cuts b bs (Some x) = (bs ≡ x.0.now ++ (b ∷ x.1.now)) × Lacks b x.0.now
