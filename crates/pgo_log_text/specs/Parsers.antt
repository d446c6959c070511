-- Readers as functions on bytes: what one gives, and the bytes behind it.
use Rattle.std.specs.Prelude.{◌≡◌, ℕ, List, Option, Some, None, Result, Ok, Err}
pub use Rattle.pgo_value_text.specs.Parsers.{Outcome, Parser, and_then, ◌>>=◌, ◌>>◌, pure}
use Rattle.pgo_log_text.specs.declared.errors.LineStop.{LineStop}
use Rattle.pgo_log_text.specs.declared.errors.LineStop.TheVariants.{BadLine, NoMemory}

abbrev pub fails : {A : Type 0} → Parser A
fails = λ i. None

-- what a reader returns, as it is seen, is what the function gives, unless there is no memory
abbrev pub ReadsAs : {A B : Type 0} → (A → B) → Outcome B → Result A LineStop → List ℕ → Type 0
ReadsAs see outcome (Ok a) new = outcome ≡ Some (see a, new)
ReadsAs see outcome (Err BadLine) new = outcome ≡ None
ReadsAs see outcome (Err NoMemory) new = Unit {0}

abbrev pub Reads : {A : Type 0} → Outcome A → Result A LineStop → List ℕ → Type 0
Reads outcome (Ok a) new = outcome ≡ Some (a, new)
Reads outcome (Err BadLine) new = outcome ≡ None
Reads outcome (Err NoMemory) new = Unit {0}

-- the same, where nothing is left
abbrev pub MakesAs : {A B : Type 0} → (A → B) → Option B → Result A LineStop → Type 0
MakesAs see made (Ok a) = made ≡ Some (see a)
MakesAs see made (Err BadLine) = made ≡ None
MakesAs see made (Err NoMemory) = Unit {0}
