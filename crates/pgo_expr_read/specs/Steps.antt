-- Readers as functions on lists of tokens of any type: what they give, one behind another, and loops.
use Rattle.std.specs.Prelude.{◌≡◌, ℕ, zero, suc, Bool, if◌then◌else◌, List, [], ◌∷◌, length, Option, Some, None, Result, Ok, Err}
pub use Rattle.pgo_lexer.specs.Answers.{IsSyntax, Gives as Makes}
use Rattle.pgo_lexer.specs.declared.errors.TextStop.{TextStop}
use Rattle.pgo_lexer.specs.declared.errors.TextStop.TheVariants.{Syntax, NoMemory}

abbrev pub Outcome : Type 0 → Type 0 → Type 0
Outcome X A = Option (A × List X)

abbrev pub Parser : Type 0 → Type 0 → Type 0
Parser X A = List X → Outcome X A

abbrev pub and_then : {X A B : Type 0} → Outcome X A → (A → Parser X B) → Outcome X B
and_then (Some p) f = f p.0 p.1
and_then None f = None

infixl 10 ◌>>=◌
abbrev pub ◌>>=◌ : {X A B : Type 0} → Parser X A → (A → Parser X B) → Parser X B
p >>= f = λ i. and_then (p i) f

infixl 10 ◌>>◌
abbrev pub ◌>>◌ : {X A B : Type 0} → Parser X A → Parser X B → Parser X B
p >> q = p >>= (λ _. q)

abbrev pub pure : {X A : Type 0} → A → Parser X A
pure a = λ i. Some (a, i)

-- what a reader returns is what the function gives, unless memory runs out
abbrev pub Reads : {X A : Type 0} → Outcome X A → Result A TextStop → List X → Type 0
Reads outcome (Ok a) new = outcome ≡ Some (a, new)
Reads outcome (Err (Syntax n)) new = outcome ≡ None
Reads outcome (Err NoMemory) new = Unit {0}

abbrev pub skip : {X : Type 0} → List X → List X
skip [] = []
skip (token ∷ rest) = rest

-- one more as long as it goes on
unfoldable pub folded : {X A : Type 0} → (List X → Bool) → (A → Parser X A) → (turns : ℕ) → A → Parser X A
folded goes more zero acc = pure acc
folded goes more (suc n) acc = λ i. if goes i then and_then (more acc i) (folded goes more n) else Some (acc, i)

abbrev pub all_folded : {X A : Type 0} → (List X → Bool) → (A → Parser X A) → A → Parser X A
all_folded goes more acc = λ i. folded goes more (length i) acc i
