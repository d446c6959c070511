-- Steps of readers over tokens of any type, taken apart and put together; loops by a count of turns.
use Rattle.std.proofs.Common.{◌≡◌, ℕ, zero, suc, ◌+◌, ◌-◌, ◌<◌, ◌≤◌, Bool, true, false, List, Option, Some, None, Err, refl, ap, ◌∙◌, arith, cond}
use Rattle.pgo_lexer.specs.declared.errors.TextStop.{TextStop}
use Rattle.pgo_lexer.specs.declared.errors.TextStop.TheVariants.{Syntax, NoMemory}
use Rattle.pgo_expr_read.specs.Steps.{Outcome, Parser, and_then, IsSyntax, Reads, folded}

pub some_pair : {A B : Type 0} (a c : A) (b d : B) → ◌≡◌ {A = Option (A × B)} (Some (a, b)) (Some (c, d)) → (a ≡ c) × (b ≡ d)
some_pair {A} {B} a c b d e = let q : ◌≡◌ {A = A × B} (a, b) (c, d) = cc in (ap (λ (p : A × B). p.0) q, ap (λ (p : A × B). p.1) q)

pub if_some : {A : Type 0} (b : Bool) (x y : A) → cond b (Some x) None ≡ Some y → (b ≡ true) × (x ≡ y)
if_some true x y e = (refl, cc)
if_some false x y e = cc

-- what was read first, and what follows
pub bind_then : {X A B : Type 0} (o : Outcome X A) (f : A → Parser X B) (y : B × List X) (C : Type 0) → and_then o f ≡ Some y → ((a : A) (i : List X) → o ≡ Some (a, i) → f a i ≡ Some y → C) → C
bind_then (Some p) f y C e k = k p.0 p.1 refl e
bind_then None f y C e k = cc

pub next_step : {X A B : Type 0} (o : Outcome X A) (f : A → Parser X B) (a : A) (i : List X) (y : Outcome X B) → o ≡ Some (a, i) → f a i ≡ y → and_then o f ≡ y
next_step o f a i y e g = ap (λ z. and_then z f) e ∙ g

pub syntax_err : {X A : Type 0} (o : Outcome X A) (new : List X) (stop : TextStop) → IsSyntax stop → o ≡ None → Reads o (Err stop) new
syntax_err o new (Syntax n) is e = e
syntax_err o new NoMemory is e = absurd is

-- ---- loops

pub fold_zero : {X A : Type 0} (goes : List X → Bool) (more : A → Parser X A) (acc : A) (i : List X) → folded goes more zero acc i ≡ Some (acc, i)
unfolding folded
fold_zero goes more acc i = refl

pub fold_ends : {X A : Type 0} (goes : List X → Bool) (more : A → Parser X A) (n : ℕ) (acc : A) (i : List X) → goes i ≡ false → folded goes more n acc i ≡ Some (acc, i)
unfolding folded
fold_ends goes more zero acc i h = refl
fold_ends goes more (suc n) acc i h = ap (λ b. cond b (and_then (more acc i) (folded goes more n)) (Some (acc, i))) h

pub fold_goes : {X A : Type 0} (goes : List X → Bool) (more : A → Parser X A) (n : ℕ) (acc next : A) (i j : List X) → goes i ≡ true → more acc i ≡ Some (next, j) → folded goes more (suc n) acc i ≡ folded goes more n next j
unfolding folded
fold_goes goes more n acc next i j h got = ap (λ b. cond b (and_then (more acc i) (folded goes more n)) (Some (acc, i))) h ∙ ap (λ z. and_then z (folded goes more n)) got

-- a recursion on a count of turns, beside a loop that counts up
pub turn_more : {X : Type 0} {x : X} (f : ℕ → X) (n at : ℕ) → at < n → x ≡ f (n - at) → x ≡ f (suc (n - (at + 1)))
turn_more f n at below e = let turn : n - at ≡ suc (n - (at + 1)) = omega arith in e ∙ ap f turn

pub no_more : {X : Type 0} {x : X} (f : ℕ → X) (n at : ℕ) → n ≤ at → x ≡ f (n - at) → x ≡ f 0
no_more f n at done e = let none : n - at ≡ 0 = omega arith in e ∙ ap f none
