-- Choices, and two readers in a row: how their outcome was made, and what it is.
use Rattle.std.proofs.Common.{◌≡◌, ℕ, Bool, true, false, cond, List, Option, Some, None, refl, ap, ◌∙◌}
use Rattle.pgo_value_text.specs.Parsers.{Outcome, Parser, and_then, give}

-- what a choice gave came from one of its sides
pub if_some : {X : Type 0} (b : Bool) (x y : Option X) (p : X) (Goal : Type 0) → cond b x y ≡ Some p → (b ≡ true → x ≡ Some p → Goal) → (b ≡ false → y ≡ Some p → Goal) → Goal
if_some true x y p Goal h f g = f refl h
if_some false x y p Goal h f g = g refl h

-- a choice whose test passes
pub cond_true : {X : Type 0} (b : Bool) (x y : X) → b ≡ true → cond b x y ≡ x
cond_true b x y h = λ i. cond (h i) x y

-- a choice whose test fails
pub cond_false : {X : Type 0} (b : Bool) (x y : X) → b ≡ false → cond b x y ≡ y
cond_false b x y h = λ i. cond (h i) x y

-- what two readers gave in a row: what the first gave and what it left
pub bind_then : {A B : Type 0} (o : Outcome A) (f : A → Parser B) (y : B × List ℕ) (C : Type 0) → and_then o f ≡ Some y → ((a : A) (i : List ℕ) → o ≡ Some (a, i) → f a i ≡ Some y → C) → C
bind_then (Some p) f y C e k = k p.0 p.1 refl e
bind_then None f y C e k = absurd (cc)

-- two readers in a row, where the first is known
pub then_at : {A B : Type 0} (o : Outcome A) (f : A → Parser B) (y : Outcome B) (a : A) (i : List ℕ) → o ≡ Some (a, i) → f a i ≡ y → and_then o f ≡ y
then_at o f y a i h k = (λ j. and_then (h j) f) ∙ k

-- what equal options of pairs have
pub some_pair : {A B : Type 0} (a c : A) (b d : B) → ◌≡◌ {A = Option (A × B)} (Some (a, b)) (Some (c, d)) → (a ≡ c) × (b ≡ d)
some_pair {A} {B} a c b d e = let q : ◌≡◌ {A = A × B} (a, b) (c, d) = cc in (ap (λ (p : A × B). p.0) q, ap (λ (p : A × B). p.1) q)

pub give_some : {A : Type 0} (o : Option A) (i : List ℕ) (a : A) (rest : List ℕ) → give o i ≡ Some (a, rest) → (o ≡ Some a) × (i ≡ rest)
give_some (Some b) i a rest e = let p = some_pair b a i rest e in (ap Some p.0, p.1)
give_some None i a rest e = absurd (cc)
