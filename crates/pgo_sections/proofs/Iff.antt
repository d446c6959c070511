-- Equivalences, part by part.
use Rattle.std.proofs.Common.{◌≡◌, List, Option, Some, None, ◌⊎◌, ◌↔◌, Contains, sym, ap, ◌∙◌, subst, arith, inl, inr, ⊎_elim, option_map}
use Rattle.std.proofs.lemmas.Option.{same_Some}

pub iff_same : {A : Type 0} → A ↔ A
iff_same = (λ a. a, λ a. a)

pub iff_then : {A B C : Type 0} → A ↔ B → B ↔ C → A ↔ C
iff_then f g = (λ a. g.0 (f.0 a), λ c. f.1 (g.1 c))

pub sum_iff : {A B C D : Type 0} → A ↔ B → C ↔ D → (A ⊎ C) ↔ (B ⊎ D)
sum_iff f g = (⊎_elim (λ a. inl (f.0 a)) (λ c. inr (g.0 c)), ⊎_elim (λ b. inl (f.1 b)) (λ d. inr (g.1 d)))

abbrev got : {A : Type 0} → A → Option A → A
got d None = d
got d (Some a) = a

-- a value and what follows it
pub with_iff : {V : Type 0} → (o o' : Option V) (A B : V → Type 0) → o ≡ o' → ((v : V) → o' ≡ Some v → A v ↔ B v) → ((v : V) × (o ≡ Some v) × A v) ↔ ((v : V) × (o' ≡ Some v) × B v)
with_iff o o' A B e h = (λ p. (p.0, sym e ∙ p.1, (h p.0 (sym e ∙ p.1)).0 p.2), λ p. (p.0, e ∙ p.1, (h p.0 p.1).1 p.2))

pub guard_iff : {V A B : Type 0} → (x x' y : V) → x ≡ x' → A ↔ B → ((x ≡ y) × A) ↔ ((x' ≡ y) × B)
guard_iff x x' y e h = (λ p. (sym e ∙ p.0, h.0 p.1), λ p. (e ∙ p.0, h.1 p.1))

pub pick_iff : {V : Type 0} → (o o' : Option (List V)) (A B : V → Type 0) → o ≡ o' → ((v : V) → A v ↔ B v) → ((v : V) × (vs : List V) × (o ≡ Some vs) × Contains vs v × A v) ↔ ((v : V) × (vs : List V) × (o' ≡ Some vs) × Contains vs v × B v)
pick_iff o o' A B e h = (λ p. (p.0, p.1, sym e ∙ p.2, p.3, (h p.0).0 p.4), λ p. (p.0, p.1, e ∙ p.2, p.3, (h p.0).1 p.4))

-- a value that is known
pub known_iff : {V : Type 0} → (o : Option V) (v : V) (A : Type 0) (B : V → Type 0) → o ≡ Some v → A ↔ B v → A ↔ ((w : V) × (o ≡ Some w) × B w)
known_iff o v A B e h =
    (λ a. (v, e, h.0 a), λ p. h.1 (subst B (sym (same_Some v p.0 (sym e ∙ p.1))) p.2))

-- what f makes of a value
pub map_iff : {V W : Type 0} → (o o' : Option V) (f : V → W) (A : V → Type 0) (B : W → Type 0) → o ≡ o' → ((v : V) → A v ↔ B (f v)) → ((v : V) × (o ≡ Some v) × A v) ↔ ((w : W) × (option_map f o' ≡ Some w) × B w)
map_iff {V} {W} o o' f A B e h = (λ p. (f p.0, ap (option_map f) (sym e ∙ p.1), (h p.0).0 p.2), λ p. back o' e p.0 p.1 p.2)
  where
    back : (q : Option V) → o ≡ q → (w : W) → option_map f q ≡ Some w → B w → (v : V) × (o ≡ Some v) × A v
    back None e w g b = absurd (grind (arith, g))
    back (Some v) e w g b = (v, e, (h v).1 (subst B (sym (same_Some (f v) w g)) b))

pub iff_along : {V : Type 0} (P : V → Type 0) {Q : Type 0} {x y : V} → x ≡ y → P x ↔ Q → P y ↔ Q
iff_along P {Q} e h = subst (λ z. P z ↔ Q) e h

-- an index that is known, and a content
pub read_iff : {I V : Type 0} → (oi : Option I) (i : I) (o : Option V) (c : I → Option V) (A : V → Type 0) (B : I → V → Type 0) → oi ≡ Some i → o ≡ c i → ((v : V) → A v ↔ B i v) → ((v : V) × (o ≡ Some v) × A v) ↔ ((j : I) × (v : V) × (oi ≡ Some j) × (c j ≡ Some v) × B j v)
read_iff {I} {V} oi i o c A B ei e h = (λ p. (i, p.0, ei, sym e ∙ p.1, (h p.0).0 p.2), λ p. back p.0 p.1 (same_Some i p.0 (sym ei ∙ p.2)) p.3 p.4)
  where
    back : (j : I) (v : V) → i ≡ j → c j ≡ Some v → B j v → (v : V) × (o ≡ Some v) × A v
    back j v same g b = (v, e ∙ ap c same ∙ g, (h v).1 (subst (λ j. B j v) (sym same) b))
