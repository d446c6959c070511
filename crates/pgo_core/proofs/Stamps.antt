-- Held resources by their counts at the take.
use Rattle.std.proofs.Common.{◌≡◌, ℕ, Bool, true, false, List, [], ◌∷◌, ◌++◌, refl, ap, ◌∙◌, ◌⊎◌, inl, inr}
use Rattle.std.specs.Prelude.{if◌then◌else◌, nat_eq}
use Rattle.pgo_base.specs.Data.{Data}
use Rattle.pgo_model.specs.MachineAccounts.{equal_or}
use Rattle.pgo_workers.specs.Walk.{Agrees}
use Rattle.pgo_workers.specs.View.{Shown, Hold, EachHold, without, with_content, aborted, committed, renewed, values_of}
use Rattle.pgo_workers.specs.Closed.{Has}

-- each held resource with its count at the take
abbrev pub stamps : List Hold → List (ℕ × ℕ)
stamps [] = []
stamps (h ∷ hs) = (h.resource, h.count) ∷ stamps hs

pub has_append : {A : Type 0} (a b : List A) (x : A) → Has (a ++ b) x → Has a x ⊎ Has b x
has_append [] b x h = inr h
has_append (y ∷ a) b x (inl h) = inl (inl h)
has_append (y ∷ a) b x (inr h) = go (has_append a b x h)
  where
    go : Has a x ⊎ Has b x → ((y ≡ x) ⊎ Has a x) ⊎ Has b x
    go (inl h) = inl (inr h)
    go (inr h) = inr h

pub stamps_append : (a b : List Hold) → stamps (a ++ b) ≡ stamps a ++ stamps b
stamps_append [] b = refl
stamps_append (h ∷ a) b = ap (λ l. (h.resource, h.count) ∷ l) (stamps_append a b)

pub stamps_aborted : (hs : List Hold) → stamps (aborted hs) ≡ stamps hs
stamps_aborted [] = refl
stamps_aborted (h ∷ hs) = ap (λ l. (h.resource, h.count) ∷ l) (stamps_aborted hs)

pub stamps_committed : (cs : List (ℕ × Data)) (hs : List Hold) → stamps (committed (renewed cs hs)) ≡ stamps hs
stamps_committed cs [] = refl
stamps_committed cs (h ∷ hs) = ap (λ l. (h.resource, h.count) ∷ l) (stamps_committed cs hs)

pub stamps_with : (r : ℕ) (c : Shown) (hs : List Hold) → stamps (with_content r c hs) ≡ stamps hs
stamps_with r c [] = refl
stamps_with r c (h ∷ hs) = go (nat_eq h.resource r) (stamps_with r c hs)
  where
    go : (x : Bool) → stamps (with_content r c hs) ≡ stamps hs → stamps (if x then record h { content = c } ∷ hs else h ∷ with_content r c hs) ≡ (h.resource, h.count) ∷ stamps hs
    go true ih = refl
    go false ih = ap (λ l. (h.resource, h.count) ∷ l) ih

pub stamps_without : (r : ℕ) (hs : List Hold) (x : ℕ × ℕ) → Has (stamps (without hs r)) x → Has (stamps hs) x × (x.0 ≡ r → ⊥)
stamps_without r [] x h = absurd h
stamps_without r (g ∷ hs) x h = go (nat_eq g.resource r) refl h (λ h. stamps_without r hs x h)
  where
    go : (b : Bool) → nat_eq g.resource r ≡ b → Has (stamps (if b then without hs r else g ∷ without hs r)) x → (Has (stamps (without hs r)) x → Has (stamps hs) x × (x.0 ≡ r → ⊥)) → (((g.resource, g.count) ≡ x) ⊎ Has (stamps hs) x) × (x.0 ≡ r → ⊥)
    go true e h ih = let q = ih h in (inr q.0, q.1)
    go false e (inl h) ih = (inl h, λ z. (equal_or g.resource r false e).1 refl (ap (λ (x : ℕ × ℕ). x.0) h ∙ z))
    go false e (inr h) ih = let q = ih h in (inr q.0, q.1)

pub each_without : (Q : Hold → Type 0) (r : ℕ) (hs : List Hold) → EachHold Q hs → EachHold Q (without hs r)
each_without Q r [] e = tt
each_without Q r (h ∷ hs) e = go (nat_eq h.resource r) (each_without Q r hs e.1)
  where
    go : (b : Bool) → EachHold Q (without hs r) → EachHold Q (if b then without hs r else h ∷ without hs r)
    go true q = q
    go false q = (e.0, q)

pub agrees_of : (f : ℕ → Data) (hs : List Hold) → EachHold (λ h. f h.resource ≡ h.value) hs → Agrees (values_of hs) f
agrees_of f [] e = tt
agrees_of f (h ∷ hs) e = (e.0, agrees_of f hs e.1)
