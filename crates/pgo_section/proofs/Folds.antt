-- What is done to each held content, as a change of the whole list.
use Rattle.std.proofs.Common.{◌≡◌, ℕ, Bool, true, false, List, [], ◌∷◌, Some, refl, sym, ap, ◌∙◌, arith}
use Rattle.std.specs.Prelude.{if◌then◌else◌, nat_eq}
use Rattle.pgo_model.specs.Machine.{among}
use Rattle.pgo_workers.specs.View.{Shown, Hold, Once, hold_at, resources_of, with_content, aborted, committed}
use Rattle.pgo_section.specs.Folds.{change_at, change_all, each_changed, abort_it, commit_it}

change_front : (f : Shown → Shown) (rs : List ℕ) (h : Hold) (hs : List Hold) → among h.resource rs ≡ false → change_all f rs (h ∷ hs) ≡ h ∷ change_all f rs hs
change_front f [] h hs n = refl
change_front f (r ∷ rs) h hs n = go (nat_eq h.resource r) n (λ n. change_front f rs h (change_at f r hs) n)
  where
    go : (b : Bool) → (if b then true else among h.resource rs) ≡ false → (among h.resource rs ≡ false → change_all f rs (h ∷ change_at f r hs) ≡ h ∷ change_all f rs (change_at f r hs))
        → change_all f rs (if b then record h { content = f h.content } ∷ hs else h ∷ change_at f r hs) ≡ h ∷ change_all f rs (change_at f r hs)
    go true n ih = absurd (grind (arith, n))
    go false n ih = ih n

self_eq : (n : ℕ) → nat_eq n n ≡ true
self_eq n = grind arith

pub changed_each : (f : Shown → Shown) (hs : List Hold) → Once (resources_of hs) → change_all f (resources_of hs) hs ≡ each_changed f hs
changed_each f [] o = refl
changed_each f (h ∷ hs) o =
    ap (λ b. change_all f (resources_of hs) (if b then record h { content = f h.content } ∷ hs else h ∷ change_at f h.resource hs)) (self_eq h.resource)
    ∙ change_front f (resources_of hs) (record h { content = f h.content }) hs o.0 ∙ ap (λ l. record h { content = f h.content } ∷ l) (changed_each f hs o.1)

pub aborted_each : (hs : List Hold) → each_changed abort_it hs ≡ aborted hs
aborted_each [] = refl
aborted_each (h ∷ hs) = ap (λ l. record h { content = record h.content { current = h.content.base } } ∷ l) (aborted_each hs)

pub committed_each : (hs : List Hold) → each_changed commit_it hs ≡ committed hs
committed_each [] = refl
committed_each (h ∷ hs) = ap (λ l. record h { content = record h.content { base = h.content.current } } ∷ l) (committed_each hs)

pub with_is_change : (f : Shown → Shown) (r : ℕ) (hs : List Hold) (h : Hold) → hold_at hs r ≡ Some h → with_content r (f h.content) hs ≡ change_at f r hs
with_is_change f r [] h e = refl
with_is_change f r (x ∷ hs) h e = go (nat_eq x.resource r) e (λ e. with_is_change f r hs h e)
  where
    some_same : Some x ≡ Some h → x ≡ h
    some_same h = grind arith

    go : (b : Bool) → (if b then Some x else hold_at hs r) ≡ Some h → (hold_at hs r ≡ Some h → with_content r (f h.content) hs ≡ change_at f r hs)
        → (if b then record x { content = f h.content } ∷ hs else x ∷ with_content r (f h.content) hs) ≡ (if b then record x { content = f x.content } ∷ hs else x ∷ change_at f r hs)
    go true e ih = ap (λ (h : Hold). record x { content = f h.content } ∷ hs) (sym (some_same e))
    go false e ih = ap (λ l. x ∷ l) (ih e)

pub with_same : (r : ℕ) (hs : List Hold) (h : Hold) → hold_at hs r ≡ Some h → with_content r h.content hs ≡ hs
with_same r [] h e = refl
with_same r (x ∷ hs) h e = go (nat_eq x.resource r) e (λ e. with_same r hs h e)
  where
    some_same : Some x ≡ Some h → x ≡ h
    some_same h = grind arith

    go : (b : Bool) → (if b then Some x else hold_at hs r) ≡ Some h → (hold_at hs r ≡ Some h → with_content r h.content hs ≡ hs)
        → (if b then record x { content = h.content } ∷ hs else x ∷ with_content r h.content hs) ≡ x ∷ hs
    go true e ih = ap (λ (h : Hold). record x { content = h.content } ∷ hs) (sym (some_same e))
    go false e ih = ap (λ l. x ∷ l) (ih e)

pub resources_change : (f : Shown → Shown) (r : ℕ) (hs : List Hold) → resources_of (change_at f r hs) ≡ resources_of hs
resources_change f r [] = refl
resources_change f r (h ∷ hs) = go (nat_eq h.resource r) (resources_change f r hs)
  where
    go : (b : Bool) → resources_of (change_at f r hs) ≡ resources_of hs → resources_of (if b then record h { content = f h.content } ∷ hs else h ∷ change_at f r hs) ≡ h.resource ∷ resources_of hs
    go true e = refl
    go false e = ap (λ l. h.resource ∷ l) e
