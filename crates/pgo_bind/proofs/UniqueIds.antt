-- Where no identifier is shared, each stands once.
use Rattle.std.proofs.Common.{◌≡◌, ◌+◌, ◌<◌, ◌≤◌, Bool, true, false, if◌then◌else◌, List, [], ◌∷◌, refl, ap, sym, ◌∙◌, subst, inl, inr, arith}
use Rattle.std.specs.List.{AllByRecursion}
use Rattle.std.specs.declared.cmp.Ordering.TheVariants.{Less}
use Rattle.pgo_base.specs.Data.{Data}
use Rattle.pgo_base.specs.Order.{data_cmp}
use Rattle.pgo_base.specs.Exact.{data_itself}
use Rattle.pgo_base.specs.Total.{data_total}
use Rattle.pgo_model.specs.Operators.{same_data}
use Rattle.pgo_bound.specs.Among.{IsAmong}
use Rattle.pgo_bound.specs.Lookups.{same_of, same_equal}
use Rattle.pgo_bound.specs.Once.{StandOnce}
use Rattle.pgo_heads.specs.Refusals.{ordered, repeated, repeated_behind}
use Rattle.pgo_heads.proofs.Ordered.{AtMost, Rises, rises_ordered, times, times_ordered, one_if, itself}

above_not_in : (x y : Data) (ys : List Data) → data_cmp x y ≡ Less → AllByRecursion (AtMost y) ys → IsAmong x (y ∷ ys) → ⊥
above_not_in x y ys h a (inl e) = let i = data_itself x in let g : data_cmp x x ≡ Less = ap (data_cmp x) e ∙ h in cc
above_not_in x y [] h a (inr g) = g
above_not_in x y (z ∷ zs) h a (inr (inl e)) = go a.0
  where
    go : AtMost y z → ⊥
    go (inl g) = let i = data_itself x in let k : data_cmp x x ≡ Less = ap (data_cmp x) e ∙ data_total.trans x y z h g in cc
    go (inr g) = let i = data_itself x in let k : data_cmp x x ≡ Less = ap (data_cmp x) (e ∙ sym g) ∙ h in cc
above_not_in x y (z ∷ zs) h a (inr (inr g)) = above_not_in x y zs h a.1 (inr g)

once_behind : (x : Data) (xs : List Data) → Rises (x ∷ xs) → repeated_behind x xs ≡ [] → StandOnce (x ∷ xs)
once_behind x [] s h = (λ g. g, tt)
once_behind x (y ∷ ys) s h = go (same_data x y) refl h s.0.0 (once_behind y ys s.1)
  where
    go : (b : Bool) → same_data x y ≡ b → (if b then y ∷ repeated_behind y ys else repeated_behind y ys) ≡ [] → AtMost x y → (repeated_behind y ys ≡ [] → StandOnce (y ∷ ys)) → StandOnce (x ∷ y ∷ ys)
    go true e g m r = absurd (cc)
    go false e g (inl l) r = (above_not_in x y ys l s.1.0, r g)
    go false e g (inr q) r = absurd (let t = same_equal x y q in cc)

once_ordered : (xs : List Data) → Rises xs → repeated xs ≡ [] → StandOnce xs
once_ordered [] s h = tt
once_ordered (x ∷ xs) s h = once_behind x xs s h

stands_some : (q : Data) (xs : List Data) → IsAmong q xs → 0 < times q xs
stands_some q [] h = absurd h
stands_some q (x ∷ xs) (inl e) = let g : one_if (same_data q x) ≡ 1 = ap one_if (same_equal q x e) in omega (arith, g)
stands_some q (x ∷ xs) (inr h) = omega (arith, stands_some q xs h)

absent : (q : Data) (xs : List Data) → (IsAmong q xs → ⊥) → times q xs ≡ 0
absent q [] h = refl
absent q (x ∷ xs) h = go (same_data q x) refl (absent q xs (λ g. h (inr g)))
  where
    go : (b : Bool) → same_data q x ≡ b → times q xs ≡ 0 → one_if b + times q xs ≡ 0
    go true e r = absurd (h (inl (same_of q x e)))
    go false e r = omega (arith, r)

at_most_once : (q : Data) (xs : List Data) → StandOnce xs → times q xs ≤ 1
at_most_once q [] s = omega arith
at_most_once q (x ∷ xs) s = go (same_data q x) refl (at_most_once q xs s.1)
  where
    go : (b : Bool) → same_data q x ≡ b → times q xs ≤ 1 → one_if b + times q xs ≤ 1
    go true e r = let n = absent q xs (λ g. s.0 (subst (λ z. IsAmong z xs) (same_of q x e) g)) in omega (arith, n)
    go false e r = omega (arith, r)

once_by_times : (xs : List Data) → ((q : Data) → times q xs ≤ 1) → StandOnce xs
once_by_times [] f = tt
once_by_times (x ∷ xs) f =
    (λ g. absurd (let a = f x in let b = stands_some x xs g in let c = itself x in let z : ⊥ = omega (arith, a, b, c) in z), once_by_times xs (λ q. omega (arith, f q)))

pub once_of : (xs : List Data) → repeated (ordered xs) ≡ [] → StandOnce xs
once_of xs h = once_by_times xs (λ q. subst (λ n. n ≤ 1) (times_ordered q xs) (at_most_once q (ordered xs) (once_ordered (ordered xs) (rises_ordered xs) h)))
