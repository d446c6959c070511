-- Of which variables and indices the components of a system are, and how many there are.
use Rattle.std.proofs.Common.{◌≡◌, ◌≤◌, ◌*◌, ℕ, suc, Bool, true, false, if◌then◌else◌, List, [], ◌∷◌, length, Some, inl, inr, refl, ap, arith, length-append, ◌⊎◌}
use Rattle.pgo_base.specs.Data.{Data}
use Rattle.pgo_base.specs.Lookup.{Name}
use Rattle.pgo_model.specs.Log.{Component, resource_components, parts_at, own_names, own_components}
use Rattle.pgo_model.specs.Operators.{contains}
use Rattle.pgo_model.specs.System.{Member, Owned, Resource}
use Rattle.pgo_model.specs.Written.{pc}
use Rattle.pgo_bound.specs.Among.{IsAmong, among_append}

pub resource_from : (d : Component) (rs : List Resource) → IsAmong d (resource_components rs) → (r : Resource) × IsAmong r rs × (d.variable ≡ r.global) × (d.index ≡ r.index)
resource_from d [] m = absurd m
resource_from d (r ∷ rs) (inl e) = (r, inl refl, ap (λ (z : Component). z.variable) e, ap (λ (z : Component). z.index) e)
resource_from d (r ∷ rs) (inr m) = let q = resource_from d rs m in (q.0, inr q.1, q.2, q.3)

parts_from : (d : Component) (k : ℕ) (id : Data) (xs : List Name) → IsAmong d (parts_at k id xs) → IsAmong d.variable xs × (d.index ≡ Some id)
parts_from d k id [] m = absurd m
parts_from d k id (x ∷ xs) (inl e) = (inl (ap (λ (z : Component). z.variable) e), ap (λ (z : Component). z.index) e)
parts_from d k id (x ∷ xs) (inr m) = let q = parts_from d k id xs m in (inr q.0, q.1)

pub own_from : (d : Component) (os : List Owned) (k : ℕ) (is : List Member) → IsAmong d (own_components os k is) → (i : Member) × IsAmong i is × IsAmong d.variable (pc ∷ own_names i.id os) × (d.index ≡ Some i.id)
own_from d os k [] m = absurd m
own_from d os k (i ∷ is) m = go (among_append d (parts_at k i.id (pc ∷ own_names i.id os)) (own_components os (suc k) is) m) (own_from d os (suc k) is)
  where
    go : IsAmong d (parts_at k i.id (pc ∷ own_names i.id os)) ⊎ IsAmong d (own_components os (suc k) is) → (IsAmong d (own_components os (suc k) is) → (j : Member) × IsAmong j is × IsAmong d.variable (pc ∷ own_names j.id os) × (d.index ≡ Some j.id))
        → (j : Member) × IsAmong j (i ∷ is) × IsAmong d.variable (pc ∷ own_names j.id os) × (d.index ≡ Some j.id)
    go (inl a) more = let q = parts_from d k i.id (pc ∷ own_names i.id os) a in (i, inl refl, q.0, q.1)
    go (inr a) more = let q = more a in (q.0, inr q.1, q.2, q.3)

pub owned_from : (x : Name) (id : Data) (os : List Owned) → IsAmong x (own_names id os) → (o : Owned) × IsAmong o os × (x ≡ o.variable)
owned_from x id [] m = absurd m
owned_from x id (o ∷ os) m = go (contains id o.ids) m (owned_from x id os)
  where
    go : (b : Bool) → IsAmong x (if b then o.variable ∷ own_names id os else own_names id os) → (IsAmong x (own_names id os) → (q : Owned) × IsAmong q os × (x ≡ q.variable)) → (q : Owned) × IsAmong q (o ∷ os) × (x ≡ q.variable)
    go true (inl e) more = (o, inl refl, e)
    go true (inr a) more = let q = more a in (q.0, inr q.1, q.2)
    go false a more = let q = more a in (q.0, inr q.1, q.2)

-- ---- how many

pub resources_many : (rs : List Resource) → length (resource_components rs) ≡ length rs
resources_many [] = refl
resources_many (r ∷ rs) = let q = resources_many rs in omega (arith, q)

parts_many : (k : ℕ) (id : Data) (xs : List Name) → length (parts_at k id xs) ≡ length xs
parts_many k id [] = refl
parts_many k id (x ∷ xs) = let q = parts_many k id xs in omega (arith, q)

pub own_few : (os : List Owned) (k : ℕ) (is : List Member) → ((i : Member) → IsAmong i is → length (own_names i.id os) ≤ 524288) → length (own_components os k is) ≤ length is * 524289
own_few os k [] h = omega arith
own_few os k (i ∷ is) h =
    let here = parts_many k i.id (pc ∷ own_names i.id os) in
    let names = h i (inl refl) in
    let rest = own_few os (suc k) is (λ j m. h j (inr m)) in
    let all = length-append (parts_at k i.id (pc ∷ own_names i.id os)) (own_components os (suc k) is) in
    omega (arith, here, names, rest, all)
