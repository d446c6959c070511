-- What a name stands for among names that stand before others.
use Rattle.std.proofs.Common.{◌≡◌, List, [], ◌∷◌, ◌++◌, refl, ap, sym, ◌∙◌}
use Rattle.std.specs.Prelude.{Bool, true, false, Option, Some, None, if◌then◌else◌}
use Rattle.pgo_base.specs.Lookup.{Name, find, same_name}
use Rattle.pgo_base.specs.BindingsView.{onto}

-- the first, or where there is none the second
abbrev or_first : {A : Type 0} → Option A → Option A → Option A
or_first (Some a) p = Some a
or_first None p = p

find-append : {A : Type 0} (x : Name) (bs ns : List (Name × A)) → find x (bs ++ ns) ≡ or_first (find x bs) (find x ns)
find-append x [] ns = refl
find-append x (b ∷ bs) ns = go (same_name x b.0) (find-append x bs ns)
  where
    go : (t : Bool) → find x (bs ++ ns) ≡ or_first (find x bs) (find x ns) → (if t then Some b.1 else find x (bs ++ ns)) ≡ or_first (if t then Some b.1 else find x bs) (find x ns)
    go true h = refl
    go false h = h

find-onto : {A : Type 0} (x : Name) (bs as' ns : List (Name × A)) → find x (onto bs (as' ++ ns)) ≡ or_first (find x (onto bs as')) (find x ns)
find-onto x [] as' ns = find-append x as' ns
find-onto x (b ∷ bs) as' ns = find-onto x bs (b ∷ as') ns

-- found among the first ones
pub found_first : {A : Type 0} (x : Name) (bs ns : List (Name × A)) (v : A) → Some v ≡ find x (onto bs []) → Some v ≡ find x (onto bs ns)
found_first x bs ns v h = ap (λ o. or_first o (find x ns)) h ∙ sym (find-onto x bs [] ns)

-- not found among the first ones
pub found_behind : {A : Type 0} (x : Name) (bs ns : List (Name × A)) → None ≡ find x (onto bs []) → find x ns ≡ find x (onto bs ns)
found_behind x bs ns h = ap (λ o. or_first o (find x ns)) h ∙ sym (find-onto x bs [] ns)
