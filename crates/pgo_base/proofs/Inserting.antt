-- What is looked up by a name once one entry is put into an ordered map, or removed from it.
use Rattle.std.proofs.Common.{◌≡◌, Bool, true, false, List, [], ◌∷◌, cond, refl, ap, sym, ◌∙◌}
use Rattle.std.specs.Prelude.{Some, Result, Ok, Err, OnErr}
use Rattle.std.specs.declared.cmp.Ordering.{Ordering}
use Rattle.std.specs.declared.cmp.Ordering.TheVariants.{Less, Equal, Greater}
use Rattle.std.specs.Ordering.{nat_cmp, is_eq, match_ordering}
use Rattle.std.specs.Cmp.Lexicographic.{slice_cmp}
use Rattle.std.specs.Map.{lookup, remove_entry}
use Rattle.std.specs.BTreeMap.{insert_entry}
use Rattle.pgo_base.specs.Data.{string}
use Rattle.pgo_base.specs.Exact.{data_itself}
use Rattle.pgo_base.specs.Lookup.{Name, same_name}
use Rattle.pgo_base.specs.SameName.{same_name-is}

itself : (x : Name) → slice_cmp nat_cmp x x ≡ Equal
itself x = data_itself (string x)

-- what is looked up once one entry is put in
pub insert_found : {K V : Type 0} (f : K → Name) (x : Name) (es : List (K × V)) (k : K) (v : V) → lookup (λ q. same_name x (f q)) (insert_entry (λ a b. slice_cmp nat_cmp (f a) (f b)) es k v) ≡ cond (same_name x (f k)) (Some v) (lookup (λ q. same_name x (f q)) es)
insert_found f x [] k v = refl
insert_found f x (e ∷ es) k v = go (slice_cmp nat_cmp (f k) (f e.0)) refl (insert_found f x es k v)
  where
    equal : (b : Bool) → same_name x (f e.0) ≡ b → same_name x (f k) ≡ b → cond b (Some v) (lookup (λ q. same_name x (f q)) es) ≡ cond (same_name x (f k)) (Some v) (cond b (Some e.1) (lookup (λ q. same_name x (f q)) es))
    equal true h i = sym (ap (λ c. cond c (Some v) (Some e.1)) i)
    equal false h i = sym (ap (λ c. cond c (Some v) (lookup (λ q. same_name x (f q)) es)) i)

    greater : (b c : Bool) → same_name x (f e.0) ≡ b → same_name x (f k) ≡ c → slice_cmp nat_cmp (f k) (f e.0) ≡ Greater → cond b (Some e.1) (cond c (Some v) (lookup (λ q. same_name x (f q)) es)) ≡ cond c (Some v) (cond b (Some e.1) (lookup (λ q. same_name x (f q)) es))
    greater true true h i g = absurd (let one : f k ≡ f e.0 = sym (same_name-is x (f k) i) ∙ same_name-is x (f e.0) h in let same : slice_cmp nat_cmp (f k) (f e.0) ≡ Equal = ap (λ y. slice_cmp nat_cmp y (f e.0)) one ∙ itself (f e.0) in cc)
    greater true false h i g = refl
    greater false c h i g = refl

    go : (o : Ordering) → slice_cmp nat_cmp (f k) (f e.0) ≡ o → lookup (λ q. same_name x (f q)) (insert_entry (λ a b. slice_cmp nat_cmp (f a) (f b)) es k v) ≡ cond (same_name x (f k)) (Some v) (lookup (λ q. same_name x (f q)) es) → lookup (λ q. same_name x (f q)) (match_ordering o ((k, v) ∷ e ∷ es) ((e.0, v) ∷ es) (e ∷ insert_entry (λ a b. slice_cmp nat_cmp (f a) (f b)) es k v)) ≡ cond (same_name x (f k)) (Some v) (lookup (λ q. same_name x (f q)) (e ∷ es))
    go Less g r = refl
    go Equal g r = let one : f k ≡ f e.0 = same_name-is (f k) (f e.0) (ap is_eq g) in equal (same_name x (f e.0)) refl (ap (same_name x) one)
    go Greater g r = ap (cond (same_name x (f e.0)) (Some e.1)) r ∙ greater (same_name x (f e.0)) (same_name x (f k)) refl refl g

-- what is looked up by another name once the entry of a name is removed
pub remove_found : {K V : Type 0} (f : K → Name) (x name : Name) (es : List (K × V)) → same_name x name ≡ false → lookup (λ q. same_name x (f q)) (remove_entry (λ q. same_name name (f q)) es) ≡ lookup (λ q. same_name x (f q)) es
remove_found f x name [] h = refl
remove_found f x name (e ∷ es) h = go (same_name name (f e.0)) refl (remove_found f x name es h)
  where
    go : (b : Bool) → same_name name (f e.0) ≡ b → lookup (λ q. same_name x (f q)) (remove_entry (λ q. same_name name (f q)) es) ≡ lookup (λ q. same_name x (f q)) es → lookup (λ q. same_name x (f q)) (cond b es (e ∷ remove_entry (λ q. same_name name (f q)) es)) ≡ lookup (λ q. same_name x (f q)) (e ∷ es)
    go true k r = sym (ap (λ b. cond b (Some e.1) (lookup (λ q. same_name x (f q)) es)) (ap (same_name x) (sym (same_name-is name (f e.0) k)) ∙ h))
    go false k r = ap (cond (same_name x (f e.0)) (Some e.1)) r

pub on_err : {T E P : Type 0} (r : Result T E) → P → OnErr r P
on_err (Ok t) p = tt
on_err (Err e) p = p
