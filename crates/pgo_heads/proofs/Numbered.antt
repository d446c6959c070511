-- Lists whose items are numbered, and what is left of a list.
use Rattle.std.proofs.Common.{◌≡◌, ℕ, suc, ◌+◌, ◌<◌, List, [], ◌∷◌, ◌++◌, length, map, get_or, drop, refl, ap, sym, ◌∙◌, append_assoc, arith, add-one, drop-cons, length-append}
use Rattle.std.proofs.lemmas.List.{length-map}
use Rattle.pgo_base.specs.Data.{Data}
use Rattle.pgo_syntax.specs.declared.spec.Spec.{Spec}
use Rattle.pgo_bound.specs.Runs.{Run, bindings_of, run_ids, all_ids}
use Rattle.pgo_bound.specs.BoundOf.{numbered, instance_at, instance_with, places_of, places_of_run}

-- an item is before what is left behind it
pub drop_step : {A : Type 0} (xs : List A) (i : ℕ) (x : A) → i < length xs → x ≡ get_or xs i x → drop i xs ≡ x ∷ drop (i + 1) xs
drop_step xs i x h e = rw (add-one, drop-cons xs i x, ← e)

pub numbered-append : {A B : Type 0} (f : ℕ → A → B) (n : ℕ) (xs ys : List A) → numbered f n (xs ++ ys) ≡ numbered f n xs ++ numbered f (n + length xs) ys
numbered-append f n [] ys = ap (λ k. numbered f k ys) (let e : n ≡ n + 0 = omega arith in e)
numbered-append f n (x ∷ xs) ys =
    ap (λ zs. f n x ∷ zs) (numbered-append f (suc n) xs ys ∙ ap (λ k. numbered f (suc n) xs ++ numbered f k ys) (let e : suc n + length xs ≡ n + suc (length xs) = omega arith in e))

pub length-numbered : {A B : Type 0} (f : ℕ → A → B) (n : ℕ) (xs : List A) → length (numbered f n xs) ≡ length xs
length-numbered f n [] = refl
length-numbered f n (x ∷ xs) = ap suc (length-numbered f (suc n) xs)

-- some items more are numbered
pub numbered_more : {A B : Type 0} (f : ℕ → A → B) (done new all : List B) (xs ys : List A) → all ≡ done ++ numbered f (length done) (xs ++ ys) → new ≡ done ++ numbered f (length done) xs → all ≡ new ++ numbered f (length new) ys
numbered_more f done new all xs ys h e =
    let n : length done + length xs ≡ length new = sym (ap length e ∙ length-append done (numbered f (length done) xs) ∙ ap (λ k. length done + k) (length-numbered f (length done) xs)) in
    h ∙ ap (λ zs. done ++ zs) (numbered-append f (length done) xs ys) ∙ sym (append_assoc done (numbered f (length done) xs) (numbered f (length done + length xs) ys))
    ∙ (λ i. sym e i ++ numbered f (n i) ys)

-- the bindings of a process are made once
pub numbered_at : (s : Spec) (r : Run) (n : ℕ) (ds : List Data) → numbered (instance_with (bindings_of s r)) n (map (λ d. (r, d)) ds) ≡ numbered (instance_at s) n (map (λ d. (r, d)) ds)
numbered_at s r n [] = refl
numbered_at s r n (d ∷ ds) = ap (λ is. instance_at s n (r, d) ∷ is) (numbered_at s r (suc n) ds)

-- there are as many instances as identifiers
pub length_places : (rs : List Run) → length (places_of rs) ≡ length (all_ids rs)
length_places [] = refl
length_places (r ∷ rs) =
    length-append (places_of_run r) (places_of rs)
    ∙ (λ i. length-map {B = Run × Data} (run_ids r) (λ id. (r, id)) i + length_places rs i)
    ∙ sym (length-append (run_ids r) (all_ids rs))
