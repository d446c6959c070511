-- Names that differ, and lists whose parts differ by their names.
use Rattle.std.proofs.Common.{◌≡◌, ℕ, suc, Bool, true, false, List, [], ◌∷◌, ◌++◌, map, cond, Option, Some, None, refl, ap, sym, ◌∙◌, subst, inl, inr, arith}
use Rattle.std.specs.Prelude.{filter}
use Rattle.std.specs.List.{AllByRecursion, filter_map, cons_option}
use Rattle.pgo_base.specs.Data.{Data}
use Rattle.pgo_base.specs.Lookup.{Name, same_name}
use Rattle.pgo_base.specs.declared.module.Defined.{Defined}
use Rattle.pgo_model.specs.Machine.{nth}
use Rattle.pgo_model.specs.Names.{same_name-self, same_name-not}
use Rattle.pgo_syntax.specs.declared.archetype.Archetype.{Archetype}
use Rattle.pgo_syntax.specs.declared.process.Process.{Process}
use Rattle.pgo_syntax.specs.declared.spec.Spec.{Spec}
use Rattle.pgo_bound.specs.Runs.{Run, archetype_named, run_with, run_of, runs_of, run_ids, all_ids}
use Rattle.pgo_bound.specs.BoundOf.{numbered, places_of, instance_at, instances_of}
use Rattle.pgo_bound.specs.State.{AreDifferent, id_of}
use Rattle.pgo_bound.specs.Among.{IsAmong, among_map, from_filter_map, all_at, turned, mapped_some, nth_among}
use Rattle.pgo_bound.specs.Lookups.{data_from}
use Rattle.pgo_bound.specs.Once.{id_in, ids_of_places}

pub all_from : {A : Type 0} (P : A → Type 0) (xs : List A) → ((x : A) → IsAmong x xs → P x) → AllByRecursion P xs
all_from P [] f = tt
all_from P (x ∷ xs) f = (f x (inl refl), all_from P xs (λ y h. f y (inr h)))

-- names that the test tells apart are two
pub not_one : (x y : Name) → same_name x y ≡ false → x ≡ y → ⊥
not_one x y h e = let s : same_name x y ≡ true = ap (same_name x) (sym e) ∙ same_name-self x in cc

pub different_left : (xs ys : List Name) → AreDifferent (xs ++ ys) → AreDifferent xs
different_left [] ys d = tt
different_left (x ∷ xs) ys d = (left xs d.0, different_left xs ys d.1)
  where
    left : (zs : List Name) → AllByRecursion (λ y. same_name x y ≡ false) (zs ++ ys) → AllByRecursion (λ y. same_name x y ≡ false) zs
    left [] a = tt
    left (z ∷ zs) a = (a.0, left zs a.1)

-- a name of the left list is none of the right one
pub different_apart : (xs ys : List Name) (x y : Name) → AreDifferent (xs ++ ys) → IsAmong x xs → IsAmong y ys → x ≡ y → ⊥
different_apart [] ys x y d h g e = h
different_apart (z ∷ zs) ys x y d (inl q) g e = not_one z y (all_at (λ w. same_name z w ≡ false) y (zs ++ ys) d.0 (right zs)) (sym q ∙ e)
  where
    right : (ws : List Name) → IsAmong y (ws ++ ys)
    right [] = g
    right (w ∷ ws) = inr (right ws)
different_apart (z ∷ zs) ys x y d (inr h) g e = different_apart zs ys x y d.1 h g e

abbrev pub process_name : Run → Name
process_name r = r.process.name.name

abbrev Differ : List Process → Type 0
Differ ps = (n m : ℕ) (p q : Process) → nth ps n ≡ Some p → nth ps m ≡ Some q → p.name.name ≡ q.name.name → n ≡ m

zero_suc : (n : ℕ) → 0 ≡ suc n → ⊥
zero_suc n h = omega (arith, h)

suc_same : (n m : ℕ) → suc n ≡ suc m → n ≡ m
suc_same n m h = omega (arith, h)

run_apart : (s : Spec) (ds : List Defined) (p : Process) (ps : List Process) → Differ (p ∷ ps) → (r : Run) → IsAmong r (filter_map (run_of s ds) ps) → same_name p.name.name (process_name r) ≡ false
run_apart s ds p ps f r h =
    let o = from_filter_map (run_of s ds) r ps h in
    let m = mapped_some (run_with ds o.0) (archetype_named o.0.archetype.name s.archetypes) r o.2 in
    let k = nth_among o.0 ps o.1 in
    same_name-not p.name.name (process_name r) (λ e. zero_suc k.0 (f 0 (suc k.0) p o.0 refl k.1 (e ∙ ap process_name m.2)))

runs_of_different : (s : Spec) (ds : List Defined) (ps : List Process) → Differ ps → AreDifferent (map process_name (filter_map (run_of s ds) ps))
runs_of_different s ds [] f = tt
runs_of_different s ds (p ∷ ps) f = go (archetype_named p.archetype.name s.archetypes) (runs_of_different s ds ps (λ n m a b h g e. suc_same n m (f (suc n) (suc m) a b h g e)))
  where
    names_apart : (rs : List Run) → ((r : Run) → IsAmong r rs → same_name p.name.name (process_name r) ≡ false) → AllByRecursion (λ y. same_name p.name.name y ≡ false) (map process_name rs)
    names_apart [] g = tt
    names_apart (r ∷ rs) g = (g r (inl refl), names_apart rs (λ q h. g q (inr h)))

    go : (o : Option Archetype) → AreDifferent (map process_name (filter_map (run_of s ds) ps)) → AreDifferent (map process_name (cons_option (elim o as (λ x. Option Run) [ None ↦ None | Some a ↦ Some (run_with ds p a) ]) (filter_map (run_of s ds) ps)))
    go None i = i
    go (Some a) i = (names_apart (filter_map (run_of s ds) ps) (λ r h. run_apart s ds p ps f r h), i)

-- processes that run have names that differ
pub runs_different : (s : Spec) (ds : List Defined) → Differ s.processes → AreDifferent (map process_name (runs_of s ds))
runs_different s ds f = runs_of_different s ds s.processes f

abbrev is_of : Name → Run × Data → Bool
is_of x z = same_name x z.0.process.name.name

ids_by_name : (s : Spec) (x : Name) (n : ℕ) (zs : List (Run × Data)) → map id_of (filter (λ i. same_name x i.process) (numbered (instance_at s) n zs)) ≡ map id_in (filter (is_of x) zs)
ids_by_name s x n [] = refl
ids_by_name s x n (z ∷ zs) = go (same_name x z.0.process.name.name) (ids_by_name s x (suc n) zs)
  where
    go : (b : Bool) → map id_of (filter (λ i. same_name x i.process) (numbered (instance_at s) (suc n) zs)) ≡ map id_in (filter (is_of x) zs)
        → map id_of (cond b (instance_at s n z ∷ filter (λ i. same_name x i.process) (numbered (instance_at s) (suc n) zs)) (filter (λ i. same_name x i.process) (numbered (instance_at s) (suc n) zs))) ≡ map id_in (cond b (z ∷ filter (is_of x) zs) (filter (is_of x) zs))
    go true i = λ j. data_from z.1 j ∷ i j
    go false i = i

ids_here : (x : Name) (r : Run) (ids : List Data) (zs : List (Run × Data)) → same_name x (process_name r) ≡ true → map id_in (filter (is_of x) (map (λ id. (r, id)) ids ++ zs)) ≡ ids ++ map id_in (filter (is_of x) zs)
ids_here x r [] zs h = refl
ids_here x r (d ∷ ds) zs h =
    ap (λ b. map id_in (cond b ((r, d) ∷ filter (is_of x) (map (λ id. (r, id)) ds ++ zs)) (filter (is_of x) (map (λ id. (r, id)) ds ++ zs)))) h
    ∙ ap (λ is. d ∷ is) (ids_here x r ds zs h)

ids_elsewhere : (x : Name) (r : Run) (ids : List Data) (zs : List (Run × Data)) → same_name x (process_name r) ≡ false → map id_in (filter (is_of x) (map (λ id. (r, id)) ids ++ zs)) ≡ map id_in (filter (is_of x) zs)
ids_elsewhere x r [] zs h = refl
ids_elsewhere x r (d ∷ ds) zs h =
    ap (λ b. map id_in (cond b ((r, d) ∷ filter (is_of x) (map (λ id. (r, id)) ds ++ zs)) (filter (is_of x) (map (λ id. (r, id)) ds ++ zs)))) h
    ∙ ids_elsewhere x r ds zs h

no_ids : (x : Name) (rs : List Run) → AllByRecursion (λ y. same_name x y ≡ false) (map process_name rs) → map id_in (filter (is_of x) (places_of rs)) ≡ []
no_ids x [] a = refl
no_ids x (r ∷ rs) a = ids_elsewhere x r (run_ids r) (places_of rs) a.0 ∙ no_ids x rs a.1

append_nil : {A : Type 0} (xs ys : List A) → ys ≡ [] → xs ++ ys ≡ xs
append_nil [] ys h = h
append_nil (x ∷ xs) ys h = ap (λ zs. x ∷ zs) (append_nil xs ys h)

ids_of_name : (r : Run) (rs : List Run) → AreDifferent (map process_name rs) → IsAmong r rs → map id_in (filter (is_of (process_name r)) (places_of rs)) ≡ run_ids r
ids_of_name r [] d h = absurd h
ids_of_name r (q ∷ qs) d (inl e) =
    let x = process_name r in
    let same : process_name q ≡ process_name r = ap process_name (sym e) in
    ids_here x q (run_ids q) (places_of qs) (ap (same_name x) same ∙ same_name-self x)
    ∙ append_nil (run_ids q) _ (no_ids x qs (subst (λ y. AllByRecursion (λ z. same_name y z ≡ false) (map process_name qs)) same d.0))
    ∙ ap run_ids (sym e)
ids_of_name r (q ∷ qs) d (inr h) =
    let apart = all_at (λ y. same_name (process_name q) y ≡ false) (process_name r) (map process_name qs) d.0 (among_map process_name r qs h) in
    ids_elsewhere (process_name r) q (run_ids q) (places_of qs) (turned (process_name q) (process_name r) apart)
    ∙ ids_of_name r qs d.1 h

-- the instances of a process are at its identifiers
pub instances_of_process : (s : Spec) (rs : List Run) (r : Run) → AreDifferent (map process_name rs) → IsAmong r rs → map id_of (filter (λ i. same_name (process_name r) i.process) (instances_of s rs)) ≡ run_ids r
instances_of_process s rs r d h = ids_by_name s (process_name r) 0 (places_of rs) ∙ ids_of_name r rs d h

ids_of_all : (s : Spec) (n : ℕ) (zs : List (Run × Data)) → map id_of (numbered (instance_at s) n zs) ≡ map id_in zs
ids_of_all s n [] = refl
ids_of_all s n (z ∷ zs) = λ i. data_from z.1 i ∷ ids_of_all s (suc n) zs i

pub ids_of_instances : (s : Spec) (rs : List Run) → map id_of (instances_of s rs) ≡ all_ids rs
ids_of_instances s rs = ids_of_all s 0 (places_of rs) ∙ ids_of_places rs
