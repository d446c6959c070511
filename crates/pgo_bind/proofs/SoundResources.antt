-- The resources of a bound system differ, are of globals, and are at the indices of element-bound globals.
use Rattle.std.proofs.Common.{◌≡◌, ◌⊎◌, ℕ, zero, suc, false, List, [], ◌∷◌, ◌++◌, map, Option, Some, None, refl, ap, sym, ◌∙◌, subst, inl, inr}
use Rattle.std.specs.declared.cmp.Ordering.TheVariants.{Less}
use Rattle.std.specs.List.{AllByRecursion, flat_map}
use Rattle.std.specs.List.Sorted.{IsStrictlySortedBy}
use Rattle.std.proofs.lemmas.Option.{same_Some}
use Rattle.pgo_base.specs.Data.{Data, boolean, integer, string, model, set, function, Pairs, graph, keys}
use Rattle.pgo_base.specs.Exact.{data_itself}
use Rattle.pgo_base.specs.Lookup.{Name, Vars, same_name, find}
use Rattle.pgo_base.specs.Order.{data_cmp}
use Rattle.pgo_base.specs.Sets.{IsSorted}
use Rattle.pgo_base.specs.declared.module.Defined.{Defined}
use Rattle.pgo_model.specs.Machine.{nth}
use Rattle.pgo_model.specs.State.{AllValues}
use Rattle.pgo_model.specs.Value.{IsValue}
use Rattle.pgo_model.specs.Written.{pc, written}
use Rattle.pgo_syntax.specs.declared.bound.Resource.{Resource}
use Rattle.pgo_syntax.specs.declared.declaration.Declaration.{Declaration}
use Rattle.pgo_syntax.specs.declared.spec.Spec.{Spec}
use Rattle.pgo_bound.specs.declared.kinds.Kind.{Kind}
use Rattle.pgo_bound.specs.declared.kinds.Kind.TheVariants.{Unbound, AsWhole, ByElement}
use Rattle.pgo_bound.specs.Values.{Start, beginning}
use Rattle.pgo_bound.specs.Runs.{Run, runs_of}
use Rattle.pgo_bound.specs.BoundOf.{GlobalStart, global_of, globals_of, global_value, first_places, locals_of, start_of, numbered, indices, elements_of, parts_with, parts_of, all_parts, resource_at, resources_of, bound_by}
use Rattle.pgo_bound.specs.State.{AreDifferent, kind_in, own_names}
use Rattle.pgo_bound.specs.Sound.{WellNamed, index_in, IsIndex, HasDomain, IsGlobal}
use Rattle.pgo_bound.specs.Among.{IsAmong, among_nth, among_map, among_left, among_flat_map, from_map, from_flat_map, all_at, nth_from, nth_among, value_at_name}
use Rattle.pgo_bound.specs.Different.{all_from, not_one, different_left, different_apart}
use Rattle.pgo_bound.specs.Lookups.{data_from}
use Rattle.pgo_bound.specs.Once.{StandOnce}
use Rattle.pgo_heads.specs.Refusals.{heads_refused}
use Rattle.pgo_bind.proofs.Declared.{at_global}
use Rattle.pgo_bind.proofs.ElementStarts.{by_element_there, global_name}
use Rattle.pgo_bind.proofs.SoundStart.{elements_are, globals_different}

abbrev Part : Type 0
Part = Name × Option Data

-- two parts of one global have indices that differ
abbrev Apart : Part → Part → Type 0
Apart p q = p.0 ≡ q.0 → (v w : Data) × (p.1 ≡ Some v) × (q.1 ≡ Some w) × (v ≡ w → ⊥)

abbrev AreApart : List Part → Type 0
AreApart [] = Unit {0}
AreApart (p ∷ ps) = AllByRecursion (Apart p) ps × AreApart ps

apart_back : (p q : Part) → Apart p q → Apart q p
apart_back p q h e = let r = h (sym e) in (r.1, r.0, r.3, r.2, λ g. r.4 (sym g))

all_joined : {A : Type 0} (P : A → Type 0) (xs ys : List A) → AllByRecursion P xs → AllByRecursion P ys → AllByRecursion P (xs ++ ys)
all_joined P [] ys a b = b
all_joined P (x ∷ xs) ys a b = (a.0, all_joined P xs ys a.1 b)

apart_joined : (ps qs : List Part) → AreApart ps → AreApart qs → ((p q : Part) → IsAmong p ps → IsAmong q qs → Apart p q) → AreApart (ps ++ qs)
apart_joined [] qs a b f = b
apart_joined (p ∷ ps) qs a b f =
    (all_joined (Apart p) ps qs a.0 (all_from (Apart p) qs (λ q h. f p q (inl refl) h)), apart_joined ps qs a.1 b (λ x q h g. f x q (inr h) g))

at_places : (ps : List Part) (n m : ℕ) (p q : Part) → AreApart ps → nth ps n ≡ Some p → nth ps m ≡ Some q → (n ≡ m) ⊎ Apart p q
at_places [] n m p q a h g = absurd (cc)
at_places (x ∷ xs) zero zero p q a h g = inl refl
at_places (x ∷ xs) zero (suc m) p q a h g = inr (subst (λ y. Apart y q) (same_Some x p h) (all_at (Apart x) q xs a.0 (among_nth q xs m g)))
at_places (x ∷ xs) (suc n) zero p q a h g = inr (apart_back q p (subst (λ y. Apart y p) (same_Some x q g) (all_at (Apart x) p xs a.0 (among_nth p xs n h))))
at_places (x ∷ xs) (suc n) (suc m) p q a h g = go (at_places xs n m p q a.1 h g)
  where
    go : (n ≡ m) ⊎ Apart p q → (suc n ≡ suc m) ⊎ Apart p q
    go (inl e) = inl (ap suc e)
    go (inr d) = inr d

elements_apart : (g : Name) (is : List Data) → StandOnce is → AreApart (elements_of g is)
elements_apart g [] s = tt
elements_apart g (i ∷ is) s = (all_from (Apart (g, Some i)) (elements_of g is) (λ p h. other p h), elements_apart g is s.1)
  where
    other : (p : Part) → IsAmong p (elements_of g is) → Apart (g, Some i) p
    other p h e =
        let o = from_map (λ j. (g, Some j)) p is h in
        (i, o.0, refl, ap (λ (q : Part). q.1) o.2, λ k. s.0 (subst (λ j. IsAmong j is) (sym k) o.1))

parts_apart : (g : Name) (k : Kind) (st : Start) → StandOnce (indices (beginning st)) → AreApart (parts_with g k st)
parts_apart g Unbound st s = tt
parts_apart g AsWhole st s = (tt, tt)
parts_apart g ByElement st s = elements_apart g (indices (beginning st)) s

part_name : (g : Name) (k : Kind) (st : Start) (p : Part) → IsAmong p (parts_with g k st) → p.0 ≡ g
part_name g Unbound st p h = absurd h
part_name g AsWhole st p (inl e) = ap (λ (q : Part). q.0) e
part_name g AsWhole st p (inr h) = absurd h
part_name g ByElement st p h = let o = from_map (λ i. (g, Some i)) p (indices (beginning st)) h in ap (λ (q : Part). q.0) o.2

-- a part with an index is an element
part_index : (g : Name) (k : Kind) (st : Start) (p : Part) (i : Data) → IsAmong p (parts_with g k st) → p.1 ≡ Some i → (k ≡ ByElement) × IsAmong i (indices (beginning st))
part_index g Unbound st p i h e = absurd h
part_index g AsWhole st p i (inl q) e = absurd (let z : None ≡ Some i = sym (ap (λ (r : Part). r.1) q) ∙ e in cc)
part_index g AsWhole st p i (inr h) e = absurd h
part_index g ByElement st p i h e =
    let o = from_map (λ j. (g, Some j)) p (indices (beginning st)) h in
    let same : o.0 ≡ i = same_Some o.0 i (sym (ap (λ (r : Part). r.1) o.2) ∙ e) in
    (refl, subst (λ j. IsAmong j (indices (beginning st))) same o.1)

parts_all_apart : (gs : List GlobalStart) → AreDifferent (map global_name gs) → ((g : GlobalStart) → IsAmong g gs → StandOnce (indices (beginning g.start))) → AreApart (all_parts gs)
parts_all_apart [] d f = tt
parts_all_apart (g ∷ gs) d f =
    apart_joined (parts_of g) (all_parts gs)
    (parts_apart (global_name g) g.kind g.start (f g (inl refl)))
    (parts_all_apart gs d.1 (λ x h. f x (inr h)))
    (λ p q h k e. absurd (other p q h k e))
  where
    other : (p q : Part) → IsAmong p (parts_of g) → IsAmong q (all_parts gs) → p.0 ≡ q.0 → ⊥
    other p q h k e =
        let o = from_flat_map parts_of q gs k in
        let x = part_name (global_name g) g.kind g.start p h in
        let y = part_name (global_name o.0) o.0.kind o.0.start q o.2 in
        not_one (global_name g) (global_name o.0) (all_at (λ z. same_name (global_name g) z ≡ false) (global_name o.0) (map global_name gs) d.0 (among_map global_name o.0 gs o.1)) (sym x ∙ e ∙ y)

sorted_once : (xs : List Data) → IsSorted xs → StandOnce xs
unfolding IsStrictlySortedBy
sorted_once [] s = tt
sorted_once (x ∷ xs) s = ((λ h. let l = all_at (λ y. data_cmp x y ≡ Less) x xs s.0 h in let i = data_itself x in cc), sorted_once xs s.1)

indices_once : (v : Data) → IsValue v → StandOnce (indices v)
indices_once (function ps) h = sorted_once (keys (graph ps)) h.1
indices_once (boolean b) h = tt
indices_once (integer z) h = tt
indices_once (string t) h = tt
indices_once (model t) h = tt
indices_once (set xs) h = tt

global_in_start : (ds : List Defined) (rs : List Run) (gs : List GlobalStart) (g : GlobalStart) → IsAmong g gs → IsAmong (global_value g) (start_of ds rs gs)
global_in_start ds rs gs g a =
    among_left (global_value g) (map global_value gs ++ ((pc, first_places rs) ∷ [])) (flat_map (locals_of ds) rs) (among_left (global_value g) (map global_value gs) ((pc, first_places rs) ∷ []) (among_map global_value g gs a))

index_back : (n : ℕ) (p : Part) → index_in (resource_at n p) ≡ p.1
index_back n p = go p.0 p.1
  where
    go : (g : Name) (o : Option Data) → index_in (resource_at n (g, o)) ≡ o
    go g None = refl
    go g (Some v) = ap Some (data_from v)

nth_numbered : {A B : Type 0} (f : ℕ → A → B) (k n : ℕ) (xs : List A) (x : A) → nth xs n ≡ Some x → (m : ℕ) × (nth (numbered f k xs) n ≡ Some (f m x))
nth_numbered f k n [] x h = absurd (cc)
nth_numbered f k zero (y ∷ ys) x h = (k, ap (λ z. Some (f k z)) (same_Some y x h))
nth_numbered f k (suc n) (y ∷ ys) x h = nth_numbered f (suc k) n ys x h

function_from : (v i : Data) → IsAmong i (indices v) → (ps : Pairs) × (v ≡ function ps)
function_from (function ps) i h = (ps, refl)
function_from (boolean b) i h = absurd h
function_from (integer z) i h = absurd h
function_from (string t) i h = absurd h
function_from (model t) i h = absurd h
function_from (set xs) i h = absurd h

module _ (s : Spec) (ds : List Defined) (w : WellNamed s) (h : heads_refused s.archetypes ds (runs_of s ds) (globals_of s ds (runs_of s ds)) ≡ None) where
  abbrev rs : List Run
  rs = runs_of s ds

  abbrev gs : List GlobalStart
  gs = globals_of s ds rs

  abbrev start : Vars
  start = start_of ds rs gs

  pub differ : AllValues start → (n m : ℕ) (q r : Resource) → nth (resources_of gs) n ≡ Some q → nth (resources_of gs) m ≡ Some r → q.global ≡ r.global → (n ≡ m) ⊎ ((v x : Data) × (index_in q ≡ Some v) × (index_in r ≡ Some x) × (v ≡ x → ⊥))
  differ v n m q r a b e =
      let o = nth_from resource_at 0 n (all_parts gs) q a in
      let p = nth_from resource_at 0 m (all_parts gs) r b in
      let once : (g : GlobalStart) → IsAmong g gs → StandOnce (indices (beginning g.start)) = λ g k. indices_once (beginning g.start) (value_at_name start (global_value g) v (global_in_start ds rs gs g k)) in
      let names : o.0.0 ≡ p.0.0 = sym (ap (λ x. x.global) o.2.2) ∙ e ∙ ap (λ x. x.global) p.2.2 in
      let left : index_in q ≡ o.0.1 = ap index_in o.2.2 ∙ index_back o.2.0 o.0 in
      let right : index_in r ≡ p.0.1 = ap index_in p.2.2 ∙ index_back p.2.0 p.0 in
      go o.0 p.0 names left right (at_places (all_parts gs) n m o.0 p.0 (parts_all_apart gs (globals_different s ds w) once) o.1 p.1)
    where
      go : (x y : Part) → x.0 ≡ y.0 → index_in q ≡ x.1 → index_in r ≡ y.1 → (n ≡ m) ⊎ Apart x y → (n ≡ m) ⊎ ((c d : Data) × (index_in q ≡ Some c) × (index_in r ≡ Some d) × (c ≡ d → ⊥))
      go x y k l t (inl u) = inl u
      go x y k l t (inr u) = let z = u k in inr (z.0, z.1, l ∙ z.2, t ∙ z.3, z.4)

  -- where a part comes from
  part_global : (p : Part) → IsAmong p (all_parts gs) → (d : Declaration) × IsAmong d s.globals × IsAmong p (parts_of (global_of ds rs d))
  part_global p a =
      let o = from_flat_map parts_of p gs a in
      let d = from_map (global_of ds rs) o.0 s.globals o.1 in
      (d.0, d.1, subst (λ g. IsAmong p (parts_of g)) d.2 o.2)

  declared_global : (d : Declaration) → IsAmong d s.globals → IsGlobal (bound_by s ds rs) d.name.name
  declared_global d a =
      let names = map (λ c. c.name.name) s.globals in
      let own = flat_map (λ p. map (written p.name.name) (own_names s p)) s.processes in
      let k = nth_among d s.globals a in
      let there = among_map (λ c. c.name.name) d s.globals a in (
        (k.0, d, k.1, refl),
        λ e. different_apart names (pc ∷ []) d.name.name pc (different_left (names ++ (pc ∷ [])) own w.variables_differ) there (inl refl) e,
        λ n m p x q l e. different_apart (names ++ (pc ∷ [])) own d.name.name (written p.name.name x) w.variables_differ (among_left d.name.name names (pc ∷ []) there)
            (among_flat_map (λ c. map (written c.name.name) (own_names s c)) p (written p.name.name x) s.processes (among_nth p s.processes n q) (among_map (written p.name.name) x (own_names s p) (among_nth x (own_names s p) m l))) e,
      )

  pub are_global : (n : ℕ) (r : Resource) → nth (resources_of gs) n ≡ Some r → IsGlobal (bound_by s ds rs) r.global
  are_global n r q =
      let o = nth_from resource_at 0 n (all_parts gs) r q in
      let d = part_global o.0 (among_nth o.0 (all_parts gs) n o.1) in
      let g = global_of ds rs d.0 in
      let same : r.global ≡ d.0.name.name = ap (λ x. x.global) o.2.2 ∙ part_name (global_name g) g.kind g.start o.0 d.2 in
      subst (IsGlobal (bound_by s ds rs)) (sym same) (declared_global d.0 d.1)

  -- an index of a global by element has a resource
  index_there : (d : Declaration) (v : Data) → IsAmong d s.globals → (global_of ds rs d).kind ≡ ByElement → IsAmong v (indices (beginning (global_of ds rs d).start)) → IsIndex (bound_by s ds rs) d.name.name v
  index_there d v a k i =
      let g = global_of ds rs d in
      let own : IsAmong (d.name.name, Some v) (parts_of g) =
      subst (λ c. IsAmong (d.name.name, Some v) (parts_with d.name.name c g.start)) (sym k) (among_map (λ j. (d.name.name, Some j)) v (indices (beginning g.start)) i) in
      let there = among_flat_map parts_of g (d.name.name, Some v) gs (among_map (global_of ds rs) d s.globals a) own in
      let n = nth_among (d.name.name, Some v) (all_parts gs) there in
      let m = nth_numbered resource_at 0 n.0 (all_parts gs) (d.name.name, Some v) n.1 in
      (n.0, resource_at m.0 (d.name.name, Some v), m.1, refl, index_back m.0 (d.name.name, Some v))

  -- what has an index is by element
  element_at : (n : ℕ) (r : Resource) (i : Data) → nth (resources_of gs) n ≡ Some r → index_in r ≡ Some i
      → (d : Declaration) × IsAmong d s.globals × (r.global ≡ d.name.name) × ((global_of ds rs d).kind ≡ ByElement) × IsAmong i (indices (beginning (global_of ds rs d).start))
  element_at n r i q e =
      let o = nth_from resource_at 0 n (all_parts gs) r q in
      let d = part_global o.0 (among_nth o.0 (all_parts gs) n o.1) in
      let g = global_of ds rs d.0 in
      let same : r.global ≡ d.0.name.name = ap (λ x. x.global) o.2.2 ∙ part_name (global_name g) g.kind g.start o.0 d.2 in
      let x = part_index (global_name g) g.kind g.start o.0 i d.2 (sym (ap index_in o.2.2 ∙ index_back o.2.0 o.0) ∙ e) in
      (d.0, d.1, same, x.0, x.1)

  -- an index of a resource is one of the global's function
  index_from : (d : Declaration) (v : Data) → IsAmong d s.globals → IsIndex (bound_by s ds rs) d.name.name v → IsAmong v (indices (beginning (global_of ds rs d).start))
  index_from d v a x =
      let c = element_at x.0 x.1 v x.2 x.4 in
      let same : c.0.name.name ≡ d.name.name = sym c.2 ∙ x.3 in
      let starts : beginning (global_of ds rs c.0).start ≡ beginning (global_of ds rs d).start =
      same_Some (beginning (global_of ds rs c.0).start) (beginning (global_of ds rs d).start) (sym (at_global s ds w h c.0 c.1) ∙ ap (λ y. find y start) same ∙ at_global s ds w h d a) in
      subst (λ y. IsAmong v (indices y)) starts c.4

  -- a global by element that starts as a function has its resources at the function's domain
  at_function : (d : Declaration) (ps : Pairs) → IsAmong d s.globals → (global_of ds rs d).kind ≡ ByElement → beginning (global_of ds rs d).start ≡ function ps → HasDomain (bound_by s ds rs) start d.name.name
  at_function d ps a k f = (
    ps,
    at_global s ds w h d a ∙ ap Some f,
    λ m v e. index_there d v a k (subst (λ y. IsAmong v (indices y)) (sym f) (among_nth v (keys (graph ps)) m e)),
    λ v x. nth_among v (keys (graph ps)) (subst (λ y. IsAmong v (indices y)) f (index_from d v a x)),
  )

  -- an element-bound global has its resources at its domain, also where it has none
  pub element_domain : (n : ℕ) (d : Declaration) → nth s.globals n ≡ Some d → kind_in (bound_by s ds rs) d.name.name ≡ ByElement → HasDomain (bound_by s ds rs) start d.name.name
  element_domain n d q k =
      let a = among_nth d s.globals n q in
      let o = elements_are s ds w h n d q k in
      at_function d o.0 a (by_element_there s rs d.name.name k) (same_Some (beginning (global_of ds rs d).start) (function o.0) (sym (at_global s ds w h d a) ∙ o.1))

  pub has_domain : (n : ℕ) (r : Resource) (i : Data) → nth (resources_of gs) n ≡ Some r → index_in r ≡ Some i → HasDomain (bound_by s ds rs) start r.global
  has_domain n r i q e =
      let o = element_at n r i q e in
      let f = function_from (beginning (global_of ds rs o.0).start) i o.4 in
      subst (HasDomain (bound_by s ds rs) start) (sym o.2) (at_function o.0 f.0 o.1 o.3 f.1)
