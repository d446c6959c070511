-- What belongs to an instance belongs to its process alone, so it is no more than that has.
use Rattle.std.proofs.Common.{◌≡◌, ◌≤◌, ◌+◌, ℕ, suc, Bool, true, false, if◌then◌else◌, List, [], ◌∷◌, ◌++◌, map, length, Option, Some, None, inl, inr, refl, ap, sym, ◌∙◌, arith}
use Rattle.std.proofs.Common.{length-append}
use Rattle.std.specs.List.{AllByRecursion, cons_option, filter_map, flat_map}
use Rattle.std.specs.Prelude.{filter}
use Rattle.std.proofs.lemmas.Option.{same_Some}
use Rattle.std.proofs.lemmas.List.{length-map}
use Rattle.pgo_base.specs.Data.{Data}
use Rattle.pgo_base.specs.Lookup.{Name, same_name}
use Rattle.pgo_model.specs.Log as log
use Rattle.pgo_model.specs.Machine.{nth}
use Rattle.pgo_model.specs.Names.{same_name-is, same_name-self}
use Rattle.pgo_model.specs.Operators.{contains, same_data}
use Rattle.pgo_model.specs.System.{Owned}
use Rattle.pgo_syntax.specs.declared.bound.Bound.{Bound}
use Rattle.pgo_syntax.specs.declared.bound.Instance.{Instance}
use Rattle.pgo_syntax.specs.declared.archetype.Archetype.{Archetype}
use Rattle.pgo_syntax.specs.declared.archetype.Parameter.{Parameter}
use Rattle.pgo_syntax.specs.declared.process.Argument.{Argument}
use Rattle.pgo_syntax.specs.declared.process.Process.{Process}
use Rattle.pgo_syntax.specs.declared.spec.Spec.{Spec}
use Rattle.pgo_bound.specs.Among.{IsAmong, all_at, among_map, from_map, nth_among}
use Rattle.pgo_bound.specs.Instances.{archetype_among}
use Rattle.pgo_bound.specs.Lookups.{same_of}
use Rattle.pgo_bound.specs.Runs.{Handed, archetype_named, handed_from}
use Rattle.pgo_bound.specs.Sound.{IsNumbered}
use Rattle.pgo_bound.specs.State.{AreDifferent, id_of, names_or_none, own_names, value_name}
use Rattle.pgo_meaning.specs.System.{ids_of, owned, owned_by}
use Rattle.pgo_agrees.proofs.Places.{from_filter}

contains_among : (v : Data) (xs : List Data) → contains v xs ≡ true → IsAmong v xs
contains_among v [] h = absurd (let z : false ≡ true = h in grind (arith, z))
contains_among v (x ∷ xs) h = go (same_data v x) refl h (contains_among v xs)
  where
    go : (b : Bool) → same_data v x ≡ b → (if b then true else contains v xs) ≡ true → (contains v xs ≡ true → IsAmong v xs) → IsAmong v (x ∷ xs)
    go true e k more = inl (same_of v x e)
    go false e k more = inr (more k)

names_append : (id : Data) (xs ys : List Owned) → length (log.own_names id (xs ++ ys)) ≡ length (log.own_names id xs) + length (log.own_names id ys)
names_append id [] ys = omega arith
names_append id (o ∷ xs) ys = go (contains id o.ids) (names_append id xs ys)
  where
    go : (b : Bool) → length (log.own_names id (xs ++ ys)) ≡ length (log.own_names id xs) + length (log.own_names id ys)
        → length (if b then o.variable ∷ log.own_names id (xs ++ ys) else log.own_names id (xs ++ ys)) ≡ length (if b then o.variable ∷ log.own_names id xs else log.own_names id xs) + length (log.own_names id ys)
    go true e = omega (arith, e)
    go false e = e

module _ (b : Bound) (numbered : IsNumbered b) (k : ℕ) (i : Instance) (at_k : nth b.instances k ≡ Some i) where
  abbrev block : Process → List Name → ℕ
  block p xs = length (log.own_names (id_of i) (map (owned b p) xs))

  -- those of a process that has the identifier, and of one that hasn't
  block_few : (p : Process) (xs : List Name) → block p xs ≤ length xs
  block_few p [] = omega arith
  block_few p (x ∷ xs) = go (contains (id_of i) (ids_of b p)) (block_few p xs)
    where
      go : (t : Bool) → block p xs ≤ length xs → length (if t then (owned b p x).variable ∷ log.own_names (id_of i) (map (owned b p) xs) else log.own_names (id_of i) (map (owned b p) xs)) ≤ length (x ∷ xs)
      go true n = omega (arith, n)
      go false n = omega (arith, n)

  block_none : (p : Process) → contains (id_of i) (ids_of b p) ≡ false → (xs : List Name) → block p xs ≡ 0
  block_none p h [] = refl
  block_none p h (x ∷ xs) =
      ap (λ t. length (if t then (owned b p x).variable ∷ log.own_names (id_of i) (map (owned b p) xs) else log.own_names (id_of i) (map (owned b p) xs))) h ∙ block_none p h xs

  -- the instance is of the process that has its identifier
  of_process : (p : Process) → contains (id_of i) (ids_of b p) ≡ true → p.name.name ≡ i.process
  of_process p h =
      let m = from_map id_of (id_of i) (filter (λ (j : Instance). same_name p.name.name j.process) b.instances) (contains_among (id_of i) (ids_of b p) h) in
      let f = from_filter (λ (j : Instance). same_name p.name.name j.process) m.0 b.instances m.1 in
      let n = nth_among m.0 b.instances f.0 in
      let number = numbered.identifiers_differ k n.0 i m.0 at_k n.1 m.2 in
      let same : i ≡ m.0 = same_Some i m.0 (sym at_k ∙ ap (nth b.instances) number ∙ n.1) in
      same_name-is p.name.name m.0.process f.1 ∙ ap (λ (z : Instance). z.process) (sym same)

  none_behind : (ps : List Process) → ((q : Process) → IsAmong q ps → contains (id_of i) (ids_of b q) ≡ false) → length (log.own_names (id_of i) (flat_map (owned_by b) ps)) ≡ 0
  none_behind [] h = refl
  none_behind (p ∷ ps) h =
      let a = names_append (id_of i) (owned_by b p) (flat_map (owned_by b) ps) in
      let c = block_none p (h p (inl refl)) (own_names b.spec p) in
      let d = none_behind ps (λ q m. h q (inr m)) in
      omega (arith, a, c, d)

  module _ (most : ℕ) where
    pub own_most : (ps : List Process) → AreDifferent (map (λ p. p.name.name) ps) → ((q : Process) → IsAmong q ps → length (own_names b.spec q) ≤ most) → length (log.own_names (id_of i) (flat_map (owned_by b) ps)) ≤ most
    own_most [] d h = omega arith
    own_most (p ∷ ps) d h = go (contains (id_of i) (ids_of b p)) refl (own_most ps d.1 (λ q m. h q (inr m)))
      where
        all : length (log.own_names (id_of i) (owned_by b p ++ flat_map (owned_by b) ps)) ≡ block p (own_names b.spec p) + length (log.own_names (id_of i) (flat_map (owned_by b) ps))
        all = names_append (id_of i) (owned_by b p) (flat_map (owned_by b) ps)

        other : contains (id_of i) (ids_of b p) ≡ true → (q : Process) → IsAmong q ps → (t : Bool) → contains (id_of i) (ids_of b q) ≡ t → contains (id_of i) (ids_of b q) ≡ false
        other e q m false f = f
        other e q m true f =
            let same : p.name.name ≡ q.name.name = of_process p e ∙ sym (of_process q f) in
            let apart : same_name p.name.name q.name.name ≡ false = all_at (λ y. same_name p.name.name y ≡ false) q.name.name (map (λ p. p.name.name) ps) d.0 (among_map (λ p. p.name.name) q ps m) in
            absurd (let z : true ≡ false = sym (same_name-self p.name.name) ∙ ap (same_name p.name.name) same ∙ apart in grind (arith, z))

        go : (t : Bool) → contains (id_of i) (ids_of b p) ≡ t → length (log.own_names (id_of i) (flat_map (owned_by b) ps)) ≤ most → length (log.own_names (id_of i) (owned_by b p ++ flat_map (owned_by b) ps)) ≤ most
        go true e r =
            let z = none_behind ps (λ q m. other e q m (contains (id_of i) (ids_of b q)) refl) in
            let n = block_few p (own_names b.spec p) in
            let l = h p (inl refl) in
            let a = all in
            omega (arith, z, n, l, a)
        go false e r = let z = block_none p e (own_names b.spec p) in let a = all in omega (arith, z, a, r)

-- ---- what a process has

filter_map_few : {A B : Type 0} (f : A → Option B) (xs : List A) → length (filter_map f xs) ≤ length xs
filter_map_few f [] = omega arith
filter_map_few {A} {B} f (x ∷ xs) = go (f x) (filter_map_few f xs)
  where
    go : (o : Option B) → length (filter_map f xs) ≤ length xs → length (cons_option o (filter_map f xs)) ≤ length (x ∷ xs)
    go None n = omega (arith, n)
    go (Some y) n = omega (arith, n)

handed_few : (n : ℕ) (ps : List Parameter) (as' : List Argument) → length (handed_from n ps as') ≤ length ps
handed_few n [] as' = omega arith
handed_few n (p ∷ ps) [] = omega arith
handed_few n (p ∷ ps) (a ∷ as') = let r = handed_few (suc n) ps as' in omega (arith, r)

pub process_few : (s : Spec) → AllByRecursion (λ a. length a.params + length a.locals ≤ 524288) s.archetypes → (p : Process) → length (own_names s p) ≤ 524288
process_few s h p = go (archetype_named p.archetype.name s.archetypes) refl
  where
    go : (o : Option Archetype) → archetype_named p.archetype.name s.archetypes ≡ o → length (names_or_none p o) ≤ 524288
    go None e = omega arith
    go (Some a) e =
        let short = all_at (λ (a : Archetype). length a.params + length a.locals ≤ 524288) a s.archetypes h (archetype_among p.archetype.name s.archetypes a e) in
        let given = handed_from 1 a.params p.arguments in
        let n = filter_map_few (λ (h : Handed). value_name h.parameter.name.name h.argument) given in
        let m = handed_few 1 a.params p.arguments in
        let l = length-map a.locals (λ d. d.name.name) in
        let x = length-append (filter_map (λ (h : Handed). value_name h.parameter.name.name h.argument) given) (map (λ d. d.name.name) a.locals) in
        omega (arith, short, n, m, l, x)
