-- When a function that is made of identifiers is a given one.
use Rattle.std.proofs.Common.{◌≡◌, ◌⊎◌, ◌↔◌, ℕ, ◌≤◌, Bool, true, false, List, [], ◌∷◌, length, map, Option, Some, None, refl, sym, ap, ◌∙◌, subst, option_and_then, inl, inr, arith}
use Rattle.std.proofs.lemmas.Bool.Decides.{nat_tests}
use Rattle.std.specs.Prelude.{if◌then◌else◌, ◌&&◌, nat_lt}
use Rattle.std.proofs.lemmas.Option.{same_Some}
use Rattle.pgo_base.proofs.Keyed.{pairs_back}
use Rattle.pgo_base.specs.Data.{Data, function, Pairs, pairs, graph, keys, graph-pairs}
use Rattle.pgo_base.specs.Pairs.{pairs_in_order}
use Rattle.pgo_base.specs.Sets.{in_order, in-in_order, sorted-in_order}
use Rattle.pgo_base.specs.Size.{depth}
use Rattle.pgo_model.specs.FunctionSets.{graph_fits}
use Rattle.pgo_model.specs.Operators.{both, each, same_data, lookup, contains, function_from, built, most_members, most_depth, where_few, choices}
use Rattle.pgo_bound.specs.Among.{IsAmong}
use Rattle.pgo_bound.specs.Keyed.{keys_ordered}
use Rattle.pgo_bound.specs.Lookups.{same_of, same_equal, apply_on}
use Rattle.pgo_bound.specs.Once.{StandOnce}
use Rattle.pgo_values.proofs.Graphs.{cons_first, cons_rest, same_graph, sorted_once}
use Rattle.pgo_values.proofs.Lists.{among_in, built_is, in_among}

-- an identifier with the value that f gives there
abbrev pub one : (Data → Option Data) → Data → Option (Data × Data)
one f id = both (λ k v. Some (k, v)) (Some id) (f id)

abbrev pub pairs_of : (Data → Option Data) → List Data → Option (List (Data × Data))
pairs_of f ids = each (one f) ids

-- what the pairs are, where each identifier has a value
pub record PairsOf (f : Data → Option Data) (ids : List Data) (qs : List (Data × Data)) : Type 0 where
  pub keyed : keys qs ≡ ids
  pub there : (id : Data) → IsAmong id ids → (v : Data) × (f id ≡ Some v)
  pub at : (id : Data) → IsAmong id ids → lookup id qs ≡ f id

pairs_step : (f : Data → Option Data) (d : Data) (ids : List Data) (qs : List (Data × Data)) (o : Option Data) (p : Option (List (Data × Data)))
    → f d ≡ o → pairs_of f ids ≡ p → ((rs : List (Data × Data)) → p ≡ Some rs → PairsOf f ids rs) → both (λ b bs. Some (b ∷ bs)) (both (λ k v. Some (k, v)) (Some d) o) p ≡ Some qs → PairsOf f (d ∷ ids) qs
pairs_step f d ids qs None p e g r h = absurd (cc)
pairs_step f d ids qs (Some v) None e g r h = absurd (cc)
pairs_step f d ids qs (Some v) (Some rs) e g r h = subst (PairsOf f (d ∷ ids)) (same_Some ((d, v) ∷ rs) qs h) (record {
  keyed = ap (λ ks. d ∷ ks) rest.keyed;
  there = there;
  at = at;
})
  where
    rest : PairsOf f ids rs
    rest = r rs refl

    there : (id : Data) → IsAmong id (d ∷ ids) → (w : Data) × (f id ≡ Some w)
    there id (inl q) = (v, ap f q ∙ e)
    there id (inr q) = rest.there id q

    pick : (id : Data) (b : Bool) → same_data id d ≡ b → (id ≡ d) ⊎ IsAmong id ids → (if b then Some v else lookup id rs) ≡ f id
    pick id true q m = sym (ap f (same_of id d q) ∙ e)
    pick id false q (inl m) = absurd (let k = same_equal id d m in cc)
    pick id false q (inr m) = rest.at id m

    at : (id : Data) → IsAmong id (d ∷ ids) → lookup id ((d, v) ∷ rs) ≡ f id
    at id m = pick id (same_data id d) refl m

pub pairs_are : (f : Data → Option Data) (ids : List Data) (qs : List (Data × Data)) → pairs_of f ids ≡ Some qs → PairsOf f ids qs
pairs_are f [] qs h = subst (PairsOf f []) (same_Some [] qs h) (record { keyed = refl; there = λ id m. absurd m; at = λ id m. absurd m })
pairs_are f (d ∷ ids) qs h = pairs_step f d ids qs (f d) (pairs_of f ids) refl refl (λ rs e. pairs_are f ids rs e) h

pub pairs_there : (f : Data → Option Data) (ids : List Data) → ((id : Data) → IsAmong id ids → (v : Data) × (f id ≡ Some v)) → (qs : List (Data × Data)) × (pairs_of f ids ≡ Some qs)
pairs_there f [] h = ([], refl)
pairs_there f (d ∷ ids) h =
    let a = h d (inl refl) in
    let r = pairs_there f ids (λ id m. h id (inr m)) in
    ((d, a.0) ∷ r.0, λ i. both (λ b bs. Some (b ∷ bs)) (both (λ k v. Some (k, v)) (Some d) (a.1 i)) (r.1 i))

pub built_some : (n : ℕ) (v : Data) → n ≤ 65536 → depth v ≤ 2048 → built n v ≡ Some v
built_some n v h g = go (nat_lt most_depth (depth v)) (nat_lt most_members n) refl refl
  where
    go : (b c : Bool) → nat_lt most_depth (depth v) ≡ b → nat_lt most_members n ≡ c → (if b then None else (if c then None else Some v)) ≡ Some v
    go true c e f = absurd (grind (arith, nat_tests))
    go false true e f = absurd (grind (arith, nat_tests))
    go false false e f = refl

-- the graph in order of pairs has these keys and values
ordered_graph : (f : Data → Option Data) (ids : List Data) (qs : List (Data × Data)) (ps : Pairs) → PairsOf f ids qs → keys (graph ps) ≡ in_order ids → ((id : Data) → IsAmong id ids → lookup id (graph ps) ≡ f id) → pairs (pairs_in_order qs) ≡ ps
ordered_graph f ids qs ps q e g =
    sym (pairs_back (pairs (pairs_in_order qs)))
    ∙ ap pairs (same_graph (graph (pairs (pairs_in_order qs))) (graph ps) same_keys once same_values)
    ∙ pairs_back ps
  where
    ordered : keys (graph (pairs (pairs_in_order qs))) ≡ in_order ids
    ordered = ap keys (graph-pairs (pairs_in_order qs)) ∙ keys_ordered qs ∙ ap in_order q.keyed

    same_keys : keys (graph (pairs (pairs_in_order qs))) ≡ keys (graph ps)
    same_keys = ordered ∙ sym e

    once : StandOnce (keys (graph (pairs (pairs_in_order qs))))
    once = subst StandOnce (sym ordered) (sorted_once (in_order ids) (sorted-in_order ids))

    same_values : (k : Data) → IsAmong k (keys (graph (pairs (pairs_in_order qs)))) → lookup k (graph (pairs (pairs_in_order qs))) ≡ lookup k (graph ps)
    same_values k m =
        let i : IsAmong k ids = in_among k ids (in-in_order k ids (among_in k (in_order ids) (subst (IsAmong k) ordered m))) in
        apply_on k qs ∙ q.at k i ∙ sym (g k i)

module _ (f : Data → Option Data) (ids : List Data) (ps : Pairs) (e : keys (graph ps) ≡ in_order ids) (few : length (graph ps) ≤ 65536) (low : depth (function ps) ≤ 2048) where
  function_to : (o : Option (List (Data × Data))) → pairs_of f ids ≡ o → option_and_then function_from o ≡ Some (function ps) → (id : Data) → IsAmong id ids → (v : Data) × (lookup id (graph ps) ≡ Some v) × (f id ≡ Some v)
  function_to None g h = absurd (cc)
  function_to (Some qs) g h = λ id m. let v = q.there id m in (v.0, ap (λ z. lookup id (graph z)) (sym is) ∙ apply_on id qs ∙ q.at id m ∙ v.1, v.1)
    where
      q : PairsOf f ids qs
      q = pairs_are f ids qs g

      function_is : (a b : Pairs) → function a ≡ function b → a ≡ b
      function_is a b k = cc

      is : pairs (pairs_in_order qs) ≡ ps
      is = function_is (pairs (pairs_in_order qs)) ps (built_is (length (pairs_in_order qs)) (function (pairs (pairs_in_order qs))) (function ps) h)

  -- it is the given one exactly where it has its value at each identifier
  pub function-yes : (option_and_then function_from (pairs_of f ids) ≡ Some (function ps)) ↔ ((id : Data) → IsAmong id ids → (v : Data) × (lookup id (graph ps) ≡ Some v) × (f id ≡ Some v))
  function-yes = (function_to (pairs_of f ids) refl, from)
    where
      from : ((id : Data) → IsAmong id ids → (v : Data) × (lookup id (graph ps) ≡ Some v) × (f id ≡ Some v)) → option_and_then function_from (pairs_of f ids) ≡ Some (function ps)
      from h =
          let r = pairs_there f ids (λ id m. let v = h id m in (v.0, v.2)) in
          let q = pairs_are f ids r.0 r.1 in
          let is = ordered_graph f ids r.0 ps q e (λ id m. let v = h id m in v.1 ∙ sym v.2) in
          let n : length (pairs_in_order r.0) ≡ length (graph ps) = ap length (sym (graph-pairs (pairs_in_order r.0))) ∙ ap (λ z. length (graph z)) is in
          ap (option_and_then function_from) r.1 ∙ (λ i. built (n i) (function (is i))) ∙ built_some (length (graph ps)) (function ps) few low

-- all lists of one member of one set
choices_one : (ids : List Data) → choices (ids ∷ []) ≡ map (λ m. m ∷ []) ids
choices_one [] = refl
choices_one (d ∷ ids) = ap (λ cs. (d ∷ []) ∷ cs) (choices_one ids)

each_map : {A B C : Type 0} (g : B → Option C) (h : A → B) (xs : List A) → each g (map h xs) ≡ each (λ x. g (h x)) xs
each_map g h [] = refl
each_map g h (x ∷ xs) = ap (both (λ b bs. Some (b ∷ bs)) (g (h x))) (each_map g h xs)

pub each_choice : {C : Type 0} (g : List Data → Option C) (ids : List Data) → each g (choices (ids ∷ [])) ≡ each (λ m. g (m ∷ [])) ids
each_choice g ids = ap (each g) (choices_one ids) ∙ each_map g (λ m. m ∷ []) ids

pub few_made : (n : ℕ) (make : Unit {0} → Option Data) → n ≤ 65536 → where_few n make ≡ make tt
few_made n make h = go (nat_lt most_members n) refl
  where
    go : (b : Bool) → nat_lt most_members n ≡ b → (elim b as (λ b. Option Data) [ true ↦ None | false ↦ make tt ]) ≡ make tt
    go true e = absurd (grind (arith, nat_tests))
    go false e = refl

pub and_both : (a b : Bool) → (a && b ≡ true) ↔ ((a ≡ true) × (b ≡ true))
and_both true b = (λ h. (refl, h), λ h. h.1)
and_both false b = (λ h. absurd (cc), λ h. absurd (let e = h.0 in cc))

-- a function is one from these identifiers to these members
pub fits-yes : (ids ys : List Data) (ps : List (Data × Data)) → keys ps ≡ ids → StandOnce ids
    → (graph_fits (map (λ m. (m, ys)) ids) ps ≡ true) ↔ ((id : Data) → IsAmong id ids → (v : Data) × (lookup id ps ≡ Some v) × (contains v ys ≡ true))
fits-yes [] ys [] e o = (λ h id m. absurd m, λ h. refl)
fits-yes [] ys (p ∷ ps) e o = absurd (cc)
fits-yes (d ∷ ids) ys [] e o = absurd (cc)
fits-yes (d ∷ ids) ys (p ∷ ps) e o = step (fits-yes ids ys ps (cons_rest p.0 d (keys ps) ids e) o.1)
  where
    k : p.0 ≡ d
    k = cons_first p.0 d (keys ps) ids e

    first_value : (id : Data) → id ≡ d → lookup id (p ∷ ps) ≡ Some p.1
    first_value id q = ap (λ b. if b then Some p.1 else lookup id ps) (same_equal id p.0 (q ∙ sym k))

    later_value : (id : Data) → IsAmong id ids → lookup id (p ∷ ps) ≡ lookup id ps
    later_value id m = go (same_data id p.0) refl
      where
        go : (b : Bool) → same_data id p.0 ≡ b → (if b then Some p.1 else lookup id ps) ≡ lookup id ps
        go true g = absurd (o.0 (subst (λ z. IsAmong z ids) (same_of id p.0 g ∙ k) m))
        go false g = refl

    step : (graph_fits (map (λ m. (m, ys)) ids) ps ≡ true) ↔ ((id : Data) → IsAmong id ids → (v : Data) × (lookup id ps ≡ Some v) × (contains v ys ≡ true))
        → (same_data p.0 d && (contains p.1 ys && graph_fits (map (λ m. (m, ys)) ids) ps) ≡ true) ↔ ((id : Data) → IsAmong id (d ∷ ids) → (v : Data) × (lookup id (p ∷ ps) ≡ Some v) × (contains v ys ≡ true))
    step ih = (to, from)
      where
        rest : Bool
        rest = graph_fits (map (λ m. (m, ys)) ids) ps

        at : (contains p.1 ys ≡ true) → ((id : Data) → IsAmong id ids → (v : Data) × (lookup id ps ≡ Some v) × (contains v ys ≡ true)) → (id : Data) → (id ≡ d) ⊎ IsAmong id ids → (v : Data) × (lookup id (p ∷ ps) ≡ Some v) × (contains v ys ≡ true)
        at c r id (inl q) = (p.1, first_value id q, c)
        at c r id (inr m) = let v = r id m in (v.0, later_value id m ∙ v.1, v.2)

        to : same_data p.0 d && (contains p.1 ys && rest) ≡ true → (id : Data) → IsAmong id (d ∷ ids) → (v : Data) × (lookup id (p ∷ ps) ≡ Some v) × (contains v ys ≡ true)
        to h id m =
            let a = (and_both (same_data p.0 d) (contains p.1 ys && rest)).0 h in
            let b = (and_both (contains p.1 ys) rest).0 a.1 in
            at b.0 (ih.0 b.1) id m

        from : ((id : Data) → IsAmong id (d ∷ ids) → (v : Data) × (lookup id (p ∷ ps) ≡ Some v) × (contains v ys ≡ true)) → same_data p.0 d && (contains p.1 ys && rest) ≡ true
        from h =
            let f = h d (inl refl) in
            let c : contains p.1 ys ≡ true = subst (λ w. contains w ys ≡ true) (same_Some f.0 p.1 (sym f.1 ∙ first_value d refl)) f.2 in
            (and_both (same_data p.0 d) (contains p.1 ys && rest)).1 (same_equal p.0 d k, (and_both (contains p.1 ys) rest).1 (c, ih.1 (λ id m. let v = h id (inr m) in (v.0, sym (later_value id m) ∙ v.1, v.2))))
