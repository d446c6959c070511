-- What a variable starts with is not too deep, where nothing is refused.
use Rattle.std.proofs.Common.{◌≡◌, ◌⊎◌, ℕ, ◌≤◌, Bool, true, false, ◌&&◌, nat_lt, nat_le, List, [], ◌∷◌, ◌++◌, map, Option, Some, None, refl, ap, sym, ◌∙◌, subst, inl, inr, arith}
use Rattle.std.proofs.lemmas.Bool.Decides.{nat_tests}
use Rattle.std.specs.Prelude.{IsTrue, filter, unwrap_or}
use Rattle.std.specs.List.{filter_map, flat_map}
use Rattle.pgo_base.specs.Data.{Data}
use Rattle.pgo_base.specs.Lookup.{Name, Vars}
use Rattle.pgo_base.specs.Size.{depth}
use Rattle.pgo_base.specs.Tree.{Tree}
use Rattle.pgo_base.specs.declared.module.Defined.{Defined}
use Rattle.pgo_model.specs.State.{is_shallow}
use Rattle.pgo_model.specs.Written.{pc, written}
use Rattle.pgo_syntax.specs.declared.archetype.Archetype.{Archetype}
use Rattle.pgo_syntax.specs.declared.binding.Origin.{Origin}
use Rattle.pgo_syntax.specs.declared.binding.Origin.TheVariants.{Equals, In}
use Rattle.pgo_syntax.specs.declared.declaration.Declaration.{Declaration}
use Rattle.pgo_bound.specs.Values.{Start, Missing, Empty, Begins, start_in, local_start, argument_start, beginning, is_unset}
use Rattle.pgo_bound.specs.Runs.{Run, Handed, run_ids}
use Rattle.pgo_bound.specs.BoundOf.{GlobalStart, global_value, places_of, places_of_run, first_place, first_places, function_at, expression_of, own_argument, own_start, locals_of, start_of}
use Rattle.pgo_bound.specs.Among.{IsAmong, among_append, from_map, from_flat_map, from_filter_map, none_any, none_filter_map, none_left, none_right, empty_none, empty_map, among_filter, mapped_some}
use Rattle.pgo_bound.specs.Keyed.{depth_on}
use Rattle.pgo_heads.specs.declared.findings.Lack.TheVariants.{NoSet}
use Rattle.pgo_heads.specs.Refusals.{lacking, unset_global, unset_in_run, unset_local, unset_handed, is_unset_at, has_no_ids, at_place}
use Rattle.pgo_bind.proofs.Unrefused.{Unrefused, where_false, set_at, in_run, value_unset}

not_deep : (n m : ℕ) → nat_lt n m ≡ false → m ≤ n
not_deep n m h = grind (arith, nat_tests)

low_start : (n : ℕ) (st : Start) → 1 ≤ n → is_unset n st ≡ false → depth (beginning st) ≤ n
low_start n Missing l h = absurd (cc)
low_start n Empty l h = l
low_start n (Begins v) l h = not_deep n (depth v) h

pub none_filter : {A : Type 0} (p : A → Bool) (x : A) (xs : List A) → filter p xs ≡ [] → IsAmong x xs → p x ≡ false
none_filter p x xs e h = go (p x) refl
  where
    go : (b : Bool) → p x ≡ b → p x ≡ false
    go false g = g
    go true g = absurd (empty_none x (filter p xs) e (among_filter p x xs h g))

low_id : (o : Option (List Data)) (id : Data) → has_no_ids o ≡ false → IsAmong id (unwrap_or o []) → depth id ≤ 255
low_id None id h a = absurd a
low_id (Some ids) id h a = not_deep 255 (depth id) (none_any (λ d. nat_lt 255 (depth d)) id ids h a)

low_local : (ds : List Defined) (o : Option Origin) (id : Data) (ids : List Data) → IsAmong id ids → is_unset_at ds o ids ≡ false → depth (beginning (local_start ds o id)) ≤ 255
low_local ds None id ids a h = let l : 1 ≤ 255 = omega arith in l
low_local ds (Some (Equals e)) id ids a h = low_start 255 (argument_start ds e id) (omega arith) (set_at ds e id ids a h)
low_local ds (Some (In e)) id ids a h = low_start 255 (start_in ds e) (omega arith) (none_any (λ i. is_unset 255 (start_in ds e)) id ids h a)

argument_is : (ds : List Defined) (r : Run) (h : Handed) (p : Name × Data) → own_argument ds r h ≡ Some p
    → (e : Tree) × (expression_of h.argument ≡ Some e) × (p.1 ≡ function_at (λ id. beginning (argument_start ds e id)) (run_ids r))
argument_is ds r h p g =
    let m = mapped_some (λ e. (written r.process.name.name h.parameter.name.name, function_at (λ id. beginning (argument_start ds e id)) (run_ids r))) (expression_of h.argument) p g in
    (m.0, m.1, ap (λ q. q.1) m.2)

-- a function on identifiers of at most this depth, with such values, is a state's value
low_at : (f : Data → Data) (ids : List Data) → ((id : Data) → IsAmong id ids → depth id ≤ 255) → ((id : Data) → IsAmong id ids → depth (f id) ≤ 255) → depth (function_at f ids) ≤ 256
low_at f ids h g =
    depth_on 255 (map (λ id. (id, f id)) ids) (λ p a.
    let o = from_map (λ id. (id, f id)) p ids a in
    subst (λ (q : Data × Data). (depth q.0 ≤ 255) × (depth q.1 ≤ 255)) (sym o.2) (h o.0 o.1, g o.0 o.1))

module _ (as' : List Archetype) (ds : List Defined) (rs : List Run) (gs : List GlobalStart) (u : Unrefused as' ds rs gs) where
  global_low : (g : GlobalStart) → IsAmong g gs → depth (beginning g.start) ≤ 256
  global_low g a =
      let unset = none_filter_map unset_global g gs (none_left (filter_map unset_global gs) (lacking as' ds rs NoSet ++ flat_map (unset_in_run ds) rs) u.unset) a in
      low_start 256 g.start (omega arith) (where_false (is_unset 256 g.start) (at_place g.declaration.name) unset)

  id_low : (r : Run) (id : Data) → IsAmong r rs → IsAmong id (run_ids r) → depth id ≤ 255
  id_low r id a i =
      low_id r.ids id (none_filter (λ q. has_no_ids q.ids) r rs (empty_map (λ q. q.process.name.name) _ u.known) a) i

  places_low : depth (first_places rs) ≤ 256
  places_low =
      depth_on 255 (map first_place (places_of rs)) (λ p a.
      let o = from_map first_place p (places_of rs) a in
      let q = from_flat_map places_of_run o.0 rs o.1 in
      let i = from_map (λ id. (q.0, id)) o.0 (run_ids q.0) q.2 in
      let low : depth o.0.1 ≤ 255 = subst (λ (z : Run × Data). depth z.1 ≤ 255) (sym i.2) (id_low q.0 i.0 q.1 i.1) in
      subst (λ (z : Data × Data). (depth z.0 ≤ 255) × (depth z.1 ≤ 255)) (sym o.2) (low, (let one : 1 ≤ 255 = omega arith in one)))

  argument_low : (r : Run) (h : Handed) (e : Tree) → IsAmong r rs → IsAmong h r.handed → expression_of h.argument ≡ Some e → depth (function_at (λ id. beginning (argument_start ds e id)) (run_ids r)) ≤ 256
  argument_low r h e a b x =
      let unset = none_filter_map (unset_handed ds r) h r.handed (none_right (filter_map (unset_local ds r) r.archetype.locals) (filter_map (unset_handed ds r) r.handed) (in_run as' ds rs gs u r a)) b in
      let set = value_unset as' ds rs gs u r h.parameter.name.name e h.argument x unset in
      low_at (λ id. beginning (argument_start ds e id)) (run_ids r) (λ id i. id_low r id a i)
      (λ id i. low_start 255 (argument_start ds e id) (omega arith) (set_at ds e id (run_ids r) i set))

  local_low : (r : Run) (d : Declaration) → IsAmong r rs → IsAmong d r.archetype.locals → depth (own_start ds r d).1 ≤ 256
  local_low r d a l =
      let unset = none_filter_map (unset_local ds r) d r.archetype.locals (none_left (filter_map (unset_local ds r) r.archetype.locals) (filter_map (unset_handed ds r) r.handed) (in_run as' ds rs gs u r a)) l in
      low_at (λ id. beginning (local_start ds d.initial id)) (run_ids r) (λ id i. id_low r id a i)
      (λ id i. low_local ds d.initial id (run_ids r) i (where_false (is_unset_at ds d.initial (run_ids r)) (at_place d.name) unset))

  own_low : (r : Run) (p : Name × Data) → IsAmong r rs → IsAmong p (locals_of ds r) → depth p.1 ≤ 256
  own_low r p a h = go (among_append p (filter_map (own_argument ds r) r.handed) (map (own_start ds r) r.archetype.locals) h)
    where
      go : IsAmong p (filter_map (own_argument ds r) r.handed) ⊎ IsAmong p (map (own_start ds r) r.archetype.locals) → depth p.1 ≤ 256
      go (inl g) =
          let o = from_filter_map (own_argument ds r) p r.handed g in
          let k = argument_is ds r o.0 p o.2 in
          subst (λ d. depth d ≤ 256) (sym k.2) (argument_low r o.0 k.0 a o.1 k.1)
      go (inr g) =
          let o = from_map (own_start ds r) p r.archetype.locals g in
          subst (λ (q : Name × Data). depth q.1 ≤ 256) (sym o.2) (local_low r o.0 a o.1)

  start_low : (p : Name × Data) → IsAmong p (start_of ds rs gs) → depth p.1 ≤ 256
  start_low p h = go (among_append p (map global_value gs ++ ((pc, first_places rs) ∷ [])) (flat_map (locals_of ds) rs) h)
    where
      first : IsAmong p (map global_value gs) ⊎ IsAmong p ((pc, first_places rs) ∷ []) → depth p.1 ≤ 256
      first (inl g) =
          let o = from_map global_value p gs g in
          subst (λ (q : Name × Data). depth q.1 ≤ 256) (sym o.2) (global_low o.0 o.1)
      first (inr (inl e)) = subst (λ (q : Name × Data). depth q.1 ≤ 256) (sym e) places_low
      first (inr (inr g)) = absurd g

      go : IsAmong p (map global_value gs ++ ((pc, first_places rs) ∷ [])) ⊎ IsAmong p (flat_map (locals_of ds) rs) → depth p.1 ≤ 256
      go (inl g) = first (among_append p (map global_value gs) ((pc, first_places rs) ∷ []) g)
      go (inr g) = let o = from_flat_map (locals_of ds) p rs g in own_low o.0 p o.1 o.2

  pub start_shallow : IsTrue (is_shallow (start_of ds rs gs))
  start_shallow = shallow_all (start_of ds rs gs) start_low
    where
      both : (a b : Bool) → a ≡ true → b ≡ true → (a && b) ≡ true
      both a b e f = ap (λ c. c && b) e ∙ f

      low : (n : ℕ) → n ≤ 256 → nat_le n 256 ≡ true
      low n h = grind (arith, nat_tests)

      shallow_all : (s : Vars) → ((p : Name × Data) → IsAmong p s → depth p.1 ≤ 256) → is_shallow s ≡ true
      shallow_all [] h = refl
      shallow_all (p ∷ ps) h = both (nat_le (depth p.1) 256) (is_shallow ps) (low (depth p.1) (h p (inl refl))) (shallow_all ps (λ q g. h q (inr g)))
