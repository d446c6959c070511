-- The value parameters and locals of an instance are variables of its process.
use Rattle.std.proofs.Common.{◌≡◌, Bool, true, false, if◌then◌else◌, List, [], ◌∷◌, map, filter, Some, refl, ap, sym, ◌∙◌, subst, inl, inr, ◌||◌}
use Rattle.pgo_base.specs.Data.{Data}
use Rattle.pgo_base.specs.Lookup.{Name, same_name}
use Rattle.pgo_model.specs.Log.{own_names}
use Rattle.pgo_model.specs.Names.{same_name-self, is_among}
use Rattle.pgo_model.specs.Operators.{same_data, contains}
use Rattle.pgo_model.specs.System.{Owned}
use Rattle.pgo_model.specs.Written.{written}
use Rattle.pgo_syntax.specs.declared.archetype.Archetype.{Archetype}
use Rattle.pgo_syntax.specs.declared.bound.Bound.{Bound}
use Rattle.pgo_syntax.specs.declared.bound.Instance.{Instance}
use Rattle.pgo_syntax.specs.declared.process.Process.{Process}
use Rattle.pgo_bound.specs.Among.{IsAmong, among_map, among_filter, among_flat_map, from_filter_map}
use Rattle.pgo_bound.specs.Runs.{archetype_named}
use Rattle.pgo_bound.specs.State.{id_of, names_with, names_or_none}
use Rattle.pgo_sections.specs.Code.{Place, Own, Whole, variable_of}
use Rattle.pgo_meaning.specs.Parameters.{own_name, own_variables, places_of}
use Rattle.pgo_meaning.specs.System.{ids_of, owned, owned_by, system_of}
use Rattle.pgo_meaning.proofs.Traces.{among_is}
use Rattle.pgo_accesses.proofs.Parts.{same_self}
use Rattle.pgo_agrees.proofs.Places.{PlaceFrom, is_own, is_whole, hands, binds, place_from}

place_own : (z : Place) (x : Name) → own_name z ≡ Some x → z ≡ Own x
place_own (Whole y) x k = absurd (cc)
place_own (Own y) x k = let e : y ≡ x = cc in ap Own e

contains_there : (v : Data) (vs : List Data) → IsAmong v vs → contains v vs ≡ true
contains_there v [] a = absurd a
contains_there v (w ∷ vs) (inl e) = ap (λ b. if b then true else contains v vs) (ap (same_data v) (sym e) ∙ same_self v)
contains_there v (w ∷ vs) (inr a) = go (same_data v w) (contains_there v vs a)
  where
    go : (b : Bool) → contains v vs ≡ true → (if b then true else contains v vs) ≡ true
    go true h = refl
    go false h = h

own_there : (id : Data) (x : Name) (os : List Owned) (o : Owned) → IsAmong o os → o.variable ≡ x → contains id o.ids ≡ true → is_among x (own_names id os) ≡ true
own_there id x [] o a v c = absurd a
own_there id x (p ∷ os) o (inl e) v c =
    let here : contains id p.ids ≡ true = subst (λ (q : Owned). contains id q.ids ≡ true) e c in
    let same : same_name x p.variable ≡ true = ap (same_name x) (sym (ap (λ (q : Owned). q.variable) e) ∙ v) ∙ same_name-self x in
    ap (λ b. is_among x (if b then p.variable ∷ own_names id os else own_names id os)) here ∙ ap (λ b. b || is_among x (own_names id os)) same
own_there id x (p ∷ os) o (inr a) v c = go (contains id p.ids) (own_there id x os o a v c)
  where
    by : (b : Bool) → is_among x (own_names id os) ≡ true → (b || is_among x (own_names id os)) ≡ true
    by true h = refl
    by false h = h

    go : (b : Bool) → is_among x (own_names id os) ≡ true → is_among x (if b then p.variable ∷ own_names id os else own_names id os) ≡ true
    go true h = by (same_name x p.variable) h
    go false h = h

-- an instance's identifier is one of its process's
id_there : (b : Bound) (p : Process) (i : Instance) → IsAmong i b.instances → i.process ≡ p.name.name → contains (id_of i) (ids_of b p) ≡ true
id_there b p i a e =
    contains_there (id_of i) (ids_of b p) (among_map id_of i (filter (λ (j : Instance). same_name p.name.name j.process) b.instances) (among_filter (λ (j : Instance). same_name p.name.name j.process) i b.instances a (ap (same_name p.name.name) e ∙ same_name-self p.name.name)))

module _ (b : Bound) (p : Process) (a : Archetype) (among : IsAmong p b.spec.processes) (named : archetype_named p.archetype.name b.spec.archetypes ≡ Some a) (i : Instance) (there : IsAmong i b.instances) (is : i.process ≡ p.name.name) where
  owned_there : (y : Name) → IsAmong y (names_with p a) → is_among (written p.name.name y) (own_names (id_of i) (system_of b).own) ≡ true
  owned_there y h =
      own_there (id_of i) (written p.name.name y) (system_of b).own (owned b p y) (among_flat_map (owned_by b) p (owned b p y) b.spec.processes among (subst (λ o. IsAmong (owned b p y) (map (owned b p) (names_or_none p o))) (sym named) (among_map (owned b p) y (names_with p a) h))) refl (id_there b p i there is)

  pub own_is : (x : Name) → is_among x (own_variables p.name.name a (binds b.spec p a)) ≡ true → is_among x (own_names (id_of i) (system_of b).own) ≡ true
  own_is x h =
      let m = from_filter_map (λ (q : Name × Place). own_name q.1) x (places_of p.name.name a (binds b.spec p a)) (among_is x (own_variables p.name.name a (binds b.spec p a)) h) in
      go m.0 (place_own m.0.1 x m.2) (place_from b.spec p a m.0 m.1)
    where
      go : (q : Name × Place) → q.1 ≡ Own x → PlaceFrom b.spec p.clauses p.name.name (hands b.spec p a) (names_with p a) q → is_among x (own_names (id_of i) (system_of b).own) ≡ true
      go q e (is_own y f c) =
          let same : Own x ≡ Own (written p.name.name y) = sym e ∙ ap (λ (z : Name × Place). z.1) f in
          let k : x ≡ written p.name.name y = ap variable_of same in
          subst (λ z. is_among z (own_names (id_of i) (system_of b).own) ≡ true) (sym k) (owned_there y c)
      go q e (is_whole j g t c d n f) = absurd (let same : Own x ≡ Whole g.name = sym e ∙ ap (λ (z : Name × Place). z.1) f in cc)
