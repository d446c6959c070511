-- What the entry that a worker makes says: of the instance's own components, and of the resources that it holds.
use Rattle.std.proofs.Common.{◌≡◌, ℕ, Bool, true, false, List, [], ◌∷◌, ◌++◌, map, Option, Some, None, refl, sym, ap, ◌∙◌, subst, arith}
use Rattle.std.specs.Prelude.{if◌then◌else◌, nat_eq, nat_le, not, ◌||◌}
use Rattle.pgo_base.specs.Data.{Data}
use Rattle.pgo_base.specs.Lookup.{Name, Vars, same_name, find}
use Rattle.pgo_model.specs.Log.{Owner, OfResource, OfInstance, Unowned, Change, Effect, differs}
use Rattle.pgo_model.specs.Machine.{nth, among}
use Rattle.pgo_model.specs.Names.{same_name-self, is_among, turned}
use Rattle.pgo_model.specs.Operators.{same_data}
use Rattle.pgo_model.specs.Options.{on}
use Rattle.pgo_model.specs.System.{Resource}
use Rattle.pgo_workers.specs.Walk.{At, Own}
use Rattle.pgo_workers.specs.View.{Hold, EachHold, Once, Changed, changed, hold_at, places, resources_of}
use Rattle.pgo_workers.specs.Worker.{changes_of}
use Rattle.pgo_workers.specs.Worker as worker
use Rattle.pgo_workers.specs.Sentences.{IsOwn}
use Rattle.pgo_workers.proofs.LayoutChanges.{Differ, they_differ}
use Rattle.pgo_workers.specs.Worlds.{Layout, IsLayout, component_of, component_at, own_component, names_at, names_of, own_at, own_change, own_behind, resource_changes, resource_change, put_in_order, changed_resources, changed_own, effect_of, world_of}

-- ---- holds, and the changes of resources

-- of each hold but those of r
each_else : (r : ℕ) (P Q : Hold → Type 0) (hs : List Hold) → among r (resources_of hs) ≡ false → ((h : Hold) → nat_eq r h.resource ≡ false → P h → Q h) → EachHold P hs → EachHold Q hs
each_else r P Q [] m f e = tt
each_else r P Q (h ∷ hs) m f e = go (nat_eq r h.resource) refl m (λ m. each_else r P Q hs m f e.1)
  where
    go : (b : Bool) → nat_eq r h.resource ≡ b → (if b then true else among r (resources_of hs)) ≡ false → (among r (resources_of hs) ≡ false → EachHold Q hs) → EachHold Q (h ∷ hs)
    go true q m ih = absurd (grind (arith, m))
    go false q m ih = (f h q e.0, ih m)

abbrev pub EachAt : (At → Type 0) → List At → Type 0
EachAt P [] = Unit {0}
EachAt P (v ∷ vs) = P v × EachAt P vs

each_at : (P Q : At → Type 0) (vs : List At) → ((v : At) → P v → Q v) → EachAt P vs → EachAt Q vs
each_at P Q [] f e = tt
each_at P Q (v ∷ vs) f e = (f v e.0, each_at P Q vs f e.1)

pub put_each : (P : At → Type 0) (c : At) (ds : List At) → P c → EachAt P ds → EachAt P (put_in_order c ds)
put_each P c [] h e = (h, tt)
put_each P c (d ∷ ds) h e = go (nat_le c.0 d.0) (put_each P c ds h e.1)
  where
    go : (b : Bool) → EachAt P (put_in_order c ds) → EachAt P (if b then c ∷ (d ∷ ds) else d ∷ put_in_order c ds)
    go true ih = (h, e)
    go false ih = (e.0, ih)

pub changed_each : (P : At → Type 0) (hs : List Hold) → EachHold (λ h. P (h.resource, h.content.current)) hs → EachAt P (changed_resources (changes_of hs))
changed_each P [] e = tt
changed_each P (h ∷ hs) e = go (differs (Some h.content.base) (Some h.content.current)) (changed_each P hs e.1)
  where
    go : (b : Bool) → EachAt P (changed_resources (changes_of hs)) → EachAt P (if b then put_in_order (h.resource, h.content.current) (changed_resources (changes_of hs)) else changed_resources (changes_of hs))
    go true ih = put_each P (h.resource, h.content.current) (changed_resources (changes_of hs)) e.0 ih
    go false ih = ih

-- what is put in its place decides at its number, and the others elsewhere
put_changed : (c : At) (ds : List At) (r : ℕ) (x : Data) → changed (put_in_order c ds) r x ≡ (if nat_eq c.0 r then c.1 else changed ds r x)
put_changed c [] r x = refl
put_changed c (d ∷ ds) r x = go (nat_le c.0 d.0) refl (put_changed c ds r x)
  where
    behind : (a b : Bool) → nat_eq d.0 r ≡ a → nat_eq c.0 r ≡ b → nat_le c.0 d.0 ≡ false → (if a then d.1 else (if b then c.1 else changed ds r x)) ≡ (if b then c.1 else (if a then d.1 else changed ds r x))
    behind true true e f n = absurd (grind (arith, e, f, n))
    behind true false e f n = refl
    behind false true e f n = refl
    behind false false e f n = refl

    go : (b : Bool) → nat_le c.0 d.0 ≡ b → changed (put_in_order c ds) r x ≡ (if nat_eq c.0 r then c.1 else changed ds r x)
        → changed (if b then c ∷ (d ∷ ds) else d ∷ put_in_order c ds) r x ≡ (if nat_eq c.0 r then c.1 else (if nat_eq d.0 r then d.1 else changed ds r x))
    go true e ih = refl
    go false e ih = ap (λ y. if nat_eq d.0 r then d.1 else y) ih ∙ behind (nat_eq d.0 r) (nat_eq c.0 r) refl refl e

put_places : (c : At) (ds : List At) (r : ℕ) → among r (places (put_in_order c ds)) ≡ (if nat_eq r c.0 then true else among r (places ds))
put_places c [] r = refl
put_places c (d ∷ ds) r = go (nat_le c.0 d.0) (put_places c ds r)
  where
    turned : (a b : Bool) → (if a then true else (if b then true else among r (places ds))) ≡ (if b then true else (if a then true else among r (places ds)))
    turned true true = refl
    turned true false = refl
    turned false true = refl
    turned false false = refl

    go : (b : Bool) → among r (places (put_in_order c ds)) ≡ (if nat_eq r c.0 then true else among r (places ds))
        → among r (places (if b then c ∷ (d ∷ ds) else d ∷ put_in_order c ds)) ≡ (if nat_eq r c.0 then true else (if nat_eq r d.0 then true else among r (places ds)))
    go true ih = refl
    go false ih = ap (λ y. if nat_eq r d.0 then true else y) ih ∙ turned (nat_eq r d.0) (nat_eq r c.0)

put_once : (c : At) (ds : List At) → among c.0 (places ds) ≡ false → Once (places ds) → Once (places (put_in_order c ds))
put_once c [] m o = (refl, tt)
put_once c (d ∷ ds) m o = go (nat_le c.0 d.0) (nat_eq c.0 d.0) refl m (λ m. put_once c ds m o.1)
  where
    go : (b a : Bool) → nat_eq c.0 d.0 ≡ a → (if a then true else among c.0 (places ds)) ≡ false → (among c.0 (places ds) ≡ false → Once (places (put_in_order c ds)))
        → Once (places (if b then c ∷ (d ∷ ds) else d ∷ put_in_order c ds))
    go b true e m ih = absurd (grind (arith, m))
    go true false e m ih = (ap (λ a. if a then true else among c.0 (places ds)) e ∙ m, o)
    go false false e m ih =
        let t : nat_eq d.0 c.0 ≡ false = grind (arith, e) in
        (put_places c ds d.0 ∙ ap (λ a. if a then true else among d.0 (places ds)) t ∙ o.0, ih m)

pub changed_not_among : (r : ℕ) (hs : List Hold) → among r (resources_of hs) ≡ false → among r (places (changed_resources (changes_of hs))) ≡ false
changed_not_among r [] m = refl
changed_not_among r (h ∷ hs) m = go (nat_eq r h.resource) refl m (λ m. changed_not_among r hs m)
  where
    rest : nat_eq r h.resource ≡ false → among r (places (changed_resources (changes_of hs))) ≡ false → (b : Bool)
        → among r (places (if b then put_in_order (h.resource, h.content.current) (changed_resources (changes_of hs)) else changed_resources (changes_of hs))) ≡ false
    rest e ih true = put_places (h.resource, h.content.current) (changed_resources (changes_of hs)) r ∙ ap (λ a. if a then true else among r (places (changed_resources (changes_of hs)))) e ∙ ih
    rest e ih false = ih

    go : (b : Bool) → nat_eq r h.resource ≡ b → (if b then true else among r (resources_of hs)) ≡ false → (among r (resources_of hs) ≡ false → among r (places (changed_resources (changes_of hs))) ≡ false)
        → among r (places (changed_resources (changes_of (h ∷ hs)))) ≡ false
    go true e m ih = absurd (grind (arith, m))
    go false e m ih = rest e (ih m) (differs (Some h.content.base) (Some h.content.current))

pub changed_once : (hs : List Hold) → Once (resources_of hs) → Once (places (changed_resources (changes_of hs)))
changed_once [] o = tt
changed_once (h ∷ hs) o = go (differs (Some h.content.base) (Some h.content.current)) (changed_once hs o.1)
  where
    go : (b : Bool) → Once (places (changed_resources (changes_of hs))) → Once (places (if b then put_in_order (h.resource, h.content.current) (changed_resources (changes_of hs)) else changed_resources (changes_of hs)))
    go true ih = put_once (h.resource, h.content.current) (changed_resources (changes_of hs)) (changed_not_among h.resource hs o.0) ih
    go false ih = ih

-- a resource without a change stays
pub not_changed : (vs : List At) (r : ℕ) (x : Data) → among r (places vs) ≡ false → changed vs r x ≡ x
not_changed [] r x m = refl
not_changed (v ∷ vs) r x m = go (nat_eq r v.0) refl m (not_changed vs r x)
  where
    go : (b : Bool) → nat_eq r v.0 ≡ b → (if b then true else among r (places vs)) ≡ false → (among r (places vs) ≡ false → changed vs r x ≡ x) → (if nat_eq v.0 r then v.1 else changed vs r x) ≡ x
    go true e m ih = absurd (grind (arith, m))
    go false e m ih = let t : nat_eq v.0 r ≡ false = grind (arith, e) in ap (λ b. if b then v.1 else changed vs r x) t ∙ ih m

same_where : (a b : Data) → differs (Some a) (Some b) ≡ false → a ≡ b
same_where a b h = go (same_data a b) refl h
  where
    go : (t : Bool) → same_data a b ≡ t → not t ≡ false → a ≡ b
    go true e h = Rattle.pgo_sections.proofs.Domains.same_of a b e
    go false e h = absurd (grind (arith, h))

pub changed_renews : (hs : List Hold) → Once (resources_of hs) → EachHold (λ h. changed (changed_resources (changes_of hs)) h.resource h.content.base ≡ h.content.current) hs
changed_renews [] o = tt
changed_renews (h ∷ hs) o = go (differs (Some h.content.base) (Some h.content.current)) refl (changed_renews hs o.1)
  where
    go : (b : Bool) → differs (Some h.content.base) (Some h.content.current) ≡ b → EachHold (λ g. changed (changed_resources (changes_of hs)) g.resource g.content.base ≡ g.content.current) hs
        → EachHold (λ g. changed (if b then put_in_order (h.resource, h.content.current) (changed_resources (changes_of hs)) else changed_resources (changes_of hs)) g.resource g.content.base ≡ g.content.current) (h ∷ hs)
    go true e ih =
        let self : nat_eq h.resource h.resource ≡ true = grind arith in (
          put_changed (h.resource, h.content.current) (changed_resources (changes_of hs)) h.resource h.content.base
              ∙ ap (λ a. if a then h.content.current else changed (changed_resources (changes_of hs)) h.resource h.content.base) self,
          each_else h.resource (λ g. changed (changed_resources (changes_of hs)) g.resource g.content.base ≡ g.content.current) (λ g. changed (put_in_order (h.resource, h.content.current) (changed_resources (changes_of hs))) g.resource g.content.base ≡ g.content.current) hs o.0
              (λ g n p. put_changed (h.resource, h.content.current) (changed_resources (changes_of hs)) g.resource g.content.base ∙ ap (λ a. if a then h.content.current else changed (changed_resources (changes_of hs)) g.resource g.content.base) n ∙ p) ih,
        )
    go false e ih = (
      not_changed (changed_resources (changes_of hs)) h.resource h.content.base (changed_not_among h.resource hs o.0) ∙ same_where h.content.base h.content.current e,
      ih,
    )

-- each hold is found
hold_found : (hs : List Hold) → Once (resources_of hs) → EachHold (λ h. hold_at hs h.resource ≡ Some h) hs
hold_found [] o = tt
hold_found (h ∷ hs) o =
    let self : nat_eq h.resource h.resource ≡ true = grind arith in (
      ap (λ b. if b then Some h else hold_at hs h.resource) self,
      each_else h.resource (λ g. hold_at hs g.resource ≡ Some g) (λ g. hold_at (h ∷ hs) g.resource ≡ Some g) hs o.0
          (λ g n p. ap (λ b. if b then Some h else hold_at hs g.resource) n ∙ p) (hold_found hs o.1),
    )

pub changed_held : (hs : List Hold) → Once (resources_of hs) → Changed hs (changed_resources (changes_of hs))
changed_held hs o = given (changed_resources (changes_of hs)) (changed_each (λ v. (h : Hold) × (hold_at hs v.0 ≡ Some h) × (h.content.current ≡ v.1)) hs (found hs (hold_found hs o)))
  where
    found : (gs : List Hold) → EachHold (λ h. hold_at hs h.resource ≡ Some h) gs → EachHold (λ g. (h : Hold) × (hold_at hs g.resource ≡ Some h) × (h.content.current ≡ g.content.current)) gs
    found [] e = tt
    found (g ∷ gs) e = ((g, e.0, refl), found gs e.1)

    given : (vs : List At) → EachAt (λ v. (h : Hold) × (hold_at hs v.0 ≡ Some h) × (h.content.current ≡ v.1)) vs → Changed hs vs
    given [] e = tt
    given (v ∷ vs) e = (e.0, given vs e.1)

-- ---- own components

own_names_at : (k : ℕ) (id : Data) (xs : List Name) (s : Vars) → map (λ p. p.0) (own_at k id xs s) ≡ xs
own_names_at k id [] s = refl
own_names_at k id (x ∷ xs) s = ap (λ l. x ∷ l) (own_names_at k id xs s)

own_names_behind : (o : Own) (e : Effect) → map (λ p. p.0) (own_behind o e) ≡ map (λ p. p.0) o
own_names_behind [] e = refl
own_names_behind (p ∷ o) e = ap (λ l. p.0 ∷ l) (own_names_behind o e)

-- a change that is none of x
own_over : (x : Name) (c : Change) (cs : List Change) → same_name x c.component.variable ≡ false → own_change x (c ∷ cs) ≡ own_change x cs
own_over x c cs n = go c.component.owner
  where
    last : (o : Option Data) → on None o (λ v. Some v) ≡ o
    last None = refl
    last (Some v) = refl

    go : (w : Owner) → on (elim w as (λ o. Option Data) [ OfResource n ↦ None | OfInstance n ↦ if same_name x c.component.variable then Some c.value else None | Unowned ↦ None ]) (own_change x cs) (λ v. Some v) ≡ own_change x cs
    go (OfResource n) = last (own_change x cs)
    go (OfInstance j) = ap (λ b. on (if b then Some c.value else None) (own_change x cs) (λ v. Some v)) n ∙ last (own_change x cs)
    go Unowned = last (own_change x cs)

module _ (k : ℕ) (id : Data) (next : Own) where
  -- a name that isn't among the components
  own_none : (x : Name) (o : Own) → is_among x (map (λ p. p.0) o) ≡ false → own_change x (changed_own k id o next) ≡ None
  own_none x [] h = refl
  own_none x (p ∷ o) h = go (same_name x p.0) refl h (λ h. own_none x o h)
    where
      made : same_name x p.0 ≡ false → own_change x (changed_own k id o next) ≡ None → (found : Option Data) → own_change x (on (changed_own k id o next) found (λ v.
          if differs (Some p.1) (Some v) then record { component = own_component k id p.0; value = v } ∷ changed_own k id o next else changed_own k id o next)) ≡ None
      made n ih None = ih
      made n ih (Some v) = by_case (differs (Some p.1) (Some v))
        where
          by_case : (b : Bool) → own_change x (if b then record { component = own_component k id p.0; value = v } ∷ changed_own k id o next else changed_own k id o next) ≡ None
          by_case true = own_over x (record { component = own_component k id p.0; value = v }) (changed_own k id o next) n ∙ ih
          by_case false = ih

      go : (b : Bool) → same_name x p.0 ≡ b → (b || is_among x (map (λ p. p.0) o)) ≡ false → (is_among x (map (λ p. p.0) o) ≡ false → own_change x (changed_own k id o next) ≡ None)
          → own_change x (changed_own k id (p ∷ o) next) ≡ None
      go true e h ih = absurd (grind (arith, h))
      go false e h ih = made e (ih h) (find p.0 next)

  -- the first component
  own_first : (p : Name × Data) (o : Own) → is_among p.0 (map (λ p. p.0) o) ≡ false → on p.1 (own_change p.0 (changed_own k id (p ∷ o) next)) (λ v. v) ≡ on p.1 (find p.0 next) (λ v. v)
  own_first p o h = go (find p.0 next) (own_none p.0 o h)
    where
      go : (found : Option Data) → own_change p.0 (changed_own k id o next) ≡ None
          → on p.1 (own_change p.0 (on (changed_own k id o next) found (λ v.
          if differs (Some p.1) (Some v) then record { component = own_component k id p.0; value = v } ∷ changed_own k id o next else changed_own k id o next))) (λ v. v) ≡ on p.1 found (λ v. v)
      go None n = ap (λ o. on p.1 o (λ v. v)) n
      go (Some v) n = by_case (differs (Some p.1) (Some v)) refl
        where
          by_case : (b : Bool) → differs (Some p.1) (Some v) ≡ b
              → on p.1 (own_change p.0 (if b then record { component = own_component k id p.0; value = v } ∷ changed_own k id o next else changed_own k id o next)) (λ v. v) ≡ v
          by_case true e = (λ i. on p.1 (on (if same_name-self p.0 i then Some v else None) (n i) (λ v. Some v)) (λ v. v))
          by_case false e = ap (λ o. on p.1 o (λ v. v)) n ∙ same_where p.1 v e

  -- the components behind it aren't the first
  own_behind_first : (p : Name × Data) (all qs : Own) → is_among p.0 (map (λ p. p.0) qs) ≡ false
      → map {B = Name × Data} (λ q. (q.0, on q.1 (own_change q.0 (changed_own k id (p ∷ all) next)) (λ v. v))) qs ≡ map {B = Name × Data} (λ q. (q.0, on q.1 (own_change q.0 (changed_own k id all next)) (λ v. v))) qs
  own_behind_first p all [] h = refl
  own_behind_first p all (q ∷ qs) h = go (same_name p.0 q.0) refl h (λ h. own_behind_first p all qs h)
    where
      made : same_name q.0 p.0 ≡ false → (found : Option Data) → own_change q.0 (on (changed_own k id all next) found (λ v.
          if differs (Some p.1) (Some v) then record { component = own_component k id p.0; value = v } ∷ changed_own k id all next else changed_own k id all next)) ≡ own_change q.0 (changed_own k id all next)
      made n None = refl
      made n (Some v) = by_case (differs (Some p.1) (Some v))
        where
          by_case : (b : Bool) → own_change q.0 (if b then record { component = own_component k id p.0; value = v } ∷ changed_own k id all next else changed_own k id all next) ≡ own_change q.0 (changed_own k id all next)
          by_case true = own_over q.0 (record { component = own_component k id p.0; value = v }) (changed_own k id all next) n
          by_case false = refl

      go : (b : Bool) → same_name p.0 q.0 ≡ b → (b || is_among p.0 (map (λ p. p.0) qs)) ≡ false
          → (is_among p.0 (map (λ p. p.0) qs) ≡ false → map {B = Name × Data} (λ q. (q.0, on q.1 (own_change q.0 (changed_own k id (p ∷ all) next)) (λ v. v))) qs ≡ map {B = Name × Data} (λ q. (q.0, on q.1 (own_change q.0 (changed_own k id all next)) (λ v. v))) qs)
          → map {B = Name × Data} (λ q. (q.0, on q.1 (own_change q.0 (changed_own k id (p ∷ all) next)) (λ v. v))) (q ∷ qs) ≡ map {B = Name × Data} (λ q. (q.0, on q.1 (own_change q.0 (changed_own k id all next)) (λ v. v))) (q ∷ qs)
      go true e h ih = absurd (grind (arith, h))
      go false e h ih = let m = made (turned p.0 q.0 e) (find p.0 next) in λ i. (q.0, on q.1 (m i) (λ v. v)) ∷ ih h i

  own_found : (o : Own) → Differ (map (λ p. p.0) o) → map {B = Name × Data} (λ p. (p.0, on p.1 (own_change p.0 (changed_own k id o next)) (λ v. v))) o ≡ map {B = Name × Data} (λ p. (p.0, on p.1 (find p.0 next) (λ v. v))) o
  own_found [] d = refl
  own_found (p ∷ o) d = λ i. (p.0, own_first p o d.0 i) ∷ (own_behind_first p o o d.0 ∙ own_found o d.1) i

-- lists of one row of names, which differ, are what is found in them
found_behind : (q : Name × Data) (next o : Own) → is_among q.0 (map (λ p. p.0) o) ≡ false → map {B = Name × Data} (λ p. (p.0, on p.1 (find p.0 (q ∷ next)) (λ v. v))) o ≡ map {B = Name × Data} (λ p. (p.0, on p.1 (find p.0 next) (λ v. v))) o
found_behind q next [] h = refl
found_behind q next (p ∷ o) h = go (same_name q.0 p.0) refl h (λ h. found_behind q next o h)
  where
    go : (b : Bool) → same_name q.0 p.0 ≡ b → (b || is_among q.0 (map (λ p. p.0) o)) ≡ false
        → (is_among q.0 (map (λ p. p.0) o) ≡ false → map {B = Name × Data} (λ p. (p.0, on p.1 (find p.0 (q ∷ next)) (λ v. v))) o ≡ map {B = Name × Data} (λ p. (p.0, on p.1 (find p.0 next) (λ v. v))) o)
        → map {B = Name × Data} (λ p. (p.0, on p.1 (find p.0 (q ∷ next)) (λ v. v))) (p ∷ o) ≡ map {B = Name × Data} (λ p. (p.0, on p.1 (find p.0 next) (λ v. v))) (p ∷ o)
    go true e h ih = absurd (grind (arith, h))
    go false e h ih = let n = turned q.0 p.0 e in λ i. (p.0, on p.1 (if n i then Some q.1 else find p.0 next) (λ v. v)) ∷ ih h i

found_all : (o next : Own) → Differ (map (λ p. p.0) o) → map (λ p. p.0) o ≡ map (λ p. p.0) next → map {B = Name × Data} (λ p. (p.0, on p.1 (find p.0 next) (λ v. v))) o ≡ next
found_all [] [] d e = refl
found_all [] (q ∷ next) d e = absurd (cc)
found_all (p ∷ o) [] d e = absurd (cc)
found_all (p ∷ o) (q ∷ next) d e =
    let at : p.0 ≡ q.0 = cc in
    let behind : map (λ p. p.0) o ≡ map (λ p. p.0) next = cc in
    let there : same_name p.0 q.0 ≡ true = subst (λ z. same_name p.0 z ≡ true) at (same_name-self p.0) in
    λ i. (at i, on p.1 (if there i then Some q.1 else find p.0 next) (λ v. v)) ∷ (found_behind q next o (subst (λ z. is_among z (map (λ p. p.0) o) ≡ false) at d.0) ∙ found_all o next d.1 behind) i

module _ (y : Layout) where
  owner_is : (n : ℕ) (o : Option Resource) → (component_of n o).owner ≡ OfResource n
  owner_is n None = refl
  owner_is n (Some r) = refl

  -- the changes of resources say nothing of own components
  own_over_resources : (x : Name) (vs : List At) (cs : List Change) → own_change x (map (resource_change y) vs ++ cs) ≡ own_change x cs
  own_over_resources x [] cs = refl
  own_over_resources x (v ∷ vs) cs =
      ap (λ w. on (elim w as (λ o. Option Data) [ OfResource n ↦ None | OfInstance n ↦ if same_name x (component_at y.resources v.0).variable then Some v.1 else None | Unowned ↦ None ]) (own_change x (map (resource_change y) vs ++ cs)) (λ v. Some v)) (owner_is v.0 (nth y.resources v.0))
      ∙ last (own_change x (map (resource_change y) vs ++ cs)) ∙ own_over_resources x vs cs
    where
      last : (o : Option Data) → on None o (λ v. Some v) ≡ o
      last None = refl
      last (Some v) = refl

  no_resources : (k : ℕ) (id : Data) (o next : Own) → resource_changes (changed_own k id o next) ≡ []
  no_resources k id [] next = refl
  no_resources k id (p ∷ o) next = go (find p.0 next) (no_resources k id o next)
    where
      go : (found : Option Data) → resource_changes (changed_own k id o next) ≡ []
          → resource_changes (on (changed_own k id o next) found (λ v. if differs (Some p.1) (Some v) then record { component = own_component k id p.0; value = v } ∷ changed_own k id o next else changed_own k id o next)) ≡ []
      go None ih = ih
      go (Some v) ih = by_case (differs (Some p.1) (Some v))
        where
          by_case : (b : Bool) → resource_changes (if b then record { component = own_component k id p.0; value = v } ∷ changed_own k id o next else changed_own k id o next) ≡ []
          by_case true = ih
          by_case false = ih

  resources_then : (vs : List At) (cs : List Change) → resource_changes cs ≡ [] → resource_changes (map (resource_change y) vs ++ cs) ≡ vs
  resources_then [] cs h = h
  resources_then (v ∷ vs) cs h =
      ap (λ w. elim w as (λ o. List At) [ OfResource n ↦ (n, v.1) ∷ resource_changes (map (resource_change y) vs ++ cs) | OfInstance n ↦ resource_changes (map (resource_change y) vs ++ cs) | Unowned ↦ resource_changes (map (resource_change y) vs ++ cs) ]) (owner_is v.0 (nth y.resources v.0))
      ∙ ap (λ l. v ∷ l) (resources_then vs cs h)

  -- the changes of resources in an entry are those of the held ones
  pub effect_changes : (k : ℕ) (o o' : Own) (cs : List worker.Change) (ps : List Data) → (world_of y).changes (effect_of y k o o' cs ps) ≡ changed_resources cs
  effect_changes k o o' cs ps = resources_then (changed_resources cs) (on [] (nth y.ids k) (λ id. changed_own k id o o')) (none (nth y.ids k))
    where
      none : (i : Option Data) → resource_changes (on [] i (λ id. changed_own k id o o')) ≡ []
      none None = refl
      none (Some id) = no_resources k id o o'

  -- ---- what a worker asks

  pub printed : (k : ℕ) (o o' : Own) (cs : List worker.Change) (ps : List Data) → (world_of y).printed (effect_of y k o o' cs ps) ≡ ps
  printed k o o' cs ps = refl

  pub own_is : (k : ℕ) (s : Vars) → IsOwn (world_of y) k ((world_of y).own s k)
  own_is k s = go (nth y.ids k)
    where
      go : (i : Option Data) → map (λ p. p.0) (on [] i (λ id. own_at k id (names_at y (Some id)) s)) ≡ names_at y i
      go None = refl
      go (Some id) = own_names_at k id (names_at y (Some id)) s

  pub owned_is : (k : ℕ) (o : Own) (d : Effect) → IsOwn (world_of y) k o → IsOwn (world_of y) k ((world_of y).owned o d)
  owned_is k o d h = own_names_behind o d ∙ h

  pub renews : (k : ℕ) (o o' : Own) (hs : List Hold) (ps : List Data) → Once (resources_of hs)
      → EachHold (λ h. changed ((world_of y).changes (effect_of y k o o' (changes_of hs) ps)) h.resource h.content.base ≡ h.content.current) hs
  renews k o o' hs ps once = subst (λ vs. EachHold (λ h. changed vs h.resource h.content.base ≡ h.content.current) hs) (sym (effect_changes k o o' (changes_of hs) ps)) (changed_renews hs once)

  pub may_commit : (k : ℕ) (o o' : Own) (hs : List Hold) (ps : List Data) → Once (resources_of hs)
      → Once (places ((world_of y).changes (effect_of y k o o' (changes_of hs) ps))) × Changed hs ((world_of y).changes (effect_of y k o o' (changes_of hs) ps))
  may_commit k o o' hs ps once = subst (λ vs. Once (places vs) × Changed hs vs) (sym (effect_changes k o o' (changes_of hs) ps)) (changed_once hs once, changed_held hs once)

  module _ (layout : IsLayout y) where
    pub owned : (k : ℕ) (o o' : Own) (cs : List worker.Change) (ps : List Data) → IsOwn (world_of y) k o → IsOwn (world_of y) k o' → (world_of y).owned o (effect_of y k o o' cs ps) ≡ o'
    owned k o o' cs ps h h' = go (nth y.ids k) refl
      where
        differ : Differ (map (λ p. p.0) o)
        differ = subst Differ (sym h) (they_differ (names_of y k) (layout.names_differ k))

        over : (own : List Change) → map {B = Name × Data} (λ p. (p.0, on p.1 (own_change p.0 (map (resource_change y) (changed_resources cs) ++ own)) (λ v. v))) o ≡ map {B = Name × Data} (λ p. (p.0, on p.1 (own_change p.0 own) (λ v. v))) o
        over own = ap (λ (f : Name × Data → Name × Data). map f o) (λ i p. (p.0, on p.1 (own_over_resources p.0 (changed_resources cs) own i) (λ v. v)))

        empty : (a b : Own) → map (λ p. p.0) a ≡ [] → map (λ p. p.0) b ≡ [] → (own : List Change) → map {B = Name × Data} (λ p. (p.0, on p.1 (own_change p.0 own) (λ v. v))) a ≡ b
        empty [] [] e f own = refl
        empty [] (q ∷ b) e f own = absurd (cc)
        empty (p ∷ a) b e f own = absurd (cc)

        go : (i : Option Data) → nth y.ids k ≡ i → map {B = Name × Data} (λ p. (p.0, on p.1 (own_change p.0 (map (resource_change y) (changed_resources cs) ++ on [] i (λ id. changed_own k id o o'))) (λ v. v))) o ≡ o'
        go None e = empty o o' (h ∙ ap (names_at y) e) (h' ∙ ap (names_at y) e) (map (resource_change y) (changed_resources cs) ++ [])
        go (Some id) e = over (changed_own k id o o') ∙ own_found k id o' o differ ∙ found_all o o' differ (h ∙ sym h')
