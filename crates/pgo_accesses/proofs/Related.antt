-- A run of a section's code beside its accesses: where each resource and each own component stands.
use Rattle.std.proofs.Common.{◌≡◌, ℕ, ◌≤◌, Bool, true, false, ◌&&◌, List, [], ◌∷◌, ◌++◌, length, Option, Some, None, ◌⊎◌, inl, inr, refl, sym, ap, ◌∙◌, subst, arith}
use Rattle.std.specs.Prelude.{if◌then◌else◌, nat_eq, nat_le, nat_lt}
use Rattle.pgo_base.specs.Data.{Data, function, Pairs, pairs, graph, keys, graph-pairs}
use Rattle.pgo_base.specs.Lookup.{Name, Vars, same_name, find}
use Rattle.pgo_base.specs.Size.{depth, graph_size}
use Rattle.pgo_model.specs.Core.{number_among, numbers_of, same_index}
use Rattle.pgo_model.specs.Machine.{among, put}
use Rattle.pgo_model.specs.Names.{same_name-self, same_name-is, same_name-not, is_among}
use Rattle.pgo_model.specs.Operators.{same_data, lookup, replace_at, most_members}
use Rattle.pgo_model.specs.Options.{on}
use Rattle.pgo_model.specs.System.{Words, Resource, Touched}
use Rattle.pgo_sections.specs.Code.{Whole, Own}
use Rattle.pgo_sections.specs.Context.{Context, part_at, value_now}
use Rattle.pgo_sections.specs.SectionRun.{ChoiceMade}
use Rattle.pgo_sections.proofs.Domains.{same_of}
use Rattle.pgo_workers.specs.Walk as walks
use Rattle.pgo_workers.specs.Walk.{Steps, Touch, Ahead, visits, visits_from, append_assoc, among_append, not_either}
use Rattle.pgo_accesses.specs.Accesses.{Attempt, Progress, is_too_deep, marked, becoming, without}
use Rattle.pgo_accesses.proofs.Parts.{with_at, lookup_here, lookup_other, replaced_low, replaced_length, replaced_keys, at_low, le_of}

-- ---- one access

pub accessed : {E : Type 0} (w0 : Steps E) (f0 g : ℕ → Data) (ns : List ℕ) (r : ℕ) (leave : Data → Data) (rest : Data → Steps E) → Ahead w0 f0 ns (Touch r leave rest) g → Ahead w0 f0 (ns ++ (r ∷ [])) (rest (g r)) (put r (leave (g r)) g)
accessed w0 f0 g ns r leave rest a = record {
  trace = a.trace ∙ sym (append_assoc ns (r ∷ []) (visits_from f0 (rest (g r)) (put r (leave (g r)) g)));
  ends = a.ends;
  leaves = a.leaves;
  fresh = λ i n. let d = not_either (among i ns) (among i (r ∷ [])) (sym (among_append i ns (r ∷ [])) ∙ n) in go i (nat_eq i r) d.1 ∙ a.fresh i d.0;
}
  where
    go : (i : ℕ) (b : Bool) → (if b then true else false) ≡ false → (if b then leave (g r) else g i) ≡ g i
    go i true n = absurd (grind (arith, n))
    go i false n = refl

pub numbers_append : (rs : List Resource) (ts us : List Touched) → numbers_of rs (ts ++ us) ≡ numbers_of rs ts ++ numbers_of rs us
numbers_append rs [] us = refl
numbers_append rs (t ∷ ts) us = go (number_among rs t) (numbers_append rs ts us)
  where
    go : (o : Option ℕ) → numbers_of rs (ts ++ us) ≡ numbers_of rs ts ++ numbers_of rs us
        → on (numbers_of rs (ts ++ us)) o (λ n. n ∷ numbers_of rs (ts ++ us)) ≡ on (numbers_of rs ts) o (λ n. n ∷ numbers_of rs ts) ++ numbers_of rs us
    go None ih = ih
    go (Some n) ih = ap (λ l. n ∷ l) ih

pub is_number : (i r : ℕ) → nat_eq i r ≡ true → i ≡ r
is_number i r h = grind (arith, h)

pub same_number : (r : ℕ) → nat_eq r r ≡ true
same_number r = grind arith

-- what is read stays as it is
pub put_same : (r : ℕ) (g : ℕ → Data) → put r (g r) g ≡ g
put_same r g = λ k i. go i (nat_eq i r) refl k
  where
    go : (i : ℕ) (b : Bool) → nat_eq i r ≡ b → (if b then g r else g i) ≡ g i
    go i true e = ap g (sym (is_number i r e))
    go i false e = refl

pub put_here : (r : ℕ) (x : Data) (g : ℕ → Data) → put r x g r ≡ x
put_here r x g = ap (λ b. if b then x else g r) (same_number r)

pub put_there : (r i : ℕ) (x : Data) (g : ℕ → Data) → (i ≡ r → ⊥) → put r x g i ≡ g i
put_there r i x g n = go (nat_eq i r) refl
  where
    go : (b : Bool) → nat_eq i r ≡ b → (if b then x else g i) ≡ g i
    go true e = absurd (n (is_number i r e))
    go false e = refl

-- ---- which resources are too deep

among_without : (q r : ℕ) (l : List ℕ) → nat_eq q r ≡ false → among q (without r l) ≡ among q l
among_without q r [] n = refl
among_without q r (x ∷ l) n = go (nat_eq x r) refl (among_without q r l n)
  where
    other : (b : Bool) → nat_eq x r ≡ true → nat_eq q x ≡ b → b ≡ false
    other true e f = absurd (let a = is_number x r e in let c = is_number q x f in let z : nat_eq q r ≡ true = subst (λ y. nat_eq q y ≡ true) (c ∙ a) (same_number q) in let w : true ≡ false = sym z ∙ n in grind (arith, w))
    other false e f = refl

    go : (b : Bool) → nat_eq x r ≡ b → among q (without r l) ≡ among q l → among q (if b then without r l else x ∷ without r l) ≡ (if nat_eq q x then true else among q l)
    go true e ih = ih ∙ sym (ap (λ b. if b then true else among q l) (other (nat_eq q x) e refl))
    go false e ih = ap (λ m. if nat_eq q x then true else m) ih

not_without : (r : ℕ) (l : List ℕ) → among r (without r l) ≡ false
not_without r [] = refl
not_without r (x ∷ l) = go (nat_eq x r) refl (not_without r l)
  where
    other : (b : Bool) → nat_eq x r ≡ false → nat_eq r x ≡ b → b ≡ false
    other true e f = absurd (let c = is_number r x f in let z : nat_eq x r ≡ true = subst (λ y. nat_eq x y ≡ true) (sym c) (same_number x) in let w : true ≡ false = sym z ∙ e in grind (arith, w))
    other false e f = refl

    go : (b : Bool) → nat_eq x r ≡ b → among r (without r l) ≡ false → among r (if b then without r l else x ∷ without r l) ≡ false
    go true e ih = ih
    go false e ih = ap (λ b. if b then true else among r (without r l)) (other (nat_eq r x) e refl) ∙ ih

pub marked_here : (b : Bool) (r : ℕ) (l : List ℕ) → among r (marked b r l) ≡ b
marked_here true r l = ap (λ b. if b then true else among r (without r l)) (same_number r)
marked_here false r l = not_without r l

pub marked_other : (b : Bool) (q r : ℕ) (l : List ℕ) → nat_eq q r ≡ false → among q (marked b r l) ≡ among q l
marked_other true q r l n = ap (λ b. if b then true else among q (without r l)) n ∙ among_without q r l n
marked_other false q r l n = among_without q r l n

-- ---- a run beside its accesses

-- an element's resource has what the function has there
abbrev pub Matches : Option ℕ → Option Data → (ℕ → Data) → Type 0
Matches None None g = Unit {0}
Matches None (Some v) g = ⊥
Matches (Some r) None g = ⊥
Matches (Some r) (Some v) g = v ≡ g r

module _ (K : Context) (rs : List Resource) (at_start : walks.Own) (d : Words) where
  abbrev pub attempt : Attempt
  attempt = record { id = K.id; places = K.places; defs = K.defs; by_element = K.by_element; resources = rs; own = at_start; words = d }

  -- a global that is one resource, and one of which each element is
  abbrev pub IsWhole : Name → Type 0
  IsWhole y = (K.by_element y ≡ false) × ((r : ℕ) × (number_among rs (y, None) ≡ Some r))

  abbrev pub IsElements : Name → Type 0
  IsElements y = (K.by_element y ≡ true) × (is_among y K.globals ≡ true)

  -- a resource's component
  abbrev pub IsResource : Name → Option Data → Type 0
  IsResource y None = K.by_element y ≡ false
  IsResource y (Some i) = IsElements y

  -- what code may change: an own variable, or a global that has resources
  abbrev pub MayChange : Name → Type 0
  MayChange y = ((is_among y K.globals ≡ false) × (is_among y K.owns ≡ true)) ⊎ (IsWhole y ⊎ IsElements y)

  -- such a global's value has the elements' values, and no other; each is low enough to stand in a set within it
  pub record Elements (y : Name) (o : Option Data) (g : ℕ → Data) : Type 0 where
    pub pairs : Pairs
    pub is : o ≡ Some (function pairs)
    pub few : nat_lt most_members (length (graph pairs)) ≡ false
    pub low : graph_size (graph pairs) ≤ 2046
    pub each : (i : Data) → Matches (number_among rs (y, Some i)) (lookup i (graph pairs)) g
    pub domain : (q : Pairs) → find y K.start ≡ Some (function q) → keys (graph pairs) ≡ keys (graph q)

  -- resources are of globals, two components are of two resources, a place that is a global is one resource, and the own
  -- components are what is there at the start
  pub record AsBound : Type 0 where
    pub globals : (c : Touched) (r : ℕ) → number_among rs c ≡ Some r → is_among c.0 K.globals ≡ true
    pub once : (c e : Touched) (r : ℕ) → number_among rs c ≡ Some r → number_among rs e ≡ Some r → (same_name c.0 e.0 ≡ true) × (same_index c.1 e.1 ≡ true)
    pub whole : (x y : Name) → find x K.places ≡ Some (Whole y) → IsWhole y
    pub own : (x y : Name) → find x K.places ≡ Some (Own y) → (is_among y K.globals ≡ false) × (find y at_start ≡ part_at y K.id K.start)

  -- the changes, choices and prints of a run, how far the accesses are, and what the resources have
  pub record Related (ch : Vars) (cs : List ChoiceMade) (ps : List Data) (p : Progress) (g : ℕ → Data) : Type 0 where
    pub own : (y : Name) → is_among y K.globals ≡ false → find y p.changes ≡ find y ch
    pub whole : (y : Name) (r : ℕ) → number_among rs (y, None) ≡ Some r → K.by_element y ≡ false → (value_now K (Whole y) ch ≡ Some (g r)) × (nat_le (depth (g r)) 2047 ≡ true)
    pub elements : (y : Name) → IsElements y → Elements y (value_now K (Whole y) ch) g
    pub points : p.points ≡ cs
    pub prints : p.prints ≡ ps
    -- what is deep, and nothing else
    pub deep : (c : Touched) (r : ℕ) → number_among rs c ≡ Some r → among r p.too_deep ≡ is_too_deep (K.by_element c.0) (g r)
    pub only : (r : ℕ) → among r p.too_deep ≡ true → (c : Touched) × (number_among rs c ≡ Some r) × IsResource c.0 c.1
    pub changed : (y : Name) (v : Data) → find y ch ≡ Some v → (nat_le (depth v) 2047 ≡ true) × MayChange y

  value_other : (y z : Name) (v : Data) (ch : Vars) → same_name z y ≡ false → value_now K (Whole z) ((y, v) ∷ ch) ≡ value_now K (Whole z) ch
  value_other y z v ch n = ap (λ b. on (find z K.start) (if b then Some v else find z ch) (λ v. Some v)) n

  value_here : (y : Name) (v : Data) (ch : Vars) → value_now K (Whole y) ((y, v) ∷ ch) ≡ Some v
  value_here y v ch = ap (λ b. on (find y K.start) (if b then Some v else find y ch) (λ v. Some v)) (same_name-self y)

  -- a global and what is none have two names
  apart : (y z : Name) → is_among y K.globals ≡ false → is_among z K.globals ≡ true → same_name z y ≡ false
  apart y z n h = same_name-not z y (λ e. let q : true ≡ false = sym h ∙ ap (λ x. is_among x K.globals) e ∙ n in grind (arith, q))

  by_apart : (y z : Name) → K.by_element y ≡ false → K.by_element z ≡ true → same_name z y ≡ false
  by_apart y z n h = same_name-not z y (λ e. let q : true ≡ false = sym h ∙ ap K.by_element e ∙ n in grind (arith, q))

  matches_same : (o : Option ℕ) (l : Option Data) (g h : ℕ → Data) → ((q : ℕ) → o ≡ Some q → h q ≡ g q) → Matches o l g → Matches o l h
  matches_same None None g h e m = m
  matches_same None (Some v) g h e m = m
  matches_same (Some r) None g h e m = m
  matches_same (Some r) (Some v) g h e m = m ∙ sym (e r refl)

  more_changed : (y : Name) (v : Data) (ch : Vars) → nat_le (depth v) 2047 ≡ true → MayChange y → ((z : Name) (w : Data) → find z ch ≡ Some w → (nat_le (depth w) 2047 ≡ true) × MayChange z)
      → (z : Name) (w : Data) → find z ((y, v) ∷ ch) ≡ Some w → (nat_le (depth w) 2047 ≡ true) × MayChange z
  more_changed y v ch low may h z w e = go (same_name z y) refl e
    where
      go : (b : Bool) → same_name z y ≡ b → (if b then Some v else find z ch) ≡ Some w → (nat_le (depth w) 2047 ≡ true) × MayChange z
      go true n e = let s : v ≡ w = cc in (subst (λ x. nat_le (depth x) 2047 ≡ true) s low, subst MayChange (sym (same_name-is z y n)) may)
      go false n e = h z w e

  -- ---- an own component is assigned
  module _ (G : AsBound) where
    pub own_changed : (y : Name) (v : Data) (ch : Vars) (cs : List ChoiceMade) (ps : List Data) (p : Progress) (g : ℕ → Data) → is_among y K.globals ≡ false → is_among y K.owns ≡ true → nat_le (depth v) 2047 ≡ true
        → Related ch cs ps p g → Related ((y, v) ∷ ch) cs ps (record p { changes = (y, v) ∷ p.changes }) g
    own_changed y v ch cs ps p g not mine low h = record {
      own = λ z n. ap (λ o. if same_name z y then Some v else o) (h.own z n);
      whole = λ z r e b. let w = h.whole z r e b in (value_other y z v ch (apart y z not (G.globals (z, None) r e)) ∙ w.0, w.1);
      elements = λ z e. subst (λ o. Elements z o g) (sym (value_other y z v ch (apart y z not e.1))) (h.elements z e);
      points = h.points;
      prints = h.prints;
      deep = h.deep;
      only = h.only;
      changed = more_changed y v ch low (inl (not, mine)) h.changed;
    }

    -- ---- a resource becomes v
    numbers_apart : (c e : Touched) (q r : ℕ) → number_among rs c ≡ Some q → number_among rs e ≡ Some r → (same_name c.0 e.0 && same_index c.1 e.1 ≡ false) → q ≡ r → ⊥
    numbers_apart c e q r a b n same =
        let o = G.once c e q a (b ∙ ap Some (sym same)) in
        let z : true ≡ false = (λ i. sym (o.0) i && sym (o.1) i) ∙ n in grind (arith, z)

    deep_after : (k : Touched) (r : ℕ) (v : Data) (l : List ℕ) (g : ℕ → Data) → number_among rs k ≡ Some r
        → ((c : Touched) (q : ℕ) → number_among rs c ≡ Some q → among q l ≡ is_too_deep (K.by_element c.0) (g q))
        → (c : Touched) (q : ℕ) → number_among rs c ≡ Some q → among q (marked (is_too_deep (K.by_element k.0) v) r l) ≡ is_too_deep (K.by_element c.0) (put r v g q)
    deep_after k r v l g at h c q e = go (nat_eq q r) refl
      where
        go : (b : Bool) → nat_eq q r ≡ b → among q (marked (is_too_deep (K.by_element k.0) v) r l) ≡ is_too_deep (K.by_element c.0) (if b then v else g q)
        go true n =
            let s = is_number q r n in
            let o = G.once c k q e (at ∙ ap Some (sym s)) in
            ap (λ z. among z (marked (is_too_deep (K.by_element k.0) v) r l)) s ∙ marked_here (is_too_deep (K.by_element k.0) v) r l
            ∙ ap (λ x. is_too_deep (K.by_element x) v) (sym (same_name-is c.0 k.0 o.0))
        go false n = marked_other (is_too_deep (K.by_element k.0) v) q r l n ∙ h c q e

    only_after : (k : Touched) (r : ℕ) (b : Bool) (l : List ℕ) → number_among rs k ≡ Some r → IsResource k.0 k.1 → ((q : ℕ) → among q l ≡ true → (c : Touched) × (number_among rs c ≡ Some q) × IsResource c.0 c.1)
        → (q : ℕ) → among q (marked b r l) ≡ true → (c : Touched) × (number_among rs c ≡ Some q) × IsResource c.0 c.1
    only_after k r b l at is h q m = go (nat_eq q r) refl
      where
        go : (s : Bool) → nat_eq q r ≡ s → (c : Touched) × (number_among rs c ≡ Some q) × IsResource c.0 c.1
        go true e = (k, at ∙ ap Some (sym (is_number q r e)), is)
        go false e = h q (sym (marked_other b q r l e) ∙ m)

    -- a resource becomes what it is
    pub same_again : (k : Touched) (r : ℕ) (ch : Vars) (cs : List ChoiceMade) (ps : List Data) (p : Progress) (g : ℕ → Data) → number_among rs k ≡ Some r → IsResource k.0 k.1 → Related ch cs ps p g
        → Related ch cs ps (becoming (K.by_element k.0) r (g r) p) (put r (g r) g)
    same_again k r ch cs ps p g at is h =
        let b = is_too_deep (K.by_element k.0) (g r) in
        subst (λ f. Related ch cs ps (becoming (K.by_element k.0) r (g r) p) f) (sym (put_same r g)) (record {
          own = h.own;
          whole = h.whole;
          elements = h.elements;
          points = h.points;
          prints = h.prints;
          deep = λ c q e. subst (λ f. among q (marked b r p.too_deep) ≡ is_too_deep (K.by_element c.0) (f q)) (put_same r g) (deep_after k r (g r) p.too_deep g at h.deep c q e);
          only = only_after k r b p.too_deep at is h.only;
          changed = h.changed;
        })

    pub whole_changed : (y : Name) (v : Data) (r : ℕ) (ch : Vars) (cs : List ChoiceMade) (ps : List Data) (p : Progress) (g : ℕ → Data) → K.by_element y ≡ false → number_among rs (y, None) ≡ Some r
        → nat_le (depth v) 2047 ≡ true → Related ch cs ps p g → Related ((y, v) ∷ ch) cs ps (becoming (K.by_element y) r v p) (put r v g)
    whole_changed y v r ch cs ps p g by at low h = record {
      own = λ z n. h.own z n ∙ sym (ap (λ b. if b then Some v else find z ch) (other z n));
      whole = λ z q e b. whole_case z q e b (same_name z y) refl;
      elements = λ z e.
          let n = by_apart y z by e.0 in
          let old = h.elements z e in
          record {
            pairs = old.pairs;
            is = value_other y z v ch n ∙ old.is;
            few = old.few;
            low = old.low;
            each = λ i. matches_same (number_among rs (z, Some i)) (lookup i (graph old.pairs)) g (put r v g)
                (λ q f. put_there r q v g (numbers_apart (z, Some i) (y, None) q r f at (ap (λ b. b && false) n))) (old.each i);
            domain = old.domain;
          };
      points = h.points;
      prints = h.prints;
      deep = deep_after (y, None) r v p.too_deep g at h.deep;
      only = only_after (y, None) r (is_too_deep (K.by_element y) v) p.too_deep at by h.only;
      changed = more_changed y v ch low (inr (inl (by, (r, at)))) h.changed;
    }
      where
        other : (z : Name) → is_among z K.globals ≡ false → same_name z y ≡ false
        other z n = same_name-not z y (λ e. let q : true ≡ false = sym (G.globals (y, None) r at) ∙ ap (λ x. is_among x K.globals) (sym e) ∙ n in grind (arith, q))

        whole_case : (z : Name) (q : ℕ) → number_among rs (z, None) ≡ Some q → K.by_element z ≡ false → (b : Bool) → same_name z y ≡ b
            → (value_now K (Whole z) ((y, v) ∷ ch) ≡ Some (put r v g q)) × (nat_le (depth (put r v g q)) 2047 ≡ true)
        whole_case z q e b true n =
            let zy = same_name-is z y n in
            let qr : q ≡ r = let s : Some q ≡ Some r = sym e ∙ ap (λ x. number_among rs (x, None)) zy ∙ at in cc in
            let here : put r v g q ≡ v = ap (put r v g) qr ∙ put_here r v g in
            (ap (λ x. value_now K (Whole x) ((y, v) ∷ ch)) zy ∙ value_here y v ch ∙ ap Some (sym here), subst (λ x. nat_le (depth x) 2047 ≡ true) (sym here) low)
        whole_case z q e b false n =
            let w = h.whole z q e b in
            let there = put_there r q v g (numbers_apart (z, None) (y, None) q r e at (ap (λ b. b && true) n)) in
            (value_other y z v ch n ∙ w.0 ∙ ap Some (sym there), subst (λ x. nat_le (depth x) 2047 ≡ true) (sym there) w.1)

    -- an element becomes v
    pub element_changed : (y : Name) (i v : Data) (r : ℕ) (ch : Vars) (cs : List ChoiceMade) (ps : List Data) (p : Progress) (g : ℕ → Data) → IsElements y → number_among rs (y, Some i) ≡ Some r
        → nat_le (depth v) 2046 ≡ true → (E : Elements y (value_now K (Whole y) ch) g) → Related ch cs ps p g
        → Related ((y, with_at i v E.pairs) ∷ ch) cs ps (becoming (K.by_element y) r v p) (put r v g)
    element_changed y i v r ch cs ps p g is at low E h = record {
      own = λ z n. h.own z n ∙ sym (ap (λ b. if b then Some (with_at i v E.pairs) else find z ch) (other z n));
      whole = λ z q e b.
          let n = turned z (by_apart z y b is.0) in
          let w = h.whole z q e b in
          let there = put_there r q v g (numbers_apart (z, None) (y, Some i) q r e at (ap (λ b. b && false) n)) in
          (value_other y z (with_at i v E.pairs) ch n ∙ w.0 ∙ ap Some (sym there), subst (λ x. nat_le (depth x) 2047 ≡ true) (sym there) w.1);
      elements = λ z e. element_case z e (same_name z y) refl;
      points = h.points;
      prints = h.prints;
      deep = deep_after (y, Some i) r v p.too_deep g at h.deep;
      only = only_after (y, Some i) r (is_too_deep (K.by_element y) v) p.too_deep at is h.only;
      changed = more_changed y (with_at i v E.pairs) ch (at_low i v E.pairs (replaced_low i v (graph E.pairs) 2046 E.low (le_of (depth v) 2046 low))) (inr (inr is)) h.changed;
    }
      where
        turned : (z : Name) → same_name y z ≡ false → same_name z y ≡ false
        turned z n = same_name-not z y (λ e. let q : true ≡ false = sym (same_name-self y) ∙ ap (same_name y) (sym e) ∙ n in grind (arith, q))

        other : (z : Name) → is_among z K.globals ≡ false → same_name z y ≡ false
        other z n = same_name-not z y (λ e. let q : true ≡ false = sym is.1 ∙ ap (λ x. is_among x K.globals) (sym e) ∙ n in grind (arith, q))

        -- the element itself, and each other one
        matched : (o : Option ℕ) (l : Option Data) → o ≡ Some r → Matches o l g → (w : Data) × (l ≡ Some w)
        matched None l e m = absurd (grind (arith, e))
        matched (Some q) None e m = absurd m
        matched (Some q) (Some w) e m = (w, refl)

        each_case : (j : Data) (b : Bool) → same_data j i ≡ b → Matches (number_among rs (y, Some j)) (lookup j (replace_at i v (graph E.pairs))) (put r v g)
        each_case j true e =
            let s = same_of j i e in
            let there = matched (number_among rs (y, Some i)) (lookup i (graph E.pairs)) at (E.each i) in
            let P : Data → Type 0 = λ x. Matches (number_among rs (y, Some x)) (lookup x (replace_at i v (graph E.pairs))) (put r v g) in
            let Q : Option ℕ → Type 0 = λ o. Matches o (lookup i (replace_at i v (graph E.pairs))) (put r v g) in
            let R : Option Data → Type 0 = λ o. Matches (Some r) o (put r v g) in
            subst P (sym s) (subst Q (sym at) (subst R (sym (lookup_here i v there.0 (graph E.pairs) there.1)) (sym (put_here r v g))))
        each_case j false e =
            let R : Option Data → Type 0 = λ o. Matches (number_among rs (y, Some j)) o (put r v g) in
            subst R (sym (lookup_other i j v (graph E.pairs) e))
            (matches_same (number_among rs (y, Some j)) (lookup j (graph E.pairs)) g (put r v g)
            (λ q f. put_there r q v g (numbers_apart (y, Some j) (y, Some i) q r f at ((λ k. same_name y y && e k) ∙ and_false (same_name y y)))) (E.each j))
          where
            and_false : (b : Bool) → b && false ≡ false
            and_false true = refl
            and_false false = refl

        here : Elements y (value_now K (Whole y) ((y, with_at i v E.pairs) ∷ ch)) (put r v g)
        here = record {
          pairs = pairs (replace_at i v (graph E.pairs));
          is = value_here y (with_at i v E.pairs) ch;
          few = ap (λ l. nat_lt most_members (length l)) (graph-pairs (replace_at i v (graph E.pairs))) ∙ ap (nat_lt most_members) (replaced_length i v (graph E.pairs)) ∙ E.few;
          low = subst (λ l. graph_size l ≤ 2046) (sym (graph-pairs (replace_at i v (graph E.pairs)))) (replaced_low i v (graph E.pairs) 2046 E.low (le_of (depth v) 2046 low));
          each = λ j. subst (λ l. Matches (number_among rs (y, Some j)) (lookup j l) (put r v g)) (sym (graph-pairs (replace_at i v (graph E.pairs)))) (each_case j (same_data j i) refl);
          domain = λ q e. ap keys (graph-pairs (replace_at i v (graph E.pairs))) ∙ replaced_keys i v (graph E.pairs) ∙ E.domain q e;
        }

        element_case : (z : Name) → IsElements z → (b : Bool) → same_name z y ≡ b → Elements z (value_now K (Whole z) ((y, with_at i v E.pairs) ∷ ch)) (put r v g)
        element_case z e true n = subst (λ x. Elements x (value_now K (Whole x) ((y, with_at i v E.pairs) ∷ ch)) (put r v g)) (sym (same_name-is z y n)) here
        element_case z e false n =
            let old = h.elements z e in
            record {
              pairs = old.pairs;
              is = value_other y z (with_at i v E.pairs) ch n ∙ old.is;
              few = old.few;
              low = old.low;
              each = λ j. matches_same (number_among rs (z, Some j)) (lookup j (graph old.pairs)) g (put r v g)
                  (λ q f. put_there r q v g (numbers_apart (z, Some j) (y, Some i) q r f at (ap (λ b. b && same_data j i) n))) (old.each j);
              domain = old.domain;
            }
