-- Where a section ends at a label: the state that it leads to, and that it is one exactly where no resource and no own component is too deep.
use Rattle.std.proofs.Common.{◌≡◌, ℕ, ◌≤◌, Bool, true, false, ◌&&◌, List, [], ◌∷◌, length, Option, Some, None, inl, inr, refl, sym, ap, ◌∙◌, subst, arith, option_and_then}
use Rattle.std.specs.Prelude.{if◌then◌else◌, nat_le, nat_lt}
use Rattle.std.proofs.lemmas.Bool.{and_parts}
use Rattle.std.proofs.lemmas.Option.{same_Some}
use Rattle.pgo_base.specs.Data.{Data, boolean, integer, string, model, set, function, Pairs, graph, keys, graph-pairs}
use Rattle.pgo_base.specs.Lookup.{Name, Vars, same_name, find}
use Rattle.pgo_base.specs.Size.{depth, members_size, graph_size}
use Rattle.pgo_model.specs.Core.{number_among}
use Rattle.pgo_model.specs.Machine.{among}
use Rattle.pgo_model.specs.Names.{same_name-is, is_among}
use Rattle.pgo_model.specs.Operators.{same_data, apply, contains, lookup, most_members, both}
use Rattle.pgo_model.specs.Options.{on}
use Rattle.pgo_model.specs.State.{is_shallow}
use Rattle.pgo_model.specs.System.{Words, Resource, Touched}
use Rattle.pgo_model.specs.Written.{pc}
use Rattle.pgo_bound.specs.Among.{IsAmong}
use Rattle.pgo_sections.specs.BoundValues.{put_part, value_put}
use Rattle.pgo_sections.specs.Code.{Whole}
use Rattle.pgo_sections.specs.Context.{Context, part_at, value_now}
use Rattle.pgo_sections.specs.Section.{closed_value, closed}
use Rattle.pgo_sections.specs.SectionRun.{ChoiceMade}
use Rattle.pgo_sections.proofs.Closing.{closed_at}
use Rattle.pgo_sections.proofs.Domains.{same_of}
use Rattle.pgo_workers.specs.Walk as walks
use Rattle.pgo_accesses.specs.Accesses.{Progress, own_next, is_empty, all_shallow, is_too_deep}
use Rattle.pgo_accesses.proofs.Parts.{same_self, size_is, lookup_low, replaced_low, lookup_here, lookup_other, with_at, put_is, depth_at, made_of, le_of, of_le, not_less}
use Rattle.pgo_accesses.proofs.Related.{Matches, IsElements, IsResource, MayChange, Elements, AsBound, Related}

-- ---- graphs

-- no key stands twice
abbrev pub Once : List Data → Type 0
Once [] = Unit {0}
Once (k ∷ ks) = (contains k ks ≡ false) × Once ks

pub in_keys : (k v : Data) (l : List (Data × Data)) → lookup k l ≡ Some v → contains k (keys l) ≡ true
in_keys k v [] h = absurd (grind (arith, h))
in_keys k v (p ∷ l) h = go (same_data k p.0) h (λ e. in_keys k v l e)
  where
    go : (b : Bool) → (if b then Some p.1 else lookup k l) ≡ Some v → (lookup k l ≡ Some v → contains k (keys l) ≡ true) → (if b then true else contains k (keys l)) ≡ true
    go true h ih = refl
    go false h ih = ih h

-- a graph is as deep as its keys and the values at them
graph_low : (l : List (Data × Data)) (n : ℕ) → Once (keys l) → members_size (keys l) ≤ n → ((k v : Data) → lookup k l ≡ Some v → depth v ≤ n) → graph_size l ≤ n
graph_low [] n o le h = le
graph_low (p ∷ l) n o le h =
    let first : depth p.1 ≤ n = h p.0 p.1 (ap (λ b. if b then Some p.1 else lookup p.0 l) (same_self p.0)) in
    let rest = graph_low l n o.1 (omega (arith, le)) (λ k v e. h k v (past k v e (same_data k p.0) refl)) in
    omega (arith, first, rest, le)
  where
    past : (k v : Data) → lookup k l ≡ Some v → (b : Bool) → same_data k p.0 ≡ b → (if b then Some p.1 else lookup k l) ≡ Some v
    past k v e true s = absurd (let z : true ≡ false = sym (in_keys k v l e) ∙ ap (λ x. contains x (keys l)) (same_of k p.0 s) ∙ o.0 in grind (arith, z))
    past k v e false s = e

pub keys_low : (l : List (Data × Data)) (n : ℕ) → graph_size l ≤ n → members_size (keys l) ≤ n
keys_low [] n h = h
keys_low (p ∷ l) n h = let r = keys_low l n (omega (arith, h)) in omega (arith, r, h)

-- ---- tests

pub same_test : (a b : Bool) → (a ≡ true → b ≡ true) → (b ≡ true → a ≡ true) → a ≡ b
same_test true b h g = sym (h refl)
same_test false true h g = g refl
same_test false false h g = refl

pub shallow_at : (t : Vars) (x : Name) (v : Data) → is_shallow t ≡ true → find x t ≡ Some v → depth v ≤ 256
shallow_at [] x v s e = absurd (grind (arith, e))
shallow_at (p ∷ t) x v s e =
    let b = and_parts (nat_le (depth p.1) 256) (is_shallow t) s in go (same_name x p.0) e (λ f. shallow_at t x v b.1 f) b.0
  where
    go : (c : Bool) → (if c then Some p.1 else find x t) ≡ Some v → (find x t ≡ Some v → depth v ≤ 256) → nat_le (depth p.1) 256 ≡ true → depth v ≤ 256
    go true e ih low = let s : p.1 ≡ v = cc in subst (λ z. depth z ≤ 256) s (le_of (depth p.1) 256 low)
    go false e ih low = ih e

-- a function with another part, which there is
pub put_some : (i w v : Data) (q : Pairs) → lookup i (graph q) ≡ Some v → nat_lt most_members (length (graph q)) ≡ false → depth (function q) ≤ 256 → depth w ≤ 2047 → put_part i (Some (function q)) (Some w) ≡ Some (with_at i w q)
put_some i w v q h few low low_w =
    let s = size_is q in
    let size = replaced_low i w (graph q) 2047 (omega (arith, s, low)) low_w in
    let deep = depth_at i w q in
    let l = Rattle.pgo_accesses.proofs.Parts.replaced_length i w (graph q) in
    put_is i w v q h ∙ made_of (depth (with_at i w q)) (length (Rattle.pgo_model.specs.Operators.replace_at i w (graph q))) (with_at i w q) (not_less 2048 (depth (with_at i w q)) (omega (arith, deep, size))) (ap (nat_lt most_members) l ∙ few)

-- and what the whole then has
pub part_there : (i w v : Data) (q : Pairs) → lookup i (graph q) ≡ Some v → apply (with_at i w q) i ≡ Some w
part_there i w v q h = ap (lookup i) (graph-pairs (Rattle.pgo_model.specs.Operators.replace_at i w (graph q))) ∙ lookup_here i w v (graph q) h

module _ (K : Context) (rs : List Resource) (at_start : walks.Own) (d : Words) where
  -- a variable that has a part at the identifier
  pub record HasPart (x : Name) (v : Data) : Type 0 where
    pub graph_of : Pairs
    pub is : find x K.start ≡ Some (function graph_of)
    pub here : lookup K.id (graph graph_of) ≡ Some v
    pub few : nat_lt most_members (length (graph graph_of)) ≡ false
    pub no_global : is_among x K.globals ≡ false

  abbrev pub EachPart : walks.Own → Type 0
  EachPart [] = Unit {0}
  EachPart (p ∷ o) = HasPart p.0 p.1 × EachPart o

  -- each entry is the first of its name
  abbrev pub Entries : Vars → Type 0
  Entries s = (p : Name × Data) → IsAmong p s → find p.0 K.start ≡ Some p.1

  -- what is known of the state in which the section began
  pub record Start : Type 0 where
    pub entries : Entries K.start
    pub shallow : is_shallow K.start ≡ true
    pub there : (x : Name) → is_among x K.globals ≡ true → (v : Data) × (find x K.start ≡ Some v)
    pub parts : EachPart at_start
    pub place : (v : Data) × (find pc at_start ≡ Some v)
    pub mine : (x : Name) → is_among x K.owns ≡ true → (same_name x pc ≡ false) × ((v : Data) × (find x at_start ≡ Some v))
    pub elements : (x : Name) → IsElements K rs at_start d x → (q : Pairs) × (find x K.start ≡ Some (function q)) × Once (keys (graph q))

  part_of_own : (o : walks.Own) (x : Name) (v : Data) → EachPart o → find x o ≡ Some v → HasPart x v
  part_of_own [] x v h e = absurd (grind (arith, e))
  part_of_own (p ∷ o) x v h e = go (same_name x p.0) refl e (λ f. part_of_own o x v h.1 f)
    where
      go : (b : Bool) → same_name x p.0 ≡ b → (if b then Some p.1 else find x o) ≡ Some v → (find x o ≡ Some v → HasPart x v) → HasPart x v
      go true n e ih = subst (λ z. HasPart x z) (same_Some p.1 v e) (subst (λ z. HasPart z p.1) (sym (same_name-is x p.0 n)) h.0)
      go false n e ih = ih e

  module _ (G : AsBound K rs at_start d) (S : Start) (l : Name) (ch : Vars) (cs : List ChoiceMade) (ps : List Data) (p : Progress) (g : ℕ → Data) (R : Related K rs at_start d ch cs ps p g) where
    -- what an own component becomes
    abbrev pub next_of : Name → Data → Data
    next_of x v = if same_name x pc then string l else on v (find x p.changes) (λ v. v)

    abbrev o : walks.Own
    o = own_next l p.changes at_start

    start_low : (x : Name) (v : Data) → find x K.start ≡ Some v → depth v ≤ 256
    start_low x v e = shallow_at K.start x v S.shallow e

    own_low : (own : walks.Own) (x : Name) (v : Data) → all_shallow (own_next l p.changes own) ≡ true → find x own ≡ Some v → depth (next_of x v) ≤ 255
    own_low [] x v s e = absurd (grind (arith, e))
    own_low (q ∷ own) x v s e =
        let b = and_parts (nat_le (depth (next_of q.0 q.1)) 255) (all_shallow (own_next l p.changes own)) s in go (same_name x q.0) refl e (λ f. own_low own x v b.1 f) (le_of (depth (next_of q.0 q.1)) 255 b.0)
      where
        go : (b : Bool) → same_name x q.0 ≡ b → (if b then Some q.1 else find x own) ≡ Some v → (find x own ≡ Some v → depth (next_of x v) ≤ 255) → depth (next_of q.0 q.1) ≤ 255 → depth (next_of x v) ≤ 255
        go true n e ih low = subst (λ z. depth (next_of x z) ≤ 255) (same_Some q.1 v e) (subst (λ z. depth (next_of z q.1) ≤ 255) (sym (same_name-is x q.0 n)) low)
        go false n e ih low = ih e

    -- no resource is too deep
    not_deep : is_empty p.too_deep ≡ true → (c : Touched) (r : ℕ) → number_among rs c ≡ Some r → is_too_deep (K.by_element c.0) (g r) ≡ false
    not_deep h c r e = sym (R.deep c r e) ∙ go p.too_deep h
      where
        go : (l : List ℕ) → is_empty l ≡ true → among r l ≡ false
        go [] h = refl
        go (x ∷ l) h = absurd (grind (arith, h))

    -- what is not too deep, as a whole and as an element
    whole_low : (v : Data) → is_too_deep false v ≡ false → depth v ≤ 256
    whole_low v h = go (nat_le (depth v) 256) refl h
      where
        go : (b : Bool) → nat_le (depth v) 256 ≡ b → (if b then false else true) ≡ false → depth v ≤ 256
        go true e h = le_of (depth v) 256 e
        go false e h = absurd (grind (arith, h))

    element_low : (v : Data) → is_too_deep true v ≡ false → depth v ≤ 255
    element_low v h = go (nat_le (depth v) 255) refl h
      where
        go : (b : Bool) → nat_le (depth v) 255 ≡ b → (if b then false else true) ≡ false → depth v ≤ 255
        go true e h = le_of (depth v) 255 e
        go false e h = absurd (grind (arith, h))

    elements_low : (x : Name) → IsElements K rs at_start d x → is_empty p.too_deep ≡ true → (w : Data) → value_now K (Whole x) ch ≡ Some w → depth w ≤ 256
    elements_low x is h w e =
        let E = R.elements x is in
        let f = S.elements x is in
        let dom = E.domain f.0 f.1 in
        let once = subst Once (sym dom) f.2 in
        let z = size_is f.0 in
        let start = start_low x (function f.0) f.1 in
        let low_keys = subst (λ ks. members_size ks ≤ 255) (sym dom) (keys_low (graph f.0) 255 (omega (arith, z, start))) in
        let size = graph_low (graph E.pairs) 255 once low_keys (λ k v at. value k v at) in
        let s = size_is E.pairs in
        subst (λ z. depth z ≤ 256) (same_Some (function E.pairs) w (sym E.is ∙ e)) (omega (arith, s, size))
      where
        E : Elements K rs at_start d x (value_now K (Whole x) ch) g
        E = R.elements x is

        value : (k v : Data) → lookup k (graph E.pairs) ≡ Some v → depth v ≤ 255
        value k v at = matched (number_among rs (x, Some k)) refl (lookup k (graph E.pairs)) at (E.each k)
          where
            matched : (n : Option ℕ) → number_among rs (x, Some k) ≡ n → (m : Option Data) → m ≡ Some v → Matches n m g → depth v ≤ 255
            matched None f None e m = absurd (grind (arith, e))
            matched None f (Some u) e m = absurd m
            matched (Some r) f None e m = absurd m
            matched (Some r) f (Some u) e m =
                let deep = sym (ap (λ b. is_too_deep b (g r)) is.0) ∙ not_deep h (x, Some k) r f in
                subst (λ z. depth z ≤ 255) (sym m ∙ same_Some u v e) (element_low (g r) deep)

    -- ---- what each variable becomes

    -- a variable's new value, which is low where nothing is too deep
    pub record Becomes (x : Name) (v : Data) : Type 0 where
      pub becomes : Data
      pub is : closed_value K l ch x v ≡ Some becomes
      pub low : is_empty p.too_deep ≡ true → all_shallow o ≡ true → depth becomes ≤ 256

    not_global : (x : Name) → same_name x pc ≡ true → is_among x K.globals ≡ false
    not_global x e = ap (λ z. is_among z K.globals) (same_name-is x pc e) ∙ (part_of_own at_start pc S.place.0 S.parts S.place.1).no_global

    -- a part of a variable is replaced
    replaced_part : (x : Name) (v : Data) (u w : Data) → HasPart x u → find x K.start ≡ Some v → depth w ≤ 2047
        → (q : Pairs) × (v ≡ function q) × (put_part K.id (Some v) (Some w) ≡ Some (with_at K.id w q)) × (depth w ≤ 255 → depth (with_at K.id w q) ≤ 256)
    replaced_part x v u w h e low =
        let q = h.graph_of in
        let s : function q ≡ v = same_Some (function q) v (sym h.is ∙ e) in
        let start = start_low x (function q) h.is in
        let z = size_is q in (
          q,
          sym s,
          ap (λ f. put_part K.id (Some f) (Some w)) (sym s) ∙ put_some K.id w u q h.here h.few start low,
          λ lower. (let size = replaced_low K.id w (graph q) 255 (omega (arith, z, start)) lower in let deep = depth_at K.id w q in omega (arith, size, deep)),
        )

    becomes_at : (x : Name) (v : Data) → find x K.start ≡ Some v → Becomes x v
    becomes_at x v e = go (same_name x pc) refl
      where
        place_part : same_name x pc ≡ true → HasPart x S.place.0
        place_part n = subst (λ z. HasPart z S.place.0) (sym (same_name-is x pc n)) (part_of_own at_start pc S.place.0 S.parts S.place.1)

        -- a changed own variable
        own_case : (w : Data) → same_name x pc ≡ false → find x ch ≡ Some w → nat_le (depth w) 2047 ≡ true → (is_among x K.globals ≡ false) × (is_among x K.owns ≡ true) → Becomes x v
        own_case w n f low may =
            let u = (S.mine x may.1).1 in
            let part = replaced_part x v u.0 w (part_of_own at_start x u.0 S.parts u.1) e (le_of (depth w) 2047 low) in
            record {
              becomes = with_at K.id w part.0;
              is = (λ i. if n i then put_part K.id (Some v) (Some (string l)) else on (Some v) (f i) (λ v'. value_put (may.0 i) K.id (Some v) (Some v'))) ∙ part.2;
              low = λ none all. part.3 (subst (λ z. depth z ≤ 255) ((λ i. if n i then string l else on u.0 ((R.own x may.0 ∙ f) i) (λ v. v))) (own_low at_start x u.0 all u.1));
            }

        global_case : (w : Data) → same_name x pc ≡ false → find x ch ≡ Some w → is_among x K.globals ≡ true → (is_empty p.too_deep ≡ true → depth w ≤ 256) → Becomes x v
        global_case w n f is low = record {
          becomes = w;
          is = (λ i. if n i then put_part K.id (Some v) (Some (string l)) else on (Some v) (f i) (λ v'. value_put (is i) K.id (Some v) (Some v')));
          low = λ none all. low none;
        }

        now_is : (w : Data) → find x ch ≡ Some w → value_now K (Whole x) ch ≡ Some w
        now_is w f = ap (λ o. on (find x K.start) o (λ v. Some v)) f

        changed_case : (w : Data) → same_name x pc ≡ false → find x ch ≡ Some w → (nat_le (depth w) 2047 ≡ true) × MayChange K rs at_start d x → Becomes x v
        changed_case w n f (low, inl may) = own_case w n f low may
        changed_case w n f (low, inr (inl is)) =
            global_case w n f (G.globals (x, None) is.1.0 is.1.1) (λ none.
            let r = is.1.0 in
            let same = same_Some (g r) w (sym (R.whole x r is.1.1 is.0).0 ∙ now_is w f) in
            subst (λ z. depth z ≤ 256) same (whole_low (g r) (sym (ap (λ b. is_too_deep b (g r)) is.0) ∙ not_deep none (x, None) r is.1.1)))
        changed_case w n f (low, inr (inr is)) = global_case w n f is.1 (λ none. elements_low x is none w (now_is w f))

        past : same_name x pc ≡ false → (o : Option Data) → find x ch ≡ o → Becomes x v
        past n None f = record {
          becomes = v;
          is = (λ i. if n i then put_part K.id (Some v) (Some (string l)) else on (Some v) (f i) (λ v'. value_put (is_among x K.globals) K.id (Some v) (Some v')));
          low = λ none all. start_low x v e;
        }
        past n (Some w) f = changed_case w n f (R.changed x w f)

        go : (b : Bool) → same_name x pc ≡ b → Becomes x v
        go true n =
            let part = replaced_part x v S.place.0 (string l) (place_part n) e (omega arith) in
            record {
              becomes = with_at K.id (string l) part.0;
              is = ap (λ b. if b then put_part K.id (Some v) (Some (string l)) else on (Some v) (find x ch) (λ v'. value_put (is_among x K.globals) K.id (Some v) (Some v'))) n ∙ part.2;
              low = λ none all. part.3 (omega arith);
            }
        go false n = past n (find x ch) refl

    -- ---- the state that it leads to

    pub record Closes (s : Vars) : Type 0 where
      pub end : Vars
      pub is : closed K l ch s ≡ Some end
      pub low : is_empty p.too_deep ≡ true → all_shallow o ≡ true → is_shallow end ≡ true

    closes : (s : Vars) → Entries s → Closes s
    closes [] h = record { end = []; is = refl; low = λ none all. refl }
    closes (q ∷ s) h =
        let first = becomes_at q.0 q.1 (h q (inl refl)) in
        let rest = closes s (λ x m. h x (inr m)) in
        record {
          end = (q.0, first.becomes) ∷ rest.end;
          is = λ i. both (λ v t. Some ((q.0, v) ∷ t)) (first.is i) (rest.is i);
          low = λ none all. (λ i. of_le (depth first.becomes) 256 (first.low none all) i && rest.low none all i);
        }

    pub end_is : Closes K.start
    end_is = closes K.start S.entries

    abbrev t : Vars
    t = end_is.end

    at_end : (x : Name) → find x t ≡ option_and_then (closed_value K l ch x) (find x K.start)
    at_end x = closed_at K l ch K.start t end_is.is x

    -- a global has what it has now
    pub global_at : (x : Name) → is_among x K.globals ≡ true → find x t ≡ value_now K (Whole x) ch
    global_at x is = go (S.there x is)
      where
        not_place : (b : Bool) → same_name x pc ≡ b → b ≡ false
        not_place true e = absurd (let z : true ≡ false = sym is ∙ not_global x e in grind (arith, z))
        not_place false e = refl

        found : (v : Data) (o : Option Data) → on (Some v) o (λ v'. value_put true K.id (Some v) (Some v')) ≡ on (Some v) o (λ v. Some v)
        found v None = refl
        found v (Some w) = refl

        go : (v : Data) × (find x K.start ≡ Some v) → find x t ≡ value_now K (Whole x) ch
        go f =
            at_end x ∙ ap (option_and_then (closed_value K l ch x)) f.1
            ∙ (λ i. if not_place (same_name x pc) refl i then put_part K.id (Some f.0) (Some (string l)) else on (Some f.0) (find x ch) (λ v'. value_put (is i) K.id (Some f.0) (Some v')))
            ∙ found f.0 (find x ch)
            ∙ ap (λ o. on o (find x ch) (λ v. Some v)) (sym f.1)

    -- an own component becomes what the tree says
    pub own_at : (x : Name) (v : Data) → HasPart x v → part_at x K.id t ≡ Some (next_of x v)
    own_at x v h = ap (option_and_then (λ f. apply f K.id)) (at_end x ∙ ap (option_and_then (closed_value K l ch x)) h.is) ∙ go (same_name x pc) refl
      where
        q : Pairs
        q = h.graph_of

        replaced : (w : Data) → depth w ≤ 2047 → option_and_then (λ f. apply f K.id) (put_part K.id (Some (function q)) (Some w)) ≡ Some w
        replaced w low = ap (option_and_then (λ f. apply f K.id)) (put_some K.id w v q h.here h.few (start_low x (function q) h.is) low) ∙ part_there K.id w v q h.here

        past : (o : Option Data) → find x ch ≡ o → option_and_then (λ f. apply f K.id) (on (Some (function q)) o (λ v'. value_put false K.id (Some (function q)) (Some v'))) ≡ Some (on v o (λ v. v))
        past None f = h.here
        past (Some w) f = replaced w (le_of (depth w) 2047 (R.changed x w f).0)

        go : (b : Bool) → same_name x pc ≡ b
            → option_and_then (λ f. apply f K.id) (if b then put_part K.id (Some (function q)) (Some (string l)) else on (Some (function q)) (find x ch) (λ v'. value_put (is_among x K.globals) K.id (Some (function q)) (Some v')))
            ≡ Some (if b then string l else on v (find x p.changes) (λ v. v))
        go true n = replaced (string l) (omega arith)
        go false n =
            ap (λ c. option_and_then (λ f. apply f K.id) (on (Some (function q)) (find x ch) (λ v'. value_put c K.id (Some (function q)) (Some v')))) h.no_global
            ∙ past (find x ch) refl
            ∙ ap (λ o. Some (on v o (λ v. v))) (sym (R.own x h.no_global))

    -- another part of such a variable stays
    pub other_at : (x : Name) (v j : Data) → HasPart x v → same_data j K.id ≡ false → part_at x j t ≡ part_at x j K.start
    other_at x v j h n =
        ap (option_and_then (λ f. apply f j)) (at_end x ∙ ap (option_and_then (closed_value K l ch x)) h.is) ∙ go (same_name x pc) refl
        ∙ sym (ap (option_and_then (λ f. apply f j)) h.is)
      where
        q : Pairs
        q = h.graph_of

        replaced : (w : Data) → depth w ≤ 2047 → option_and_then (λ f. apply f j) (put_part K.id (Some (function q)) (Some w)) ≡ lookup j (graph q)
        replaced w low =
            ap (option_and_then (λ f. apply f j)) (put_some K.id w v q h.here h.few (start_low x (function q) h.is) low)
            ∙ ap (lookup j) (graph-pairs (Rattle.pgo_model.specs.Operators.replace_at K.id w (graph q))) ∙ lookup_other K.id j w (graph q) n

        past : (o : Option Data) → find x ch ≡ o → option_and_then (λ f. apply f j) (on (Some (function q)) o (λ v'. value_put false K.id (Some (function q)) (Some v'))) ≡ lookup j (graph q)
        past None f = refl
        past (Some w) f = replaced w (le_of (depth w) 2047 (R.changed x w f).0)

        go : (b : Bool) → same_name x pc ≡ b
            → option_and_then (λ f. apply f j) (if b then put_part K.id (Some (function q)) (Some (string l)) else on (Some (function q)) (find x ch) (λ v'. value_put (is_among x K.globals) K.id (Some (function q)) (Some v')))
            ≡ lookup j (graph q)
        go true m = replaced (string l) (omega arith)
        go false m =
            ap (λ c. option_and_then (λ f. apply f j) (on (Some (function q)) (find x ch) (λ v'. value_put c K.id (Some (function q)) (Some v')))) h.no_global ∙ past (find x ch) refl

    -- and a variable that code may not change
    pub unchanged_at : (x : Name) → (MayChange K rs at_start d x → ⊥) → same_name x pc ≡ false → find x t ≡ find x K.start
    unchanged_at x not n = at_end x ∙ go (find x ch) refl
      where
        none : (o : Option Data) → option_and_then (λ v. Some v) o ≡ o
        none None = refl
        none (Some v) = refl

        go : (o : Option Data) → find x ch ≡ o → option_and_then (closed_value K l ch x) (find x K.start) ≡ find x K.start
        go None f = (λ i. option_and_then (λ v. if n i then put_part K.id (Some v) (Some (string l)) else on (Some v) (f i) (λ v'. value_put (is_among x K.globals) K.id (Some v) (Some v'))) (find x K.start)) ∙ none (find x K.start)
        go (Some w) f = absurd (not (R.changed x w f).1)

    -- ---- it is a state exactly where nothing is too deep

    low_resource : is_shallow t ≡ true → (c : Touched) (r : ℕ) → number_among rs c ≡ Some r → IsResource K rs at_start d c.0 c.1 → is_too_deep (K.by_element c.0) (g r) ≡ false
    low_resource s (x, None) r e is =
        let w = (R.whole x r e is).0 in
        let low = shallow_at t x (g r) s (global_at x (G.globals (x, None) r e) ∙ w) in
        ap (λ b. is_too_deep b (g r)) is ∙ ap (λ b. if b then false else true) (of_le (depth (g r)) 256 low)
    low_resource s (x, Some i) r e is =
        let E = R.elements x is in
        let low = shallow_at t x (function E.pairs) s (global_at x is.1 ∙ E.is) in
        let z = size_is E.pairs in
        let part = element (number_among rs (x, Some i)) e (lookup i (graph E.pairs)) refl (E.each i) in
        let under = lookup_low i (g r) (graph E.pairs) 255 part (omega (arith, z, low)) in
        ap (λ b. is_too_deep b (g r)) is.0 ∙ ap (λ b. if b then false else true) (of_le (depth (g r)) 255 under)
      where
        element : (n : Option ℕ) → n ≡ Some r → (m : Option Data) → lookup i (graph (R.elements x is).pairs) ≡ m → Matches n m g → lookup i (graph (R.elements x is).pairs) ≡ Some (g r)
        element None f None k m = absurd (grind (arith, f))
        element None f (Some v) k m = absurd m
        element (Some q) f None k m = absurd m
        element (Some q) f (Some v) k m = k ∙ ap Some (m ∙ ap g (number q f))
          where
            number : (q : ℕ) → Some q ≡ Some r → q ≡ r
            number q f = cc

    none_deep_there : is_shallow t ≡ true → is_empty p.too_deep ≡ true
    none_deep_there s = go p.too_deep R.only R.deep
      where
        go : (l : List ℕ) → ((r : ℕ) → among r l ≡ true → (c : Touched) × (number_among rs c ≡ Some r) × IsResource K rs at_start d c.0 c.1)
            → ((c : Touched) (r : ℕ) → number_among rs c ≡ Some r → among r l ≡ is_too_deep (K.by_element c.0) (g r)) → is_empty l ≡ true
        go [] only deep = refl
        go (r ∷ l) only deep =
            let here : among r (r ∷ l) ≡ true = ap (λ b. if b then true else among r l) (Rattle.pgo_accesses.proofs.Related.same_number r) in
            let c = only r here in
            absurd (let z : true ≡ false = sym here ∙ deep c.0 r c.1 ∙ low_resource s c.0 r c.1 c.2 in grind (arith, z))

    part_under : (f : Option Data) (w : Data) → ((v : Data) → f ≡ Some v → depth v ≤ 256) → option_and_then (λ f. apply f K.id) f ≡ Some w → depth w ≤ 255
    part_under None w low e = absurd (grind (arith, e))
    part_under (Some (function q)) w low e = let k = low (function q) refl in let z = size_is q in lookup_low K.id w (graph q) 255 e (omega (arith, z, k))
    part_under (Some (boolean z)) w low e = absurd (grind (arith, e))
    part_under (Some (integer z)) w low e = absurd (grind (arith, e))
    part_under (Some (string z)) w low e = absurd (grind (arith, e))
    part_under (Some (model z)) w low e = absurd (grind (arith, e))
    part_under (Some (set z)) w low e = absurd (grind (arith, e))

    all_shallow_there : is_shallow t ≡ true → all_shallow o ≡ true
    all_shallow_there s = go at_start S.parts
      where
        go : (own : walks.Own) → EachPart own → all_shallow (own_next l p.changes own) ≡ true
        go [] h = refl
        go (q ∷ own) h =
            let low = part_under (find q.0 t) (next_of q.0 q.1) (λ v e. shallow_at t q.0 v s e) (own_at q.0 q.1 h.0) in
            λ i. of_le (depth (next_of q.0 q.1)) 255 low i && go own h.1 i

    pub is_state : is_shallow t ≡ (is_empty p.too_deep && all_shallow o)
    is_state =
        same_test (is_shallow t) (is_empty p.too_deep && all_shallow o)
        (λ s. (λ i. none_deep_there s i && all_shallow_there s i))
        (λ h. let b = and_parts (is_empty p.too_deep) (all_shallow o) h in end_is.low b.0 b.1)
