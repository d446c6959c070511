-- Where instances start: ProcSet is the set of all identifiers, and the CASE gives each the first label of its process.
use Rattle.std.proofs.Common.{◌≡◌, ◌⊎◌, ℕ, ◌+◌, ◌<◌, ◌≤◌, Bool, true, false, List, [], ◌∷◌, ◌++◌, length, map, Option, Some, None, refl, sym, ap, ◌∙◌, subst, option_and_then, option_map, inl, inr, ⊎_elim, arith}
use Rattle.std.specs.Prelude.{if◌then◌else◌, nat_lt}
use Rattle.std.proofs.lemmas.Bool.Decides.{nat_tests}
use Rattle.std.specs.List.{AllByRecursion, flat_map}
use Rattle.std.proofs.lemmas.Option.{same_Some}
use Rattle.pgo_base.specs.declared.expr.Infix.TheVariants as infixs
use Rattle.pgo_base.specs.Data.{Data, boolean, string, set, Pairs, no_pairs, pair, graph, keys, no_items, item, items, members-items}
use Rattle.pgo_base.specs.Lookup.{Name}
use Rattle.pgo_base.specs.Sets.{in_order, IsSorted, sorted-in_order, in-in_order, in_order-in}
use Rattle.pgo_base.specs.Size.{depth, items_depth, pairs_depth}
use Rattle.pgo_base.specs.Tree.{Tree, name, text, binary, arms}
use Rattle.pgo_model.specs.Module.{joined_by, union_of}
use Rattle.pgo_model.specs.Operators.{both, contains, members_of, set_from, joined, if_few, most_depth, union, truth_of}
use Rattle.pgo_model.specs.Val.{Scope, val, decide, case_value}
use Rattle.pgo_bound.specs.Among.{IsAmong}
use Rattle.pgo_bound.specs.Among.{among_append, among_left, among_right, among_flat_map}
use Rattle.pgo_bound.specs.Once.{StandOnce}
use Rattle.pgo_values.proofs.Lists.{contained, among_in, in_among, ordered_few}
use Rattle.pgo_translate.proofs.Kleene.{CanBeBound}
use Rattle.pgo_translate.proofs.Graphs.{built_some}
use Rattle.pgo_translate.proofs.Kleene.{contains_cases}
use Rattle.pgo_translate.proofs.StartItems.{set_is}

items_low : (n : ℕ) (xs : List Data) → ((q : Data) → IsAmong q xs → depth q ≤ n) → items_depth (items xs) ≤ n
items_low n [] h = omega arith
items_low n (x ∷ xs) h = omega (arith, h x (inl refl), items_low n xs (λ q i. h q (inr i)))

pub key_low : (ps : Pairs) (k : Data) → IsAmong k (keys (graph ps)) → depth k ≤ pairs_depth ps
key_low no_pairs k h = absurd h
key_low (pair q v ps) k (inl e) = let d : depth k ≡ depth q = ap depth e in omega (arith, d)
key_low (pair q v ps) k (inr h) = omega (arith, key_low ps k h)

-- a set of few shallow members is a value
pub set_made : (xs : List Data) → length xs ≤ 64 → ((q : Data) → IsAmong q xs → depth q ≤ 256) → set_from xs ≡ Some (set (items (in_order xs)))
set_made xs few low =
    built_some (length (in_order xs)) (set (items (in_order xs))) (omega (arith, few, ordered_few xs))
    (omega (arith, items_low 256 (in_order xs) (λ q i. low q (in_among q xs (in-in_order q xs (among_in q (in_order xs) i))))))

pub can_be_bound : (v : Data) → depth v ≤ 256 → CanBeBound v
can_be_bound v low = set_made (v ∷ []) (omega arith) (λ q i. subst (λ z. depth z ≤ 256) (the q i) low)
  where
    the : (q : Data) → (q ≡ v) ⊎ ⊥ → v ≡ q
    the q (inl e) = sym e
    the q (inr h) = absurd h

-- a value of the greatest depth makes no set by itself: a section that binds one goes on, and its action can't
pub deepest_alone : (v : Data) → depth v ≡ 2048 → set_from (v ∷ []) ≡ None
deepest_alone v h = ap (λ b. if b then None else if_few 1 (set (item v no_items))) deep
  where
    deep : nat_lt most_depth (depth (set (item v no_items))) ≡ true
    deep = let k : 2048 < depth (set (item v no_items)) = omega (arith, h) in grind (arith, nat_tests)

-- the set of one identifier
pub only_ids : (o : Option Data) (ids : List Data) → option_map (λ v. v ∷ []) o ≡ Some ids → ((v : Data) → IsAmong v ids → CanBeBound v)
    → option_and_then members_of (option_and_then set_from (both (λ v vs. Some (v ∷ vs)) o (Some []))) ≡ Some ids
only_ids None ids h b = absurd (cc)
only_ids (Some v) ids h b =
    let e : v ∷ [] ≡ ids = same_Some (v ∷ []) ids h in
    ap (option_and_then members_of) (b v (subst (IsAmong v) e (inl refl))) ∙ ap Some e

pub length_append : (xs ys : List Data) → length (xs ++ ys) ≡ length xs + length ys
length_append [] ys = omega arith
length_append (x ∷ xs) ys = let r = length_append xs ys in omega (arith, r)

module _ (sc : Scope) where
  abbrev pub Has : Tree → List Data → Type 0
  Has t ys = option_and_then members_of (val t sc) ≡ Some ys

  abbrev pub AllHave : List Tree → List (List Data) → Type 0
  AllHave [] [] = Unit {0}
  AllHave [] (ys ∷ yss) = ⊥
  AllHave (t ∷ ts) [] = ⊥
  AllHave (t ∷ ts) (ys ∷ yss) = Has t ys × AllHave ts yss

  -- a set of these, in order, each once
  pub record Gathers (t : Tree) (all : List Data) : Type 0 where
    pub members : List Data
    pub has : Has t members
    pub sorted : IsSorted members
    pub few : length members ≤ length all
    pub into : (q : Data) → IsAmong q members → IsAmong q all
    pub out : (q : Data) → IsAmong q all → IsAmong q members

  union_has : (a b : Tree) (xs ys : List Data) → Has a xs → Has b ys → length (xs ++ ys) ≤ 64 → ((q : Data) → IsAmong q (xs ++ ys) → depth q ≤ 256) → Has (binary infixs.Union a b) (in_order (xs ++ ys))
  union_has a b xs ys h g few low =
      let p = set_is (val a sc) xs h in
      let r = set_is (val b sc) ys g in
      (λ i. option_and_then members_of (both union (p.1 i) (r.1 i)))
      ∙ (λ i. option_and_then members_of (set_from (p.2 i ++ r.2 i)))
      ∙ ap (option_and_then members_of) (set_made (xs ++ ys) few low)
      ∙ ap Some (members-items (in_order (xs ++ ys)))

  module _ (ys zs : List Data) (yss : List (List Data)) where
    abbrev ws : List Data
    ws = in_order (ys ++ zs)

    in_all : (q : Data) → IsAmong q ws ⊎ IsAmong q (joined yss) → IsAmong q (ys ++ (zs ++ joined yss))
    in_all q (inr k) = among_right q ys (zs ++ joined yss) (among_right q zs (joined yss) k)
    in_all q (inl k) = ⊎_elim (λ m. among_left q ys (zs ++ joined yss) m) (λ m. among_right q ys (zs ++ joined yss) (among_left q zs (joined yss) m)) (among_append q ys zs (in_among q (ys ++ zs) (in-in_order q (ys ++ zs) (among_in q ws k))))

    into_ws : (q : Data) → IsAmong q (ys ++ zs) → IsAmong q (ws ++ joined yss)
    into_ws q m = among_left q ws (joined yss) (in_among q ws (in_order-in q (ys ++ zs) (among_in q (ys ++ zs) m)))

    to_all : (q : Data) → IsAmong q ys ⊎ IsAmong q (zs ++ joined yss) → IsAmong q (ws ++ joined yss)
    to_all q (inl m) = into_ws q (among_left q ys zs m)
    to_all q (inr m) = ⊎_elim (λ k. into_ws q (among_right q ys zs k)) (λ k. among_right q ws (joined yss) k) (among_append q zs (joined yss) m)

    of_two : (q : Data) → IsAmong q (ys ++ zs) → IsAmong q (ys ++ (zs ++ joined yss))
    of_two q m = ⊎_elim (λ k. among_left q ys (zs ++ joined yss) k) (λ k. among_right q ys (zs ++ joined yss) (among_left q zs (joined yss) k)) (among_append q ys zs m)

    gather_more : (t : Tree) → Gathers t (ws ++ joined yss) → Gathers t (ys ++ (zs ++ joined yss))
    gather_more t r = record {
      members = r.members;
      has = r.has;
      sorted = r.sorted;
      few = omega (arith, r.few, length_append ws (joined yss), length_append ys (zs ++ joined yss), length_append zs (joined yss), length_append ys zs, ordered_few (ys ++ zs));
      into = λ q i. in_all q (among_append q ws (joined yss) (r.into q i));
      out = λ q i. r.out q (to_all q (among_append q ys (zs ++ joined yss) i));
    }

  gathers : (t : Tree) (ts : List Tree) (ys : List Data) (yss : List (List Data)) → Has t ys → AllHave ts yss → IsSorted ys → length (ys ++ joined yss) ≤ 64 → ((q : Data) → IsAmong q (ys ++ joined yss) → depth q ≤ 256) → Gathers (joined_by infixs.Union t ts) (ys ++ joined yss)
  gathers t [] ys [] h a o few low = record { members = ys; has = h; sorted = o; few = omega (arith, length_append ys []); into = λ q i. among_left q ys [] i; out = λ q i. ⊎_elim (λ k. k) (λ k. absurd k) (among_append q ys [] i) }
  gathers t [] ys (zs ∷ yss) h a o few low = absurd a
  gathers t (b ∷ ts) ys [] h a o few low = absurd a
  gathers t (b ∷ ts) ys (zs ∷ yss) h a o few low =
      let ws = in_order (ys ++ zs) in
      gather_more ys zs yss (joined_by infixs.Union (binary infixs.Union t b) ts)
      (gathers (binary infixs.Union t b) ts ws yss
      (union_has t b ys zs h a.0 (omega (arith, few, length_append ys (zs ++ joined yss), length_append zs (joined yss), length_append ys zs)) (λ q m. low q (of_two ys zs yss q m)))
      a.1 (sorted-in_order (ys ++ zs))
      (omega (arith, few, length_append ws (joined yss), length_append ys (zs ++ joined yss), length_append zs (joined yss), length_append ys zs, ordered_few (ys ++ zs)))
      (λ q m. low q (in_all ys zs yss q (among_append q ws (joined yss) m))))

  -- the union of sets has the members of all
  pub union_gathers : (ts : List Tree) (yss : List (List Data)) → AllHave ts yss → AllByRecursion IsSorted yss → length (joined yss) ≤ 64 → ((q : Data) → IsAmong q (joined yss) → depth q ≤ 256) → Gathers (union_of ts) (joined yss)
  union_gathers [] [] a o few low = record { members = []; has = refl; sorted = sorted-in_order []; few = omega arith; into = λ q i. i; out = λ q i. i }
  union_gathers [] (ys ∷ yss) a o few low = absurd a
  union_gathers (t ∷ ts) [] a o few low = absurd a
  union_gathers (t ∷ ts) (ys ∷ yss) a o few low = gathers t ts ys yss a.0 a.1 o.0 few low

pub not_contained : (q : Data) (xs : List Data) → (IsAmong q xs → ⊥) → contains q xs ≡ false
not_contained q [] h = refl
not_contained q (x ∷ xs) h = go (contains q (x ∷ xs)) refl
  where
    in_list : (ys : List Data) → contains q ys ≡ true → IsAmong q ys
    in_list [] k = absurd (cc)
    in_list (y ∷ ys) k = ⊎_elim (λ e. inl e) (λ m. inr (in_list ys m)) (contains_cases q y ys k)

    go : (b : Bool) → contains q (x ∷ xs) ≡ b → contains q (x ∷ xs) ≡ false
    go true e = absurd (h (in_list (x ∷ xs) e))
    go false e = e

once_apart : (xs ys : List Data) → StandOnce (xs ++ ys) → (q : Data) → IsAmong q xs → IsAmong q ys → ⊥
once_apart [] ys o q h g = h
once_apart (x ∷ xs) ys o q (inl e) g = o.0 (subst (λ z. IsAmong z (xs ++ ys)) e (among_right q xs ys g))
once_apart (x ∷ xs) ys o q (inr h) g = once_apart xs ys o.1 q h g

once_rest : (xs ys : List Data) → StandOnce (xs ++ ys) → StandOnce ys
once_rest [] ys o = o
once_rest (x ∷ xs) ys o = once_rest xs ys o.1

-- a CASE over processes with their sets and places gives each identifier its process's place
module _ {A : Type 0} (tree : A → Tree) (ids : A → List Data) (place : A → Name) (self : Name) (sc : Scope) (id : Data) where
  abbrev pub case_arms : List A → List (Tree × Tree)
  case_arms as' = map (λ a. (binary infixs.In (name self) (tree a), text (place a))) as'

  pub case_at : (as' : List A) → ((a : A) → IsAmong a as' → val (binary infixs.In (name self) (tree a)) sc ≡ Some (boolean (contains id (ids a)))) → StandOnce (flat_map ids as')
      → (a : A) → IsAmong a as' → IsAmong id (ids a) → case_value (arms (case_arms as')) sc None ≡ Some (string (place a))
  case_at [] g o a m i = absurd m
  case_at (b ∷ as') g o a (inl e) i =
      ap (λ v. decide (truth_of v) (Some (string (place b))) (case_value (arms (case_arms as')) sc None)) (g b (inl refl) ∙ ap (λ c. Some (boolean c)) (contained id (ids b) (subst (λ z. IsAmong id (ids z)) e i)))
      ∙ ap (λ z. Some (string (place z))) (sym e)
  case_at (b ∷ as') g o a (inr m) i =
      ap (λ v. decide (truth_of v) (Some (string (place b))) (case_value (arms (case_arms as')) sc None)) (g b (inl refl) ∙ ap (λ c. Some (boolean c)) (not_contained id (ids b) (λ k. once_apart (ids b) (flat_map ids as') o id k (inside as' a m i))))
      ∙ case_at as' (λ c k. g c (inr k)) (once_rest (ids b) (flat_map ids as') o) a m i
    where
      inside : (bs : List A) (a : A) → IsAmong a bs → IsAmong id (ids a) → IsAmong id (flat_map ids bs)
      inside bs a m i = among_flat_map ids a id bs m i
