-- CHOOSE, filters and images over the members of a set, from the first on.
use Rattle.std.proofs.Common.{◌≡◌, ℕ, ◌<◌, ◌+◌, List, [], ◌∷◌, ◌++◌, length, map, get_or, drop, refl, ap, sym, ◌∙◌, add-one, drop-cons, append_assoc}
use Rattle.std.proofs.lemmas.List.{append-nil, drop_all}
use Rattle.std.specs.Prelude.{◌≤◌, Bool, true, false, Option, Some, None, option_map, option_and_then}
use Rattle.pgo_base.specs.Data.{Data}
use Rattle.pgo_base.specs.Lookup.{Name}
use Rattle.pgo_base.specs.Tree.{Tree, filter_of, image}
use Rattle.pgo_base.specs.View.{data_of}
use Rattle.pgo_base.specs.declared.value.Value.{Value}
use Rattle.pgo_model.specs.Operators.{both, each, filter3, keep3, members_of, set_from, truth_of}
use Rattle.pgo_model.specs.Val.{Scope, val, with_name}

-- what is asked of a member
abbrev pub asks_of : Name → Tree → Scope → Data → Option Bool
asks_of x p s m = truth_of (val p (with_name x (Some m) s))

-- what is made of a member
abbrev pub made_of : Name → Tree → Scope → Data → Option Data
made_of x e s m = val e (with_name x (Some m) s)

pushed : (xs : List Value) (y : Value) → map data_of (xs ++ y ∷ []) ≡ map data_of xs ++ data_of y ∷ []
pushed [] y = refl
pushed (x ∷ xs) y = ap (λ zs. data_of x ∷ zs) (pushed xs y)

next_member : (ms : List Value) (i : ℕ) (m : Value) → i < length ms → m ≡ get_or ms i m → drop i ms ≡ m ∷ drop (i + 1) ms
next_member ms i m h e = drop-cons ms i m h ∙ (λ j. sym e j ∷ drop (sym (add-one i) j) ms)

-- one member more is kept
pub kept_more : (P : Data → Option Bool) (ms : List Value) (i : ℕ) (m v : Value) (all : Option (List Data)) (done next : List Value) → i < length ms → m ≡ get_or ms i m → Some true ≡ P (data_of m) → v ≡ m → next ≡ done ++ v ∷ [] → all ≡ option_map (λ xs. map data_of done ++ xs) (filter3 P (map data_of (drop i ms))) → all ≡ option_map (λ xs. map data_of next ++ xs) (filter3 P (map data_of (drop (i + 1) ms)))
kept_more P ms i m v all done next h e t g n a =
    a ∙ ap (λ xs. option_map (λ ys. map data_of done ++ ys) (filter3 P (map data_of xs))) (next_member ms i m h e)
    ∙ ap (λ o. option_map (λ ys. map data_of done ++ ys) (option_and_then (keep3 o (data_of m)) (filter3 P (map data_of (drop (i + 1) ms))))) (sym t)
    ∙ go (filter3 P (map data_of (drop (i + 1) ms)))
  where
    go : (o : Option (List Data)) → option_map (λ ys. map data_of done ++ ys) (option_and_then (keep3 (Some true) (data_of m)) o) ≡ option_map (λ xs. map data_of next ++ xs) o
    go None = refl
    go (Some xs) =
        ap Some (sym (append_assoc (map data_of done) (data_of m ∷ []) xs) ∙ ap (λ ys. ys ++ xs) (ap (λ w. map data_of done ++ data_of w ∷ []) (sym g) ∙ sym (pushed done v) ∙ ap (map data_of) (sym n)))

-- one member more is dropped
pub kept_less : (P : Data → Option Bool) (ms : List Value) (i : ℕ) (m : Value) (all : Option (List Data)) (done : List Value) → i < length ms → m ≡ get_or ms i m → Some false ≡ P (data_of m) → all ≡ option_map (λ xs. map data_of done ++ xs) (filter3 P (map data_of (drop i ms))) → all ≡ option_map (λ xs. map data_of done ++ xs) (filter3 P (map data_of (drop (i + 1) ms)))
kept_less P ms i m all done h e t a =
    a ∙ ap (λ xs. option_map (λ ys. map data_of done ++ ys) (filter3 P (map data_of xs))) (next_member ms i m h e)
    ∙ ap (λ o. option_map (λ ys. map data_of done ++ ys) (option_and_then (keep3 o (data_of m)) (filter3 P (map data_of (drop (i + 1) ms))))) (sym t)
    ∙ go (filter3 P (map data_of (drop (i + 1) ms)))
  where
    go : (o : Option (List Data)) → option_map (λ ys. map data_of done ++ ys) (option_and_then (keep3 (Some false) (data_of m)) o) ≡ option_map (λ xs. map data_of done ++ xs) o
    go None = refl
    go (Some xs) = refl

-- a member for which p is no Boolean
pub kept_none : (P : Data → Option Bool) (ms : List Value) (i : ℕ) (m : Value) (all : Option (List Data)) (done : List Data) → i < length ms → m ≡ get_or ms i m → None ≡ P (data_of m) → all ≡ option_map (λ xs. done ++ xs) (filter3 P (map data_of (drop i ms))) → all ≡ None
kept_none P ms i m all done h e t a =
    a ∙ ap (λ xs. option_map (λ ys. done ++ ys) (filter3 P (map data_of xs))) (next_member ms i m h e)
    ∙ ap (λ o. option_map (λ ys. done ++ ys) (option_and_then (keep3 o (data_of m)) (filter3 P (map data_of (drop (i + 1) ms))))) (sym t)
    ∙ go (filter3 P (map data_of (drop (i + 1) ms)))
  where
    go : (o : Option (List Data)) → option_map (λ ys. done ++ ys) (option_and_then (keep3 None (data_of m)) o) ≡ None
    go None = refl
    go (Some xs) = refl

-- all members are asked
pub kept_all : (P : Data → Option Bool) (ms : List Value) (i : ℕ) (all : Option (List Data)) (done : List Data) → length ms ≤ i → all ≡ option_map (λ xs. done ++ xs) (filter3 P (map data_of (drop i ms))) → all ≡ Some done
kept_all P ms i all done h a =
    a ∙ ap (λ xs. option_map (λ ys. done ++ ys) (filter3 P (map data_of xs))) (drop_all i ms h) ∙ ap Some (append-nil done)

-- one value more
pub made_more : (F : Data → Option Data) (ms : List Value) (i : ℕ) (m v : Value) (all : Option (List Data)) (done next : List Value) → i < length ms → m ≡ get_or ms i m → Some (data_of v) ≡ F (data_of m) → next ≡ done ++ v ∷ [] → all ≡ option_map (λ xs. map data_of done ++ xs) (each F (map data_of (drop i ms))) → all ≡ option_map (λ xs. map data_of next ++ xs) (each F (map data_of (drop (i + 1) ms)))
made_more F ms i m v all done next h e t n a =
    a ∙ ap (λ xs. option_map (λ ys. map data_of done ++ ys) (each F (map data_of xs))) (next_member ms i m h e)
    ∙ ap (λ o. option_map (λ ys. map data_of done ++ ys) (both (λ b bs. Some (b ∷ bs)) o (each F (map data_of (drop (i + 1) ms))))) (sym t)
    ∙ go (each F (map data_of (drop (i + 1) ms)))
  where
    go : (o : Option (List Data)) → option_map (λ ys. map data_of done ++ ys) (both (λ b bs. Some (b ∷ bs)) (Some (data_of v)) o) ≡ option_map (λ xs. map data_of next ++ xs) o
    go None = refl
    go (Some xs) =
        ap Some (sym (append_assoc (map data_of done) (data_of v ∷ []) xs) ∙ ap (λ ys. ys ++ xs) (sym (pushed done v) ∙ ap (map data_of) (sym n)))

-- a member of which no value is made
pub made_none : (F : Data → Option Data) (ms : List Value) (i : ℕ) (m : Value) (all : Option (List Data)) (done : List Data) → i < length ms → m ≡ get_or ms i m → None ≡ F (data_of m) → all ≡ option_map (λ xs. done ++ xs) (each F (map data_of (drop i ms))) → all ≡ None
made_none F ms i m all done h e t a =
    a ∙ ap (λ xs. option_map (λ ys. done ++ ys) (each F (map data_of xs))) (next_member ms i m h e)
    ∙ ap (λ o. option_map (λ ys. done ++ ys) (both (λ b bs. Some (b ∷ bs)) o (each F (map data_of (drop (i + 1) ms))))) (sym t)

-- a value is made of all members
pub made_all : (F : Data → Option Data) (ms : List Value) (i : ℕ) (all : Option (List Data)) (done : List Data) → length ms ≤ i → all ≡ option_map (λ xs. done ++ xs) (each F (map data_of (drop i ms))) → all ≡ Some done
made_all F ms i all done h a =
    a ∙ ap (λ xs. option_map (λ ys. done ++ ys) (each F (map data_of xs))) (drop_all i ms h) ∙ ap Some (append-nil done)

-- a filter is the set of what is kept
pub filter_is : (x : Name) (r p : Tree) (s : Scope) (set : List Data) (ms : List Value) (found : Option (List Data)) → Some set ≡ option_and_then members_of (val r s) → map data_of ms ≡ set → filter3 (asks_of x p s) (map data_of ms) ≡ found → option_and_then set_from found ≡ val (filter_of x r p) s
filter_is x r p s set ms found e m a =
    ap (option_and_then set_from) (sym a ∙ ap (filter3 (asks_of x p s)) m) ∙ ap (option_and_then (λ xs. option_and_then set_from (filter3 (asks_of x p s) xs))) e

-- an image is the set of what is made
pub image_is : (x : Name) (r e : Tree) (s : Scope) (set : List Data) (ms : List Value) (found : Option (List Data)) → Some set ≡ option_and_then members_of (val r s) → map data_of ms ≡ set → each (made_of x e s) (map data_of ms) ≡ found → option_and_then set_from found ≡ val (image e x r) s
image_is x r e s set ms found g m a =
    ap (option_and_then set_from) (sym a ∙ ap (each (made_of x e s)) m) ∙ ap (option_and_then (λ xs. option_and_then set_from (each (made_of x e s) xs))) g
