-- Parameters with their arguments, as names in scope.
use Rattle.std.proofs.Common.{◌≡◌, ℕ, suc, ◌<◌, ◌+◌, List, [], ◌∷◌, ◌++◌, length, map, get_or, drop, refl, ap, sym, ◌∙◌, arith, add-one, drop-cons}
use Rattle.std.specs.Prelude.{Some}
use Rattle.std.proofs.lemmas.List.{map_push}
use Rattle.pgo_base.specs.BindingsView.{onto, named_view}
use Rattle.pgo_base.specs.declared.bindings.NamedValue.{NamedValue}
use Rattle.pgo_base.specs.declared.value.Value.{Value}
use Rattle.pgo_base.specs.Lookup.{Name, Names}
use Rattle.pgo_base.specs.View.{data_of}
use Rattle.pgo_model.specs.Val.{name_values}

-- one more behind the others comes before them
pub onto_more : {A : Type 0} (xs : List A) (y : A) (ys : List A) → onto (xs ++ y ∷ []) ys ≡ y ∷ onto xs ys
onto_more [] y ys = refl
onto_more (x ∷ xs) y ys = onto_more xs y (x ∷ ys)

-- the names of a list with one more
pub names_more : (list : List NamedValue) (n : NamedValue) (ns : Names) → onto (map named_view (list ++ n ∷ [])) ns ≡ named_view n ∷ onto (map named_view list) ns
names_more list n ns = ap (λ bs. onto bs ns) (map_push named_view list n) ∙ onto_more (map named_view list) (named_view n) ns

-- as many names as arguments so far, and the others are to come
pub record AreNamed (params : List Name) (args : List Value) (list : List NamedValue) (left : List Value) : Type 0 where
  pub count : length list + length left ≡ length params
  pub names : name_values params (map data_of args) [] ≡ name_values (drop (length list) params) (map data_of left) (onto (map named_view list) [])

length_more : {A : Type 0} (xs : List A) (y : A) → length (xs ++ y ∷ []) ≡ length xs + 1
length_more [] y = omega arith
length_more (x ∷ xs) y = omega (arith, length_more xs y)

pub none_named : (params : List Name) (args : List Value) → length args ≡ length params → AreNamed params args [] args
none_named params args h = record { count = omega (arith, h); names = refl }

-- one argument more
pub one_named : (params : List Name) (args : List Value) (list next : List NamedValue) (left after : List Value) (v : Value) (name : Name) (i : ℕ) → i ≡ length list → name ≡ get_or params i name → left ≡ v ∷ after → next ≡ list ++ record { name = name; value = Some v } ∷ [] → AreNamed params args list left → AreNamed params args next after
one_named params args list next left after v name i e n l m h =
    let len : length next ≡ length list + 1 = ap length m ∙ length_more list (record { name = name; value = Some v }) in
    let ll : length left ≡ 1 + length after = ap length l ∙ (omega arith) in
    let below : i < length params = omega (arith, e, h.count, ll) in
    let split : drop (length list) params ≡ name ∷ drop (length list + 1) params =
    ap (λ k. drop k params) (sym e) ∙ drop-cons params i name below ∙ ap (λ x. x ∷ drop (suc i) params) (sym n) ∙ ap (λ k. name ∷ drop k params) (sym (add-one i)) ∙ ap (λ k. name ∷ drop (k + 1) params) e in
    record {
      count = omega (arith, h.count, len, ll);
      names = h.names ∙ (λ j. name_values (split j) (map data_of (l j)) (onto (map named_view list) [])) ∙ ap (name_values (drop (length list + 1) params) (map data_of after)) (sym (names_more list (record { name = name; value = Some v }) [])) ∙ (λ j. name_values (drop (sym len j) params) (map data_of after) (onto (map named_view (sym m j)) []));
    }

nothing_left : (params : List Name) (ns : Names) → name_values params [] ns ≡ ns
nothing_left [] ns = refl
nothing_left (x ∷ xs) ns = refl

empty : {A : Type 0} (xs : List A) → length xs ≡ 0 → xs ≡ []
empty [] h = refl
empty (x ∷ xs) h = absurd (omega (arith, h))

-- no argument is left
pub all_named : (params : List Name) (args : List Value) (list : List NamedValue) (left : List Value) → length left ≡ 0 → AreNamed params args list left → onto (map named_view list) [] ≡ name_values params (map data_of args) []
all_named params args list left e h = sym (h.names ∙ ap (λ vs. name_values (drop (length list) params) (map data_of vs) (onto (map named_view list) [])) (empty left e) ∙ nothing_left (drop (length list) params) (onto (map named_view list) []))
