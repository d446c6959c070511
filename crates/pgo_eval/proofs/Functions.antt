-- A function of binders, by its pairs at all choices of members.
use Rattle.std.proofs.Common.{◌≡◌, List, [], ◌∷◌, ◌++◌, map, refl, ap, sym, ◌∙◌, append_assoc}
use Rattle.std.proofs.lemmas.List.{append-nil}
use Rattle.std.specs.Prelude.{Bool, true, false, not, nat_lt, Option, Some, None, option_map, option_and_then}
use Rattle.pgo_base.specs.Data.{Data}
use Rattle.pgo_base.specs.Lookup.{Name, Names}
use Rattle.pgo_base.specs.Tree.{Tree, BoundTrees, fun_of}
use Rattle.pgo_base.specs.View.{pair_of}
use Rattle.pgo_base.specs.declared.bindings.BoundName.{BoundName}
use Rattle.pgo_base.specs.declared.value.Value.{Value}
use Rattle.pgo_model.specs.FunctionSets.{choice_count}
use Rattle.pgo_model.specs.Operators.{both, each, choices, most_members, function_from}
use Rattle.pgo_model.specs.Val.{Scope, val, ranges, with_names, index_of, name_values, names_over, function_over}
use Rattle.pgo_eval.specs.Choices.{over_bound, sets_of, chosen, left, still_left}

-- the key and the value at a choice
abbrev pub keyed : List (Name × List Data) → (Names → Option Data) → Names → List Data → Option (Data × Data)
keyed bs f ns vs = both (λ k v. Some (k, v)) (index_of vs) (f (name_values (names_over bs) vs ns))

-- the same, for names that are bound and an expression
abbrev pub pair_at : List BoundName → Tree → Scope → List Data → Option (Data × Data)
pair_at names e s = keyed (over_bound names) (λ (ns : Names). val e (with_names ns s)) s.names

abbrev pub Pairs : Type 0
Pairs = List (Data × Data)

next_pair : (F : List Data → Option (Data × Data)) (names next : List BoundName) (now more : Bool) → now ≡ true → left names ≡ chosen names ∷ still_left more next → each F (still_left now names) ≡ both (λ b bs. Some (b ∷ bs)) (F (chosen names)) (each F (still_left more next))
next_pair F names next now more n l = ap (λ b. each F (still_left b names)) n ∙ ap (each F) l

pushed : (xs : List (Value × Value)) (y : Value × Value) → map pair_of (xs ++ y ∷ []) ≡ map pair_of xs ++ pair_of y ∷ []
pushed [] y = refl
pushed (x ∷ xs) y = ap (λ zs. pair_of x ∷ zs) (pushed xs y)

-- one pair more
pub pairs_more : (F : List Data → Option (Data × Data)) (names next : List BoundName) (now more : Bool) (all : Option Pairs) (done after : List (Value × Value)) (p : Value × Value) → now ≡ true → left names ≡ chosen names ∷ still_left more next → Some (pair_of p) ≡ F (chosen names) → after ≡ done ++ p ∷ [] → all ≡ option_map (λ ps. map pair_of done ++ ps) (each F (still_left now names)) → all ≡ option_map (λ ps. map pair_of after ++ ps) (each F (still_left more next))
pairs_more F names next now more all done after p n l f a h =
    h ∙ ap (option_map (λ ps. map pair_of done ++ ps)) (next_pair F names next now more n l ∙ ap (λ o. both (λ b bs. Some (b ∷ bs)) o (each F (still_left more next))) (sym f))
    ∙ go (each F (still_left more next))
  where
    go : (r : Option Pairs) → option_map (λ ps. map pair_of done ++ ps) (both (λ b bs. Some (b ∷ bs)) (Some (pair_of p)) r) ≡ option_map (λ ps. map pair_of after ++ ps) r
    go None = refl
    go (Some ps) = ap Some (sym (append_assoc (map pair_of done) (pair_of p ∷ []) ps) ∙ ap (λ xs. xs ++ ps) (sym (pushed done p) ∙ ap (map pair_of) (sym a)))

-- a choice without a pair
pub pairs_none : (F : List Data → Option (Data × Data)) (names next : List BoundName) (now more : Bool) (all : Option Pairs) (done : Pairs) → now ≡ true → left names ≡ chosen names ∷ still_left more next → None ≡ F (chosen names) → all ≡ option_map (λ ps. done ++ ps) (each F (still_left now names)) → all ≡ None
pairs_none F names next now more all done n l f h =
    h ∙ ap (option_map (λ ps. done ++ ps)) (next_pair F names next now more n l ∙ ap (λ o. both (λ b bs. Some (b ∷ bs)) o (each F (still_left more next))) (sym f))

-- nothing is left
pub pairs_all : (F : List Data → Option (Data × Data)) (names : List BoundName) (more : Bool) (all : Option Pairs) (done : Pairs) → more ≡ false → all ≡ option_map (λ ps. done ++ ps) (each F (still_left more names)) → all ≡ Some done
pairs_all F names more all done n h = h ∙ ap (λ b. option_map (λ ps. done ++ ps) (each F (still_left b names))) n ∙ ap Some (append-nil done)

-- a function of binders, where there are few choices
function_few : (bs : BoundTrees) (e : Tree) (s : Scope) (old : List BoundName) → Some (over_bound old) ≡ ranges bs s → true ≡ not (nat_lt most_members (choice_count (sets_of old))) → val (fun_of bs e) s ≡ option_and_then function_from (each (pair_at old e s) (choices (sets_of old)))
function_few bs e s old r f =
    ap (option_and_then (λ over. function_over over (λ ns. val e (with_names ns s)) s.names)) (sym r) ∙ go (nat_lt most_members (choice_count (sets_of old))) f
  where
    go : (b : Bool) → true ≡ not b → elim b as (λ b. Option Data) [ true ↦ None | false ↦ option_and_then function_from (each (pair_at old e s) (choices (sets_of old))) ] ≡ option_and_then function_from (each (pair_at old e s) (choices (sets_of old)))
    go true h = absurd (cc)
    go false h = refl

-- a function of binders, where there are too many
pub function_many : (bs : BoundTrees) (e : Tree) (s : Scope) (old : List BoundName) → Some (over_bound old) ≡ ranges bs s → false ≡ not (nat_lt most_members (choice_count (sets_of old))) → None ≡ val (fun_of bs e) s
function_many bs e s old r f =
    go (nat_lt most_members (choice_count (sets_of old))) f ∙ ap (option_and_then (λ over. function_over over (λ ns. val e (with_names ns s)) s.names)) r
  where
    go : (b : Bool) → false ≡ not b → None ≡ elim b as (λ b. Option Data) [ true ↦ None | false ↦ option_and_then function_from (each (pair_at old e s) (choices (sets_of old))) ]
    go true h = refl
    go false h = absurd (cc)

-- a function of binders is made of its pairs at all choices
pub function_is : (bs : BoundTrees) (e : Tree) (s : Scope) (old names : List BoundName) (more : Bool) (found : Option Pairs) → Some (over_bound old) ≡ ranges bs s → true ≡ not (nat_lt most_members (choice_count (sets_of old))) → over_bound names ≡ over_bound old → still_left more names ≡ choices (sets_of old) → each (pair_at names e s) (still_left more names) ≡ found → option_and_then function_from found ≡ val (fun_of bs e) s
function_is bs e s old names more found r f o l a =
    ap (option_and_then function_from) (sym a ∙ (λ i. each (keyed (o i) (λ (ns : Names). val e (with_names ns s)) s.names) (l i))) ∙ sym (function_few bs e s old r f)

-- the pair at the choice at which the names stand
pub pair_here : (e : Tree) (s : Scope) (first names lent again : List BoundName) (v : Option Data) (o : Option (Data × Data)) → over_bound names ≡ over_bound first → lent ≡ names → again ≡ names → o ≡ both (λ k w. Some (k, w)) (index_of (chosen again)) v → v ≡ val e (with_names (name_values (names_over (over_bound lent)) (chosen lent) s.names) s) → o ≡ pair_at first e s (chosen names)
pair_here e s first names lent again v o a l k b c =
    let w : v ≡ val e (with_names (name_values (names_over (over_bound first)) (chosen names) s.names) s) =
    c ∙ (λ j. val e (with_names (name_values (names_over ((ap over_bound l ∙ a) j)) (chosen (l j)) s.names) s)) in
    b ∙ (λ i. both (λ k w. Some (k, w)) (index_of (chosen (k i))) (w i))

-- no pair yet
pub nothing_yet : (done : List (Value × Value)) (o : Option Pairs) → done ≡ [] → o ≡ option_map (λ ps. map pair_of done ++ ps) o
nothing_yet done o e = go o ∙ ap (λ xs. option_map (λ ps. map pair_of xs ++ ps) o) (sym e)
  where
    go : (o : Option Pairs) → o ≡ option_map (λ ps. [] ++ ps) o
    go None = refl
    go (Some ps) = refl
