-- Definitions that are given by their values mean the same.
use Rattle.std.proofs.Common.{◌≡◌, ℕ, ◌<◌, ◌≤◌, ◌+◌, List, [], ◌∷◌, ◌++◌, length, map, get_or, drop, ap, sym, ◌∙◌, add-one, drop-cons}
use Rattle.std.specs.Prelude.{fold, Option, None}
use Rattle.std.proofs.lemmas.List.{drop_all, map_push}
use Rattle.std.proofs.lemmas.List.Sums.{fold-append}
use Rattle.pgo_base.specs.Data.{Data}
use Rattle.pgo_base.specs.Lookup.{Name}
use Rattle.pgo_base.specs.Tree.{Tree}
use Rattle.pgo_base.specs.declared.module.Defined.{Defined}
use Rattle.pgo_model.specs.ModuleView.{defined_view}
use Rattle.pgo_model.specs.Val.{Meaning, default_meaning, meaning_of, meanings, val}
use Rattle.pgo_definitions.specs.Meant.{meant}
use Rattle.pgo_definitions.specs.Bodies.{bare, with_meaning, with_body}

-- a name that stands for this value or none
abbrev pub with_value : List Meaning → Name → Option Data → List Meaning
with_value before x o = record { name = x; arity = 0; gives = λ args. o } ∷ before

pub by_body : (before : List Meaning) (x : Name) (e : Tree) (o : Option Data) → o ≡ val e (bare before) → with_value before x o ≡ with_body before x [] e
by_body before x e o h = ap (with_value before x) h

-- these definitions behind others
abbrev pub behind : List Meaning → List Defined → List Meaning
behind before ds = fold (meaning_of [] None) before (map defined_view ds)

last_meant : (ds : List Defined) (d : Defined) → meant (ds ++ d ∷ []) ≡ with_meaning (meant ds) d
last_meant ds d = ap (λ xs. meanings xs [] None) (map_push defined_view ds d) ∙ fold-append (meaning_of [] None) (default_meaning ∷ []) (map defined_view ds) (defined_view d ∷ [])

-- one definition more
pub one_more : (all : List Meaning) (ds : List Defined) (i : ℕ) (d same : Defined) (done next : List Defined) → i < length ds → d ≡ get_or ds i d → next ≡ done ++ same ∷ [] → with_meaning (meant done) same ≡ with_meaning (meant done) d → all ≡ behind (meant done) (drop i ds) → all ≡ behind (meant next) (drop (i + 1) ds)
one_more all ds i d same done next h e n k a =
    a ∙ ap (behind (meant done)) (drop-cons ds i d h ∙ (λ j. sym e j ∷ drop (sym (add-one i) j) ds))
    ∙ ap (λ ms. behind ms (drop (i + 1) ds)) (sym k ∙ sym (last_meant done same) ∙ ap meant (sym n))

-- all of them
pub all_meant : (ds done : List Defined) (i : ℕ) → length ds ≤ i → meant ds ≡ behind (meant done) (drop i ds) → meant ds ≡ meant done
all_meant ds done i h a = a ∙ ap (behind (meant done)) (drop_all i ds h)
