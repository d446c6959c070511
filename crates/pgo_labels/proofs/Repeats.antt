-- The step of a walk over labels that keeps those that stood before.
use Rattle.std.proofs.Common.{◌≡◌, ◌<◌, ◌+◌, ℕ, Bool, true, false, List, [], ◌∷◌, ◌++◌, length, get_or, drop, refl, ap, ◌∙◌, sym, append_assoc}
use Rattle.std.proofs.lemmas.List.{drop_more, map_push}
use Rattle.std.specs.Prelude.{◌||◌, cond, if◌then◌else◌, Option, Some, is_some}
use denote.Ref.{Bor}
use Rattle.pgo_base.specs.Lookup.{Name}
use Rattle.pgo_model.specs.Names.{is_among}
use Rattle.pgo_syntax.specs.declared.name.PlacedName.{PlacedName}
use Rattle.pgo_labels.specs.Lent.{lent}
use Rattle.pgo_labels.specs.LabelTwice.{repeated}

pub front_of : (xs : List (Bor PlacedName)) (i : ℕ) (x : Bor PlacedName) → i < length xs → x ≡ get_or xs i x → lent (drop i xs) ≡ x.now ∷ lent (drop (i + 1) xs)
front_of xs i x h e = ap lent (drop_more xs i x h) ∙ ap (λ y. y.now ∷ lent (drop (i + 1) xs)) (sym e)

pub again : (passed : List Name) (ns rest whole : List PlacedName) (l : PlacedName) → is_among l.name passed ≡ true → ns ++ repeated passed (l ∷ rest) ≡ whole
    → (ns ++ l ∷ []) ++ repeated (l.name ∷ passed) rest ≡ whole
again passed ns rest whole l h made =
    append_assoc ns (l ∷ []) (repeated (l.name ∷ passed) rest) ∙ ap (λ b. ns ++ ((if b then l ∷ [] else []) ++ repeated (l.name ∷ passed) rest)) (sym h) ∙ made

pub fresh : (passed : List Name) (ns rest whole : List PlacedName) (l : PlacedName) → is_among l.name passed ≡ false → ns ++ repeated passed (l ∷ rest) ≡ whole
    → ns ++ repeated (l.name ∷ passed) rest ≡ whole
fresh passed ns rest whole l h made =
    ap (λ b. ns ++ ((if b then l ∷ [] else []) ++ repeated (l.name ∷ passed) rest)) (sym h) ∙ made

-- whether there is something under a name, once one is noted
pub noted : {V : Type 0} (b : Bool) (v : V) (o : Option V) → is_some (cond b (Some v) o) ≡ b || is_some o
noted true v o = refl
noted false v o = refl

pub lent_push : (xs : List (Bor PlacedName)) (x : Bor PlacedName) → lent (xs ++ x ∷ []) ≡ lent xs ++ x.now ∷ []
lent_push xs x = map_push (λ n. n.now) xs x
