-- What a name means among definitions, from the last one down.
use Rattle.std.proofs.Common.{◌≡◌, ◌<◌, ℕ, List, [], ◌∷◌, ◌++◌, length, length-take, map, take, drop, get_or, refl, ap, sym, subst, ◌∙◌, arith}
use Rattle.std.specs.Prelude.{Bool, true, false, ◌==◌, if◌then◌else◌, Option, Some, None, reverse, slice_get, unwrap_or}
use Rattle.std.proofs.lemmas.List.{reverse-append, reverse-reverse, length-reverse, take-append-drop, take-append-le, map_push}
use Rattle.std.proofs.lemmas.List.Sums.{fold-append}
use Rattle.std.proofs.lemmas.Option.{slice_get_read}
use Rattle.std.proofs.Math.Seq.{take-append_seam}
use Rattle.pgo_base.specs.Data.{Data}
use Rattle.pgo_base.specs.declared.module.Defined as base_defined
use Rattle.pgo_base.specs.declared.module.Defined.TheVariants as base_variants
use Rattle.pgo_base.specs.LastPlace.{defined_name, place_among, last_place}
use Rattle.pgo_base.specs.Lookup.{Name, Vars, same_name}
use Rattle.pgo_base.proofs.LastPlaces.{front_at, last_at, last_below}
use Rattle.pgo_model.specs.ModuleView.{defined_view}
use Rattle.pgo_model.specs.Val.{Defined, Given, Means, Meaning, call_def, meaning_of, meanings, constant_meaning, body_meaning, default_meaning}
use Rattle.pgo_eval.specs.Newest.{name_of, IsNewest}

abbrev views : List base_defined.Defined → List Defined
views ds = map defined_view ds

-- the name means among all of these what it means among those that are left
record Reaches (x : Name) (ds left : List base_defined.Defined) : Type 0 where
  means : (args : List Data) (now : Vars) (next : Option Vars) → call_def x args (meanings (views ds) now next) ≡ call_def x args (meanings (views left) now next)

-- the last definition is given a meaning behind those before it
last_meaning : (before : List base_defined.Defined) (d : base_defined.Defined) (now : Vars) (next : Option Vars) → meanings (views (before ++ d ∷ [])) now next ≡ meaning_of now next (meanings (views before) now next) (defined_view d)
last_meaning before d now next =
    ap (λ ds. meanings ds now next) (map_push defined_view before d) ∙ fold-append (meaning_of now next) (default_meaning ∷ []) (views before) (defined_view d ∷ [])

-- a definition of another name is passed over
passed_over : (x : Name) (args : List Data) (d : Defined) (now : Vars) (next : Option Vars) (before : List Meaning) → same_name x (name_of d) ≡ false → call_def x args (meaning_of now next before d) ≡ call_def x args before
passed_over x args (Given y v) now next before h =
    let m = constant_meaning y v in
    ap (λ (b : Bool). if b then (if length args == m.arity then m.gives args else None) else call_def x args before) h
passed_over x args (Means y ps e) now next before h =
    let m = body_meaning now next before y ps e in
    ap (λ (b : Bool). if b then (if length args == m.arity then m.gives args else None) else call_def x args before) h

reaches_all : (x : Name) (ds : List base_defined.Defined) → Reaches x ds ds
reaches_all x ds = record { means = λ args now next. refl }

-- one definition of another name less
reaches_before : (x : Name) (ds left before : List base_defined.Defined) (d : base_defined.Defined) → left ≡ before ++ d ∷ [] → same_name x (name_of (defined_view d)) ≡ false → Reaches x ds left → Reaches x ds before
reaches_before x ds left before d e h r = record {
  means = λ args now next. r.means args now next ∙ ap (λ l. call_def x args (meanings (views l) now next)) e ∙ ap (call_def x args) (last_meaning before d now next) ∙ passed_over x args (defined_view d) now next (meanings (views before) now next) h;
}

-- the definition of the name
newest_found : (x : Name) (ds left before : List base_defined.Defined) (d : base_defined.Defined) → left ≡ before ++ d ∷ [] → same_name x (name_of (defined_view d)) ≡ true → Reaches x ds left → IsNewest x (views ds) (views before) (defined_view d)
newest_found x ds left before d e h r = record {
  named = h;
  means = λ args now next. r.means args now next ∙ ap (λ l. call_def x args (meanings (views l) now next)) e ∙ ap (call_def x args) (last_meaning before d now next);
}

name_seen : (d : base_defined.Defined) → defined_name d ≡ name_of (defined_view d)
name_seen (base_variants.Given x v) = refl
name_seen (base_variants.Means x ps e) = refl

some_is : (c d : base_defined.Defined) → Some c ≡ Some d → c ≡ d
some_is c d h = ap (λ o. unwrap_or o c) h

-- the definition in the last place of the name; here the last definition comes first
newest_in : (x : Name) (ds rs : List base_defined.Defined) (i : ℕ) (d : base_defined.Defined) → Reaches x ds (reverse rs) → place_among defined_name x rs ≡ Some i → slice_get (reverse rs) i ≡ Some d → IsNewest x (views ds) (views (take i (reverse rs))) (defined_view d)
newest_in x ds [] i d r e g = absurd (cc)
newest_in x ds (c ∷ rs) i d r e g = go (same_name x (defined_name c)) refl e (newest_in x ds rs i d)
  where
    whole : reverse (c ∷ rs) ≡ reverse rs ++ c ∷ []
    whole = reverse-append (c ∷ []) rs

    go : (b : Bool) → same_name x (defined_name c) ≡ b → (if b then Some (length rs) else place_among defined_name x rs) ≡ Some i
        → (Reaches x ds (reverse rs) → place_among defined_name x rs ≡ Some i → slice_get (reverse rs) i ≡ Some d → IsNewest x (views ds) (views (take i (reverse rs))) (defined_view d)) → IsNewest x (views ds) (views (take i (reverse (c ∷ rs)))) (defined_view d)
    go true h k again =
        let place : i ≡ length (reverse rs) = sym (ap (λ o. unwrap_or o 0) k) ∙ sym (length-reverse rs) in
        let same : c ≡ d = some_is c d (sym (last_at (reverse rs) c) ∙ sym (λ j. slice_get (whole j) (place j)) ∙ g) in
        let before : reverse rs ≡ take i (reverse (c ∷ rs)) = sym ((λ j. take (place j) (whole j)) ∙ take-append_seam (reverse rs) (c ∷ [])) in
        subst (λ bs. IsNewest x (views ds) (views bs) (defined_view d)) before
        (subst (λ q. IsNewest x (views ds) (views (reverse rs)) (defined_view q)) same
        (newest_found x ds (reverse (c ∷ rs)) (reverse rs) c whole (ap (same_name x) (sym (name_seen c)) ∙ h) r))
    go false h k again =
        let small : i < length (reverse rs) = last_below defined_name x (reverse rs) i (ap (place_among defined_name x) (reverse-reverse rs) ∙ k) in
        let got : slice_get (reverse rs) i ≡ Some d = sym (front_at (reverse rs) (c ∷ []) i small) ∙ ap (λ l. slice_get l i) (sym whole) ∙ g in
        let before : take i (reverse rs) ≡ take i (reverse (c ∷ rs)) = sym (ap (take i) whole ∙ take-append-le i (reverse rs) (c ∷ []) (omega (arith, small))) in
        subst (λ bs. IsNewest x (views ds) (views bs) (defined_view d)) before
        (again (reaches_before x ds (reverse (c ∷ rs)) (reverse rs) c whole (ap (same_name x) (sym (name_seen c)) ∙ h) r) k got)

-- the definition that is found among the first so many
pub newest_at : (x : Name) (all : List base_defined.Defined) (count i : ℕ) (d : base_defined.Defined) → Some i ≡ last_place defined_name x (take count all) → d ≡ get_or all i d → IsNewest x (views (take count all)) (views (take i all)) (defined_view d)
newest_at x all count i d e g =
    let ds = take count all in
    let whole : ds ++ drop count all ≡ all = take-append-drop count all in
    let small : i < length ds = last_below defined_name x ds i (sym e) in
    let got : slice_get ds i ≡ Some d = sym (front_at ds (drop count all) i small) ∙ ap (λ l. slice_get l i) whole ∙ slice_get_read all (length all) i d refl (omega (arith, small, length-take count all)) g in
    let before : take i ds ≡ take i all = sym (take-append-le i ds (drop count all) (omega (arith, small))) ∙ ap (take i) whole in
    let same = reverse-reverse ds in
    subst (λ bs. IsNewest x (views ds) (views bs) (defined_view d)) (ap (take i) same ∙ before)
    (newest_in x ds (reverse ds) i d (subst (Reaches x ds) (sym same) (reaches_all x ds)) (sym e) (ap (λ l. slice_get l i) same ∙ got))

-- there is a definition in the place
pub is_in : (x : Name) (all : List base_defined.Defined) (count i : ℕ) → Some i ≡ last_place defined_name x (take count all) → i < length all
is_in x all count i e = let small = last_below defined_name x (take count all) i (sym e) in omega (arith, small, length-take count all)

none_in : (x : Name) (ds rs : List base_defined.Defined) → Reaches x ds (reverse rs) → place_among defined_name x rs ≡ None → Reaches x ds []
none_in x ds [] r e = r
none_in x ds (c ∷ rs) r e = go (same_name x (defined_name c)) refl e (none_in x ds rs)
  where
    go : (b : Bool) → same_name x (defined_name c) ≡ b → (if b then Some (length rs) else place_among defined_name x rs) ≡ None → (Reaches x ds (reverse rs) → place_among defined_name x rs ≡ None → Reaches x ds []) → Reaches x ds []
    go true h k again = absurd (cc)
    go false h k again = again (reaches_before x ds (reverse (c ∷ rs)) (reverse rs) c (reverse-append (c ∷ []) rs) (ap (same_name x) (sym (name_seen c)) ∙ h) r) k

-- none of the definitions has the name
pub none_found : (x : Name) (ds : List base_defined.Defined) → None ≡ last_place defined_name x ds → (args : List Data) (now : Vars) (next : Option Vars) → call_def x args (meanings (views ds) now next) ≡ call_def x args (default_meaning ∷ [])
none_found x ds e = (none_in x ds (reverse ds) (subst (Reaches x ds) (sym (reverse-reverse ds)) (reaches_all x ds)) (sym e)).means
