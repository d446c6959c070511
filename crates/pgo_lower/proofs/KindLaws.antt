-- The kind of a global, binding by binding.
use Rattle.std.proofs.Common.{◌≡◌, ◌∙◌, List, [], ◌∷◌, ◌++◌, refl, ap, sym}
use Rattle.std.specs.Prelude.{if◌then◌else◌}
use Rattle.std.specs.List.{flat_map, list_all}
use Rattle.pgo_syntax.specs.declared.archetype.Extent.{Extent}
use Rattle.pgo_syntax.specs.declared.archetype.Extent.TheVariants.{Whole, Element}
use Rattle.pgo_bound.specs.declared.kinds.Kind.{Kind}
use Rattle.pgo_bound.specs.declared.kinds.Kind.TheVariants.{Unbound, AsWhole, ByElement}
use Rattle.pgo_bound.specs.Kinds.{with_extent, all_extents}
use Rattle.pgo_bound.specs.Runs.{is_element, kind_of_extents}

pub extents_more : (k : Kind) (es fs : List Extent) → all_extents k (es ++ fs) ≡ all_extents (all_extents k es) fs
extents_more k [] fs = refl
extents_more k (e ∷ es) fs = extents_more (with_extent k e) es fs

whole_stays : (es : List Extent) → all_extents AsWhole es ≡ AsWhole
whole_stays [] = refl
whole_stays (e ∷ es) = whole_stays es

element_goes : (es : List Extent) → all_extents ByElement es ≡ (if list_all is_element es then ByElement else AsWhole)
element_goes [] = refl
element_goes (Whole ∷ es) = whole_stays es
element_goes (Element ∷ es) = element_goes es

pub kind_is : (es : List Extent) → all_extents Unbound es ≡ kind_of_extents es
kind_is [] = refl
kind_is (Whole ∷ es) = whole_stays es
kind_is (Element ∷ es) = element_goes es

-- the next instance
pub kinds_step : {A : Type 0} (f : A → List Extent) (k m : Kind) (xs rest : List A) (x : A) → xs ≡ x ∷ rest → m ≡ all_extents k (f x)
    → all_extents k (flat_map f xs) ≡ all_extents m (flat_map f rest)
kinds_step f k m xs rest x e h =
    ap (λ l. all_extents k (flat_map f l)) e ∙ extents_more k (f x) (flat_map f rest) ∙ ap (λ n. all_extents n (flat_map f rest)) (sym h)
