-- The kind of a global, binding by binding.
use Rattle.std.proofs.Common.{◌≡◌, Bool, true, false, if◌then◌else◌, List, [], ◌∷◌, ◌++◌, cond, Option, Some, None, refl, ap, ◌∙◌}
use Rattle.std.specs.Prelude.{filter, unwrap_or}
use Rattle.std.specs.List.{flat_map, list_all}
use Rattle.pgo_base.specs.Lookup.{Name, same_name}
use Rattle.pgo_syntax.specs.declared.archetype.Extent.{Extent}
use Rattle.pgo_syntax.specs.declared.archetype.Extent.TheVariants.{Whole, Element}
use Rattle.pgo_bound.specs.declared.kinds.Kind.{Kind}
use Rattle.pgo_bound.specs.declared.kinds.Kind.TheVariants.{Unbound, AsWhole, ByElement}
use Rattle.pgo_bound.specs.Runs.{Run, has_ids, extents_in, extents_of, is_element, kind_of_extents}
use Rattle.pgo_bound.specs.Kinds.{with_extent, all_extents}
use Rattle.pgo_heads.specs.NameMaps.{extent_if, with_binding}

pub all_extents-append : (k : Kind) (es fs : List Extent) → all_extents k (es ++ fs) ≡ all_extents (all_extents k es) fs
all_extents-append k [] fs = refl
all_extents-append k (e ∷ es) fs = all_extents-append (with_extent k e) es fs

whole : (es : List Extent) → all_extents AsWhole es ≡ AsWhole
whole [] = refl
whole (e ∷ es) = whole es

elements : (es : List Extent) → all_extents ByElement es ≡ (if list_all is_element es then ByElement else AsWhole)
elements [] = refl
elements (Whole ∷ es) = whole es
elements (Element ∷ es) = elements es

pub kind_is : (es : List Extent) → all_extents Unbound es ≡ kind_of_extents es
kind_is [] = refl
kind_is (Whole ∷ es) = whole es
kind_is (Element ∷ es) = elements es

-- a process that has instances binds what its arguments bind
pub extents_step : (k : Kind) (x : Name) (r : Run) (rs : List Run) → has_ids r ≡ true → all_extents k (extents_of x (r ∷ rs)) ≡ all_extents (all_extents k (extents_in x r.handed)) (extents_of x rs)
extents_step k x r rs h =
    ap (λ b. all_extents k (flat_map (λ q. extents_in x q.handed) (cond b (r ∷ filter has_ids rs) (filter has_ids rs)))) h
    ∙ all_extents-append k (extents_in x r.handed) (extents_of x rs)

-- a binding of one name more, in what is known of each
pub bound_more : (n x : Name) (e : Extent) (old new here : Option Kind) (v : Kind) → new ≡ cond (same_name n x) (Some v) old → v ≡ with_extent (unwrap_or here Unbound) e → (same_name n x ≡ true → here ≡ old) → unwrap_or new Unbound ≡ with_binding (unwrap_or old Unbound) (extent_if n x e)
bound_more n x e old new here v h g s = ap (λ o. unwrap_or o Unbound) h ∙ go (same_name n x) refl
  where
    go : (b : Bool) → same_name n x ≡ b → unwrap_or (cond b (Some v) old) Unbound ≡ with_binding (unwrap_or old Unbound) (if b then Some e else None)
    go true t = g ∙ ap (λ o. with_extent (unwrap_or o Unbound) e) (s t)
    go false t = refl
