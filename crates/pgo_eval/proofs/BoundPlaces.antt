-- The places of bound names are the same at each choice of members.
use Rattle.std.proofs.Common.{◌≡◌, ℕ, Bool, true, false, List, [], ◌∷◌, ◌++◌, length, map, reverse, refl, ap, sym, ◌∙◌}
use Rattle.std.proofs.lemmas.List.{length-map, map_push, reverse-append}
use Rattle.std.specs.Prelude.{Option, Some, None, if◌then◌else◌}
use Rattle.pgo_base.specs.BindingsView.{bound_name, ArePlaces}
use Rattle.pgo_base.specs.LastPlace.{place_among, last_place}
use Rattle.pgo_base.specs.Lookup.{Name, same_name}
use Rattle.pgo_base.specs.declared.bindings.BoundName.{BoundName}
use Rattle.pgo_base.specs.declared.name_map.NameMap.{NameMap}
use Rattle.pgo_eval.specs.Choices.{over_of, over_bound}
use Rattle.pgo_eval.specs.PlacesView.{AreKnown, ArePlacesOf}
use Rattle.pgo_eval.specs.declared.places.Places.{Places}

module _ {A B : Type 0} (g : A → B) (f : B → Name) (x : Name) where
  place_mapped : (rs : List A) → place_among f x (map g rs) ≡ place_among (λ a. f (g a)) x rs
  place_mapped [] = refl
  place_mapped (r ∷ rs) = go (same_name x (f (g r))) (place_mapped rs)
    where
      go : (b : Bool) → place_among f x (map g rs) ≡ place_among (λ a. f (g a)) x rs → (if b then Some (length (map g rs)) else place_among f x (map g rs)) ≡ (if b then Some (length rs) else place_among (λ a. f (g a)) x rs)
      go true h = ap Some (length-map rs g)
      go false h = h

  turned : (rs : List A) → reverse (map g rs) ≡ map g (reverse rs)
  turned [] = refl
  turned (r ∷ rs) =
      reverse-append (g r ∷ []) (map g rs) ∙ ap (λ l. l ++ g r ∷ []) (turned rs)
      ∙ sym (ap (map g) (reverse-append (r ∷ []) rs) ∙ map_push g (reverse rs) r)

  last_mapped : (rs : List A) → last_place f x (map g rs) ≡ last_place (λ a. f (g a)) x rs
  last_mapped rs = ap (place_among f x) (turned rs) ∙ place_mapped (reverse rs)

-- the same names over the same sets have the same places
pub still_placed : (bs cs : List BoundName) (p : NameMap ℕ) → over_bound cs ≡ over_bound bs → ArePlaces bound_name bs p → ArePlaces bound_name cs p
still_placed bs cs p e h x = h x ∙ sym (last_mapped over_of (λ q. q.0) x bs) ∙ ap (last_place (λ q. q.0) x) (sym e) ∙ last_mapped over_of (λ q. q.0) x cs

-- what is known of them stays so
still_known : (bs cs : List BoundName) (p : Option (NameMap ℕ)) → over_bound cs ≡ over_bound bs → AreKnown bs p → AreKnown cs p
still_known bs cs None e h = h
still_known bs cs (Some p) e h = still_placed bs cs p e h

pub places_stay : (bs cs : List BoundName) (p : Places) → over_bound cs ≡ over_bound bs → ArePlacesOf bs p → ArePlacesOf cs p
places_stay bs cs p e h = still_known bs cs p.known e h
