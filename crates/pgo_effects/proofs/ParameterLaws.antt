-- The place of a parameter, by what the first one of its name without a mapping stands for.
use Rattle.std.proofs.Common.{◌≡◌, Bool, true, false, if◌then◌else◌, List, [], ◌∷◌, Option, Some, None, refl, ap, sym, ◌∙◌}
use Rattle.pgo_base.specs.Lookup.{Name, same_name, find}
use Rattle.pgo_effects.specs.PlaceView.{target_place_of}
use Rattle.pgo_meaning.specs.Parameters.{parameter_places}
use Rattle.pgo_model.specs.Names.{same_name-is}
use Rattle.pgo_model.specs.Options.{on}
use Rattle.pgo_model.specs.Written.{written}
use Rattle.pgo_rewrite.specs.Unmapped.{all_unmapped}
use Rattle.pgo_sections.specs.Code.{Place, Whole, Own}
use Rattle.pgo_syntax.specs.declared.bound.Binding.{Binding}
use Rattle.pgo_syntax.specs.declared.bound.Target.{Target}
use Rattle.pgo_syntax.specs.declared.bound.Target.TheVariants as targets

module _ (p x : Name) where
  -- a first parameter with this target
  first_of : (y : Name) (t : Target) (place : Place) (places : List (Name × Place)) (rest : List (Name × Target)) → (same_name x y ≡ true → Some place ≡ target_place_of p x t)
      → find x places ≡ on None (find x rest) (target_place_of p x) → find x ((y, place) ∷ places) ≡ on None (find x ((y, t) ∷ rest)) (target_place_of p x)
  first_of y t place places rest e h = go (same_name x y) e
    where
      go : (b : Bool) → (b ≡ true → Some place ≡ target_place_of p x t) → (if b then Some place else find x places) ≡ on None (if b then Some t else find x rest) (target_place_of p x)
      go true e = e refl
      go false e = h

  found : (bs : List Binding) → find x (parameter_places p bs) ≡ on None (find x (all_unmapped bs)) (target_place_of p x)
  found [] = refl
  found (b ∷ bs) = go b.target (found bs)
    where
      go : (t : Target) → find x (parameter_places p bs) ≡ on None (find x (all_unmapped bs)) (target_place_of p x) → find x (parameter_places p (record b { target = t } ∷ bs)) ≡ on None (find x (all_unmapped (record b { target = t } ∷ bs))) (target_place_of p x)
      go (targets.Value e) h = first_of b.parameter (targets.Value e) (Own (written p b.parameter)) (parameter_places p bs) (all_unmapped bs) (λ k. ap (λ (y : Name). Some (Own (written p y))) (sym (same_name-is x b.parameter k))) h
      go (targets.Global g e None) h = first_of b.parameter (targets.Global g e None) (Whole g) (parameter_places p bs) (all_unmapped bs) (λ k. refl) h
      go (targets.Global g e (Some m)) h = h

  pub parameter_found : (bs : List Binding) (o : Option Target) → o ≡ find x (all_unmapped bs) → on None o (target_place_of p x) ≡ find x (parameter_places p bs)
  parameter_found bs o e = ap (λ q. on None q (target_place_of p x)) e ∙ sym (found bs)
