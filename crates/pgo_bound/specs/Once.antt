-- Values that stand once in a list, and the identifiers of the instances.
use Rattle.std.proofs.Common.{◌≡◌, ℕ, zero, suc, Bool, true, false, if◌then◌else◌, List, [], ◌∷◌, ◌++◌, map, Some, refl, ap, sym, ◌∙◌, subst, inl, inr}
use Rattle.std.proofs.lemmas.Option.{same_Some}
use Rattle.pgo_base.specs.Data.{Data, string}
pub use Rattle.pgo_base.specs.Lists.{StandOnce}
use Rattle.pgo_model.specs.Machine.{nth}
use Rattle.pgo_model.specs.Operators.{same_data, lookup}
use Rattle.pgo_bound.specs.Runs.{Run, run_ids, all_ids}
use Rattle.pgo_bound.specs.BoundOf.{places_of, places_of_run, first_place, first_label}
use Rattle.pgo_bound.specs.Among.{IsAmong, among_map, among_nth}
use Rattle.pgo_bound.specs.Lookups.{same_of, same_equal}
use Rattle.pgo_bound.specs.StartNames.{map-append}

-- it stands at one place
pub once_nth : (xs : List Data) (n m : ℕ) (a b : Data) → StandOnce xs → nth xs n ≡ Some a → nth xs m ≡ Some b → a ≡ b → n ≡ m
once_nth [] n m a b s h g e = absurd (cc)
once_nth (x ∷ xs) zero zero a b s h g e = refl
once_nth (x ∷ xs) zero (suc m) a b s h g e = absurd (s.0 (subst (λ z. IsAmong z xs) (sym (same_Some x a h ∙ e)) (among_nth b xs m g)))
once_nth (x ∷ xs) (suc n) zero a b s h g e = absurd (s.0 (subst (λ z. IsAmong z xs) (e ∙ sym (same_Some x b g)) (among_nth a xs n h)))
once_nth (x ∷ xs) (suc n) (suc m) a b s h g e = ap suc (once_nth xs n m a b s.1 h g e)

abbrev pub id_in : Run × Data → Data
id_in p = p.1

ids_at : (r : Run) (ids : List Data) → map id_in (map (λ id. (r, id)) ids) ≡ ids
ids_at r [] = refl
ids_at r (d ∷ ds) = ap (λ zs. d ∷ zs) (ids_at r ds)

pub ids_of_places : (rs : List Run) → map id_in (places_of rs) ≡ all_ids rs
ids_of_places [] = refl
ids_of_places (r ∷ rs) = map-append id_in (places_of_run r) (places_of rs) ∙ (λ i. ids_at r (run_ids r) i ++ ids_of_places rs i)

-- each identifier starts at the first label of its process
pub first_at : (zs : List (Run × Data)) (r : Run) (id : Data) → StandOnce (map id_in zs) → IsAmong (r, id) zs → lookup id (map first_place zs) ≡ Some (string (first_label r))
first_at [] r id s h = absurd h
first_at (z ∷ zs) r id s (inl e) =
    ap (λ b. if b then Some (string (first_label z.0)) else lookup id (map first_place zs)) (same_equal id z.1 (ap id_in e)) ∙ ap (λ q. Some (string (first_label q.0))) (sym e)
first_at (z ∷ zs) r id s (inr h) =
    go (same_data id z.1) refl (first_at zs r id s.1 h)
  where
    go : (b : Bool) → same_data id z.1 ≡ b → lookup id (map first_place zs) ≡ Some (string (first_label r)) → (if b then Some (string (first_label z.0)) else lookup id (map first_place zs)) ≡ Some (string (first_label r))
    go true e i = absurd (s.0 (subst (λ d. IsAmong d (map id_in zs)) (same_of id z.1 e) (among_map id_in (r, id) zs h)))
    go false e i = i
