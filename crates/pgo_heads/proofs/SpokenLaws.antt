-- Clauses that speak of an argument, from the last to the first.
use Rattle.std.proofs.Common.{◌≡◌, ℕ, suc, ◌+◌, ◌<◌, Bool, true, false, not, ◌||◌, nat_lt, List, [], ◌∷◌, length, get_or, drop, cond, Option, Some, None, refl, ap, sym, ◌∙◌, arith}
use Rattle.std.specs.Prelude.{filter, is_some, option_map}
use Rattle.std.proofs.lemmas.Bool.Decides.{nat_tests}
use Rattle.pgo_base.specs.Lookup.{Name, same_name}
use Rattle.pgo_syntax.specs.declared.archetype.Extent.{Extent}
use Rattle.pgo_syntax.specs.declared.process.MappingClause.{MappingClause}
use Rattle.pgo_syntax.specs.declared.spec.Spec.{Spec}
use Rattle.pgo_bound.specs.Runs.{unless_any, mapping_by}
use Rattle.pgo_heads.specs.Refusals.{same_extent, clause_extent, differs}
use Rattle.pgo_heads.specs.Spoken.{first_of, one_more, spoken_view, is_badly_spoken, mapping_by_first}
use Rattle.pgo_heads.specs.declared.mapping_clauses.Spoken.{Spoken}
use Rattle.pgo_heads.proofs.Numbered.{drop_step}

filter_more : (t : MappingClause → Bool) (c : MappingClause) (cs : List MappingClause) → first_of (filter t (c ∷ cs)) ≡ one_more (t c) c (first_of (filter t cs))
filter_more t c cs = go (t c)
  where
    go : (b : Bool) → first_of (cond b (c ∷ filter t cs) (filter t cs)) ≡ one_more b c (first_of (filter t cs))
    go true = refl
    go false = refl

pub clause_step : (t : MappingClause → Bool) (xs : List MappingClause) (k i : ℕ) (c : MappingClause) (old new : Option (MappingClause × Bool)) → k < length xs → k + 1 ≡ i → c ≡ get_or xs k c → new ≡ one_more (t c) c old → old ≡ first_of (filter t (drop i xs)) → new ≡ first_of (filter t (drop k xs))
clause_step t xs k i c old new h e is made before =
    made
    ∙ ap (one_more (t c) c) (before ∙ ap (λ j. first_of (filter t (drop j xs))) (sym e))
    ∙ sym (filter_more t c (drop (k + 1) xs))
    ∙ ap (λ ys. first_of (filter t ys)) (sym (drop_step xs k c h is))

kept : (o : Option Spoken) → is_some o ≡ is_some (option_map spoken_view o)
kept None = refl
kept (Some s) = refl

pub name_more : (x y : Name) (c : MappingClause) (v : Spoken) (old new here : Option Spoken) → new ≡ cond (same_name x y) (Some v) old → spoken_view v ≡ (c, is_some here) → (same_name x y ≡ true → here ≡ old) → option_map spoken_view new ≡ one_more (same_name x y) c (option_map spoken_view old)
name_more x y c v old new here made is same = ap (option_map spoken_view) made ∙ go (same_name x y) refl
  where
    go : (b : Bool) → same_name x y ≡ b → option_map spoken_view (cond b (Some v) old) ≡ one_more b c (option_map spoken_view old)
    go true t = ap Some (is ∙ (λ i. (c, (ap is_some (same t) ∙ kept old) i)))
    go false t = refl

pub by_name_alone : (bs cs : List MappingClause) → first_of bs ≡ None → first_of (unless_any bs cs) ≡ first_of cs
by_name_alone [] cs h = refl
by_name_alone (b ∷ bs) cs h = absurd (cc)

pub by_place_first : (bs cs : List MappingClause) (p : MappingClause × Bool) → first_of bs ≡ Some p → first_of (unless_any bs cs) ≡ Some p
by_place_first [] cs p h = absurd (cc)
by_place_first (b ∷ bs) cs p h = h

more_than_one : (n : ℕ) → nat_lt 1 (suc (suc n)) ≡ true
more_than_one n = grind (arith, nat_tests)

or_true : (b : Bool) → true ≡ b || true
or_true true = refl
or_true false = refl

pub badly : (e : Extent) (b : Bool) (cs : List MappingClause) → is_badly_spoken e b (first_of cs) ≡ differs e cs || (nat_lt 1 (length cs) || b)
badly e b [] = refl
badly e b (c ∷ []) = go (not (same_extent (clause_extent c.target) e))
  where
    go : (a : Bool) → a || b ≡ (a || false) || (nat_lt 1 1 || b)
    go true = refl
    go false = refl
badly e b (c ∷ d ∷ cs) =
    or_true (differs e (c ∷ d ∷ cs)) ∙ ap (λ a. differs e (c ∷ d ∷ cs) || (a || b)) (sym (more_than_one (length cs)))

pub mapped : (s : Spec) (e : Extent) (cs : List MappingClause) → mapping_by_first s e (first_of cs) ≡ mapping_by s e cs
mapped s e [] = refl
mapped s e (c ∷ cs) = refl
