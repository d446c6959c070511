-- What an instance's sections may access.
use Rattle.std.proofs.Common.{false, ◌≡◌, ℕ, zero, suc, true, List, [], ◌∷◌, map, length, Option, Some, None, refl, sym, ap, ◌∙◌, arith}
use Rattle.std.specs.Prelude.{nat_lt}
use Rattle.pgo_base.specs.Data.{Data}
use Rattle.pgo_base.specs.Lookup.{Name, Vars, find}
use Rattle.pgo_model.specs.Core.{Reaches, number_among}
use Rattle.pgo_model.specs.Machine.{nth}
use Rattle.pgo_model.specs.Options.{on}
use Rattle.pgo_model.specs.Outcome.{most_leaves}
use Rattle.pgo_model.specs.System.{Words}
use Rattle.pgo_tries.specs.Sections.{along}
use Rattle.pgo_syntax.specs.declared.bound.Bound.{Bound}
use Rattle.pgo_syntax.specs.declared.bound.Instance.{Instance}
use Rattle.pgo_bound.specs.Among.{nth_map, nth_among}
use Rattle.pgo_meaning.specs.Sect.{code_at}
use Rattle.pgo_meaning.specs.System.{globals_in, member_of, resource_of, system_of}
use Rattle.pgo_meaning.proofs.Ends.{end_at}
use Rattle.pgo_meaning.proofs.Traces.{among_is}
use Rattle.pgo_model.specs.Names.{is_among}
use Rattle.pgo_sections.specs.Code.{Place, Whole, Own, Code}
use Rattle.pgo_workers.specs.Sentences.{IsOwn}
use Rattle.pgo_workers.specs.Tried.{LeafTree, LeafLeaves, trying, attempting_within}
use Rattle.pgo_workers.specs.Walk as walks
use Rattle.pgo_workers.specs.Walk.{Within, StraightWithin, settled_stays, goes_back}
use Rattle.pgo_accesses.specs.Accesses.{accesses_of, own_next, no_value}
use Rattle.pgo_accesses.specs.Programs.{attempt_of, leaf_with, tree_with, world_at}
use Rattle.pgo_accesses.specs.Runnable.{Runnable}
use Rattle.pgo_accesses.proofs.Bindings.{IsPlaceOf, IsBoundHere, uses_at, uses_both, places_whole}
use Rattle.pgo_accesses.proofs.GoodStates as good_states
use Rattle.pgo_accesses.proofs.Reached.{InReach, PlaceInReach, within}

pub there_below : {A : Type 0} (l : List A) (n : ℕ) (x : A) → nth l n ≡ Some x → nat_lt n (length l) ≡ true
there_below [] n x h = absurd (grind (arith, h))
there_below (z ∷ l) zero x h = grind arith
there_below (z ∷ l) (suc n) x h = let r = there_below l n x h in grind (arith, r)

pub reaches_resource : (b : Bound) (k r : ℕ) → Reaches (system_of b) k r → nat_lt r (length (system_of b).resources) ≡ true
reaches_resource b k r h = there_below (system_of b).resources r h.1 h.3

names_kept : (l : Name) (ch : Vars) (o : walks.Own) → map (λ p. p.0) (own_next l ch o) ≡ map (λ p. p.0) o
names_kept l ch [] = refl
names_kept l ch (p ∷ o) = ap (λ ns. p.0 ∷ ns) (names_kept l ch o)

leaf_reach : (b : Bound) (R : Runnable b) (d : Words) (k : ℕ) (o : walks.Own) → IsOwn (world_at b) k o → StraightWithin (Reaches (system_of b) k) (LeafLeaves (IsOwn (world_at b) k)) (leaf_with b d k o)
leaf_reach b R d k o own = go (nth b.instances k) refl
  where
    In : LeafTree → Type 0
    In w = StraightWithin (Reaches (system_of b) k) (LeafLeaves (IsOwn (world_at b) k)) w

    reach : (i : Instance) → nth b.instances k ≡ Some i → (g : Name) → is_among g (globals_in i.bindings) ≡ true → (j : Option Data) (r : ℕ) → number_among (system_of b).resources (g, j) ≡ Some r → Reaches (system_of b) k r
    reach i at_k g is j r n =
        let a = good_states.numbered b R (g, j) r n in
        let m = nth_among g (globals_in i.bindings) (among_is g (globals_in i.bindings) is) in
        (member_of i, resource_of a.found, nth_map member_of k b.instances i at_k, nth_map resource_of r b.resources a.found a.at, (m.0, m.1 ∙ ap Some (sym a.global)))

    coded : (i : Instance) → nth b.instances k ≡ Some i → (c : Code) → code_at b i (find (Rattle.pgo_model.specs.Written.pc) o) ≡ Some c → In (accesses_of (attempt_of b i o d) c)
    coded i at_k c e =
        let l = end_at b k i [] d [] [] (find (Rattle.pgo_model.specs.Written.pc) o) c e in
        let a = attempt_of b i o d in
        let keeps = λ (l : Name) (ch : Vars). names_kept l ch o ∙ own in
        within a (Reaches (system_of b) k) (IsOwn (world_at b) k) keeps
        (λ x g h. reach i at_k g (places_whole i.process i.bindings i.archetype.locals x g h)) c [] Rattle.pgo_accesses.specs.Accesses.begun (λ p. no_value)
        (uses_both (IsPlaceOf b i) (IsPlaceOf b i) (PlaceInReach a (Reaches (system_of b) k) (IsOwn (world_at b) k) keeps) (IsBoundHere b i) (IsBoundHere b i) (λ g j. InReach a (Reaches (system_of b) k) (IsOwn (world_at b) k) keeps g)
        (λ p h h'. place i at_k p h) (λ g j h h'. reach i at_k g h) c (uses_at b i l.0 c l.1) (uses_at b i l.0 c l.1))
        (λ q. tt)
      where
        place : (i : Instance) (at_k : nth b.instances k ≡ Some i) (p : Place) → IsPlaceOf b i p → PlaceInReach (attempt_of b i o d) (Reaches (system_of b) k) (IsOwn (world_at b) k) (λ l ch. names_kept l ch o ∙ own) p
        place i at_k (Whole g) h = reach i at_k g (places_whole i.process i.bindings i.archetype.locals h.0 g h.1)
        place i at_k (Own x) h = tt

    code : (i : Instance) → nth b.instances k ≡ Some i → (q : Option Code) → code_at b i (find (Rattle.pgo_model.specs.Written.pc) o) ≡ q → In (on no_value q (λ c. accesses_of (attempt_of b i o d) c))
    code i at_k None e = tt
    code i at_k (Some c) e = coded i at_k c e

    go : (q : Option Instance) → nth b.instances k ≡ q → In (on no_value q (λ i. on no_value (code_at b i (find (Rattle.pgo_model.specs.Written.pc) o)) (λ c. accesses_of (attempt_of b i o d) c)))
    go None e = tt
    go (Some i) e = code i e (code_at b i (find (Rattle.pgo_model.specs.Written.pc) o)) refl

pub within_reach : (b : Bound) (R : Runnable b) (d : Words) (k : ℕ) (o : walks.Own) → IsOwn (world_at b) k o → Within (Reaches (system_of b) k) (IsOwn (world_at b) k) (tree_with b d k o)
within_reach b R d k o own =
    attempting_within (Reaches (system_of b) k) (IsOwn (world_at b) k) (λ p. leaf_with b (along 0 p d) k o) (λ p. leaf_reach b R (along 0 p d) k o own) d most_leaves

-- an attempt begins at an access or an end
pub settles : (b : Bound) (d : Words) (k : ℕ) (o : walks.Own) → goes_back (tree_with b d k o) ≡ false
settles b d k o = settled_stays (trying (λ p. leaf_with b (along 0 p d) k o) d most_leaves [])
