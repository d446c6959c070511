-- What a list of changes leaves of a state.
use Rattle.std.proofs.Common.{◌≡◌, Bool, true, false, List, [], ◌∷◌, Option, Some, None, refl, sym, ap, ◌∙◌, subst, option_and_then, option_map, inl, inr}
use Rattle.std.proofs.lemmas.Option.{same_Some}
use Rattle.pgo_base.specs.Data.{Data, function, pairs, graph, keys, graph-pairs}
use Rattle.pgo_base.specs.Lookup.{Name, Vars, same_name, find}
use Rattle.pgo_model.specs.Log.{Change, with_part, changed, after_changes}
use Rattle.pgo_model.specs.Names.{same_name-is}
use Rattle.pgo_model.specs.Operators.{lookup, replace_at}
use Rattle.pgo_model.specs.Options.{on}
use Rattle.pgo_model.specs.Variables.{IsFunctionOn, store}
use Rattle.pgo_bound.specs.Among.{IsAmong}
use Rattle.pgo_workers.proofs.Components.{find_stored, find_other}
use Rattle.pgo_values.proofs.Trees.{replaced_keys}

-- a function with another value at an index has the domain that it has
part_domain : (f i v g : Data) (ks : List Data) → with_part f i v ≡ Some g → IsFunctionOn ks (Some f) → IsFunctionOn ks (Some g)
part_domain f i v g ks e h = go (lookup i (graph h.0)) (sym (ap (λ o. option_and_then (λ z. with_part z i v) o) h.1) ∙ e)
  where
    go : (o : Option Data) → option_map (λ old. function (pairs (replace_at i v (graph h.0)))) o ≡ Some g → IsFunctionOn ks (Some g)
    go None q = absurd (cc)
    go (Some w) q =
        let made = replace_at i v (graph h.0) in
        (pairs made, sym q, ap keys (graph-pairs made) ∙ replaced_keys i v (graph h.0) ∙ h.2)

-- one change, of a part of the variable x or of another variable
abbrev Leaves : Name → Change → Type 0
Leaves x c = c.component.variable ≡ x → (i : Data) × (c.component.index ≡ Some i)

one_function : (x : Name) (ks : List Data) (c : Change) (s u : Vars) → changed c s ≡ Some u → Leaves x c → IsFunctionOn ks (find x s) → IsFunctionOn ks (find x u)
one_function x ks c s u e l h = go (find c.component.variable s) refl e
  where
    stored : (w : Data) (same : Bool) → same_name x c.component.variable ≡ same → (c.component.variable ≡ x → find c.component.variable s ≡ None → ⊥) → (c.component.variable ≡ x → IsFunctionOn ks (Some w)) → IsFunctionOn ks (find x (store c.component.variable w s))
    stored w false q n k = subst (IsFunctionOn ks) (sym (find_other c.component.variable x w s q)) h
    stored w true q n k = here (find c.component.variable s) refl
      where
        is : c.component.variable ≡ x
        is = sym (same_name-is x c.component.variable q)

        here : (o : Option Data) → find c.component.variable s ≡ o → IsFunctionOn ks (find x (store c.component.variable w s))
        here None r = absurd (n is r)
        here (Some old) r = subst (IsFunctionOn ks) (sym (ap (λ z. find z (store c.component.variable w s)) (sym is) ∙ find_stored c.component.variable w old s r)) (k is)

    there : (old : Data) → find c.component.variable s ≡ Some old → c.component.variable ≡ x → find c.component.variable s ≡ None → ⊥
    there old q is n = let z : Some old ≡ None = sym q ∙ n in cc

    part : (old i w : Data) → find c.component.variable s ≡ Some old → with_part old i c.value ≡ Some w → c.component.variable ≡ x → IsFunctionOn ks (Some w)
    part old i w q p is = part_domain old i c.value w ks p (subst (IsFunctionOn ks) (ap (λ z. find z s) (sym is) ∙ q) h)

    by_index : (old : Data) → find c.component.variable s ≡ Some old → (at : Option Data) → c.component.index ≡ at → on (Some (store c.component.variable c.value s)) at (λ i. option_map (λ f. store c.component.variable f s) (with_part old i c.value)) ≡ Some u → IsFunctionOn ks (find x u)
    by_index old q None r k =
        subst (λ z. IsFunctionOn ks (find x z)) (same_Some (store c.component.variable c.value s) u k) (stored c.value (same_name x c.component.variable) refl (there old q) (λ is. let j = l is in absurd (let z : None ≡ Some j.0 = sym r ∙ j.1 in cc)))
    by_index old q (Some i) r k = made (with_part old i c.value) refl k
      where
        made : (o : Option Data) → with_part old i c.value ≡ o → option_map (λ f. store c.component.variable f s) o ≡ Some u → IsFunctionOn ks (find x u)
        made None p k = absurd (cc)
        made (Some w) p k = subst (λ z. IsFunctionOn ks (find x z)) (same_Some (store c.component.variable w s) u k) (stored w (same_name x c.component.variable) refl (there old q) (part old i w q p))

    go : (o : Option Data) → find c.component.variable s ≡ o → option_and_then (λ old. on (Some (store c.component.variable c.value s)) c.component.index (λ i. option_map (λ f. store c.component.variable f s) (with_part old i c.value))) o ≡ Some u → IsFunctionOn ks (find x u)
    go None q k = absurd (cc)
    go (Some old) q k = by_index old q c.component.index refl k

-- changes of parts leave a function its domain
pub kept_function : (x : Name) (ks : List Data) (cs : List Change) (s u : Vars) → after_changes cs s ≡ Some u → ((c : Change) → IsAmong c cs → Leaves x c) → IsFunctionOn ks (find x s) → IsFunctionOn ks (find x u)
kept_function x ks [] s u e l h = subst (λ z. IsFunctionOn ks (find x z)) (same_Some s u e) h
kept_function x ks (c ∷ cs) s u e l h = go (changed c s) refl e (λ v k f. kept_function x ks cs v u k (λ d m. l d (inr m)) f)
  where
    go : (o : Option Vars) → changed c s ≡ o → option_and_then (after_changes cs) o ≡ Some u → ((v : Vars) → after_changes cs v ≡ Some u → IsFunctionOn ks (find x v) → IsFunctionOn ks (find x u)) → IsFunctionOn ks (find x u)
    go None q k r = absurd (cc)
    go (Some v) q k r = r v k (one_function x ks c s v q (l c (inl refl)) h)

one_other : (x : Name) (c : Change) (s u : Vars) → changed c s ≡ Some u → same_name x c.component.variable ≡ false → find x u ≡ find x s
one_other x c s u e n = go (find c.component.variable s) e
  where
    stored : (w : Data) → Some (store c.component.variable w s) ≡ Some u → find x u ≡ find x s
    stored w k = sym (ap (find x) (same_Some (store c.component.variable w s) u k)) ∙ find_other c.component.variable x w s n

    part : (o : Option Data) → option_map (λ f. store c.component.variable f s) o ≡ Some u → find x u ≡ find x s
    part None k = absurd (cc)
    part (Some w) k = stored w k

    by_index : (old : Data) (at : Option Data) → on (Some (store c.component.variable c.value s)) at (λ i. option_map (λ f. store c.component.variable f s) (with_part old i c.value)) ≡ Some u → find x u ≡ find x s
    by_index old None k = stored c.value k
    by_index old (Some i) k = part (with_part old i c.value) k

    go : (o : Option Data) → option_and_then (λ old. on (Some (store c.component.variable c.value s)) c.component.index (λ i. option_map (λ f. store c.component.variable f s) (with_part old i c.value))) o ≡ Some u → find x u ≡ find x s
    go None k = absurd (cc)
    go (Some old) k = by_index old c.component.index k

-- a variable of which there is no change stays
pub kept_other : (x : Name) (cs : List Change) (s u : Vars) → after_changes cs s ≡ Some u → ((c : Change) → IsAmong c cs → same_name x c.component.variable ≡ false) → find x u ≡ find x s
kept_other x [] s u e n = ap (find x) (sym (same_Some s u e))
kept_other x (c ∷ cs) s u e n = go (changed c s) refl e (λ v k. kept_other x cs v u k (λ d m. n d (inr m)))
  where
    go : (o : Option Vars) → changed c s ≡ o → option_and_then (after_changes cs) o ≡ Some u → ((v : Vars) → after_changes cs v ≡ Some u → find x u ≡ find x v) → find x u ≡ find x s
    go None q k r = absurd (cc)
    go (Some v) q k r = r v k ∙ one_other x c s v q (n c (inl refl))
