-- Functions with the same domain and the same values are one, and so are states with the same variables and values.
use Rattle.std.proofs.Common.{◌≡◌, false, if◌then◌else◌, List, [], ◌∷◌, map, Option, Some, refl, sym, ap, ◌∙◌, subst, option_and_then, inl, inr}
use Rattle.std.proofs.lemmas.Option.{same_Some}
use Rattle.pgo_base.proofs.Keyed.{pairs_back}
use Rattle.pgo_base.specs.Data.{Data, function, pairs, graph, keys}
use Rattle.pgo_base.specs.Lookup.{Name, Vars, same_name, find}
use Rattle.pgo_base.specs.Sets.{IsSorted}
use Rattle.pgo_model.specs.Names.{same_name-self}
use Rattle.pgo_model.specs.Operators.{apply}
use Rattle.pgo_model.specs.Variables.{IsFunctionOn}
use Rattle.pgo_bound.specs.Among.{IsAmong, all_at, turned}
use Rattle.pgo_bound.specs.Once.{StandOnce}
use Rattle.pgo_bound.specs.State.{AreDifferent}
use Rattle.pgo_values.proofs.Graphs.{cons_first, cons_rest, same_graph, sorted_once}

-- what a variable that is a function has at an index
abbrev pub value_at : Option Data → Data → Option Data
value_at o i = option_and_then (λ f. apply f i) o

pub same_function : (ks : List Data) (o p : Option Data) → IsSorted ks → IsFunctionOn ks o → IsFunctionOn ks p → ((i : Data) → IsAmong i ks → value_at o i ≡ value_at p i) → o ≡ p
same_function ks o p s f g h =
    let once : StandOnce (keys (graph f.0)) = subst (λ l. StandOnce l) (sym f.2) (sorted_once ks s) in
    let same : graph f.0 ≡ graph g.0 = same_graph (graph f.0) (graph g.0) (f.2 ∙ sym g.2) once (λ i m.
    sym (ap (λ z. value_at z i) f.1) ∙ h i (subst (IsAmong i) f.2 m) ∙ ap (λ z. value_at z i) g.1) in
    f.1 ∙ ap (λ ps. Some (function ps)) (sym (pairs_back f.0) ∙ ap pairs same ∙ pairs_back g.0) ∙ sym g.1

-- states with the same variables, which have names that differ, and the same values
pub same_state : (u t : Vars) → map (λ p. p.0) u ≡ map (λ p. p.0) t → AreDifferent (map (λ p. p.0) t) → ((x : Name) → IsAmong x (map (λ p. p.0) t) → find x u ≡ find x t) → u ≡ t
same_state [] [] e d h = refl
same_state [] (q ∷ t) e d h = absurd (cc)
same_state (p ∷ u) [] e d h = absurd (cc)
same_state (p ∷ u) (q ∷ t) e d h =
    let n : p.0 ≡ q.0 = cons_first p.0 q.0 (map (λ p. p.0) u) (map (λ p. p.0) t) e in
    let v : Some p.1 ≡ Some q.1 = ap (λ c. if c then Some p.1 else find q.0 u) (sym (ap (same_name q.0) n ∙ same_name-self q.0)) ∙ h q.0 (inl refl) ∙ ap (λ c. if c then Some q.1 else find q.0 t) (same_name-self q.0) in
    let w = same_Some p.1 q.1 v in
    λ i. (n i, w i) ∷ same_state u t (cons_rest p.0 q.0 (map (λ p. p.0) u) (map (λ p. p.0) t) e) d.1 (λ x m. pass n x m (h x (inr m))) i
  where
    pass : p.0 ≡ q.0 → (x : Name) → IsAmong x (map (λ p. p.0) t) → find x (p ∷ u) ≡ find x (q ∷ t) → find x u ≡ find x t
    pass n x m k =
        let a : same_name x q.0 ≡ false = turned q.0 x (all_at (λ y. same_name q.0 y ≡ false) x (map (λ p. p.0) t) d.0 m) in
        let b : same_name x p.0 ≡ false = ap (same_name x) n ∙ a in
        ap (λ c. if c then Some p.1 else find x u) (sym b) ∙ k ∙ ap (λ c. if c then Some q.1 else find x t) a
