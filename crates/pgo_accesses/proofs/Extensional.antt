-- States are equal where their variables are, and functions where their values are.
use Rattle.std.proofs.Common.{◌≡◌, Bool, true, false, List, [], ◌∷◌, map, Option, Some, None, inl, inr, refl, sym, ap, ◌∙◌, subst, arith, option_map, option_and_then}
use Rattle.std.specs.Prelude.{if◌then◌else◌}
use Rattle.pgo_base.proofs.Keyed.{pairs_back}
use Rattle.pgo_base.specs.Data.{Data, boolean, integer, string, model, set, function, pairs, graph, keys, graph-pairs}
use Rattle.pgo_base.specs.Lookup.{Name, Vars, same_name, find}
use Rattle.pgo_model.specs.Log.{Change, changed, after_changes, with_part}
use Rattle.pgo_model.specs.Names.{same_name-self, same_name-is, turned}
use Rattle.pgo_model.specs.Operators.{apply, contains, lookup, same_data, replace_at}
use Rattle.pgo_model.specs.Options.{on}
use Rattle.pgo_model.specs.Variables.{IsFunctionOn, store}
use Rattle.pgo_bound.specs.Among.{IsAmong, all_at}
use Rattle.pgo_bound.specs.State.{AreDifferent}
use Rattle.pgo_workers.proofs.Components.{find_stored, find_other}
use Rattle.pgo_accesses.proofs.Ending.{Once}
use Rattle.pgo_accesses.proofs.Parts.{same_self, replaced_keys}
use Rattle.pgo_sections.proofs.Domains.{same_of}

-- ---- functions

first_key : (k j : Data) (ks js : List Data) → k ∷ ks ≡ j ∷ js → (k ≡ j) × (ks ≡ js)
first_key k j ks js e = (cc, cc)

graph_same : (l m : List (Data × Data)) → keys l ≡ keys m → Once (keys l) → ((i : Data) → contains i (keys l) ≡ true → lookup i l ≡ lookup i m) → l ≡ m
graph_same [] [] e o h = refl
graph_same [] (q ∷ m) e o h = absurd (grind (arith, e))
graph_same (p ∷ l) [] e o h = absurd (grind (arith, e))
graph_same (p ∷ l) (q ∷ m) e o h =
    let f = first_key p.0 q.0 (keys l) (keys m) e in
    let here : Some p.1 ≡ Some q.1 =
    sym (ap (λ b. if b then Some p.1 else lookup p.0 l) (same_self p.0)) ∙ h p.0 (ap (λ b. if b then true else contains p.0 (keys l)) (same_self p.0))
    ∙ ap (λ b. if b then Some q.1 else lookup p.0 m) (subst (λ z. same_data p.0 z ≡ true) f.0 (same_self p.0)) in
    let value : p.1 ≡ q.1 = cc in
    let rest = graph_same l m f.1 o.1 (λ i c. later i c (same_data i p.0) refl f.0) in
    λ j. (f.0 j, value j) ∷ rest j
  where
    later : (i : Data) → contains i (keys l) ≡ true → (b : Bool) → same_data i p.0 ≡ b → p.0 ≡ q.0 → lookup i l ≡ lookup i m
    later i c true b f = absurd (let z : true ≡ false = sym c ∙ ap (λ x. contains x (keys l)) (same_of i p.0 b) ∙ o.0 in grind (arith, z))
    later i c false b f =
        sym (ap (λ b. if b then Some p.1 else lookup i l) b) ∙ h i (ap (λ b. if b then true else contains i (keys l)) b ∙ c)
        ∙ ap (λ b. if b then Some q.1 else lookup i m) (subst (λ z. same_data i z ≡ false) f b)

pub function_same : (ks : List Data) (o o' : Option Data) → IsFunctionOn ks o → IsFunctionOn ks o' → Once ks
    → ((i : Data) → contains i ks ≡ true → option_and_then (λ f. apply f i) o ≡ option_and_then (λ f. apply f i) o') → o ≡ o'
function_same ks o o' h h' once same =
    let ps = h.0 in let qs = h'.0 in
    let graphs = graph_same (graph ps) (graph qs) (h.2 ∙ sym h'.2) (subst Once (sym h.2) once) (λ i c. sym (ap (option_and_then (λ f. apply f i)) h.1) ∙ same i (ap (contains i) (sym h.2) ∙ c) ∙ ap (option_and_then (λ f. apply f i)) h'.1) in
    h.1 ∙ ap (λ l. Some (function l)) (sym (pairs_back ps) ∙ ap pairs graphs ∙ pairs_back qs) ∙ sym h'.1

-- ---- states

first_name : (x z : Name) (xs zs : List Name) → x ∷ xs ≡ z ∷ zs → (x ≡ z) × (xs ≡ zs)
first_name x z xs zs e = (cc, cc)

pub vars_same : (t u : Vars) → map (λ p. p.0) t ≡ map (λ p. p.0) u → AreDifferent (map (λ p. p.0) t) → ((x : Name) → IsAmong x (map (λ p. p.0) t) → find x t ≡ find x u) → t ≡ u
vars_same [] [] e d h = refl
vars_same [] (q ∷ u) e d h = absurd (grind (arith, e))
vars_same (p ∷ t) [] e d h = absurd (grind (arith, e))
vars_same (p ∷ t) (q ∷ u) e d h =
    let f = first_name p.0 q.0 (map (λ p. p.0) t) (map (λ p. p.0) u) e in
    let here : Some p.1 ≡ Some q.1 =
    sym (ap (λ b. if b then Some p.1 else find p.0 t) (same_name-self p.0)) ∙ h p.0 (inl refl) ∙ ap (λ b. if b then Some q.1 else find p.0 u) (subst (λ z. same_name p.0 z ≡ true) f.0 (same_name-self p.0)) in
    let value : p.1 ≡ q.1 = cc in
    let rest = vars_same t u f.1 d.1 (λ x m. later x m f.0) in
    λ j. (f.0 j, value j) ∷ rest j
  where
    later : (x : Name) → IsAmong x (map (λ p. p.0) t) → p.0 ≡ q.0 → find x t ≡ find x u
    later x m f =
        let other : same_name x p.0 ≡ false = turned p.0 x (all_at (λ z. same_name p.0 z ≡ false) x (map (λ p. p.0) t) d.0 m) in
        sym (ap (λ b. if b then Some p.1 else find x t) other) ∙ h x (inr m) ∙ ap (λ b. if b then Some q.1 else find x u) (subst (λ z. same_name x z ≡ false) f other)

-- ---- changes keep domains

-- each change of the variable is of a part
abbrev pub OfParts : Name → List Change → Type 0
OfParts x [] = Unit {0}
OfParts x (c ∷ cs) = (same_name x c.component.variable ≡ true → (i : Data) × (c.component.index ≡ Some i)) × OfParts x cs

part_on : (ks : List Data) (f i v g : Data) → IsFunctionOn ks (Some f) → with_part f i v ≡ Some g → IsFunctionOn ks (Some g)
part_on ks (function ps) i v g h e = go (lookup i (graph ps)) e (same_keys h)
  where
    same_keys : IsFunctionOn ks (Some (function ps)) → keys (graph ps) ≡ ks
    same_keys h = let s : ps ≡ h.0 = (let z = h.1 in cc) in ap (λ q. keys (graph q)) s ∙ h.2

    go : (o : Option Data) → option_map (λ old. function (pairs (replace_at i v (graph ps)))) o ≡ Some g → keys (graph ps) ≡ ks → IsFunctionOn ks (Some g)
    go None e k = absurd (grind (arith, e))
    go (Some old) e k = (pairs (replace_at i v (graph ps)), sym e, ap keys (graph-pairs (replace_at i v (graph ps))) ∙ replaced_keys i v (graph ps) ∙ k)
part_on ks (boolean z) i v g h e = absurd (grind (arith, e))
part_on ks (integer z) i v g h e = absurd (grind (arith, e))
part_on ks (string z) i v g h e = absurd (grind (arith, e))
part_on ks (model z) i v g h e = absurd (grind (arith, e))
part_on ks (set z) i v g h e = absurd (grind (arith, e))

changed_keeps : (c : Change) (s t : Vars) (x : Name) (ks : List Data) → changed c s ≡ Some t → (same_name x c.component.variable ≡ true → (i : Data) × (c.component.index ≡ Some i)) → IsFunctionOn ks (find x s) → IsFunctionOn ks (find x t)
changed_keeps c s t x ks e parts h = go (find c.component.variable s) refl c.component.index refl e
  where
    var_is : (a b : Vars) → Some a ≡ Some b → a ≡ b
    var_is a b e = cc

    stored : (old f : Data) → find c.component.variable s ≡ Some old → ((same_name x c.component.variable ≡ true) → IsFunctionOn ks (Some f)) → store c.component.variable f s ≡ t → (b : Bool) → same_name x c.component.variable ≡ b → IsFunctionOn ks (find x t)
    stored old f g on_f is true n =
        subst (λ o. IsFunctionOn ks o) (sym (find_stored c.component.variable f old s g) ∙ ap (λ z. find z (store c.component.variable f s)) (sym (same_name-is x c.component.variable n)) ∙ ap (find x) is) (on_f n)
    stored old f g on_f is false n = subst (λ o. IsFunctionOn ks o) (sym (find_other c.component.variable x f s n) ∙ ap (find x) is) h

    at_old : (old : Data) → find c.component.variable s ≡ Some old → same_name x c.component.variable ≡ true → IsFunctionOn ks (Some old)
    at_old old g n = subst (λ o. IsFunctionOn ks o) (ap (λ z. find z s) (same_name-is x c.component.variable n) ∙ g) h

    part : (old i : Data) → find c.component.variable s ≡ Some old → (o : Option Data) → with_part old i c.value ≡ o → option_map (λ f. store c.component.variable f s) o ≡ Some t → IsFunctionOn ks (find x t)
    part old i g None w e = absurd (grind (arith, e))
    part old i g (Some f) w e = stored old f g (λ n. part_on ks old i c.value f (at_old old g n) w) (var_is _ t e) (same_name x c.component.variable) refl

    go : (o : Option Data) → find c.component.variable s ≡ o → (j : Option Data) → c.component.index ≡ j
        → option_and_then (λ old. on (Some (store c.component.variable c.value s)) j (λ i. option_map (λ f. store c.component.variable f s) (with_part old i c.value))) o ≡ Some t → IsFunctionOn ks (find x t)
    go None g j f e = absurd (grind (arith, e))
    go (Some old) g None f e =
        stored old c.value g (λ n. absurd (let q = parts n in let z : None ≡ Some q.0 = sym f ∙ q.1 in grind (arith, z))) (var_is _ t e) (same_name x c.component.variable) refl
    go (Some old) g (Some i) f e = part old i g (with_part old i c.value) refl e

pub after_keeps : (cs : List Change) (s t : Vars) (x : Name) (ks : List Data) → after_changes cs s ≡ Some t → OfParts x cs → IsFunctionOn ks (find x s) → IsFunctionOn ks (find x t)
after_keeps [] s t x ks e parts h = let z : s ≡ t = cc in subst (λ v. IsFunctionOn ks (find x v)) z h
after_keeps (c ∷ cs) s t x ks e parts h = go (changed c s) refl e (λ u e h. after_keeps cs u t x ks e parts.1 h)
  where
    go : (o : Option Vars) → changed c s ≡ o → option_and_then (after_changes cs) o ≡ Some t → ((u : Vars) → after_changes cs u ≡ Some t → IsFunctionOn ks (find x u) → IsFunctionOn ks (find x t)) → IsFunctionOn ks (find x t)
    go None g e ih = absurd (grind (arith, e))
    go (Some u) g e ih = ih u e (changed_keeps c s u x ks g parts.0 h)

-- a variable that none of the changes is of
abbrev pub OfOthers : Name → List Change → Type 0
OfOthers x [] = Unit {0}
OfOthers x (c ∷ cs) = (same_name x c.component.variable ≡ false) × OfOthers x cs

changed_other : (c : Change) (s t : Vars) (x : Name) → changed c s ≡ Some t → same_name x c.component.variable ≡ false → find x t ≡ find x s
changed_other c s t x e n = go (find c.component.variable s) c.component.index e
  where
    var_is : (a b : Vars) → Some a ≡ Some b → a ≡ b
    var_is a b e = cc

    part : (o : Option Data) → option_map (λ f. store c.component.variable f s) o ≡ Some t → find x t ≡ find x s
    part None e = absurd (grind (arith, e))
    part (Some f) e = ap (find x) (sym (var_is _ t e)) ∙ find_other c.component.variable x f s n

    go : (o : Option Data) → (j : Option Data)
        → option_and_then (λ old. on (Some (store c.component.variable c.value s)) j (λ i. option_map (λ f. store c.component.variable f s) (with_part old i c.value))) o ≡ Some t → find x t ≡ find x s
    go None j e = absurd (grind (arith, e))
    go (Some old) None e = ap (find x) (sym (var_is _ t e)) ∙ find_other c.component.variable x c.value s n
    go (Some old) (Some i) e = part (with_part old i c.value) e

pub after_other : (cs : List Change) (s t : Vars) (x : Name) → after_changes cs s ≡ Some t → OfOthers x cs → find x t ≡ find x s
after_other [] s t x e others = let z : s ≡ t = cc in ap (find x) (sym z)
after_other (c ∷ cs) s t x e others = go (changed c s) refl e (λ u e. after_other cs u t x e others.1)
  where
    go : (o : Option Vars) → changed c s ≡ o → option_and_then (after_changes cs) o ≡ Some t → ((u : Vars) → after_changes cs u ≡ Some t → find x t ≡ find x u) → find x t ≡ find x s
    go None g e ih = absurd (grind (arith, e))
    go (Some u) g e ih = ih u e ∙ changed_other c s u x g others.0

lookup_there : (i : Data) (l : List (Data × Data)) → contains i (keys l) ≡ true → (v : Data) × (lookup i l ≡ Some v)
lookup_there i [] h = absurd (grind (arith, h))
lookup_there i (p ∷ l) h = go (same_data i p.0) h (λ e. lookup_there i l e)
  where
    go : (b : Bool) → (if b then true else contains i (keys l)) ≡ true → (contains i (keys l) ≡ true → (v : Data) × (lookup i l ≡ Some v)) → (v : Data) × ((if b then Some p.1 else lookup i l) ≡ Some v)
    go true h ih = (p.1, refl)
    go false h ih = ih h

-- a function has a value on its domain
pub function_there : (ks : List Data) (o : Option Data) (i : Data) → IsFunctionOn ks o → contains i ks ≡ true → (v : Data) × (option_and_then (λ f. apply f i) o ≡ Some v)
function_there ks o i f h =
    let v = lookup_there i (graph f.0) (ap (contains i) f.2 ∙ h) in (v.0, ap (option_and_then (λ f. apply f i)) f.1 ∙ v.1)
