-- What components have once some of them are changed.
use Rattle.std.proofs.Common.{◌≡◌, Bool, true, false, List, [], ◌∷◌, map, Option, Some, None, refl, sym, ap, ◌∙◌, subst, arith}
use Rattle.std.specs.Prelude.{if◌then◌else◌, not, ◌&&◌, option_map}
use Rattle.std.specs.Ordering.{is_eq}
use Rattle.std.proofs.lemmas.Bool.{and_parts}
use Rattle.pgo_base.specs.Data.{Data, boolean, integer, string, model, set, function, pairs, graph, graph-pairs}
use Rattle.pgo_base.specs.Exact.{data_itself}
use Rattle.pgo_base.specs.Lookup.{Name, Vars, same_name, find}
use Rattle.pgo_model.specs.Core.{same_index}
use Rattle.pgo_model.specs.Log.{Component, with_part}
use Rattle.pgo_model.specs.Names.{same_name-self, same_name-is, turned}
use Rattle.pgo_model.specs.Operators.{same_data, apply, lookup, replace_at}
use Rattle.pgo_model.specs.Variables.{store}
use Rattle.pgo_sections.proofs.Domains.{same_of}
use Rattle.pgo_workers.specs.Worlds.{are_other, same_component}

-- ---- tests

pub not_true : (b : Bool) → (b ≡ true → ⊥) → b ≡ false
not_true true h = absurd (h refl)
not_true false h = refl

pub not_both : (b : Bool) → b ≡ true → b ≡ false → ⊥
not_both true e f = grind (arith, f)
not_both false e f = grind (arith, e)

pub same_self : (x : Data) → same_data x x ≡ true
same_self x = ap is_eq (data_itself x)

pub other_turned : (x y : Data) → same_data x y ≡ false → same_data y x ≡ false
other_turned x y h = not_true (same_data y x) (λ e. not_both (same_data x y) (subst (λ z. same_data x z ≡ true) (sym (same_of y x e)) (same_self x)) h)

pub index_is : (i j : Option Data) → same_index i j ≡ true → i ≡ j
index_is None None h = refl
index_is None (Some w) h = absurd (grind (arith, h))
index_is (Some v) None h = absurd (grind (arith, h))
index_is (Some v) (Some w) h = ap Some (same_of v w h)

pub index_self : (i : Option Data) → same_index i i ≡ true
index_self None = refl
index_self (Some v) = same_self v

pub same_is : (c d : Component) → same_component c d ≡ true → (c.variable ≡ d.variable) × (c.index ≡ d.index)
same_is c d h = let p = and_parts (same_name c.variable d.variable) (same_index c.index d.index) h in (same_name-is c.variable d.variable p.0, index_is c.index d.index p.1)

pub same_made : (c d : Component) → c.variable ≡ d.variable → c.index ≡ d.index → same_component c d ≡ true
same_made c d e f = (λ i. same_name c.variable (sym e i) && same_index c.index (sym f i)) ∙ ap (λ b. b && same_index c.index c.index) (same_name-self c.variable) ∙ index_self c.index

-- a change of the one leaves the other
abbrev pub is_apart : Component → Component → Bool
is_apart c d = if same_name c.variable d.variable then are_other c.index d.index else true

not_turned : (a b : Bool) → not a ≡ true → (a ≡ false → b ≡ false) → not b ≡ true
not_turned true b h f = absurd (grind (arith, h))
not_turned false b h f = ap not (f refl)

others_turned : (i j : Option Data) → are_other i j ≡ true → are_other j i ≡ true
others_turned None None h = h
others_turned None (Some w) h = absurd (grind (arith, h))
others_turned (Some v) None h = absurd (grind (arith, h))
others_turned (Some v) (Some w) h = not_turned (same_data v w) (same_data w v) h (other_turned v w)

pub apart_turned : (c d : Component) → is_apart c d ≡ true → is_apart d c ≡ true
apart_turned c d h = go (same_name c.variable d.variable) refl h
  where
    go : (b : Bool) → same_name c.variable d.variable ≡ b → (if b then are_other c.index d.index else true) ≡ true → is_apart d c ≡ true
    go true e h =
        let n = same_name-is c.variable d.variable e in
        ap (λ b. if b then are_other d.index c.index else true) (subst (λ z. same_name d.variable z ≡ true) (sym n) (same_name-self d.variable)) ∙ others_turned c.index d.index h
    go false e h = ap (λ b. if b then are_other d.index c.index else true) (turned c.variable d.variable e)

not_self : (i : Option Data) → are_other i i ≡ true → ⊥
not_self None h = grind (arith, h)
not_self (Some v) h = let e : not true ≡ true = ap not (sym (same_self v)) ∙ h in grind (arith, e)

-- what is the same isn't apart
pub apart_not_same : (c d : Component) → is_apart c d ≡ true → same_component c d ≡ false
apart_not_same c d h = not_true (same_component c d) (λ e. same e)
  where
    same : same_component c d ≡ true → ⊥
    same e =
        let p = same_is c d e in
        let n : same_name c.variable d.variable ≡ true = subst (λ z. same_name c.variable z ≡ true) p.0 (same_name-self c.variable) in
        let q : are_other c.index c.index ≡ true = ap (are_other c.index) p.1 ∙ sym (ap (λ b. if b then are_other c.index d.index else true) n) ∙ h in
        not_self c.index q

-- ---- variables and graphs

pub names_stored : (x : Name) (v : Data) (s : Vars) → map (λ p. p.0) (store x v s) ≡ map (λ p. p.0) s
names_stored x v [] = refl
names_stored x v (p ∷ s) = go (same_name x p.0) (names_stored x v s)
  where
    go : (b : Bool) → map (λ p. p.0) (store x v s) ≡ map (λ p. p.0) s → map (λ p. p.0) (if b then (p.0, v) ∷ s else p ∷ store x v s) ≡ p.0 ∷ map (λ p. p.0) s
    go true e = refl
    go false e = ap (λ l. p.0 ∷ l) e

pub find_stored : (x : Name) (v w : Data) (s : Vars) → find x s ≡ Some w → find x (store x v s) ≡ Some v
find_stored x v w [] h = absurd (grind (arith, h))
find_stored x v w (p ∷ s) h = go (same_name x p.0) refl h (find_stored x v w s)
  where
    go : (b : Bool) → same_name x p.0 ≡ b → (if b then Some p.1 else find x s) ≡ Some w → (find x s ≡ Some w → find x (store x v s) ≡ Some v)
        → find x (if b then (p.0, v) ∷ s else p ∷ store x v s) ≡ Some v
    go true e h r = ap (λ b. if b then Some v else find x s) e
    go false e h r = ap (λ b. if b then Some p.1 else find x (store x v s)) e ∙ r h

pub find_other : (x z : Name) (v : Data) (s : Vars) → same_name z x ≡ false → find z (store x v s) ≡ find z s
find_other x z v [] n = refl
find_other x z v (p ∷ s) n = go (same_name x p.0) refl (find_other x z v s n)
  where
    go : (b : Bool) → same_name x p.0 ≡ b → find z (store x v s) ≡ find z s
        → find z (if b then (p.0, v) ∷ s else p ∷ store x v s) ≡ (if same_name z p.0 then Some p.1 else find z s)
    go true e r =
        let f : same_name z p.0 ≡ false = subst (λ n. same_name z n ≡ false) (same_name-is x p.0 e) n in
        ap (λ b. if b then Some v else find z s) f ∙ sym (ap (λ b. if b then Some p.1 else find z s) f)
    go false e r = ap (λ o. if same_name z p.0 then Some p.1 else o) r

pub lookup_replaced : (k v w : Data) (ps : List (Data × Data)) → lookup k ps ≡ Some w → lookup k (replace_at k v ps) ≡ Some v
lookup_replaced k v w [] h = absurd (grind (arith, h))
lookup_replaced k v w (p ∷ ps) h = go (same_data k p.0) refl h (lookup_replaced k v w ps)
  where
    go : (b : Bool) → same_data k p.0 ≡ b → (if b then Some p.1 else lookup k ps) ≡ Some w → (lookup k ps ≡ Some w → lookup k (replace_at k v ps) ≡ Some v)
        → lookup k (if b then (k, v) ∷ ps else p ∷ replace_at k v ps) ≡ Some v
    go true e h r = ap (λ b. if b then Some v else lookup k ps) (same_self k)
    go false e h r = ap (λ b. if b then Some p.1 else lookup k (replace_at k v ps)) e ∙ r h

pub lookup_other : (k j v : Data) (ps : List (Data × Data)) → same_data j k ≡ false → lookup j (replace_at k v ps) ≡ lookup j ps
lookup_other k j v [] n = refl
lookup_other k j v (p ∷ ps) n = go (same_data k p.0) refl (lookup_other k j v ps n)
  where
    go : (b : Bool) → same_data k p.0 ≡ b → lookup j (replace_at k v ps) ≡ lookup j ps
        → lookup j (if b then (k, v) ∷ ps else p ∷ replace_at k v ps) ≡ (if same_data j p.0 then Some p.1 else lookup j ps)
    go true e r =
        let f : same_data j p.0 ≡ false = subst (λ z. same_data j z ≡ false) (same_of k p.0 e) n in
        ap (λ b. if b then Some v else lookup j ps) n ∙ sym (ap (λ b. if b then Some p.1 else lookup j ps) f)
    go false e r = ap (λ o. if same_data j p.0 then Some p.1 else o) r

-- a function with another value at an index of its domain
abbrev pub WithPart : (f i v : Data) → Type 0
WithPart f i v = (g : Data) × (with_part f i v ≡ Some g) × (apply g i ≡ Some v) × ((j : Data) → same_data j i ≡ false → apply g j ≡ apply f j)

pub part_there : (f i v w : Data) → apply f i ≡ Some w → WithPart f i v
part_there (boolean b) i v w h = absurd (grind (arith, h))
part_there (integer b) i v w h = absurd (grind (arith, h))
part_there (string b) i v w h = absurd (grind (arith, h))
part_there (model b) i v w h = absurd (grind (arith, h))
part_there (set b) i v w h = absurd (grind (arith, h))
part_there (function ps) i v w h = (
  function (pairs (replace_at i v (graph ps))),
  ap (option_map (λ old. function (pairs (replace_at i v (graph ps))))) h,
  ap (lookup i) (graph-pairs (replace_at i v (graph ps))) ∙ lookup_replaced i v w (graph ps) h,
  λ j n. ap (lookup j) (graph-pairs (replace_at i v (graph ps))) ∙ lookup_other i j v (graph ps) n,
)
