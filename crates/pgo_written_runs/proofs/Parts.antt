-- The values of a state, their parts and their keys are at most 256 deep and can be written; what an entry records is among them.
use Rattle.std.proofs.Common.{◌≡◌, ◌≤◌, suc, Bool, true, false, if◌then◌else◌, List, [], ◌∷◌, length, Option, Some, None, inl, inr, refl, sym, subst, arith, option_and_then}
use Rattle.std.proofs.lemmas.Bool.{and_parts, leb-true}
use Rattle.std.specs.Prelude.{nat_le}
use Rattle.std.proofs.lemmas.Option.{same_Some}
use Rattle.pgo_base.specs.Data.{Data, boolean, integer, string, model, set, function, Pairs, no_pairs, pair, graph, keys}
use Rattle.pgo_base.specs.Lookup.{Name, Vars, same_name, find}
use Rattle.pgo_base.specs.Size.{depth, pairs_depth}
use Rattle.pgo_model.specs.Log.{Component, content, differs, changes_between}
use Rattle.pgo_model.specs.Operators.{apply, lookup, same_data}
use Rattle.pgo_model.specs.Options.{on}
use Rattle.pgo_model.specs.State.{is_shallow, state_depth}
use Rattle.pgo_bound.specs.Among.{IsAmong}
use Rattle.pgo_run_values.specs.Spellable.{IsSpellable, PairsSpellable, AllSpellable}

-- it can be written, and is at most 256 deep
abbrev pub IsLow : Data → Type 0
IsLow v = IsSpellable v × (depth v ≤ 256)

pub found_low : (x : Name) (v : Data) (s : Vars) → AllSpellable s → is_shallow s ≡ true → find x s ≡ Some v → IsLow v
found_low x v [] h d e = absurd (cc)
found_low x v (p ∷ s) h d e = go (same_name x p.0) e (found_low x v s h.1 parts.1)
  where
    parts : (nat_le (depth p.1) state_depth ≡ true) × (is_shallow s ≡ true)
    parts = and_parts (nat_le (depth p.1) state_depth) (is_shallow s) d

    go : (b : Bool) → (if b then Some p.1 else find x s) ≡ Some v → (find x s ≡ Some v → IsLow v) → IsLow v
    go true k more = subst IsLow (same_Some p.1 v k) (h.0, leb-true (depth p.1) 256 parts.0)
    go false k more = more k

lookup_low : (i v : Data) (ps : Pairs) → PairsSpellable ps → lookup i (graph ps) ≡ Some v → IsSpellable v × (depth v ≤ pairs_depth ps)
lookup_low i v no_pairs h e = absurd (cc)
lookup_low i v (pair k w ps) h e = go (same_data i k) e (lookup_low i v ps h.2)
  where
    go : (b : Bool) → (if b then Some w else lookup i (graph ps)) ≡ Some v → (lookup i (graph ps) ≡ Some v → IsSpellable v × (depth v ≤ pairs_depth ps)) → IsSpellable v × (depth v ≤ pairs_depth (pair k w ps))
    go true q more =
        let same : w ≡ v = same_Some w v q in
        subst (λ z. IsSpellable z × (depth z ≤ pairs_depth (pair k w ps))) same (h.1, omega arith)
    go false q more = let r = more q in (r.0, let n = r.1 in omega (arith, n))

pub part_low : (f i v : Data) → IsLow f → apply f i ≡ Some v → IsLow v
part_low (function ps) i v h e = let r = lookup_low i v ps h.0.0 e in (r.0, let n = r.1 in let m : suc (pairs_depth ps) ≤ 256 = h.1 in omega (arith, n, m))
part_low (boolean b) i v h e = absurd (cc)
part_low (integer z) i v h e = absurd (cc)
part_low (string s) i v h e = absurd (cc)
part_low (model s) i v h e = absurd (cc)
part_low (set xs) i v h e = absurd (cc)

keys_low : (k : Data) (ps : Pairs) → PairsSpellable ps → IsAmong k (keys (graph ps)) → IsSpellable k × (depth k ≤ pairs_depth ps)
keys_low k no_pairs h m = absurd m
keys_low k (pair l w ps) h (inl e) = subst (λ z. IsSpellable z × (depth z ≤ pairs_depth (pair l w ps))) (sym e) (h.0, omega arith)
keys_low k (pair l w ps) h (inr m) = let r = keys_low k ps h.2 m in (r.0, let n = r.1 in omega (arith, n))

pub key_low : (k : Data) (ps : Pairs) → IsLow (function ps) → IsAmong k (keys (graph ps)) → IsLow k
key_low k ps h m = let r = keys_low k ps h.0.0 m in (r.0, let n = r.1 in let d : suc (pairs_depth ps) ≤ 256 = h.1 in omega (arith, n, d))

pub content_low : (c : Component) (t : Vars) (v : Data) → AllSpellable t → is_shallow t ≡ true → content c t ≡ Some v → IsLow v
content_low c t v h d e = go (find c.variable t) refl e
  where
    by_index : (f : Data) → IsLow f → (o : Option Data) → on (Some f) o (λ i. apply f i) ≡ Some v → IsLow v
    by_index f low None k = subst IsLow (same_Some f v k) low
    by_index f low (Some i) k = part_low f i v low k

    go : (o : Option Data) → find c.variable t ≡ o → option_and_then (λ v. on (Some v) c.index (λ i. apply v i)) o ≡ Some v → IsLow v
    go None q k = absurd (cc)
    go (Some f) q k = by_index f (found_low c.variable f t h d q) c.index k

-- ---- what an entry records

module _ (s t : Vars) where
  pub changes_few : (cs : List Component) → length (changes_between cs s t) ≤ length cs
  changes_few [] = omega arith
  changes_few (c ∷ cs) = go (content c t) (differs (content c s) (content c t)) (changes_few cs)
    where
      go : (o : Option Data) (d : Bool) → length (changes_between cs s t) ≤ length cs → length (on (changes_between cs s t) o (λ v. if d then record { component = c; value = v } ∷ changes_between cs s t else changes_between cs s t)) ≤ length (c ∷ cs)
      go None d n = omega (arith, n)
      go (Some v) true n = omega (arith, n)
      go (Some v) false n = omega (arith, n)
