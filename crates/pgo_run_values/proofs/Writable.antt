-- Values of this kind have counted sets, and their canonical text is read back.
use Rattle.std.proofs.Common.{◌≡◌, ◌≤◌, ◌&&◌, true, nat_le, [], ◌∷◌, length, refl}
use Rattle.std.proofs.lemmas.Bool.{and_from, leb-true}
use Rattle.pgo_base.specs.Data.{Data, boolean, integer, string, model, set, function, Items, no_items, item, members, Pairs, no_pairs, pair, graph}
use Rattle.pgo_base.specs.Lookup.{Vars}
use Rattle.pgo_base.specs.Size.{depth}
use Rattle.pgo_model.specs.Operators.{most_members}
use Rattle.pgo_value_text.specs.IsValueText.{is_small, are_small, all_small, most_depth}
use Rattle.pgo_value_text.specs.Writable.{IsWritable, is_spellable, are_spellable, all_spellable}
use Rattle.pgo_systems.specs.Counted.{IsCounted, AllCounted, counted, few_fit}
use Rattle.pgo_values.specs.Within.{AreWithin, PairsWithin}
use Rattle.pgo_systems.proofs.States.{is_value}
use Rattle.pgo_run_values.specs.Spellable.{IsSpellable, AllSpellable, PairsSpellable, spellable}

mutual
  pub is_counted : (v : Data) → IsSpellable v → IsCounted v
  is_counted (boolean b) h = tt
  is_counted (integer z) h = h
  is_counted (string s) h = refl
  is_counted (model s) h = refl
  is_counted (set xs) h = (are_counted xs h.0, h.1, few_fit (length (members xs)) (leb-true (length (members xs)) most_members h.2))
  is_counted (function ps) h = (pairs_counted ps h.0, h.1, refl)

  are_counted : (xs : Items) → AreWithin spellable xs → AreWithin counted xs
  are_counted no_items h = tt
  are_counted (item x xs) h = (is_counted x h.0, are_counted xs h.1)

  pairs_counted : (ps : Pairs) → PairsSpellable ps → PairsWithin counted ps
  pairs_counted no_pairs h = tt
  pairs_counted (pair k v ps) h = (is_counted k h.0, is_counted v h.1, pairs_counted ps h.2)

pub all_counted : (s : Vars) → AllSpellable s → AllCounted s
all_counted [] h = tt
all_counted (p ∷ s) h = (is_counted p.1 h.0, all_counted s h.1)

mutual
  spells : (v : Data) → IsSpellable v → is_spellable v ≡ true
  spells (boolean b) h = refl
  spells (integer z) h = refl
  spells (string s) h = h
  spells (model s) h = h
  spells (set xs) h = spells_items xs h.0
  spells (function ps) h = spells_pairs ps h.0

  spells_items : (xs : Items) → AreWithin spellable xs → are_spellable xs ≡ true
  spells_items no_items h = refl
  spells_items (item x xs) h = and_from (is_spellable x) (are_spellable xs) (spells x h.0) (spells_items xs h.1)

  spells_pairs : (ps : Pairs) → PairsSpellable ps → all_spellable ps ≡ true
  spells_pairs no_pairs h = refl
  spells_pairs (pair k v ps) h = and_from (is_spellable k && is_spellable v) (all_spellable ps) (and_from (is_spellable k) (is_spellable v) (spells k h.0) (spells v h.1)) (spells_pairs ps h.2)

mutual
  few : (v : Data) → IsSpellable v → is_small v ≡ true
  few (boolean b) h = refl
  few (integer z) h = refl
  few (string s) h = refl
  few (model s) h = refl
  few (set xs) h = and_from (nat_le (length (members xs)) most_members) (are_small xs) h.2 (few_items xs h.0)
  few (function ps) h = and_from (nat_le (length (graph ps)) most_members) (all_small ps) h.2 (few_pairs ps h.0)

  few_items : (xs : Items) → AreWithin spellable xs → are_small xs ≡ true
  few_items no_items h = refl
  few_items (item x xs) h = and_from (is_small x) (are_small xs) (few x h.0) (few_items xs h.1)

  few_pairs : (ps : Pairs) → PairsSpellable ps → all_small ps ≡ true
  few_pairs no_pairs h = refl
  few_pairs (pair k v ps) h = and_from (is_small k && is_small v) (all_small ps) (and_from (is_small k) (is_small v) (few k h.0) (few v h.1)) (few_pairs ps h.2)

pub is_writable : (v : Data) → IsSpellable v → depth v ≤ most_depth → IsWritable v
is_writable v h low = record { value = is_value v (is_counted v h); shallow = low; spellable = spells v h; small = few v h }
