-- The values whose canonical text is a value text.
use Rattle.std.specs.Prelude.{◌≤◌, Bool, true, ◌&&◌, IsTrue}
use Rattle.pgo_base.specs.Data.{Data, boolean, integer, string, model, set, function, Items, no_items, item, Pairs, no_pairs, pair}
use Rattle.pgo_base.specs.Size.{depth}
use Rattle.pgo_model.specs.Value.{IsValue}
use Rattle.pgo_model.specs.BundleParts.{all_string_bytes}
use Rattle.pgo_value_text.specs.IsValueText.{most_depth, is_name, is_small}

abbrev mutual
  -- strings have only newlines, tabs and bytes 32 to 126, and model values are identifiers
  pub is_spellable : Data → Bool
  is_spellable (boolean b) = true
  is_spellable (integer z) = true
  is_spellable (string s) = all_string_bytes s
  is_spellable (model x) = is_name x
  is_spellable (set xs) = are_spellable xs
  is_spellable (function ps) = all_spellable ps

  pub are_spellable : Items → Bool
  are_spellable no_items = true
  are_spellable (item x xs) = is_spellable x && are_spellable xs

  pub all_spellable : Pairs → Bool
  all_spellable no_pairs = true
  all_spellable (pair k v ps) = (is_spellable k && is_spellable v) && all_spellable ps

-- the canonical text of the value is read back: it is in order, at most 1,024 deep, of bytes and names that may stand in a
-- text, and no part of it has too many members
pub record IsWritable (v : Data) : Type 0 where
  pub value : IsValue v
  pub shallow : depth v ≤ most_depth
  pub spellable : IsTrue (is_spellable v)
  pub small : IsTrue (is_small v)
