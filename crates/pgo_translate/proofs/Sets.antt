-- The sets that the expressions of a specification have are in order, where its constants are values.
use Rattle.std.proofs.Common.{◌≡◌, List, [], ◌∷◌, map, Some, None, refl}
use Rattle.std.specs.List.{AllByRecursion}
use Rattle.pgo_base.specs.Data.{Data, boolean, integer, string, model, set, function, Items, no_items, item, members, Pairs, no_pairs, pair}
use Rattle.pgo_base.specs.Lookup.{Name}
use Rattle.pgo_base.specs.Sets.{IsSorted}
use Rattle.pgo_base.specs.Tree.{Tree}
use Rattle.pgo_model.specs.ModuleView.{defined_view}
use Rattle.pgo_model.specs.Value.{IsValue, AreValues, ArePairs}
use Rattle.pgo_model.specs.Val.{Defined, Given, Means, seen}
use Rattle.pgo_syntax.specs.declared.spec.Spec.{Spec}
use Rattle.pgo_bound.specs.Values.{defs_of, closed_value}
use Rattle.pgo_values.specs.Literals.{DefinedWithin}
use Rattle.pgo_values.specs.Within.{AreWithin, PairsWithin, ScopeWithin}
use Rattle.pgo_values.proofs.Definitions.{no_names, definitions_within}
use Rattle.pgo_values.proofs.Operators.{none_within}
use Rattle.pgo_values.proofs.Trees.{tree_within}
use Rattle.pgo_translate.specs.Premises.{ConstantsAreValues, GivenValue}
use Rattle.pgo_translate.proofs.Unlimited.{IsOrdered, any_literals, unlimited}

mutual
  -- a value is in order
  value_ordered : (v : Data) → IsValue v → IsOrdered v
  value_ordered (boolean b) h = tt
  value_ordered (integer z) h = refl
  value_ordered (string s) h = refl
  value_ordered (model s) h = refl
  value_ordered (set xs) h = (values_are_ordered xs h.0, h.1, refl)
  value_ordered (function ps) h = (pairs_are_ordered ps h.0, h.1, refl)

  values_are_ordered : (xs : Items) → AreValues xs → AreWithin unlimited xs
  values_are_ordered no_items h = tt
  values_are_ordered (item x xs) h = (value_ordered x h.0, values_are_ordered xs h.1)

  pairs_are_ordered : (ps : Pairs) → ArePairs ps → PairsWithin unlimited ps
  pairs_are_ordered no_pairs h = tt
  pairs_are_ordered (pair k v ps) h = (value_ordered k h.0, value_ordered v h.1, pairs_are_ordered ps h.2)

all_defined : (ds : List Defined) → AllByRecursion GivenValue ds → AllByRecursion (DefinedWithin unlimited) ds
all_defined [] h = tt
all_defined (d ∷ ds) h = (one d h.0, all_defined ds h.1)
  where
    one : (d : Defined) → GivenValue d → DefinedWithin unlimited d
    one (Given x v) h = value_ordered v h
    one (Means x ps e) h = any_literals e

-- the sets that expressions have are in order, as every value is
abbrev pub SetsOrdered : Spec → List (Name × Data) → Type 0
SetsOrdered s consts = (e : Tree) (xs : Items) → closed_value (defs_of s consts) e ≡ Some (set xs) → IsSorted (members xs)

pub sets_ordered : (s : Spec) (consts : List (Name × Data)) → ConstantsAreValues s consts → SetsOrdered s consts
sets_ordered s consts h e xs q =
    let ds = map defined_view (defs_of s consts) in
    let none = none_within unlimited in
    let a : ScopeWithin unlimited (seen ds [] [] None) = record { names = no_names unlimited; part = none; now = λ z. none; next = λ z. none; calls = definitions_within unlimited ds (all_defined ds h) } in
    (tree_within unlimited e (seen ds [] [] None) (any_literals e) a (set xs) q).1
