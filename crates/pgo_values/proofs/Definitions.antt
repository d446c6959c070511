-- Definitions give values within limits where constants are such and the literals in bodies are within them.
use Rattle.std.proofs.Common.{Bool, true, false, List, [], ◌∷◌, length, Some, None, fold}
use Rattle.std.specs.Prelude.{if◌then◌else◌, ◌==◌}
use Rattle.std.specs.List.{AllByRecursion}
use Rattle.pgo_base.specs.Data.{model}
use Rattle.pgo_base.specs.Lookup.{same_name}
use Rattle.pgo_model.specs.Val.{Meaning, Defined, Given, Means, val, meaning_of, meanings, call_def, default_meaning, name_values}
use Rattle.pgo_model.specs.Written.{default_init_value}
use Rattle.pgo_values.specs.Within.{Within, NamesWithin, CallsWithin, ScopeWithin}
use Rattle.pgo_values.specs.Literals.{DefinedWithin}
use Rattle.pgo_values.proofs.Operators.{none_within, some_within}
use Rattle.pgo_values.proofs.Trees.{names_valued, tree_within}
use Rattle.pgo_values.specs.Limits.{Limits}

module _ (limits : Limits) where
  pub no_names : NamesWithin limits []
  no_names x v h = absurd (cc)

  one_meaning : (d : Defined) → DefinedWithin limits d → (ms : List Meaning) → CallsWithin limits ms → CallsWithin limits (meaning_of [] None ms d)
  one_meaning (Given y v) h ms c x args o = go (same_name x y) (length args == 0)
    where
      go : (a b : Bool) → Within limits (if a then (if b then Some v else None) else call_def x args ms)
      go true true = some_within limits v h
      go true false = none_within limits
      go false b = c x args o
  one_meaning (Means y ps e) h ms c x args o = go (same_name x y) (length args == length ps)
    where
      body : ScopeWithin limits (record { names = name_values ps args []; part = None; now = []; next = None; defs = ms })
      body = record { names = names_valued limits ps args [] o no_names; part = none_within limits; now = λ z. none_within limits; next = λ z. none_within limits; calls = c }

      go : (a b : Bool) → Within limits (if a then (if b then val e (record { names = name_values ps args []; part = None; now = []; next = None; defs = ms }) else None) else call_def x args ms)
      go true true = tree_within limits e (record { names = name_values ps args []; part = None; now = []; next = None; defs = ms }) h body
      go true false = none_within limits
      go false b = c x args o

  all_meanings : (ds : List Defined) → AllByRecursion (DefinedWithin limits) ds → (ms : List Meaning) → CallsWithin limits ms → CallsWithin limits (fold (meaning_of [] None) ms ds)
  all_meanings [] h ms c = c
  all_meanings (d ∷ ds) h ms c = all_meanings ds h.1 (meaning_of [] None ms d) (one_meaning d h.0 ms c)

  default_calls : CallsWithin limits (default_meaning ∷ [])
  default_calls x args o = go (same_name x default_init_value) (length args == 0)
    where
      go : (a b : Bool) → Within limits (if a then (if b then Some (model default_init_value) else None) else None)
      go true true = some_within limits (model default_init_value) limits.default
      go true false = none_within limits
      go false b = none_within limits

  pub definitions_within : (ds : List Defined) → AllByRecursion (DefinedWithin limits) ds → CallsWithin limits (meanings ds [] None)
  definitions_within ds h = all_meanings ds h (default_meaning ∷ []) default_calls
