-- Values within limits: integers, strings, model values and the numbers of members and of pairs are those that the limits allow, and sets and
-- functions are in order.
use Rattle.std.specs.Prelude.{◌≡◌, IsTrue, List, [], ◌∷◌, length, Option, Some, option_and_then}
use Rattle.pgo_base.specs.Data.{Data, boolean, integer, string, model, set, function, Items, no_items, item, members, Pairs, no_pairs, pair, graph, keys}
use Rattle.pgo_base.specs.Lookup.{Name, Names, Vars, find}
use Rattle.pgo_base.specs.Sets.{IsSorted}
use Rattle.pgo_model.specs.Val.{Scope, Meaning, call_def}
use Rattle.pgo_bound.specs.Among.{IsAmong}
use Rattle.pgo_sections.specs.Context.{Context}
use Rattle.pgo_values.specs.Limits.{Limits}

module _ (limits : Limits) where
  abbrev mutual
    pub IsWithin : Data → Type 0
    IsWithin (boolean b) = Unit {0}
    IsWithin (integer z) = IsTrue (limits.number z)
    IsWithin (string s) = IsTrue (limits.text s)
    IsWithin (model s) = IsTrue (limits.model s)
    IsWithin (set xs) = AreWithin xs × IsSorted (members xs) × IsTrue (limits.members (length (members xs)))
    IsWithin (function ps) = PairsWithin ps × IsSorted (keys (graph ps)) × IsTrue (limits.pairs (length (graph ps)))

    pub AreWithin : Items → Type 0
    AreWithin no_items = Unit {0}
    AreWithin (item x xs) = IsWithin x × AreWithin xs

    pub PairsWithin : Pairs → Type 0
    PairsWithin no_pairs = Unit {0}
    PairsWithin (pair k v ps) = IsWithin k × IsWithin v × PairsWithin ps

  abbrev pub EachWithin : List Data → Type 0
  EachWithin xs = (x : Data) → IsAmong x xs → IsWithin x

  -- such a value, where there is one
  abbrev pub Within : Option Data → Type 0
  Within o = (v : Data) → o ≡ Some v → IsWithin v

  -- each variable has such a value
  abbrev pub AllWithin : Vars → Type 0
  AllWithin [] = Unit {0}
  AllWithin (p ∷ ps) = IsWithin p.1 × AllWithin ps

  -- each name in scope that has a value has such a one
  abbrev pub NamesWithin : Names → Type 0
  NamesWithin ns = (x : Name) (v : Data) → find x ns ≡ Some (Some v) → IsWithin v

  -- definitions give such values of such arguments
  abbrev pub CallsWithin : List Meaning → Type 0
  CallsWithin ms = (x : Name) (args : List Data) → EachWithin args → Within (call_def x args ms)

  -- all that an expression sees are such values
  pub record ScopeWithin (s : Scope) : Type 0 where
    pub names : NamesWithin s.names
    pub part : Within s.part
    pub now : (x : Name) → Within (find x s.now)
    pub next : (x : Name) → Within (option_and_then (find x) s.next)
    pub calls : CallsWithin s.defs

  -- each variable that is found in a list has such a value
  abbrev pub FoundWithin : Vars → Type 0
  FoundWithin s = (x : Name) → Within (find x s)

  -- the instance's identifier, the state in which the section began, and what the definitions give
  pub record ContextWithin (k : Context) : Type 0 where
    pub start : FoundWithin k.start
    pub id : IsWithin k.id
    pub calls : CallsWithin k.defs
