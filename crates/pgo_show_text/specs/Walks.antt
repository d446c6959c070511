-- The states that are kept from one walk over the entries of a log.
use Rattle.std.specs.Prelude.{◌≡◌, ℕ, List, Some}
use Rattle.std.specs.BTreeMap.{BTreeMap, get}
use Rattle.std.specs.Ordering.{nat_cmp}
use Rattle.pgo_base.specs.Lookup.{Vars}
use Rattle.pgo_model.specs.Log.{Effect, StateAt}
use Rattle.pgo_model.specs.Machine.{Entry}
use Rattle.pgo_show_text.specs.declared.walk.States.{States}
use Rattle.pgo_show_text.specs.Facts.{behind_all}

-- what stands under a number of entries is the state behind so many
abbrev pub AreStates : Vars → List (Entry Effect) → BTreeMap ℕ Vars → Type 0
AreStates s es m = (n : ℕ) (t : Vars) → get nat_cmp m n ≡ Some t → StateAt s es n ≡ Some t

-- the last state is that behind all entries, and those before it are states too
pub record IsWalk (s : Vars) (es : List (Entry Effect)) (w : States) : Type 0 where
  pub last : w.last ≡ behind_all s es
  pub kept : AreStates s es w.kept
