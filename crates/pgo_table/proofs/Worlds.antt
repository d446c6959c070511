-- The world of a layout has the laws of the rule.
use Rattle.std.proofs.Common.{◌≡◌, ℕ, ◌<◌, ◌≤◌, true, List, [], ◌∷◌, length, Some, refl, ap, ◌∙◌, arith}
use Rattle.std.specs.Prelude.{nat_lt, option_and_then}
use Rattle.pgo_base.specs.Lookup.{Vars}
use Rattle.pgo_journal.specs.Journal.{JournalView, MayAppend}
use Rattle.pgo_model.specs.Accounts.{journal}
use Rattle.pgo_model.specs.Log.{Effect, StateAt}
use Rattle.pgo_model.specs.Machine.{Entry}
use Rattle.pgo_workers.specs.View.{along}
use Rattle.pgo_workers.specs.Worlds.{Layout, IsLayout, HasAll, world_of}
use Rattle.pgo_workers.proofs.Patched.{after_is, patched_has, patched_value, patched_own, patched_else}
use Rattle.pgo_table.specs.SeatViews.{TableTerms}
use Rattle.pgo_table.specs.Rule.{Laws, Proper, AllOf, behind}
use Rattle.pgo_table.proofs.Logs.{behind_fits}

pub lawful : (y : Layout) → IsLayout y → HasAll y y.start → Laws (world_of y) (HasAll y)
lawful y layout has = record {
  start = has;
  keeps = λ k s d fits is. patched_has y layout k s fits d is;
  value = λ k s d fits is r e. patched_value y layout k s fits d is r e;
  own = λ k s d fits is. patched_own y layout k s fits d is;
  others = λ k s d fits is j ne. patched_else y layout k s fits d is j ne;
}

pub proper : (y : TableTerms) → IsLayout y.layout → HasAll y.layout y.layout.start → length y.layout.resources ≤ journal → Proper world_of HasAll y
proper y layout has few = record { laws = lawful y.layout layout has; few = few; resource = λ r near. there r near }
  where
    there : (r : ℕ) → r < length y.layout.resources → nat_lt r (length y.layout.resources) ≡ true
    there r near = grind (arith, near)

-- there is a state behind all entries
reached : (y : Layout) (layout : IsLayout y) (s : Vars) (es : List (Entry Effect)) → HasAll y s → AllOf (world_of y) es → StateAt s es (length es) ≡ Some (along (world_of y).patched s es (length es))
reached y layout s [] has h = refl
reached y layout s (e ∷ es) has h =
    ap (λ o. option_and_then (λ t. StateAt t es (length es)) o) (after_is y layout e.instance s has e.change h.0)
    ∙ reached y layout ((world_of y).patched s e.change) es (patched_has y layout e.instance s has e.change h.0) h.1

-- an entry whose changes are the instance's and of resources may follow
pub may_append : (y : Layout) (layout : IsLayout y) (has : HasAll y y.start) (j : JournalView) (e : Entry Effect) → j.start ≡ y.start → AllOf (world_of y) j.entries → (world_of y).is_of e.instance e.change ≡ true → MayAppend j e
may_append y layout has j e start all is_of = record {
  before = behind (world_of y) j.entries;
  after = (world_of y).patched (behind (world_of y) j.entries) e.change;
  from = ap (λ s. StateAt s j.entries (length j.entries)) start ∙ reached y layout y.start j.entries has all;
  to = after_is y layout e.instance (behind (world_of y) j.entries) (behind_fits (world_of y) (HasAll y) (lawful y layout has) j.entries all) e.change is_of;
}
