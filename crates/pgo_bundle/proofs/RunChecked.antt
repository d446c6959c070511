-- What is checked of the log of a run.
use Rattle.std.proofs.Common.{◌≡◌, ℕ, suc, List, [], ◌∷◌, map, refl, ap}
use Rattle.pgo_model.specs.System.{System, Member}
use Rattle.pgo_model.specs.Machine.{Entry, Note, Finished}
use Rattle.pgo_model.specs.Core.{Settings}
use Rattle.pgo_model.specs.Log.{Effect}
use Rattle.pgo_bundle.specs.BundleLog.{checked_log}
use Rattle.pgo_bundle.specs.RunLog.{entry_read, logged_from, accounts_from, log_of, run_log}

entries_are : (i : ℕ) (ns : List Note) (es : List (Entry Effect)) → map (λ e. e.entry) (logged_from i ns es) ≡ map entry_read es
entries_are i ns [] = refl
entries_are i ns (e ∷ es) = ap (λ z. entry_read e ∷ z) (entries_are (suc i) ns es)

module _ (y : System) (settings : Settings) (f : Finished Effect) where
  ids_are : (k : ℕ) (is : List Member) → map (λ a. a.id) (accounts_from y settings f k is) ≡ map (λ i. i.id) is
  ids_are k [] = refl
  ids_are k (i ∷ is) = ap (λ z. i.id ∷ z) (ids_are (suc k) is)

  pub checked_is : (status : ℕ) → checked_log (run_log y settings f status) ≡ log_of y f.entries
  checked_is status =
      let ids = ids_are 0 y.members in
      let entries = entries_are 1 f.notes f.entries in
      λ j. record { ids = ids j; start = y.start; entries = entries j }
