-- What a worker keeps beside its relation to its board: its entries are what differs between the states before and after them, and
-- where its last record ends it, it isn't done.
use Rattle.std.specs.Prelude.{◌≡◌, ℕ, suc, true, false, List, Some}
use Rattle.pgo_model.specs.Machine.{Entry, nth, last_ends}
use Rattle.pgo_workers.specs.View.{View, World, state}
use Rattle.pgo_workers.specs.Worker.{Program, Worker}

module _ {S D : Type 0} (W : World S D) (P : Program S D) (Good : S → Type 0) where
  -- each entry of instance k that was made on a good state is what differs between the states before it and after it
  abbrev pub MadeBy : ℕ → List (Entry D) → Type 0
  MadeBy k es = (p : ℕ) (e : Entry D) → nth es p ≡ Some e → e.instance ≡ k → Good (state W es p) → e.change ≡ P.between k (state W es p) (state W es (suc p)) (W.printed e.change)

  -- its entries are made, and it isn't at Done where its last record ends it
  pub record Stays (w : Worker) (b : View D) : Type 0 where
    pub made : MadeBy w.number b.entries
    pub undone : last_ends w.records ≡ true → P.is_done w.number w.own ≡ false
