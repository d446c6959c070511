-- What a board shows of what its seat knows.
use Rattle.std.specs.Prelude.{◌≡◌, [], length, None, Some}
use Rattle.pgo_model.specs.Log.{Effect}
use Rattle.pgo_workers.specs.View.{View}
use Rattle.pgo_table.specs.SeatViews.{History, TableTerms}

pub record Seen (b : View Effect) (a : History) : Type 0 where
  pub instance : b.instance ≡ a.number
  pub entries : b.entries ≡ a.entries
  pub notes : b.notes ≡ a.notes
  pub told : b.told ≡ Some a.told

-- a board that holds nothing and was refused nothing yet
abbrev pub at_rest : TableTerms → History → View Effect
at_rest y a = record {
  instance = a.number;
  resources = length y.layout.resources;
  steps = y.steps;
  share = y.share;
  held = [];
  entries = a.entries;
  notes = a.notes;
  told = Some a.told;
  last = None;
}
