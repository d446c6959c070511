-- The content of a resource in a state.
use Rattle.pgo_base.specs.Lookup.{Vars}
use Rattle.std.specs.Prelude.{Some}
use Rattle.pgo_cells.specs.CellView.{start_of}
use Rattle.pgo_model.specs.Log.{content}
use Rattle.pgo_model.specs.System.{Resource}
use Rattle.pgo_workers.specs.View.{Shown}
use Rattle.pgo_workers.specs.Worlds.{Layout, component_of, or_nothing}

abbrev pub cell_of : Vars → Resource → Shown
cell_of s r = start_of (or_nothing (content (component_of r.number (Some r)) s))

-- the layout of a run that starts in this state
abbrev pub starting_in : Vars → Layout → Layout
starting_in s y = record y { start = s }
