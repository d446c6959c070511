-- What a cell shows.
use Rattle.std.specs.Prelude.{None, option_map, unwrap_or}
use Rattle.pgo_base.specs.Data.{Data}
use Rattle.pgo_base.specs.View.{data_of}
use Rattle.pgo_workers.specs.View.{Shown}
use Rattle.pgo_cells.specs.declared.cell.Cell.{Cell}

-- it has no number; where nothing was written it is its base
abbrev pub cell_view : Cell → Shown
cell_view c = record { base = data_of c.base; current = unwrap_or (option_map data_of c.written) (data_of c.base); count = c.count; number = None }

-- a content that is v and was never pre-committed
abbrev pub start_of : Data → Shown
start_of v = record { base = v; current = v; count = 0; number = None }
