-- The parameters and locals of an instance as they lie in memory.
use Rattle.std.specs.Prelude.{Option}
use Rattle.pgo_base.specs.Lookup.{Name}
use Rattle.pgo_code.specs.declared.program.Variable.{Variable}
use Rattle.pgo_lower.specs.declared.names.Names.{Names}
use Rattle.pgo_lower.specs.Globals.{whole_in, by_element_in}
use Rattle.pgo_lower.specs.Lowered.{Tables}
pub use Rattle.pgo_lower.specs.SlotViews.{slot_view, slot_views}

abbrev pub variable_view : Variable → Name × Option Name
variable_view v = (v.name, v.own)

abbrev pub tables_of : Names → Tables
tables_of n = record { targets = slot_views n.slots.now; whole = whole_in n.globals.now.bound.now; by_element = by_element_in n.globals.now.bound.now }
