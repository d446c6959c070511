-- A log as it lies in memory, as the entries that it stands for.
use Rattle.std.specs.Prelude.{map, option_map}
use Rattle.pgo_base.specs.View.{data_of}
use Rattle.pgo_base.specs.declared.log.Owner as base_owner
use Rattle.pgo_base.specs.declared.log.Owner.TheVariants as base_owners
use Rattle.pgo_base.specs.declared.log.Component as base_component
use Rattle.pgo_base.specs.declared.log.Change as base_change
use Rattle.pgo_base.specs.declared.log.Entry as base_entry
use Rattle.pgo_base.specs.declared.log.Log as base_log
use Rattle.pgo_model.specs.Log.{Owner, OfResource, OfInstance, Unowned, Component, Change, Effect, Log}
use Rattle.pgo_model.specs.Machine.{Entry}

abbrev pub owner_view : base_owner.Owner → Owner
owner_view (base_owners.OfResource n) = OfResource n
owner_view (base_owners.OfInstance n) = OfInstance n
owner_view base_owners.Unowned = Unowned

abbrev pub component_view : base_component.Component → Component
component_view c = record { variable = c.variable; index = option_map data_of c.index; owner = owner_view c.owner }

abbrev pub change_view : base_change.Change → Change
change_view c = record { component = component_view c.component; value = data_of c.value }

abbrev pub entry_view : base_entry.Entry → Entry Effect
entry_view e = record {
  instance = e.instance;
  attempt = e.attempt;
  change = record { label = e.label; next = e.next; changes = map change_view e.changes; prints = e.prints };
}

abbrev pub log_view : base_log.Log → Log
log_view l = record { ids = l.ids; start = l.start; entries = map entry_view l.entries }
