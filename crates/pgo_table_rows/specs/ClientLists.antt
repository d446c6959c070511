-- The clients of a table.
use Rattle.std.specs.Prelude.{All}
use Rattle.pgo_table_rows.specs.Clients.{IsClientOf}
use Rattle.pgo_table_rows.specs.declared.clients.Clients.{Clients}

abbrev pub AreClients : Clients → Type 0
AreClients c = All (IsClientOf c.shared.now) c.list.items
