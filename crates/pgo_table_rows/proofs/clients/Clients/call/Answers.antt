use Rattle.std.proofs.Common.{ap, ◌∙◌}
use Rattle.std.proofs.lemmas.List.Elements.{All-set}
use Rattle.pgo_shared.specs.SeatBoards.{table_of}
use Rattle.pgo_table_rows.specs.Clients.{IsClientOf}
use Rattle.pgo_table_rows.specs.declared.client.Client.{Client}
use Rattle.pgo_table_rows.proofs.clients.Clients.call.Goals as goal

pub returns-clause-clients : goal.returns-clause-clients
returns-clause-clients c =
    let s = c.args.self.now.shared.now in let xs = c.args.self.now.list.items in let x = c.index_mut.result.now in
    All-set (IsClientOf s) xs c.args.k c.called.new.client (c.called.ensures.stands, c.called.ensures.table ∙ ap (λ (d : Client). table_of d.board) c.index_mut.ensures.value ∙ (c.requires.clients c.args.k x c.requires.near).1) c.requires.clients
