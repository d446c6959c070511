use Rattle.pgo_table_rows.proofs.Accepting.{may_open}
use Rattle.pgo_table_rows.proofs.accepted.accepted.Goals as goal

pub returns-in-Ok : goal.returns-in-Ok
returns-in-Ok c = may_open c.args.text.now _ c.in-Ok.bound c.in-Ok.ensures.answers c.in-Ok.ensures.sound
