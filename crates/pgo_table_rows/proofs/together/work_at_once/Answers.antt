use denote.Exit.{no}
use denote.Param.Send.{param_send, arg_send}
use Rattle.pgo_table_rows.proofs.Sent.{client_send}
use Rattle.pgo_table_rows.proofs.together.work_at_once.Goals as goal

pub map_vec-requires-send-J : goal.map_vec-requires-send-J
map_vec-requires-send-J g c κs within = param_send 1 _ (arg_send _ no _ (client_send _ _))

pub map_vec-requires-send-X : goal.map_vec-requires-send-X
map_vec-requires-send-X g c κs within = param_send 2 _ (arg_send _ no _ (client_send _ _))
