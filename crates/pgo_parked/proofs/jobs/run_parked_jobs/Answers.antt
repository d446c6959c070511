use denote.Exit.{no}
use denote.Param.Send.{param_send, arg_send}
use Rattle.std.proofs.Common.{slice_index_or, sym, subst}
use Rattle.std.proofs.lemmas.Result.{IfOk-weaker}
use Rattle.pgo_threads.specs.Drives.{HasWorked}
use Rattle.pgo_threads.specs.declared.jobs.Job.{Job}
use Rattle.pgo_parked.specs.contracts.jobs.run_parked_jobs.{P-row, B-row, B-Content-row}
use Rattle.pgo_threads.proofs.Sent.{job_send}
use Rattle.pgo_parked.proofs.jobs.run_parked_jobs.Goals as goal

pub returns-clause-each : goal.returns-clause-each
returns-clause-each g c =
    IfOk-weaker c.map_vec.result _ _
    (λ v h i d l.
    let q = (h i d l).1 in
    subst (λ (j : Job g.row.P.Denot g.row.B.Denot g.row.B-Content.Denot). HasWorked (g.S.Sections.system c.args.sections.now) (g.S.Sections.tree c.args.sections.now) (g.S.Sections.walk c.args.sections.now) g.B.Board.layout g.B.Board.shows g.B.Board.stays j.worker j.board (slice_index_or v.items i d).worker (slice_index_or v.items i d).board (slice_index_or v.items i d).failed) (sym (q.job_is d)) q.call.met)
    c.map_vec.ensures.each

pub map_vec-requires-send-J : goal.map_vec-requires-send-J
map_vec-requires-send-J g c κs within = param_send 1 _ (arg_send _ no _ (job_send (P-row g.row.T g.row.P g.row.S g.row.B g.row.G g.row.B-Content) (B-row g.row.T g.row.P g.row.S g.row.B g.row.G g.row.B-Content) (B-Content-row g.row.T g.row.P g.row.S g.row.B g.row.G g.row.B-Content) c.type_bounds.send-P c.type_bounds.send-B))

pub map_vec-requires-send-X : goal.map_vec-requires-send-X
map_vec-requires-send-X g c κs within = param_send 2 _ (arg_send _ no _ (job_send (P-row g.row.T g.row.P g.row.S g.row.B g.row.G g.row.B-Content) (B-row g.row.T g.row.P g.row.S g.row.B g.row.G g.row.B-Content) (B-Content-row g.row.T g.row.P g.row.S g.row.B g.row.G g.row.B-Content) c.type_bounds.send-P c.type_bounds.send-B))
