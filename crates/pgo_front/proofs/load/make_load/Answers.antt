use Rattle.std.proofs.Common.{inr}
use Rattle.std.proofs.lemmas.Result.{IfOk-weaker, IfErr-weaker}
use Rattle.pgo_accept.specs.Refusals.{RefusedWith}
use Rattle.pgo_load.specs.Load.{load_consts, load_text}
use Rattle.pgo_front.proofs.Loading.{no_memory_lines}
use Rattle.pgo_front.proofs.Translating.{stops_refused, refused_line}
use Rattle.pgo_front.proofs.load.make_load.Goals as goal

pub returns-in-Ok-clause-ok : goal.returns-in-Ok-clause-ok
returns-in-Ok-clause-ok g c =
    let loaded = c.in-Ok.loaded in
    IfOk-weaker c.loaded_made.result _ _ (λ m h. record { instances = loaded.instances; steps = loaded.steps; loads = c.in-Ok.ensures.ok; line_is = h }) c.loaded_made.ensures.ok

pub returns-in-Ok-clause-err : goal.returns-in-Ok-clause-err
returns-in-Ok-clause-err g c = IfErr-weaker c.loaded_made.result _ _ (λ e h. inr h) c.loaded_made.ensures.err

pub returns-in-Ok-clause-line : goal.returns-in-Ok-clause-line
returns-in-Ok-clause-line g c =
    no_memory_lines (RefusedWith (load_text c.args.size) (load_consts c.args.size)) c.loaded_made.result c.loaded_made.ensures.err c.loaded_made.ensures.line

pub returns-in-Err-clause-err : goal.returns-in-Err-clause-err
returns-in-Err-clause-err g c =
    stops_refused (load_text c.args.size) (load_consts c.args.size) c.in-Err.rejection c.as_rejected.result.status c.as_rejected.result.line c.in-Err.ensures.refused c.as_rejected.ensures

pub returns-in-Err-clause-line : goal.returns-in-Err-clause-line
returns-in-Err-clause-line g c =
    refused_line (load_text c.args.size) (load_consts c.args.size) c.in-Err.rejection c.as_rejected.result.status c.as_rejected.result.line c.in-Err.ensures.refused c.as_rejected.ensures
