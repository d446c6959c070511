use Rattle.std.proofs.lemmas.Result.{on_err_weaker}
use Rattle.pgo_show.proofs.Making.{all_in_part}
use Rattle.pgo_show.proofs.command.write_text.Goals as goal

pub returns-clause-prefix : goal.returns-clause-prefix
returns-clause-prefix g c =
    on_err_weaker c.flush.result (λ _. all_in_part _ _ _ _ c.in_ok-write_all.ensures.all c.flush.ensures.kept) c.flush.ensures.cause
