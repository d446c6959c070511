use Rattle.std.proofs.lemmas.Result.{on_err_weaker}
use Rattle.pgo_front.proofs.PiecesWritten.{all_in_part}
use Rattle.pgo_front.proofs.command.write_made.Goals as goal

pub returns-clause-prefix : goal.returns-clause-prefix
returns-clause-prefix g c =
    on_err_weaker c.flush.result (λ _. all_in_part _ _ _ _ c.in_ok-write_pieces.ensures.all c.flush.ensures.kept) c.flush.ensures.cause
