use Rattle.std.proofs.Common.{Some, ap, sym, ◌∙◌}
use Rattle.pgo_show_text.proofs.Walks.{one_kept}
use Rattle.pgo_show_text.proofs.walk.put.Goals as goal

pub returns : goal.returns
returns c = λ s es before here.
    one_kept s es c.args.kept.now c.insert.new.self c.args.count c.in_ok-copy.copy c.in_ok-insert.ensures.updates before (here ∙ ap Some (sym c.in_ok-copy.ensures))
