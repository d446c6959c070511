use Rattle.std.proofs.Common.{sym, ap, ◌∙◌}
use Rattle.pgo_base.specs.Data.{graph-pairs}
use Rattle.pgo_base.specs.View.{data_of}
use Rattle.pgo_mailbox.specs.Holdable.{pairs_in}
use Rattle.pgo_mailbox.proofs.queue.pairs_of.Goals as goal

pub returns-in-Fun : goal.returns-in-Fun
returns-in-Fun c = c.pairs.ensures ∙ sym (graph-pairs c.in-Fun.f) ∙ ap (λ v. pairs_in (data_of v)) (sym c.in-Fun.is)
