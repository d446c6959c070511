use Rattle.std.proofs.Common.{ap, sym, ◌∙◌}
use Rattle.pgo_base.specs.Data.{function, pairs}
use Rattle.pgo_base.specs.View.{data_of}
use Rattle.pgo_journal.proofs.Reached.{with_new_pairs}
use Rattle.pgo_journal.proofs.states.with_new.Goals as goal

pub returns-in_ok-from_sorted-in-Some-Fun : goal.returns-in_ok-from_sorted-in-Some-Fun
returns-in_ok-from_sorted-in-Some-Fun c =
    rw (c.in-Some-Fun.is-0, c.in-Some-Fun.is-1) (ap (λ ps. function (pairs ps)) (c.in_ok-from_sorted-in-Some-Fun.ensures ∙ c.in_ok-pairs-in-Some-Fun.ensures.pairs) ∙ sym (with_new_pairs c.in-Some-Fun.f (data_of c.in-Some-Fun.i) (data_of c.args.value.now)))
