use Rattle.std.proofs.Common.{◌≡◌, ◌<◌, ℕ, List, true, take, sym, subst}
use Rattle.std.proofs.lemmas.List.{take_more}
use Rattle.pgo_model.specs.Core.{is_listed}
use Rattle.pgo_section.proofs.Listed.{listed_more}
use Rattle.pgo_execute.proofs.run.numbers_are_short.Goals as goal

pub loop-pair-preserved : goal.loop-pair-preserved
loop-pair-preserved c =
    let items = c.as_slice-pair-items.result.now in let i = c.loop-pair.pair-index in
    subst (λ (l : List (ℕ × ℕ)). (r o : ℕ) → is_listed l r o ≡ true → o < 4294967296) (sym (take_more items i (0, 0) c.loop-pair-test.true))
    (listed_more 4294967296 (take i items) _ c.count_is_short.ensures c.loop-pair.invariant)
