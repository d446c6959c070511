use Rattle.std.proofs.Common.{◌≡◌, ◌≢◌, ◌∙◌, ◌-◌, ℕ, suc, [], ◌∷◌, length, sym, ap, arith}
use Rattle.std.specs.Prelude.{option_map}
use Rattle.pgo_model.specs.Core.{end_by}
use Rattle.pgo_syntax.specs.RecordView.{result_view}
use Rattle.pgo_section.specs.Sight.{ended}
use Rattle.pgo_syntax.proofs.Ends.{last_is}
use Rattle.pgo_section.proofs.worker.Worker.last_end.Goals as goal

from_end : (n m k : ℕ) → n ≡ m → m ≡ k → n ≢ 0 → suc (n - 1) ≡ k
from_end n m k e f h = omega (arith, e, f, h)

pub returns : goal.returns
returns g c =
    let l = c.args.self.now.records in
    c.shown_end.ensures ∙ ap (λ r. option_map ended (end_by (result_view r ∷ []))) c.index.ensures
    ∙ ap (option_map ended) (sym (last_is result_view l.items (c.len-count.result - 1) c.index.result.now (from_end c.len-count.result _ (length l.items) c.len-count.ensures l.ok.0 c.if-count-eq0.false)))
