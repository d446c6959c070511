use Rattle.std.proofs.Common.{◌≡◌, ◌∙◌, ◌-◌, suc, length, sym, ap, arith}
use Rattle.std.specs.Prelude.{option_map}
use Rattle.pgo_log_write.specs.IsFinished.{ended, record_of}
use Rattle.pgo_syntax.proofs.Ends.{last_is}
use Rattle.pgo_log_write.proofs.status.last_end.Goals as goal

pub returns : goal.returns
returns c =
    let l = c.args.records.now in
    let at_end : suc (length l - 1) ≡ length l = omega (arith, c.if-count-eq0.false) in
    c.shown_end.ensures ∙ ap (option_map ended) (sym (last_is record_of l (length l - 1) _ at_end))
