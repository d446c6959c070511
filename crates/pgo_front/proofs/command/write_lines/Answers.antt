use Rattle.std.proofs.Common.{subst, ◌∙◌}
use Rattle.pgo_io.specs.Sink.{Grows, GrowsByPrefix}
use Rattle.pgo_model.specs.ModuleText.{flatten}
use Rattle.pgo_base.proofs.Inserting.{on_err}
use Rattle.pgo_front.proofs.LinesWritten.{line_written, prefix_written}
use Rattle.pgo_front.proofs.command.write_lines.Goals as goal

pub returns-in_err-write_all-clause-prefix : goal.returns-in_err-write_all-clause-prefix
returns-in_err-write_all-clause-prefix g c =
    let ls = c.as_slice-line-items.result.now in
    on_err c.from_residual.result
    (subst (λ k. GrowsByPrefix (g.O.Sink.held c.args.out.now) (g.O.Sink.held c.write_all.new.sink) (flatten k)) c.as_slice-line-items.ensures
    (prefix_written _ _ _ ls c.loop-line.line-index c.line-item.result c.loop-line-test.true c.line-item.is c.loop-line.invariant.0
    (subst (GrowsByPrefix (g.O.Sink.held c.loop-line.out) (g.O.Sink.held c.write_all.new.sink)) c.as_bytes.ensures c.in_err-write_all.ensures.prefix)))

pub loop-line-preserved : goal.loop-line-preserved
loop-line-preserved g c =
    let ls = c.as_slice-line-items.result.now in (
      line_written _ _ _ ls c.loop-line.line-index c.line-item.result c.loop-line-test.true c.line-item.is c.loop-line.invariant.0
          (subst (Grows (g.O.Sink.held c.loop-line.out) (g.O.Sink.held c.write_all.new.sink)) c.as_bytes.ensures c.in_ok-write_all.ensures.all),
      c.in_ok-write_all.ensures.steady ∙ c.loop-line.invariant.1,
    )
