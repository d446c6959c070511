use Rattle.std.proofs.Common.{◌∙◌, ◌+◌, ◌∷◌, drop, ap, sym, None}
use Rattle.std.specs.Prelude.{option_map}
use Rattle.pgo_model.specs.Options.{on}
use Rattle.pgo_expand.specs.Measures.{left_view, measured_processes}
use Rattle.pgo_expand.proofs.Heights.{drop_at, drop_end}
use Rattle.pgo_expand.proofs.Measuring.{nothing_spent, told, processes_step}
use Rattle.pgo_expand.proofs.measure.behind_all.Goals as goal

pub returns-in-None : goal.returns-in-None
returns-in-None c =
    let s = c.args.spec.now in
    let rest = drop (c.loop-process.process-index + 1) c.as_slice-process-items.result.now in
    sym
    (ap (measured_processes s c.args.left.nodes c.args.left.height) (sym c.as_slice-process-items.ensures)
    ∙ c.loop-process.invariant
    ∙ ap (measured_processes s c.loop-process.now.nodes c.loop-process.now.height) (drop_at c.as_slice-process-items.result.now c.loop-process.process-index c.process-item.result c.loop-process-test.true ∙ ap (λ p. p ∷ rest) (sym c.process-item.is))
    ∙ processes_step s c.loop-process.now.nodes c.loop-process.now.height c.process-item.result rest
    ∙ ap (λ o. on None o (λ r. measured_processes s r.0 r.1 rest)) (sym (rw c.in_ok-indexed.ensures at c.in_ok-behind_process.ensures) ∙ ap (option_map left_view) c.in-None.is))

pub loop-process-preserved : goal.loop-process-preserved
loop-process-preserved c =
    let s = c.args.spec.now in
    let rest = drop (c.loop-process.process-index + 1) c.as_slice-process-items.result.now in
    c.loop-process.invariant
    ∙ ap (measured_processes s c.loop-process.now.nodes c.loop-process.now.height) (drop_at c.as_slice-process-items.result.now c.loop-process.process-index c.process-item.result c.loop-process-test.true ∙ ap (λ p. p ∷ rest) (sym c.process-item.is))
    ∙ processes_step s c.loop-process.now.nodes c.loop-process.now.height c.process-item.result rest
    ∙ ap (λ o. on None o (λ r. measured_processes s r.0 r.1 rest)) (sym (rw c.in_ok-indexed.ensures at c.in_ok-behind_process.ensures) ∙ ap (option_map left_view) c.in-Some.is)

pub returns : goal.returns
returns c =
    sym
    (ap (measured_processes c.args.spec.now c.args.left.nodes c.args.left.height) (sym c.as_slice-process-items.ensures)
    ∙ c.loop-process.invariant
    ∙ ap (measured_processes c.args.spec.now c.loop-process.now.nodes c.loop-process.now.height) (drop_end c.as_slice-process-items.result.now c.loop-process.process-index c.loop-process-test.false)
    ∙ nothing_spent c.loop-process.now.nodes c.loop-process.now.height
    ∙ told c.loop-process.now.nodes c.loop-process.now.height c.told_apart.result.nodes c.told_apart.result.height c.told_apart.ensures.nodes c.told_apart.ensures.height)
