-- The search goes on from byte to byte.
use Rattle.std.proofs.Common.{sym, ◌∙◌, ap, ◌&&◌}
use Rattle.pgo_spec_text.specs.Searching.{is_line_at, is_fresh, opens_module}
use Rattle.pgo_spec_text.proofs.Places.{found_at}
use Rattle.pgo_spec_text.proofs.search.module_from.Goals as goal

pub returns-then-opens_module-clause-value : goal.returns-then-opens_module-clause-value
returns-then-opens_module-clause-value c =
    found_at is_line_at is_fresh c.loop-i.fresh c.args.text.now c.loop-i.i c.skip-rest.result.now c.opens_module.result _ c.loop-i-test.true c.skip-rest.ensures.value
    (c.opens_module.ensures ∙ ap (λ f. f && opens_module c.skip-rest.result.now) (sym c.if-fresh.true)) c.if-opens_module.true c.loop-i.invariant
