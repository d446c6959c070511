-- The search goes on from byte to byte.
use Rattle.std.proofs.Common.{true}
use Rattle.pgo_spec_text.specs.Searching.{is_row_at, stays}
use Rattle.pgo_spec_text.proofs.Places.{found_at, passed_at}
use Rattle.pgo_spec_text.proofs.search.row_from.Goals as goal

pub returns-then-is_beginning-clause-value : goal.returns-then-is_beginning-clause-value
returns-then-is_beginning-clause-value c = found_at is_row_at stays true c.args.bytes.now c.loop-i.i c.skip-rest.result.now c.is_beginning.result _ c.loop-i-test.true c.skip-rest.ensures.value c.is_beginning.ensures c.if-is_beginning.true c.loop-i.invariant

pub loop-i-preserved : goal.loop-i-preserved
loop-i-preserved c = passed_at is_row_at stays true c.args.bytes.now c.loop-i.i c.skip-rest.result.now c.is_beginning.result _ c.loop-i-test.true c.skip-rest.ensures.value c.is_beginning.ensures c.if-is_beginning.false c.loop-i.invariant
