-- The search goes on from byte to byte.
use Rattle.std.proofs.Common.{true}
use Rattle.pgo_spec_text.specs.Searching.{is_mpcal_at, stays}
use Rattle.pgo_spec_text.proofs.Places.{found_at, passed_at}
use Rattle.pgo_spec_text.proofs.search.mpcal_from.Goals as goal

pub returns-then-word_at-clause-value : goal.returns-then-word_at-clause-value
returns-then-word_at-clause-value c = found_at is_mpcal_at stays true c.args.bytes.now c.loop-i.i c.skip-rest.result.now c.word_at.result _ c.loop-i-test.true c.skip-rest.ensures.value c.word_at.ensures c.if-word_at.true c.loop-i.invariant

pub loop-i-preserved : goal.loop-i-preserved
loop-i-preserved c = passed_at is_mpcal_at stays true c.args.bytes.now c.loop-i.i c.skip-rest.result.now c.word_at.result _ c.loop-i-test.true c.skip-rest.ensures.value c.word_at.ensures c.if-word_at.false c.loop-i.invariant
