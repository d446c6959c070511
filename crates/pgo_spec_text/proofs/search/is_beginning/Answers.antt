use Rattle.std.proofs.Common.{sym}
use Rattle.pgo_spec_text.proofs.Places.{too_short}
use Rattle.pgo_spec_text.proofs.search.is_beginning.Goals as goal

pub returns-then-bytes-front : goal.returns-then-bytes-front
returns-then-bytes-front c = sym (too_short c.args.front.now c.args.bytes.now c.if-bytes-front.true)
