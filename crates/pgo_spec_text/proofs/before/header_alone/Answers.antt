-- The tokens of the header alone.
use Rattle.std.proofs.Common.{None, refl}
use Rattle.pgo_spec_text.proofs.Prefixed.{alone_by}
use Rattle.pgo_spec_text.proofs.before.header_alone.Goals as goal

pub returns-clause-tokens : goal.returns-clause-tokens
returns-clause-tokens c = λ ends.
    alone_by c.args.text.now c.args.start c.args.fault (record { header = c.in_ok-part_before.field-0; algorithm = None }) c.requires.within ends c.in_ok-part_before.ensures.tokens refl
