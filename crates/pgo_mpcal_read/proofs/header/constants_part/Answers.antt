use Rattle.std.proofs.Common.{◌≡◌, Some, rules, arith}
use Rattle.std.proofs.lemmas.Grind.{common_steps}
use Rattle.pgo_lexer.specs.declared.symbol.Symbol.TheVariants as symbol
use Rattle.pgo_mpcal_read.specs.Reading.{name, behind}
use Rattle.pgo_mpcal_read.specs.ReadingSpec.{constants_part}
use Rattle.pgo_mpcal_read.proofs.header.constants_part.Goals as goal

pub returns : goal.returns
unfolding constants_part
returns c =
    let e : behind symbol.Comma name c.push.new.self c.name.new.self ≡ Some (c.in_ok-constants.constants, c.behind.new.cursor) = c.in_ok-constants.ensures in
    first_of (search rules, grind (arith, common_steps))
