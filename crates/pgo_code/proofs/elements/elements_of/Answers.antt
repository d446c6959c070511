-- One resource more.
use Rattle.std.proofs.Common.{◌+◌, ◌∙◌, arith}
use Rattle.pgo_base.specs.View.{data_of}
use Rattle.pgo_code.specs.Elements.{element_in}
use Rattle.pgo_code.proofs.ElementLaws.{numbers_more}
use Rattle.pgo_code.proofs.elements.elements_of.Goals as goal

pub loop-r-preserved : goal.loop-r-preserved
loop-r-preserved c = λ g v.
    numbers_more c.args.resources.now c.loop-r.r-index (c.loop-r.r-index + 1) c.r-item.result g (data_of v) (element_in c.loop-r.elements g (data_of v)) (element_in c.add.new.self g (data_of v))
    c.loop-r-test.true (omega arith) c.r-item.is (c.in_ok-add.ensures g v)
    ∙ c.loop-r.invariant g v
