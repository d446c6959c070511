-- A global as a whole is passed over.
use Rattle.std.proofs.Common.{Option, sym, ap, ◌∙◌, ◌&&◌}
use Rattle.std.specs.Prelude.{Some, None, if◌then◌else◌}
use Rattle.pgo_base.specs.Lookup.{same_name, or_that}
use Rattle.pgo_base.specs.View.{data_of}
use Rattle.pgo_base.specs.declared.value.Value.{Value}
use Rattle.pgo_model.specs.Core.{same_index}
use Rattle.pgo_bound.specs.Sound.{index_in}
use Rattle.pgo_code.specs.Elements.{element_in}
use Rattle.pgo_code.proofs.ElementLaws.{whole_passed}
use Rattle.pgo_code.proofs.elements.Elements.add.Goals as goal

pub returns-in-None : goal.returns-in-None
returns-in-None c = λ g v.
    let o = element_in c.args.self.now g (data_of v) in let r = c.args.resource.now in
    whole_passed o (same_name r.global g) r.number
    ∙ sym (ap (λ (i : Option Value). or_that o (if same_name r.global g && same_index (index_in (record r { index = i })) (Some (data_of v)) then Some r.number else None)) c.in-None.is)
