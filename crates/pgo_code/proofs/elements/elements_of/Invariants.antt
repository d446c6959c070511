-- What is gathered, and then what is left, is the whole.
use Rattle.std.proofs.Common.{◌≡◌, drop, map}
use Rattle.std.specs.Prelude.{Some}
use Rattle.pgo_base.specs.Lookup.{Name, or_that}
use Rattle.pgo_base.specs.View.{data_of}
use Rattle.pgo_base.specs.declared.value.Value.{Value}
use Rattle.pgo_model.specs.Core.{number_among}
use Rattle.pgo_meaning.specs.System.{resource_of}
use Rattle.pgo_code.specs.Elements.{element_in}
use Rattle.pgo_code.proofs.elements.elements_of.Given as goal

abbrev pub invariant-loop-r : goal.invariant-loop-r
invariant-loop-r l =
    (g : Name) (v : Value)
    → or_that (element_in l.elements g (data_of v)) (number_among (map resource_of (drop l.r-index l.resources)) (g, Some (data_of v))) ≡ number_among (map resource_of l.resources) (g, Some (data_of v))
