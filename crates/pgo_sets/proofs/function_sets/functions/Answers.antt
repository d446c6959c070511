use Rattle.std.proofs.Common.{◌≡◌, List, map, ap, sym, ◌∙◌, subst}
use Rattle.pgo_base.specs.Data.{Data}
use Rattle.pgo_base.specs.View.{data_of}
use Rattle.pgo_model.specs.FunctionSets.{functions, functions_over}
use Rattle.pgo_sets.specs.Answers.{Answers}
use Rattle.pgo_sets.specs.Choices.{choice_of}
use Rattle.pgo_sets.proofs.Paired.{map_map, sorted_domain, functions_is}
use Rattle.pgo_sets.proofs.function_sets.functions.Goals as goal

chosen : (c : goal.After-as_slice) → map choice_of c.as_slice.result.now ≡ map (λ m. (m, c.in-Set-Set.members)) c.in-Set-Set.domain
chosen c =
    let f : Data → Data × List Data = λ m. (m, c.in-Set-Set.members) in
    ap (map choice_of) c.as_slice.ensures.value ∙ c.in_ok-choices-in-Set-Set.ensures ∙ sym (map_map data_of f c.in_order.result.now) ∙ ap (map f) c.in_order.ensures.members

pub functions_over-requires : goal.functions_over-requires
functions_over-requires c = sorted_domain c.in-Set-Set.domain c.in-Set-Set.members c.as_slice.result.now c.in_order.ensures.sorted (chosen c)

pub returns-in_ok-choices-in-Set-Set : goal.returns-in_ok-choices-in-Set-Set
returns-in_ok-choices-in-Set-Set c =
    let f : Data → Data × List Data = λ m. (m, c.in-Set-Set.members) in
    let e : map choice_of c.as_slice.result.now ≡ map f c.in-Set-Set.domain = ap (map choice_of) c.as_slice.ensures.value ∙ c.in_ok-choices-in-Set-Set.ensures ∙ sym (map_map data_of f c.in_order.result.now) ∙ ap (map f) c.in_order.ensures.members in
    subst (Answers c.functions_over.result) (ap functions_over e ∙ sym ((λ i. functions (data_of (c.in-Set-Set.is-0 i)) (data_of (c.in-Set-Set.is-1 i))) ∙ functions_is c.in-Set-Set.domain c.in-Set-Set.members)) c.functions_over.ensures
