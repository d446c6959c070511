use Rattle.std.proofs.Common.{◌≡◌, ◌+◌, ◌++◌, ◌∷◌, [], map, take, length, ap, sym, ◌∙◌, arith}
use Rattle.std.specs.Prelude.{if◌then◌else◌, Some, None}
use Rattle.std.proofs.lemmas.List.{length-map, length-take, map_push, take_all, take_more}
use Rattle.pgo_base.specs.Lookup.{or_that, same_name}
use Rattle.pgo_base.specs.View.{named_data}
use Rattle.pgo_model.specs.Steps.{place_in}
use Rattle.pgo_check.proofs.Placing.{place_more}
use Rattle.pgo_check.proofs.lookup.places_of.Goals as goal

pub loop-i-preserved : goal.loop-i-preserved
loop-i-preserved c =
    let i = c.loop-i.i in
    let list = c.as_slice-list.result.now in
    let p = c.index-list-i.result in
    let passed = map named_data (take i list) in
    let many : length passed ≡ i = length-map (take i list) named_data ∙ omega (arith, length-take i list, c.loop-i-test.true) in
    let next : map named_data (take (i + 1) list) ≡ passed ++ named_data p ∷ [] =
    ap (map named_data) (take_more list i p c.loop-i-test.true ∙ ap (λ q. take i list ++ q ∷ []) (sym c.index-list-i.is))
    ∙ map_push named_data (take i list) p in
    λ x. (
    c.in_ok-set_first.ensures.noted x ∙ ap (λ o. or_that o (if same_name x p.0 then Some i else None)) (c.loop-i.invariant x)
    ∙ ap (λ n. or_that (place_in x passed) (if same_name x p.0 then Some n else None)) (sym many) ∙ sym (place_more x passed (named_data p)) ∙ ap (place_in x) (sym next)
    )

pub returns : goal.returns
returns c = λ x. c.loop-i.invariant x ∙ ap (λ l. place_in x (map named_data l)) (take_all c.loop-i.i c.as_slice-list.result.now c.loop-i-test.false) ∙ ap (place_in x) c.as_slice-list.ensures
