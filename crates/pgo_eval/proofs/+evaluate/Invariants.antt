use Rattle.std.proofs.Common.{◌≡◌, ◌+◌, ◌*◌, ◌++◌, map, drop, length}
use Rattle.std.specs.Prelude.{Option, Some, option_map, true}
use Rattle.pgo_base.specs.BindingsView.{onto, named_view}
use Rattle.pgo_base.specs.Data.{Data}
use Rattle.pgo_base.specs.ExprView.{tree, named_tree, arm_tree, bound_tree, path_tree}
use Rattle.pgo_base.specs.Tree.{trees, named, arms, bound, paths}
use Rattle.pgo_base.specs.View.{data_of, pair_of}
use Rattle.pgo_model.specs.Val.{val, values_of, fields, case_value, let_scope, with_names, ranges, with_name, updated}
use Rattle.pgo_eval.specs.HeldView.{function_data}
use Rattle.pgo_eval.specs.ScopeView.{scope_view}
use Rattle.pgo_eval.specs.Choices.{over_bound, AreAt, over_choices, join, still_left}
use Rattle.pgo_model.specs.Operators.{truth_of, each, first3, filter3}
use Rattle.pgo_eval.proofs.Quantify.{asks}
use Rattle.pgo_eval.proofs.Functions.{pair_at}
use Rattle.pgo_eval.proofs.+evaluate.Given as goal

abbrev pub decreases-evaluate::held : goal.decreases-evaluate::held
decreases-evaluate::held l = 10 * l.s.now.left + 1

abbrev pub decreases-evaluate::evaluated : goal.decreases-evaluate::evaluated
decreases-evaluate::evaluated l = 10 * l.s.now.left + 10

abbrev pub decreases-evaluate::unbuilt : goal.decreases-evaluate::unbuilt
decreases-evaluate::unbuilt l = 10 * l.s.now.left + 9

abbrev pub decreases-evaluate::made_value : goal.decreases-evaluate::made_value
decreases-evaluate::made_value l = 10 * l.s.now.left + 9

abbrev pub decreases-evaluate::parts_value : goal.decreases-evaluate::parts_value
decreases-evaluate::parts_value l = 10 * l.s.now.left + 9

abbrev pub decreases-evaluate::infix : goal.decreases-evaluate::infix
decreases-evaluate::infix l = 10 * l.s.now.left + 3

abbrev pub decreases-evaluate::membership : goal.decreases-evaluate::membership
decreases-evaluate::membership l = 10 * l.s.now.left + 1

abbrev pub decreases-evaluate::values : goal.decreases-evaluate::values
decreases-evaluate::values l = 10 * l.s.now.left + 2

abbrev pub decreases-evaluate::fields : goal.decreases-evaluate::fields
decreases-evaluate::fields l = 10 * l.s.now.left + 2

abbrev pub decreases-evaluate::index_value : goal.decreases-evaluate::index_value
decreases-evaluate::index_value l = 10 * l.s.now.left + 4

abbrev pub decreases-evaluate::index_of : goal.decreases-evaluate::index_of
decreases-evaluate::index_of l = 10 * l.s.now.left + 3

abbrev pub decreases-evaluate::field_value : goal.decreases-evaluate::field_value
decreases-evaluate::field_value l = 10 * l.s.now.left + 2

abbrev pub decreases-control::conditional : goal.decreases-control::conditional
decreases-control::conditional l = 10 * l.s.now.left + 2

abbrev pub decreases-control::case_value : goal.decreases-control::case_value
decreases-control::case_value l = 10 * l.s.now.left + 2

abbrev pub decreases-control::let_value : goal.decreases-control::let_value
decreases-control::let_value l = 10 * l.s.now.left + 3

abbrev pub decreases-control::value_with : goal.decreases-control::value_with
decreases-control::value_with l = 10 * l.s.now.left + 2

abbrev pub decreases-names::named_value : goal.decreases-names::named_value
decreases-names::named_value l = 10 * l.s.now.left + 8

abbrev pub decreases-names::call_value : goal.decreases-names::call_value
decreases-names::call_value l = 10 * l.s.now.left + 8

abbrev pub decreases-names::asserted : goal.decreases-names::asserted
decreases-names::asserted l = 10 * l.s.now.left + 2

abbrev pub decreases-names::called_value : goal.decreases-names::called_value
decreases-names::called_value l = 10 * l.s.now.left + 7

abbrev pub decreases-names::applied : goal.decreases-names::applied
decreases-names::applied l = 10 * l.s.now.left + 6

abbrev pub decreases-names::body_value : goal.decreases-names::body_value
decreases-names::body_value l = 10 * l.s.now.left + 5

abbrev pub invariant-evaluate::values-loop-e : goal.invariant-evaluate::values-loop-e
invariant-evaluate::values-loop-e l =
    values_of (trees (map tree l.list)) (scope_view l.s) ≡ option_map (λ vs. map data_of l.all.items ++ vs) (values_of (trees (map tree (drop l.e-index l.list))) (scope_view l.s))

abbrev pub invariant-evaluate::fields-loop-f : goal.invariant-evaluate::fields-loop-f
invariant-evaluate::fields-loop-f l =
    fields (named (map named_tree l.list)) (scope_view l.s) ≡ option_map (λ ps. map pair_of l.all.items ++ ps) (fields (named (map named_tree (drop l.f-index l.list))) (scope_view l.s))

abbrev pub invariant-control::case_value-loop-arm : goal.invariant-control::case_value-loop-arm
invariant-control::case_value-loop-arm l =
    (o : Option Data) → case_value (arms (map arm_tree l.list)) (scope_view l.s) o ≡ case_value (arms (map arm_tree (drop l.arm-index l.list))) (scope_view l.s) o

abbrev pub invariant-control::let_value-loop-d : goal.invariant-control::let_value-loop-d
invariant-control::let_value-loop-d l =
    let_scope (named (map named_tree l.list)) (scope_view l.s) ≡ let_scope (named (map named_tree (drop l.d-index l.list))) (with_names (onto (map named_view l.defined) l.s.names.now) (scope_view l.s))

abbrev pub invariant-binders::bound_names-loop-b : goal.invariant-binders::bound_names-loop-b
invariant-binders::bound_names-loop-b l =
    ranges (bound (map bound_tree l.binders)) (scope_view l.s) ≡ option_map (λ bs. over_bound l.all.items ++ bs) (ranges (bound (map bound_tree (drop l.b-index l.binders))) (scope_view l.s))

abbrev pub invariant-binders::quantified-loop-more : goal.invariant-binders::quantified-loop-more
invariant-binders::quantified-loop-more l =
    let P = asks l.initial.names.items (tree l.p) (scope_view l.s) in
    record {
      over : over_bound l.names.items ≡ over_bound l.initial.names.items;
      at : l.more ≡ true → AreAt l.names.items;
      all : over_choices l.q P (still_left l.initial.more l.initial.names.items) ≡ join l.q l.found (over_choices l.q P (still_left l.more l.names.items));
    }

abbrev pub decreases-binders::quantified-loop-more : goal.decreases-binders::quantified-loop-more
decreases-binders::quantified-loop-more l = length (still_left l.more l.names.items)

abbrev pub invariant-binders::function_value-loop-more : goal.invariant-binders::function_value-loop-more
invariant-binders::function_value-loop-more l =
    let F = pair_at l.initial.names.items (tree l.e) (scope_view l.s) in
    record {
      over : over_bound l.names.items ≡ over_bound l.initial.names.items;
      at : l.more ≡ true → AreAt l.names.items;
      all : each F (still_left l.initial.more l.initial.names.items) ≡ option_map (λ ps. map pair_of l.pairs.items ++ ps) (each F (still_left l.more l.names.items));
    }

abbrev pub decreases-binders::function_value-loop-more : goal.decreases-binders::function_value-loop-more
decreases-binders::function_value-loop-more l = length (still_left l.more l.names.items)

abbrev pub invariant-one_name::chosen-loop-m : goal.invariant-one_name::chosen-loop-m
invariant-one_name::chosen-loop-m l =
    let P = λ (m : Data). truth_of (val (tree l.p) (with_name l.x (Some m) (scope_view l.s))) in
    first3 P (map data_of l.m-items) ≡ first3 P (map data_of (drop l.m-index l.m-items))

abbrev pub invariant-one_name::filtered-loop-m : goal.invariant-one_name::filtered-loop-m
invariant-one_name::filtered-loop-m l =
    let P = λ (m : Data). truth_of (val (tree l.p) (with_name l.x (Some m) (scope_view l.s))) in
    filter3 P (map data_of l.m-items) ≡ option_map (λ ms. map data_of l.kept.items ++ ms) (filter3 P (map data_of (drop l.m-index l.m-items)))

abbrev pub invariant-one_name::image-loop-m : goal.invariant-one_name::image-loop-m
invariant-one_name::image-loop-m l =
    let F = λ (m : Data). val (tree l.e) (with_name l.x (Some m) (scope_view l.s)) in
    each F (map data_of l.m-items) ≡ option_map (λ ms. map data_of l.all.items ++ ms) (each F (map data_of (drop l.m-index l.m-items)))

abbrev pub invariant-updates::except_value-loop-u : goal.invariant-updates::except_value-loop-u
invariant-updates::except_value-loop-u l =
    updated (paths (map path_tree l.list)) (scope_view l.s) (option_map function_data l.initial.now) ≡ updated (paths (map path_tree (drop l.u-index l.list))) (scope_view l.s) (option_map function_data l.now)

abbrev pub decreases-binders::bound_names : goal.decreases-binders::bound_names
decreases-binders::bound_names l = 10 * l.s.now.left + 2

abbrev pub decreases-binders::value_bound : goal.decreases-binders::value_bound
decreases-binders::value_bound l = 10 * l.s.now.left + 2

abbrev pub decreases-binders::quantified : goal.decreases-binders::quantified
decreases-binders::quantified l = 10 * l.s.now.left + 3

abbrev pub decreases-binders::function_value : goal.decreases-binders::function_value
decreases-binders::function_value l = 10 * l.s.now.left + 3

abbrev pub decreases-one_name::value_named : goal.decreases-one_name::value_named
decreases-one_name::value_named l = 10 * l.s.now.left + 2

abbrev pub decreases-one_name::chosen : goal.decreases-one_name::chosen
decreases-one_name::chosen l = 10 * l.s.now.left + 3

abbrev pub decreases-one_name::filtered : goal.decreases-one_name::filtered
decreases-one_name::filtered l = 10 * l.s.now.left + 3

abbrev pub decreases-one_name::image : goal.decreases-one_name::image
decreases-one_name::image l = 10 * l.s.now.left + 3

abbrev pub decreases-updates::except_value : goal.decreases-updates::except_value
decreases-updates::except_value l = 10 * l.s.now.left + 5

abbrev pub decreases-updates::updated : goal.decreases-updates::updated
decreases-updates::updated l = 10 * l.s.now.left + 4

abbrev pub decreases-updates::updated_at : goal.decreases-updates::updated_at
decreases-updates::updated_at l = 10 * l.s.now.left + 3

abbrev pub decreases-updates::new_part : goal.decreases-updates::new_part
decreases-updates::new_part l = 10 * l.s.now.left + 2
