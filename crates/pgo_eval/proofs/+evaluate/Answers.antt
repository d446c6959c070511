use Rattle.std.proofs.Common.{◌≡◌, ◌≤◌, ◌+◌, [], map, length, arith, sym, ap, subst, ◌∙◌, ◌++◌, drop, refl}
use Rattle.std.proofs.lemmas.Bool.Decides.{nat_tests}
use Rattle.std.proofs.lemmas.List.{length-map}
use Rattle.std.specs.Prelude.{Bool, true, false, Some, None, Option, option_map, option_and_then, IfOk, if◌then◌else◌, not, nat_lt}
use Rattle.pgo_base.specs.BindingsView.{onto, named_view}
use Rattle.pgo_base.specs.Data.{Data}
use Rattle.pgo_base.specs.declared.bindings.NamedValue.{NamedValue}
use Rattle.pgo_base.specs.ExprView.{tree, named_tree, arm_tree, bound_tree, path_tree}
use Rattle.pgo_base.specs.Tree.{trees, named, arms, bound, paths}
use Rattle.pgo_base.specs.View.{data_of, pair_of}
use Rattle.pgo_model.specs.Sequences.{assert}
use Rattle.pgo_model.specs.Operators.{members_of, most_members, truth_of, put_at}
use Rattle.pgo_model.specs.Val.{values_of, val, sem, plain, unary_sem, binary_sem, case_value, let_scope, with_names, ranges, over_each, updated, with_part}
use Rattle.pgo_eval.specs.HeldView.{held_data, function_data, sem_of}
use Rattle.pgo_eval.specs.Decided.{is_membership}
use Rattle.pgo_eval.specs.ScopeView.{scope_view, next_view}
use Rattle.pgo_eval.proofs.Operands.{unary_values, binary_values, membership_holds}
use Rattle.pgo_eval.proofs.Walks.{arms_done, let_more, several, assert_two, assert_other}
use Rattle.pgo_eval.specs.Choices.{over_bound, AreAt, join, over_choices, still_left, sets_of}
use Rattle.pgo_eval.proofs.BoundPlaces.{places_stay}
use Rattle.pgo_eval.proofs.Ranges.{ranges_more, set_at}
use Rattle.pgo_eval.proofs.Choices.{names_at}
use Rattle.pgo_eval.proofs.Quantify.{asks, none_join, asked_here, asked_more, asked_all, asked_enough, fewer_left, quantified_is}
use Rattle.pgo_model.specs.FunctionSets.{choice_count}
use Rattle.pgo_sets.specs.Answers.{Answers}
use Rattle.pgo_eval.proofs.Functions.{pair_at, pair_here, nothing_yet, pairs_more, pairs_none, pairs_all, function_many, function_is}
use Rattle.pgo_eval.proofs.Filters.{asks_of, kept_none, kept_all, filter_is, made_of, made_none, made_all, image_is}
use Rattle.pgo_eval.proofs.UpdateSteps.{updated_by, updates_more, updates_all, update_here, update_nowhere}
use Rattle.pgo_eval.specs.Paths.{part_on}
use Rattle.pgo_eval.specs.PlacesView.{ArePlacesOf}
use Rattle.pgo_eval.proofs.PutAt.{put_at_is}
use Rattle.pgo_eval.proofs.+evaluate.Goals as goal

pub control::case_value-returns-in-Some : goal.control::case_value-returns-in-Some
control::case_value-returns-in-Some t c =
    let s = scope_view c.args.s.now in
    let o = val (tree c.in-Some.e.now) s in
    let e : o ≡ case_value (arms (map arm_tree c.args.list.now)) s o = sym (c.loop-arm.invariant o ∙ arms_done c.args.list.now c.loop-arm.arm-index s o c.loop-arm-test.false) in
    rw c.in-Some.is (subst (λ x. IfOk c.held-in-Some.result (λ v. option_map held_data v ≡ x)) e c.held-in-Some.ensures)

pub control::let_value-loop-d-preserved : goal.control::let_value-loop-d-preserved
control::let_value-loop-d-preserved t c =
    let s = scope_view c.args.s.now in
    let ns = c.args.s.now.names.now in
    let n : NamedValue = record { name = c.in_ok-name.name; value = c.in_ok-value.value } in
    let v : option_map data_of c.in_ok-value.value ≡ val (tree c.d-item.result.1) (with_names (onto (map named_view c.loop-d.defined) ns) s) =
    c.in_ok-value.ensures in
    let_more (let_scope (named (map named_tree c.args.list.now)) s) c.args.list.now c.loop-d.d-index c.d-item.result c.loop-d.defined c.push.new.self n ns s c.loop-d-test.true c.d-item.is c.in_ok-push.ensures c.in_ok-name.ensures v c.loop-d.invariant

pub evaluate::evaluated-returns-in_ok-held-in-Prefix : goal.evaluate::evaluated-returns-in_ok-held-in-Prefix
evaluate::evaluated-returns-in_ok-held-in-Prefix t c =
    let s = scope_view c.args.s.now in
    let op = c.in-Prefix.op in
    let m = sem c.in-Prefix.a s in
    let v : option_map held_data c.in_ok-held-in-Prefix.field-0 ≡ m.value = c.in_ok-held-in-Prefix.ensures ∙ ap (λ e. val e s) c.get.ensures in
    let e : unary_sem op (plain (option_map held_data c.in_ok-held-in-Prefix.field-0)) ≡ unary_sem op m = ap (λ o. unary_sem op (plain o)) v ∙ unary_values op m in
    rw c.in-Prefix.is (subst (λ x. IfOk c.prefixed.result (λ o. sem_of o ≡ x)) e c.prefixed.ensures)

pub evaluate::index_of-returns : goal.evaluate::index_of-returns
evaluate::index_of-returns t c =
    let s = scope_view c.args.s.now in
    let many : 2 ≤ length c.args.list.now = grind (arith, nat_tests) in
    subst (λ x. IfOk c.tuple.result (λ o. option_map held_data o ≡ x)) (several c.args.list.now s many) (c.tuple.ensures (values_of (trees (map tree c.args.list.now)) s) c.values.ensures)

pub evaluate::infix-returns-then-is_membership : goal.evaluate::infix-returns-then-is_membership
evaluate::infix-returns-then-is_membership t c =
    let s = scope_view c.args.s.now in
    let is : is_membership c.args.op ≡ true = sym c.is_membership.ensures ∙ c.if-is_membership.true in
    let e = membership_holds c.args.op (sem (tree c.args.a.now) s) (sem (tree c.args.b.now) s) (option_map held_data c.in_ok-a.a) c.in_ok-membership.field-0 is c.in_ok-a.ensures c.in_ok-membership.ensures in
    subst (λ x. IfOk c.owning.result (λ o. sem_of o ≡ x)) e (c.owning.ensures _ c.from_truth.ensures)

pub evaluate::infix-returns : goal.evaluate::infix-returns
evaluate::infix-returns t c =
    let s = scope_view c.args.s.now in
    let op = c.args.op in
    let m = sem (tree c.args.a.now) s in
    let n = sem (tree c.args.b.now) s in
    let is : is_membership op ≡ false = sym c.is_membership.ensures ∙ c.if-is_membership.false in
    let e : binary_sem op (plain (option_map held_data c.in_ok-a.a)) (plain (option_map held_data c.in_ok-b.b)) ≡ binary_sem op m n =
    (λ i. binary_sem op (plain (c.in_ok-a.ensures i)) (plain (c.in_ok-b.ensures i))) ∙ binary_values op m n is in
    subst (λ x. IfOk c.infixed.result (λ o. sem_of o ≡ x)) e c.infixed.ensures

pub names::asserted-returns-then-list-ne2 : goal.names::asserted-returns-then-list-ne2
names::asserted-returns-then-list-ne2 t c = sym (assert_other c.args.list.now (scope_view c.args.s.now) c.if-list-ne2.true)

pub names::asserted-returns : goal.names::asserted-returns
names::asserted-returns t c =
    c.assertion.ensures ∙ ap assert (c.lent.ensures ∙ c.in_ok-p.ensures) ∙ sym (assert_two c.args.list.now c.index-list-0.result (scope_view c.args.s.now) (omega arith) c.index-list-0.is)

pub binders::bound_names-loop-b-preserved : goal.binders::bound_names-loop-b-preserved
binders::bound_names-loop-b-preserved t c =
    let s = scope_view c.args.s.now in
    let b = c.b-item.result in
    let bs = c.args.binders.now in
    let e : option_map (λ ms. over_bound c.loop-b.all.items ++ over_each b.0 ms []) (set_at b s) ≡ (if c.in_ok-add_binder.field-0 then Some (over_bound c.add_binder.new.all.items) else None) =
    (λ i. option_map (λ ms. over_bound c.loop-b.all.items ++ over_each (sym c.as_slice.ensures i) ms []) (option_and_then members_of (sym c.in_ok-set.ensures i))) ∙ c.in_ok-add_binder.ensures in
    ranges_more bs c.loop-b.b-index b s _ c.loop-b.all.items c.add_binder.new.all.items c.in_ok-add_binder.field-0 c.loop-b-test.true c.b-item.is e c.loop-b.invariant
    ∙ ap (λ (t : Bool). if t then option_map (λ os. over_bound c.add_binder.new.all.items ++ os) (ranges (bound (map bound_tree (drop (c.loop-b.b-index + 1) bs))) s) else None) c.if-not-branch.false

pub binders::bound_names-returns-then-not-branch : goal.binders::bound_names-returns-then-not-branch
binders::bound_names-returns-then-not-branch t c =
    let s = scope_view c.args.s.now in
    let b = c.b-item.result in
    let bs = c.args.binders.now in
    let e : option_map (λ ms. over_bound c.loop-b.all.items ++ over_each b.0 ms []) (set_at b s) ≡ (if c.in_ok-add_binder.field-0 then Some (over_bound c.add_binder.new.all.items) else None) =
    (λ i. option_map (λ ms. over_bound c.loop-b.all.items ++ over_each (sym c.as_slice.ensures i) ms []) (option_and_then members_of (sym c.in_ok-set.ensures i))) ∙ c.in_ok-add_binder.ensures in
    sym (ranges_more bs c.loop-b.b-index b s _ c.loop-b.all.items c.add_binder.new.all.items c.in_ok-add_binder.field-0 c.loop-b-test.true c.b-item.is e c.loop-b.invariant
    ∙ ap (λ (t : Bool). if t then option_map (λ os. over_bound c.add_binder.new.all.items ++ os) (ranges (bound (map bound_tree (drop (c.loop-b.b-index + 1) bs))) s) else None) c.if-not-branch.true)

pub binders::value_bound-returns : goal.binders::value_bound-returns
binders::value_bound-returns t c =
    let s = scope_view c.args.s.now in
    subst (λ x. IfOk c.owned.result (λ o. option_map data_of o ≡ x)) (c.in_ok-held.ensures ∙ ap (λ ns. val (tree c.args.e.now) (with_names ns s)) (c.with_bound-all.ensures ∙ names_at c.args.names.now c.args.s.now.names.now c.requires.0)) c.owned.ensures

pub binders::quantified-loop-more-init : goal.binders::quantified-loop-more-init
binders::quantified-loop-more-init t c =
    let P = asks c.start-more.new.bound.items (tree c.args.p.now) (scope_view c.args.s.now) in
    let X = over_choices c.args.q P (still_left c.start-more.result c.start-more.new.bound.items) in
    record { over = refl; at = c.start-more.ensures.at; all = sym (none_join c.args.q X) ∙ ap (λ o. join c.args.q o X) (sym c.over_none-found.ensures) }

pub binders::quantified-value_bound-requires : goal.binders::quantified-value_bound-requires
binders::quantified-value_bound-requires t c = (
  omega arith,
  (
    subst AreAt (sym c.deref.ensures.value) (c.loop-more.invariant.at c.loop-more-test.true),
    subst (λ bs. ArePlacesOf bs c.in_ok-places.places) (sym c.deref.ensures.value)
        (places_stay c.in-Some.names.items c.loop-more.names.items c.in_ok-places.places (c.loop-more.invariant.over ∙ c.start-more.ensures.over)
        (subst (λ bs. ArePlacesOf bs c.in_ok-places.places) c.as_slice.ensures.value c.in_ok-places.ensures)),
  ),
)

pub binders::quantified-advance-more-requires : goal.binders::quantified-advance-more-requires
binders::quantified-advance-more-requires t c = c.loop-more.invariant.at c.loop-more-test.true

pub binders::quantified-loop-more-preserved : goal.binders::quantified-loop-more-preserved
binders::quantified-loop-more-preserved t c =
    let s = scope_view c.args.s.now in
    let P = asks c.start-more.new.bound.items (tree c.args.p.now) s in
    let t = asked_here (tree c.args.p.now) s c.start-more.new.bound.items c.loop-more.names.items c.deref.result.now (option_map data_of c.in_ok-value_bound.field-0) c.truth_in.result c.loop-more.invariant.over c.deref.ensures.value c.truth_in.ensures c.in_ok-value_bound.ensures in
    record {
      over = c.advance-more.ensures.over ∙ c.loop-more.invariant.over;
      at = λ h. c.advance-more.ensures.at;
      all = asked_more c.args.q P c.loop-more.names.items c.advance-more.new.bound.items c.loop-more.more c.advance-more.result _ c.loop-more.found c.joined-found.result c.loop-more-test.true c.advance-more.ensures.left (c.joined-found.ensures ∙ ap (join c.args.q c.loop-more.found) t) c.loop-more.invariant.all;
    }

pub binders::quantified-loop-more-smaller : goal.binders::quantified-loop-more-smaller
binders::quantified-loop-more-smaller t c = fewer_left c.loop-more.names.items c.advance-more.new.bound.items c.loop-more.more c.advance-more.result c.loop-more-test.true c.advance-more.ensures.left

pub binders::quantified-returns-then-is_decided : goal.binders::quantified-returns-then-is_decided
binders::quantified-returns-then-is_decided t c =
    let s = scope_view c.args.s.now in
    let p = tree c.args.p.now in
    let P = asks c.start-more.new.bound.items p s in
    let t = asked_here p s c.start-more.new.bound.items c.loop-more.names.items c.deref.result.now (option_map data_of c.in_ok-value_bound.field-0) c.truth_in.result c.loop-more.invariant.over c.deref.ensures.value c.truth_in.ensures c.in_ok-value_bound.ensures in
    let a = asked_more c.args.q P c.loop-more.names.items c.advance-more.new.bound.items c.loop-more.more c.advance-more.result _ c.loop-more.found c.joined-found.result c.loop-more-test.true c.advance-more.ensures.left (c.joined-found.ensures ∙ ap (join c.args.q c.loop-more.found) t) c.loop-more.invariant.all in
    let f = asked_enough c.args.q _ _ c.joined-found.result (sym c.is_decided.ensures ∙ c.if-is_decided.true) a in
    c.from_truth.ensures ∙ quantified_is c.args.q (bound (map bound_tree c.args.binders.now)) p s c.in-Some.names.items c.start-more.new.bound.items c.start-more.result c.joined-found.result (rw c.in-Some.is at c.in_ok-names.ensures) c.start-more.ensures.over c.start-more.ensures.left f

pub binders::quantified-returns : goal.binders::quantified-returns
binders::quantified-returns t c =
    let s = scope_view c.args.s.now in
    let p = tree c.args.p.now in
    let P = asks c.start-more.new.bound.items p s in
    let f = asked_all c.args.q P c.loop-more.names.items c.loop-more.more _ c.loop-more.found c.loop-more-test.false c.loop-more.invariant.all in
    c.from_truth-2.ensures ∙ quantified_is c.args.q (bound (map bound_tree c.args.binders.now)) p s c.in-Some.names.items c.start-more.new.bound.items c.start-more.result c.loop-more.found (rw c.in-Some.is at c.in_ok-names.ensures) c.start-more.ensures.over c.start-more.ensures.left f

pub binders::function_value-returns-then-not-are_few : goal.binders::function_value-returns-then-not-are_few
binders::function_value-returns-then-not-are_few t c =
    function_many (bound (map bound_tree c.args.binders.now)) (tree c.args.e.now) (scope_view c.args.s.now) c.in-Some.names.items (rw c.in-Some.is at c.in_ok-names.ensures) (sym c.if-not-are_few.true ∙ c.are_few.ensures ∙ ap (λ bs. not (nat_lt most_members (choice_count (sets_of bs)))) c.deref.ensures.value)

pub binders::function_value-loop-more-init : goal.binders::function_value-loop-more-init
binders::function_value-loop-more-init t c = record { over = refl; at = c.start-more.ensures.at; all = nothing_yet c.new-pairs.result.items _ c.new-pairs.ensures.items }

pub binders::function_value-value_bound-requires : goal.binders::function_value-value_bound-requires
binders::function_value-value_bound-requires t c = (
  omega arith,
  (
    subst AreAt (sym c.deref-in-loop-more.ensures.value) (c.loop-more.invariant.at c.loop-more-test.true),
    subst (λ bs. ArePlacesOf bs c.in_ok-places.places) (sym c.deref-in-loop-more.ensures.value)
        (places_stay c.in-Some.names.items c.loop-more.names.items c.in_ok-places.places (c.loop-more.invariant.over ∙ c.start-more.ensures.over)
        (subst (λ bs. ArePlacesOf bs c.in_ok-places.places) c.as_slice.ensures.value c.in_ok-places.ensures)),
  ),
)

pub binders::function_value-keyed-requires : goal.binders::function_value-keyed-requires
binders::function_value-keyed-requires t c = subst AreAt (sym c.deref-in-loop-more-2.ensures.value) (c.loop-more.invariant.at c.loop-more-test.true)

pub binders::function_value-advance-more-requires : goal.binders::function_value-advance-more-requires
binders::function_value-advance-more-requires t c = c.loop-more.invariant.at c.loop-more-test.true

pub binders::function_value-loop-more-smaller : goal.binders::function_value-loop-more-smaller
binders::function_value-loop-more-smaller t c = fewer_left c.loop-more.names.items c.advance-more.new.bound.items c.loop-more.more c.advance-more.result c.loop-more-test.true c.advance-more.ensures.left

pub binders::function_value-loop-more-preserved : goal.binders::function_value-loop-more-preserved
binders::function_value-loop-more-preserved t c =
    let s = scope_view c.args.s.now in
    let e = tree c.args.e.now in
    let F = pair_at c.start-more.new.bound.items e s in
    let f = ap (option_map pair_of) (sym c.in-Some-pair.is) ∙ pair_here e s c.start-more.new.bound.items c.loop-more.names.items c.deref-in-loop-more.result.now c.deref-in-loop-more-2.result.now (option_map data_of c.in_ok-v.v) _ c.loop-more.invariant.over c.deref-in-loop-more.ensures.value c.deref-in-loop-more-2.ensures.value c.in_ok-pair.ensures c.in_ok-v.ensures in
    record {
      over = c.advance-more.ensures.over ∙ c.loop-more.invariant.over;
      at = λ h. c.advance-more.ensures.at;
      all = pairs_more F c.loop-more.names.items c.advance-more.new.bound.items c.loop-more.more c.advance-more.result _ c.loop-more.pairs.items c.push.new.self.items c.in-Some-pair.pair c.loop-more-test.true c.advance-more.ensures.left f c.in_ok-push-in-Some-pair.ensures.items c.loop-more.invariant.all;
    }

pub binders::function_value-returns-in-None : goal.binders::function_value-returns-in-None
binders::function_value-returns-in-None t c =
    let s = scope_view c.args.s.now in
    let e = tree c.args.e.now in
    let F = pair_at c.start-more.new.bound.items e s in
    let f = ap (option_map pair_of) (sym c.in-None.is) ∙ pair_here e s c.start-more.new.bound.items c.loop-more.names.items c.deref-in-loop-more.result.now c.deref-in-loop-more-2.result.now (option_map data_of c.in_ok-v.v) _ c.loop-more.invariant.over c.deref-in-loop-more.ensures.value c.deref-in-loop-more-2.ensures.value c.in_ok-pair.ensures c.in_ok-v.ensures in
    let a = pairs_none F c.loop-more.names.items c.advance-more.new.bound.items c.loop-more.more c.advance-more.result _ (map pair_of c.loop-more.pairs.items) c.loop-more-test.true c.advance-more.ensures.left f c.loop-more.invariant.all in
    let few : true ≡ not (nat_lt most_members (choice_count (sets_of c.in-Some.names.items))) =
    sym c.if-not-are_few.false ∙ c.are_few.ensures ∙ ap (λ bs. not (nat_lt most_members (choice_count (sets_of bs)))) c.deref.ensures.value in
    function_is (bound (map bound_tree c.args.binders.now)) e s c.in-Some.names.items c.start-more.new.bound.items c.start-more.result None (rw c.in-Some.is at c.in_ok-names.ensures) few c.start-more.ensures.over c.start-more.ensures.left a

pub binders::function_value-returns : goal.binders::function_value-returns
binders::function_value-returns t c =
    let s = scope_view c.args.s.now in
    let e = tree c.args.e.now in
    let F = pair_at c.start-more.new.bound.items e s in
    let a = pairs_all F c.loop-more.names.items c.loop-more.more _ (map pair_of c.loop-more.pairs.items) c.loop-more-test.false c.loop-more.invariant.all in
    let few : true ≡ not (nat_lt most_members (choice_count (sets_of c.in-Some.names.items))) =
    sym c.if-not-are_few.false ∙ c.are_few.ensures ∙ ap (λ bs. not (nat_lt most_members (choice_count (sets_of bs)))) c.deref.ensures.value in
    let k = function_is (bound (map bound_tree c.args.binders.now)) e s c.in-Some.names.items c.start-more.new.bound.items c.start-more.result (Some (map pair_of c.loop-more.pairs.items)) (rw c.in-Some.is at c.in_ok-names.ensures) few c.start-more.ensures.over c.start-more.ensures.left a in
    c.value_or_none.ensures _ (subst (λ (o : Option Data). Answers c.function_of.result o) k c.function_of.ensures)

pub one_name::filtered-returns-in-None : goal.one_name::filtered-returns-in-None
one_name::filtered-returns-in-None t c =
    let s = scope_view c.args.s.now in
    let p = tree c.args.p.now in
    let x = c.args.x.now in
    let e : Some c.in-Some.set.now ≡ option_and_then members_of (val (tree c.args.r.now) s) =
    (rw c.in-Some.is at c.set_held.ensures) ∙ ap (option_and_then members_of) c.in_ok-r.ensures in
    let t : None ≡ asks_of x p s (data_of c.m-item.result) = sym c.in-None.is ∙ c.truth_in.ensures ∙ ap truth_of c.in_ok-value_named.ensures in
    let a = kept_none (asks_of x p s) c.members-m-items.result.now c.loop-m.m-index c.m-item.result _ (map data_of c.loop-m.kept.items) c.loop-m-test.true c.m-item.is t c.loop-m.invariant in
    filter_is x (tree c.args.r.now) p s c.in-Some.set.now c.members-m-items.result.now None e c.members-m-items.ensures a

pub one_name::filtered-returns : goal.one_name::filtered-returns
one_name::filtered-returns t c =
    let s = scope_view c.args.s.now in
    let p = tree c.args.p.now in
    let x = c.args.x.now in
    let e : Some c.in-Some.set.now ≡ option_and_then members_of (val (tree c.args.r.now) s) =
    (rw c.in-Some.is at c.set_held.ensures) ∙ ap (option_and_then members_of) c.in_ok-r.ensures in
    let a = kept_all (asks_of x p s) c.members-m-items.result.now c.loop-m.m-index _ (map data_of c.loop-m.kept.items) c.loop-m-test.false c.loop-m.invariant in
    let k = filter_is x (tree c.args.r.now) p s c.in-Some.set.now c.members-m-items.result.now (Some (map data_of c.loop-m.kept.items)) e c.members-m-items.ensures a in
    c.value_or_none.ensures _ (subst (λ (o : Option Data). Answers c.set_of.result o) k c.set_of.ensures)

pub one_name::image-returns-in-None : goal.one_name::image-returns-in-None
one_name::image-returns-in-None t c =
    let s = scope_view c.args.s.now in
    let b = tree c.args.e.now in
    let x = c.args.x.now in
    let e : Some c.in-Some.set.now ≡ option_and_then members_of (val (tree c.args.r.now) s) =
    (rw c.in-Some.is at c.set_held.ensures) ∙ ap (option_and_then members_of) c.in_ok-r.ensures in
    let t : None ≡ made_of x b s (data_of c.m-item.result) = sym (ap (option_map data_of) c.in-None.is) ∙ c.in_ok-v.ensures in
    let a = made_none (made_of x b s) c.members-m-items.result.now c.loop-m.m-index c.m-item.result _ (map data_of c.loop-m.all.items) c.loop-m-test.true c.m-item.is t c.loop-m.invariant in
    image_is x (tree c.args.r.now) b s c.in-Some.set.now c.members-m-items.result.now None e c.members-m-items.ensures a

pub one_name::image-returns : goal.one_name::image-returns
one_name::image-returns t c =
    let s = scope_view c.args.s.now in
    let b = tree c.args.e.now in
    let x = c.args.x.now in
    let e : Some c.in-Some.set.now ≡ option_and_then members_of (val (tree c.args.r.now) s) =
    (rw c.in-Some.is at c.set_held.ensures) ∙ ap (option_and_then members_of) c.in_ok-r.ensures in
    let a = made_all (made_of x b s) c.members-m-items.result.now c.loop-m.m-index _ (map data_of c.loop-m.all.items) c.loop-m-test.false c.loop-m.invariant in
    let k = image_is x (tree c.args.r.now) b s c.in-Some.set.now c.members-m-items.result.now (Some (map data_of c.loop-m.all.items)) e c.members-m-items.ensures a in
    c.value_or_none.ensures _ (subst (λ (o : Option Data). Answers c.set_of.result o) k c.set_of.ensures)

pub updates::except_value-loop-u-preserved : goal.updates::except_value-loop-u-preserved
updates::except_value-loop-u-preserved t c =
    let s = scope_view c.args.s.now in
    let n : option_map function_data c.in_ok-now.now ≡ updated_by c.u-item.result s (option_map function_data c.loop-u.now) = c.in_ok-now.ensures in
    updates_more c.args.list.now c.loop-u.u-index c.u-item.result s _ (option_map function_data c.loop-u.now) (option_map function_data c.in_ok-now.now) c.loop-u-test.true c.u-item.is n c.loop-u.invariant

pub updates::except_value-returns : goal.updates::except_value-returns
updates::except_value-returns t c =
    let s = scope_view c.args.s.now in
    let us = paths (map path_tree c.args.list.now) in
    let a : option_map function_data c.loop-u.now ≡ updated us s (option_map function_data c.given-now.result) =
    sym (updates_all c.args.list.now c.loop-u.u-index s _ (option_map function_data c.loop-u.now) c.loop-u-test.false c.loop-u.invariant) in
    subst (λ (x : Option Data). IfOk c.value_of.result (λ o. option_map data_of o ≡ x)) (a ∙ ap (updated us s) (c.given-now.ensures ∙ c.in_ok-held.ensures)) c.value_of.ensures

pub updates::updated-returns-in_default : goal.updates::updated-returns-in_default
updates::updated-returns-in_default t c =
    let s = scope_view c.args.s.now in
    update_nowhere c.args.u.now s (option_map function_data c.args.f) ((rw c.in_default.is at c.in_ok-path.ensures) ∙ ap (λ ts. values_of (trees ts) s) c.as_slice.ensures)

pub updates::updated-returns-in-Some-f : goal.updates::updated-returns-in-Some-f
updates::updated-returns-in-Some-f t c =
    let s = scope_view c.args.s.now in
    let u = c.args.u.now in
    let f = function_data c.in-Some-f.f in
    let h : Some (map data_of c.in-Some.path.items) ≡ values_of (trees u.path) s = (rw c.in-Some.is at c.in_ok-path.ensures) ∙ ap (λ ts. values_of (trees ts) s) c.as_slice.ensures in
    let k = ap (λ xs. put_at (map data_of xs) (λ part. val (tree u.value) (with_part part s)) (Some f)) c.deref.ensures.value ∙ update_here u s (map data_of c.in-Some.path.items) f (option_map function_data c.args.f) h (ap (option_map function_data) (sym c.in-Some-f.is)) in
    subst (λ (x : Option Data). IfOk c.updated_at.result (λ o. option_map function_data o ≡ x)) k c.updated_at.ensures

pub updates::updated_at-returns-in-Some : goal.updates::updated_at-returns-in-Some
updates::updated_at-returns-in-Some t c =
    let f = function_data c.args.f in
    let path = map data_of c.args.path.now in
    let new = λ (part : Option Data). val (tree c.args.e.now) (with_part part (scope_view c.args.s.now)) in
    let w : Some (data_of c.in-Some.v) ≡ option_and_then new (part_on path f) =
    ap (option_map data_of) (sym c.in-Some.is) ∙ c.in_ok-part.ensures ∙ ap (λ d. option_and_then new (part_on path d)) c.get.ensures in
    c.changed.ensures ∙ c.in_ok-put-in-Some.ensures ∙ ap (λ d. put_at path (λ part. Some (data_of c.in-Some.v)) (Some d)) c.in_ok-into_changed-in-Some.ensures
    ∙ ap (option_and_then (λ v. put_at path (λ part. Some v) (Some f))) w ∙ sym (put_at_is path new f)

pub updates::updated_at-returns : goal.updates::updated_at-returns
updates::updated_at-returns t c =
    let f = function_data c.args.f in
    let path = map data_of c.args.path.now in
    let new = λ (part : Option Data). val (tree c.args.e.now) (with_part part (scope_view c.args.s.now)) in
    let w : None ≡ option_and_then new (part_on path f) =
    ap (option_map data_of) (sym c.in-None.is) ∙ c.in_ok-part.ensures ∙ ap (λ d. option_and_then new (part_on path d)) c.get.ensures in
    ap (option_and_then (λ v. put_at path (λ part. Some v) (Some f))) w ∙ sym (put_at_is path new f)

pub updates::new_part-returns-in-None : goal.updates::new_part-returns-in-None
updates::new_part-returns-in-None t c =
    let new = λ (part : Option Data). val (tree c.args.e.now) (with_part part (scope_view c.args.s.now)) in
    ap (option_and_then new) c.in-None.ensures

pub updates::new_part-returns : goal.updates::new_part-returns
updates::new_part-returns t c =
    let new = λ (part : Option Data). val (tree c.args.e.now) (with_part part (scope_view c.args.s.now)) in
    subst (λ (x : Option Data). IfOk c.owned.result (λ o. option_map data_of o ≡ x)) (c.in_ok-held.ensures ∙ ap (option_and_then new) c.in-Some.ensures) c.owned.ensures

pub evaluate::parts_value-returns-in-Tuple-clause-value : goal.evaluate::parts_value-returns-in-Tuple-clause-value
evaluate::parts_value-returns-in-Tuple-clause-value t c = rw c.in-Tuple.is (c.tuple.ensures _ (rw c.as_slice-in-Tuple.ensures at c.values.ensures))

pub evaluate::parts_value-returns-in-SetOf-clause-value : goal.evaluate::parts_value-returns-in-SetOf-clause-value
evaluate::parts_value-returns-in-SetOf-clause-value t c = rw c.in-SetOf.is (c.set.ensures _ (rw c.as_slice-in-SetOf.ensures at c.values-in-SetOf.ensures))

pub evaluate::parts_value-returns-in-Record-clause-value : goal.evaluate::parts_value-returns-in-Record-clause-value
evaluate::parts_value-returns-in-Record-clause-value t c = rw c.in-Record.is (c.«record».ensures _ (rw c.as_slice-in-Record.ensures at c.fields.ensures))

pub evaluate::evaluated-returns-in-Unchanged : goal.evaluate::evaluated-returns-in-Unchanged
evaluate::evaluated-returns-in-Unchanged t c = rw c.in-Unchanged.is (c.owning-in-Unchanged.ensures _ (rw c.as_slice.ensures at c.unchanged_value.ensures))

pub evaluate::evaluated-returns-in-Let : goal.evaluate::evaluated-returns-in-Let
evaluate::evaluated-returns-in-Let t c =
    subst (λ m. IfOk c.owning-in-Let.result (λ o. sem_of o ≡ m)) (sym c.made_value.ensures.plain) (c.owning-in-Let.ensures _ c.made_value.ensures.value)

pub evaluate::evaluated-returns-in_default : goal.evaluate::evaluated-returns-in_default
evaluate::evaluated-returns-in_default t c =
    subst (λ m. IfOk c.plainly-in_default.result (λ o. sem_of o ≡ m)) (sym c.parts_value.ensures.plain) (c.plainly-in_default.ensures _ c.parts_value.ensures.value)

pub names::applied-returns-in_default : goal.names::applied-returns-in_default
names::applied-returns-in_default t c =
    let s = c.args.s.now in
    let args = map data_of c.args.args.items in
    subst (λ v. IfOk c.default_value.result (λ o. option_map held_data o ≡ v)) (sym (c.in_default.ensures args s.around.state.now (next_view s)))
    (c.default_value.ensures args (omega (arith, c.len.ensures, length-map c.args.args.items data_of)))

pub evaluate::held-returns-in-Other : goal.evaluate::held-returns-in-Other
evaluate::held-returns-in-Other t c = c.value_held.ensures (sem (tree c.args.e.now) (scope_view c.args.s.now)) c.evaluated.ensures

pub binders::value_bound-with_bound-all-requires : goal.binders::value_bound-with_bound-all-requires
binders::value_bound-with_bound-all-requires t c = c.lent.ensures c.args.names.now c.requires.1
