-- Each call is about an expansion of fewer nodes, or the same one a step further.
use Rattle.std.proofs.Common.{◌≡◌, ◌<◌, ◌≤◌, ◌++◌, ◌∷◌, map, ap, sym, ◌∙◌, arith}
use Rattle.pgo_pluscal.specs.PartView.{around, expansions}
use Rattle.pgo_sections.specs.Expansion.{Either}
use Rattle.pgo_sections.specs.Nodes.{nodes}
use Rattle.pgo_walk.specs.Emitted.{left_in}
use Rattle.pgo_walk.specs.Ended.{ended}
use Rattle.pgo_walk.specs.declared.make.RowEnd.TheVariants as ends
use Rattle.pgo_walk.proofs.Smaller.{behind_row, arm_low}
use Rattle.pgo_walk.proofs.make.+make.Goals as goal

pub make-make_ending-requires : goal.make-make_ending-requires
make-make_ending-requires t c =
    let vs = c.args.variables.now in
    let all = left_in vs c.args.state in
    let behind = ended vs c.in_ok-end.end (left_in vs c.row.new.state) in
    let e : all ≡ around c.row.new.steps.items behind = sym (ap (λ ss. around ss all) c.new-steps.ensures.items) ∙ c.in_ok-end.ensures in
    let low : nodes behind ≤ nodes all = behind_row all behind c.row.new.steps.items e in
    (omega arith, tt)

pub make_either-make-requires : goal.make_either-make-requires
make_either-make-requires t c =
    let vs = c.args.variables.now in
    let parts = c.loop-arm.parts.items in
    let rest = map (left_in vs) c.next.new.self.rest.items in
    let arm = left_in vs c.in-Some.arm in
    let all : map (left_in vs) c.args.arms.items ≡ parts ++ arm ∷ rest = c.loop-arm.invariant.2 ∙ ap (λ xs. parts ++ map (left_in vs) xs) c.in-Some.ensures.steps.0 in
    let low : nodes arm < nodes (Either (expansions (map (left_in vs) c.args.arms.items))) = arm_low (map (left_in vs) c.args.arms.items) parts arm rest all in
    (omega arith, tt)

pub make_ending-make-requires : goal.make_ending-make-requires
make_ending-make-requires t c =
    let vs = c.args.variables.now in
    let e : nodes (ended vs c.args.end (left_in vs c.args.state)) ≡ nodes (ended vs (ends.If c.in-If.test c.in-If.other) (left_in vs c.args.state)) = ap (λ d. nodes (ended vs d (left_in vs c.args.state))) c.in-If.is in
    (omega arith, tt)

pub make_ending-make-requires-in-If : goal.make_ending-make-requires-in-If
make_ending-make-requires-in-If t c =
    let vs = c.args.variables.now in
    let e : nodes (ended vs c.args.end (left_in vs c.args.state)) ≡ nodes (ended vs (ends.If c.in-If.test c.in-If.other) (left_in vs c.args.state)) = ap (λ d. nodes (ended vs d (left_in vs c.args.state))) c.in-If.is in
    (omega arith, tt)

pub make_ending-make_either-requires : goal.make_ending-make_either-requires
make_ending-make_either-requires t c =
    let vs = c.args.variables.now in
    let e : nodes (ended vs c.args.end (left_in vs c.args.state)) ≡ nodes (ended vs (ends.Either c.in-Either.arms) (left_in vs c.args.state)) = ap (λ d. nodes (ended vs d (left_in vs c.args.state))) c.in-Either.is in
    (omega arith, tt)
