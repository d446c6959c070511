use Rattle.std.proofs.Common.{◌≡◌, map, sym, ◌∙◌, subst, pos, ◌+ℤ◌, to_z, of_z, w64, rules, FitsSigned}
use Rattle.std.proofs.Math.Facts.{to_z-of_z}
use Rattle.pgo_base.specs.Sets.{IsSorted}
use Rattle.pgo_base.specs.View.{data_of}
use Rattle.pgo_model.specs.Operators.{upward, span}
use Rattle.pgo_sets.proofs.Upward.{upward_more, upward_all, next_at_most, neither_less, pushed, sorted_upward}
use Rattle.pgo_sets.proofs.ranges.upward.Goals as goal

pub loop-next-preserved : goal.loop-next-preserved
loop-next-preserved c =
    let n = to_z w64 c.loop-next.next-bits in
    let h = to_z w64 (of_z w64 c.args.high) in
    let fits : FitsSigned w64 (n +ℤ pos 1) = search rules in
    let step : to_z w64 (of_z w64 (n +ℤ pos 1)) ≡ n +ℤ pos 1 = to_z-of_z fits in
    record {
      members = upward_more n h _ _ (map data_of c.loop-next.members.items) _ step c.loop-next-test.true (pushed c.loop-next.members.items _ _ c.in_ok-push.ensures.items) c.loop-next.invariant.members;
      order = next_at_most n h _ step c.loop-next-test.true;
    }

all : (c : goal.In_ok-push-2) → map data_of c.push-2.new.self.items ≡ upward c.args.low (span c.args.low c.args.high)
all c =
    let n = to_z w64 c.loop-next.next-bits in
    let h = to_z w64 (of_z w64 c.args.high) in
    let low = to_z w64 (of_z w64 c.args.low) in
    upward_all n h (upward low (span low h)) (map data_of c.loop-next.members.items) _ (neither_less n h c.loop-next-test.false c.loop-next.invariant.order) (pushed c.loop-next.members.items _ _ c.in_ok-push-2.ensures.items) c.loop-next.invariant.members
    ∙ (λ i. upward (to_z-of_z c.ranges.low i) (span (to_z-of_z c.ranges.low i) (to_z-of_z c.ranges.high i)))

pub returns-clause-members : goal.returns-clause-members
returns-clause-members c = all c

pub returns-clause-sorted : goal.returns-clause-sorted
returns-clause-sorted c = subst IsSorted (sym (all c)) (sorted_upward c.args.low (span c.args.low c.args.high))
