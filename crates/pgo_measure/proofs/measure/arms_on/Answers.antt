use Rattle.std.proofs.Common.{◌≡◌, ◌∙◌, ◌+◌, ◌∷◌, [], true, false, if◌then◌else◌, max, map, length, ap, sym}
use Rattle.std.proofs.lemmas.List.{length-map}
use Rattle.pgo_walk.specs.Emitted.{left_in}
use Rattle.pgo_measure.specs.Heights.{capped, join}
use Rattle.pgo_measure.specs.Spots.{shift}
use Rattle.pgo_measure.specs.PendingView.{parts}
use Rattle.pgo_measure.proofs.Arms.{arms_measured, choice_law, arm_law, arms_end, no_arm_now, no_item, fewer, form_more}
use Rattle.pgo_measure.proofs.measure.arms_on.Goals as goal
use Rattle.pgo_measure.proofs.measure.arms_on.Goals.{then-none, else-none}

pub loop-state-init : goal.loop-state-init
loop-state-init c =
    let arms = c.args.arms.items in
    let spot = c.args.tally.spot in
    let given : c.into_iter-state-iterator.result.rest.items ≡ arms = c.into_iter-state-iterator.ensures.into_iter_gives.0 in
    let chosen : c.if-none.height_with ≡ (if c.is_empty-none.result then 1 else 0) =
    elim c.if-none.branch [
      | then-none w ↦ w.height_with-is ∙ ap (λ b. if b then 1 else 0) (sym w.if-none.true)
      | else-none w ↦ w.height_with-is ∙ ap (λ b. if b then 1 else 0) (sym w.if-none.false)
    ] in (
      c.len-behind.ensures ∙ c.args.arms.ok.0 ∙ ap length (sym given),
      λ vs gs.
          choice_law vs gs c.args.tally.left c.in-Some.left c.args.tally.height spot (map (left_in vs) arms) (parts vs c.args.pending.now) (sym c.in-Some.is ∙ c.spend.ensures)
          ∙ ap (λ h. arms_measured vs gs c.in-Some.left h (spot.depth + shift spot.before) true (map (left_in vs) arms) (parts vs c.args.pending.now))
          (ap (λ n. capped (max c.args.tally.height (spot.depth + join spot.before n)))
          (sym (no_arm_now (left_in vs) arms c.args.arms.len c.if-none.height_with c.is_empty-none.result c.args.arms.ok.0 c.is_empty-none.ensures chosen))
          ∙ sym c.height_with-height.ensures)
          ∙ ap (λ xs. arms_measured vs gs c.in-Some.left c.height_with-height.result (spot.depth + shift spot.before) true (map (left_in vs) xs) (parts vs c.args.pending.now)) (sym given),
    )

pub loop-state-preserved : goal.loop-state-preserved
loop-state-preserved c =
    let spot = c.args.tally.spot in
    let rest = c.next.new.self.rest.items in
    let next : c.loop-state.state-iterator.rest.items ≡ c.in-Some-state.state ∷ rest = c.in-Some-state.ensures.steps.0 in
    let behind : c.saturating_sub-behind.result ≡ length rest =
    fewer c.saturating_sub-behind.result c.loop-state.behind (length c.loop-state.state-iterator.rest.items) (length rest) c.saturating_sub-behind.ensures c.loop-state.invariant.0 (ap length next) in (
      behind,
      λ vs gs.
          c.loop-state.invariant.1 vs gs
          ∙ ap (λ xs. arms_measured vs gs c.in-Some.left c.height_with-height.result (spot.depth + shift spot.before) c.loop-state.first (map (left_in vs) xs) (parts vs c.loop-state.pending)) next
          ∙ arm_law vs gs c.in-Some.left c.height_with-height.result (spot.depth + shift spot.before) c.arm_depth-depth.result c.loop-state.first
          (left_in vs c.in-Some-state.state) (map (left_in vs) rest) (parts vs c.loop-state.pending)
          (c.arm_depth-depth.ensures
          ∙ ap (λ n. capped (spot.depth + shift spot.before + n + form_more c.loop-state.first)) (behind ∙ sym (length-map rest (left_in vs))))
          ∙ ap (λ ps. arms_measured vs gs c.in-Some.left c.height_with-height.result (spot.depth + shift spot.before) false (map (left_in vs) rest) (parts vs ps)) (sym c.in_ok-push.ensures),
    )

pub returns : goal.returns
returns c = λ vs gs.
    let spot = c.args.tally.spot in
    let none_left : c.loop-state.state-iterator.rest.items ≡ [] =
    no_item c.loop-state.state-iterator.rest.items c.loop-state.state-iterator.rest.len c.loop-state.state-iterator.rest.ok.0 c.in-None.ensures.steps.0 in
    c.loop-state.invariant.1 vs gs
    ∙ ap (λ xs. arms_measured vs gs c.in-Some.left c.height_with-height.result (spot.depth + shift spot.before) c.loop-state.first (map (left_in vs) xs) (parts vs c.loop-state.pending)) none_left
    ∙ arms_end vs gs c.in-Some.left c.height_with-height.result (spot.depth + shift spot.before) c.loop-state.first (parts vs c.loop-state.pending)
