use Rattle.std.proofs.Common.{◌≡◌, ◌+◌, ◌<◌, ℕ, suc, length, get_or, refl, sym, ap, ◌∙◌, subst, arith}
use Rattle.pgo_model.specs.Machine.{nth}
use Rattle.pgo_section.specs.Turns.{IsFresh}
use Rattle.pgo_syntax.specs.RecordView.{settings_view}
use Rattle.pgo_workers.specs.Worlds.{layout_of, own_in}
use Rattle.pgo_shared.specs.Seats.{IsFreshSeat}
use Rattle.pgo_table.proofs.Seated.{pushed_each}
use Rattle.pgo_joined.specs.JoinedRuns.{IsNewJob}
use Rattle.pgo_run_all.proofs.Lists.{one_less, first_is}
use Rattle.pgo_run_all.proofs.NewJobs.{new_job}
use Rattle.pgo_run_all.proofs.opening.jobs_of.Goals as goal

none_more : (n k : ℕ) → k ≡ n → n + 0 ≡ k
none_more n k e = omega (arith, e)

moved : (n m j : ℕ) → m ≡ n + 1 → n + suc j ≡ m + j
moved n m j e = omega (arith, e)

no_more : (n j : ℕ) → n ≡ 0 → j ≡ n + j
no_more n j e = omega (arith, e)

pub loop-own-init : goal.loop-own-init
loop-own-init g c =
    let y = g.S.Sections.system c.args.sections.now in
    let none : length c.in_ok-jobs.jobs.items ≡ 0 = ap length c.in_ok-jobs.ensures.items in
    let all : c.into_iter-own-iterator.result.rest.items ≡ c.args.owns.items = c.into_iter-own-iterator.ensures.into_iter_gives.0 in
    let long = ap length all in
    record {
      count = omega (arith, none, long);
      seats_left = omega (arith, c.requires.as_many, long);
      capacity = omega (arith, c.in_ok-jobs.ensures.capacity, c.len.ensures, c.args.owns.ok.0);
      owns = λ j o e. c.requires.owns j o (ap (λ l. nth l j) (sym all) ∙ e) ∙ ap (own_in (layout_of y) y.start) (no_more (length c.in_ok-jobs.jobs.items) j none);
      fresh = λ j d near. subst (λ i. IsFreshSeat c.args.shared.now i (get_or c.args.seats.items j d)) (no_more (length c.in_ok-jobs.jobs.items) j none) (c.requires.fresh j d near);
      made = λ k d near. absurd (omega (arith, near, none));
    }

pub open-requires-clause-own : goal.open-requires-clause-own
open-requires-clause-own g c =
    let y = g.S.Sections.system c.args.sections.now in let js = c.loop-own.jobs in
    c.loop-own.invariant.owns 0 c.in-Some.own (ap (λ l. nth l 0) c.in-Some.ensures.steps.0) ∙ ap (own_in (layout_of y) y.start) (none_more (length js.items) c.len-k.result (c.len-k.ensures ∙ js.ok.0))

pub loop-own-preserved : goal.loop-own-preserved
loop-own-preserved g c =
    let y = g.S.Sections.system c.args.sections.now in let tree = g.S.Sections.tree c.args.sections.now in let walk = g.S.Sections.walk c.args.sections.now in
    let sh = c.args.shared.now in let settings = settings_view c.args.settings.now in
    let js = c.loop-own.jobs in let new = c.push_reserved.new.self in let inv = c.loop-own.invariant in let rest = c.in-Some.ensures.steps.0 in let w = c.in_ok-worker.ensures in
    let longer : length new.items ≡ length js.items + 1 = grind (arith, c.push_reserved.ensures.len, new.ok.0, js.ok.0) in
    let fewer = ap length rest in
    let some : 0 < length c.loop-own.seats.items = omega (arith, inv.seats_left, fewer) in
    let here : c.len-k.result ≡ length js.items = c.len-k.ensures ∙ js.ok.0 in
    let seat = c.remove-seat.result in
    let fresh = first_is (λ i x. IsFreshSeat sh i x) c.loop-own.seats.items seat (length js.items) some (sym c.remove-seat.ensures.value) inv.fresh in
    let job = new_job y tree walk settings sh (length js.items) c.in_ok-worker.worker c.board.result seat fresh c.board.ensures.table c.board.ensures.shows
    (w.number ∙ here) (ap settings_view w.settings) w.records w.memory w.dropped
    (λ b runs f. w.meets b runs (subst (λ i. IsFresh y settings i b) (sym here) f)) c.requires.runs c.requires.layout c.requires.steps c.requires.share in
    record {
      count = grind (arith, longer, inv.count, fewer);
      seats_left = omega (arith, c.remove-seat.ensures.len, c.remove-seat.new.self.ok.0, c.loop-own.seats.ok.0, inv.seats_left, fewer, some);
      capacity = omega (arith, c.push_reserved.ensures.capacity, inv.capacity);
      owns = λ j o e. inv.owns (suc j) o (ap (λ l. nth l (suc j)) rest ∙ e) ∙ ap (own_in (layout_of y) y.start) (moved (length js.items) (length new.items) j longer);
      fresh = one_less (λ i x. IsFreshSeat sh i x) c.loop-own.seats.items c.remove-seat.new.self.items (length js.items) (length new.items) c.remove-seat.ensures.items longer some inv.fresh;
      made = λ k d near. pushed_each (λ i x. IsNewJob y tree walk settings sh i x) js.items new.items _ (length js.items) refl c.push_reserved.ensures.items inv.made job k d (omega (arith, near, longer));
    }
