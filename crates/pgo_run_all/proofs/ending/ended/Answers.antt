use Rattle.std.proofs.Common.{◌≡◌, ◌++◌, ◌∷◌, [], ◌+◌, length, slice_index_or, refl, sym, ap, ◌∙◌, subst, arith, append_assoc, append-nil}
use Rattle.std.proofs.lemmas.List.{length-append}
use Rattle.pgo_shared.specs.SeatBoards.{shows_of}
use Rattle.pgo_shared.proofs.Closings.{nil_of}
use Rattle.pgo_joined.specs.JoinedRuns.{AreEnded}
use Rattle.pgo_run_all.proofs.Lists.{begins, mid_at, one_ended}
use Rattle.pgo_run_all.proofs.ending.ended.Goals as goal

pub end-requires : goal.end-requires
end-requires g c =
    let f = c.loop-job.invariant.so_far in let j = c.in-Some.job in let rest = c.next.new.self.rest.items in
    let all : c.args.jobs.items ≡ f.0 ++ (j ∷ rest) = f.1 ∙ ap (λ l. f.0 ++ l) c.in-Some.ensures.steps.0 in
    let long = ap length all in let more = length-append f.0 (j ∷ rest) in
    record { free = subst (λ x. (shows_of x.board).held ≡ []) (ap (λ l. slice_index_or l (length f.0) j) all ∙ mid_at f.0 rest j j) (c.requires.nothing (length f.0) j (omega (arith, long, more))) }

pub loop-job-init : goal.loop-job-init
loop-job-init g c =
    let none : c.in_ok-workers.workers.items ≡ [] = c.in_ok-workers.ensures.items in
    let none_too : c.in_ok-seats.seats.items ≡ [] = c.in_ok-seats.ensures.items in
    let all : c.into_iter-job-iterator.result.rest.items ≡ c.args.jobs.items = c.into_iter-job-iterator.ensures.into_iter_gives.0 in
    let long = ap length all in let a : length c.in_ok-workers.workers.items ≡ 0 = ap length none in let b : length c.in_ok-seats.seats.items ≡ 0 = ap length none_too in
    record {
      so_far = ([], sym all, subst (λ l. AreEnded [] l c.in_ok-seats.seats.items) (sym none) (subst (λ l. AreEnded [] [] l) (sym none_too) begins));
      count = (omega (arith, long, a), omega (arith, a, b));
      room = (omega (arith, c.in_ok-workers.ensures.capacity, c.len.ensures, c.args.jobs.ok.0), omega (arith, c.in_ok-seats.ensures.capacity, c.len-2.ensures, c.args.jobs.ok.0));
    }

pub loop-job-preserved : goal.loop-job-preserved
loop-job-preserved g c =
    let inv = c.loop-job.invariant in let f = inv.so_far in let j = c.in-Some.job in
    let ws = c.push_reserved.new.self in let ss = c.push_reserved-in-loop-job.new.self in
    let fewer = ap length c.in-Some.ensures.steps.0 in
    let a : length ws.items ≡ length c.loop-job.workers.items + 1 = grind (arith, c.push_reserved.ensures.len, ws.ok.0, c.loop-job.workers.ok.0) in
    let b : length ss.items ≡ length c.loop-job.seats.items + 1 = grind (arith, c.push_reserved-in-loop-job.ensures.len, ss.ok.0, c.loop-job.seats.ok.0) in
    record {
      so_far = (
        f.0 ++ (j ∷ []),
        f.1 ∙ ap (λ l. f.0 ++ l) c.in-Some.ensures.steps.0 ∙ sym (append_assoc f.0 (j ∷ []) c.next.new.self.rest.items),
        one_ended f.0 c.loop-job.workers.items ws.items c.loop-job.seats.items ss.items j j.worker c.end.result c.push_reserved.ensures.items c.push_reserved-in-loop-job.ensures.items refl c.end.ensures.seat c.end.ensures.seen c.if-failed.false f.2,
      );
      count = (omega (arith, a, fewer, inv.count.0), omega (arith, a, b, inv.count.1));
      room = (omega (arith, c.push_reserved.ensures.capacity, inv.room.0), omega (arith, c.push_reserved-in-loop-job.ensures.capacity, inv.room.1));
    }

pub returns : goal.returns
returns g c =
    let f = c.loop-job.invariant.so_far in
    let none : length c.loop-job.job-iterator.rest.items ≡ 0 = omega (arith, c.in-None.ensures.steps.0) in
    subst (λ l. AreEnded l c.loop-job.workers.items c.loop-job.seats.items) (sym (f.1 ∙ ap (λ l. f.0 ++ l) (nil_of c.loop-job.job-iterator.rest.items none) ∙ append-nil f.0)) f.2
