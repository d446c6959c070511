use Rattle.std.proofs.Common.{◌≡◌, ◌<◌, ◌≤◌, ℕ, length, refl, sym, ap, ◌∙◌, arith}
use Rattle.pgo_workers.specs.Worker.{with_held}
use Rattle.pgo_section.specs.Folds.{abort_it}
use Rattle.pgo_section.proofs.Folds.{aborted_each}
use Rattle.pgo_section.proofs.Boards.{some_is, at_among, changed_board, fold_step, fold_end, is_held}
use Rattle.pgo_section.proofs.contents.abort_all.Goals as goal

near : (n i j k : ℕ) → i < n → n ≡ j → j ≡ k → i < k
near n i j k h e f = omega (arith, h, e, f)

far : (n i j k : ℕ) → n ≤ i → n ≡ j → j ≡ k → k ≤ i
far n i j k h e f = omega (arith, h, e, f)

pub loop-index-init : goal.loop-index-init
loop-index-init g c = record { system = refl; stays = g.met.B.Board.stays_same c.args.board.now; moved = refl; shows = refl; resources = sym c.requires.held; fold = refl }

pub content-requires : goal.content-requires
content-requires g c =
    let b = g.B.Board.shows c.loop-index.board in let taken = c.args.taken.now.items in
    record { held = is_held b.held taken c.index.result.now c.loop-index.invariant.resources (at_among taken c.loop-index.index c.index.result.now (near c.len-index-end.result c.loop-index.index _ _ c.loop-index-test.true c.len-index-end.ensures c.args.taken.now.ok.0) c.index.ensures) }

pub loop-index-preserved : goal.loop-index-preserved
loop-index-preserved g c =
    let b = g.B.Board.shows c.loop-index.board in let taken = c.args.taken.now.items in let r = c.index.result.now in let law = g.met.B.Board in let M = g.B.Content.Resource.shows in
    let close : c.loop-index.index < length taken = near c.len-index-end.result c.loop-index.index _ _ c.loop-index-test.true c.len-index-end.ensures c.args.taken.now.ok.0 in
    let there = is_held b.held taken r c.loop-index.invariant.resources (at_among taken c.loop-index.index r close c.index.ensures) in
    let h = some_is _ there in
    let c2 = g.B.Board.with_board c.loop-index.board r c.abort.new.self in
    let made = changed_board abort_it b (g.B.Board.shows c2) r (M c.content.result.now) (M c.abort.new.self) h.0 h.1 (law.shown c.loop-index.board r c.content.result.now h.0 c.content.ensures.value h.1) c.abort.ensures (law.puts c.loop-index.board r c.abort.new.self there) in
    let s = fold_step abort_it taken c.loop-index.index r (g.B.Board.shows c.args.board.now) b (g.B.Board.shows c2) close c.index.ensures made c.loop-index.invariant.shows c.loop-index.invariant.resources c.loop-index.invariant.fold in
    record { system = law.keeps c.loop-index.board r c.abort.new.self ∙ c.loop-index.invariant.system; stays = law.stays_on c.args.board.now c.loop-index.board c2 c.loop-index.invariant.stays (law.stays_with c.loop-index.board r c.abort.new.self there); moved = c.content.ensures.moved c.abort.new.self ∙ c.loop-index.invariant.moved; shows = s.0; resources = s.1; fold = s.2 }

pub returns-clause-shows : goal.returns-clause-shows
returns-clause-shows g c =
    let start = g.B.Board.shows c.args.board.now in
    fold_end abort_it c.args.taken.now.items c.loop-index.index start (g.B.Board.shows c.loop-index.board) (far c.len-index-end.result c.loop-index.index _ _ c.loop-index-test.false c.len-index-end.ensures c.args.taken.now.ok.0) c.loop-index.invariant.shows c.requires.held c.requires.once c.loop-index.invariant.fold
    ∙ ap (λ hs. with_held hs start) (aborted_each start.held)
