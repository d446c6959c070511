use Rattle.std.proofs.Common.{◌≡◌, ◌∙◌, ◌<◌, ◌≤◌, ◌+◌, ◌-◌, ℕ, length, drop, get_or, map, Some, refl, sym, ap, subst, arith}
use Rattle.pgo_workers.specs.View.{hold_at, resources_of, Once}
use Rattle.pgo_workers.specs.Worker.{changes_of}
use Rattle.pgo_workers.specs.Worlds.{changed_resources}
use Rattle.pgo_section.specs.Folds.{at_of, with_changed}
use Rattle.pgo_section.proofs.Boards.{some_is, at_among, same_board, is_held}
use Rattle.pgo_section.proofs.Values.{changed_after, none_left}
use Rattle.pgo_section.proofs.changes.changed_values.Goals as goal

one_less : (i n : ℕ) → 0 < i → i ≤ n → i - 1 < n
one_less i n h k = omega (arith, h, k)

again : (i : ℕ) → 0 < i → (i - 1) + 1 ≡ i
again i h = omega (arith, h)

less : (i n : ℕ) → 0 < i → i ≤ n → i - 1 ≤ n
less i n h k = omega (arith, h, k)

pub loop-left-init : goal.loop-left-init
loop-left-init g c =
    let held = (g.B.Board.shows c.args.board.now).held in let n = c.len-left.ensures ∙ c.args.taken.now.ok.0 in
    record {
      system = refl;
      stays = g.met.B.Board.stays_same c.args.board.now;
      moved = refl;
      shows = refl;
      left = all_left c.len-left.result _ n;
      values = ap (map at_of) c.new-values.ensures.items ∙ sym (ap (λ hs. changed_resources (changes_of hs)) (none_left held c.len-left.result (subst (λ l. length l ≤ c.len-left.result) c.requires.held (all_left' c.len-left.result _ n))));
    }
  where
    all_left : (n l : ℕ) → n ≡ l → n ≤ l
    all_left n l e = omega (arith, e)

    all_left' : (n l : ℕ) → n ≡ l → l ≤ n
    all_left' n l e = omega (arith, e)

pub content-requires : goal.content-requires
content-requires g c =
    let b = g.B.Board.shows c.loop-left.board in let taken = c.args.taken.now.items in let r = c.index-resource.result.now in
    record { held = is_held b.held taken r (ap (λ v. resources_of v.held) c.loop-left.invariant.shows ∙ sym c.requires.held) (at_among taken (c.loop-left.left - 1) r (one_less c.loop-left.left (length taken) c.loop-left-test.true c.loop-left.invariant.left) c.index-resource.ensures) }

pub loop-left-preserved : goal.loop-left-preserved
loop-left-preserved g c =
    let b = g.B.Board.shows c.loop-left.board in let start = g.B.Board.shows c.args.board.now in let taken = c.args.taken.now.items in let r = c.index-resource.result.now in let law = g.met.B.Board in let M = g.B.Content.Resource.shows in
    let i = c.loop-left.left - 1 in
    let close : i < length taken = one_less c.loop-left.left (length taken) c.loop-left-test.true c.loop-left.invariant.left in
    let there = is_held b.held taken r (ap (λ v. resources_of v.held) c.loop-left.invariant.shows ∙ sym c.requires.held) (at_among taken i r close c.index-resource.ensures) in
    let h = some_is _ there in
    let at : hold_at start.held r ≡ Some h.0 = ap (λ v. hold_at v.held r) (sym c.loop-left.invariant.shows) ∙ h.1 in
    let is = law.shown c.loop-left.board r c.content.result.now h.0 c.content.ensures.value h.1 in
    let same = same_board b _ r (M c.content.result.now) (M c.content.result.now) h.0 h.1 is refl (law.puts c.loop-left.board r c.content.result.now there) in
    let step = changed_after start.held i r h.0 (subst Once c.requires.held c.requires.once) (subst (λ l. i < length l) c.requires.held close) (c.index-resource.ensures ∙ ap (λ l. get_or l i r) c.requires.held) at in
    record {
      system = law.keeps c.loop-left.board r c.content.result.now ∙ c.loop-left.invariant.system;
      stays = law.stays_on c.args.board.now c.loop-left.board _ c.loop-left.invariant.stays (law.stays_with c.loop-left.board r c.content.result.now there);
      moved = c.content.ensures.moved c.content.result.now ∙ c.loop-left.invariant.moved;
      shows = same ∙ c.loop-left.invariant.shows;
      left = less c.loop-left.left (length taken) c.loop-left-test.true c.loop-left.invariant.left;
      values = c.in_ok-insert_changed.ensures ∙ ap (with_changed r (M c.content.result.now)) c.loop-left.invariant.values
          ∙ ap (λ s. with_changed r s (changed_resources (changes_of (drop c.loop-left.left start.held)))) (sym is)
          ∙ ap (λ n. with_changed r h.0.content (changed_resources (changes_of (drop n start.held)))) (sym (again c.loop-left.left c.loop-left-test.true)) ∙ sym step;
    }

pub returns-in_err-insert_changed-clause-shows : goal.returns-in_err-insert_changed-clause-shows
returns-in_err-insert_changed-clause-shows g c =
    let b = g.B.Board.shows c.loop-left.board in let taken = c.args.taken.now.items in let r = c.index-resource.result.now in let law = g.met.B.Board in let M = g.B.Content.Resource.shows in
    let i = c.loop-left.left - 1 in
    let close : i < length taken = one_less c.loop-left.left (length taken) c.loop-left-test.true c.loop-left.invariant.left in
    let there = is_held b.held taken r (ap (λ v. resources_of v.held) c.loop-left.invariant.shows ∙ sym c.requires.held) (at_among taken i r close c.index-resource.ensures) in
    let h = some_is _ there in
    let is = law.shown c.loop-left.board r c.content.result.now h.0 c.content.ensures.value h.1 in
    same_board b _ r (M c.content.result.now) (M c.content.result.now) h.0 h.1 is refl (law.puts c.loop-left.board r c.content.result.now there) ∙ c.loop-left.invariant.shows

pub returns-in_err-insert_changed-clause-stays : goal.returns-in_err-insert_changed-clause-stays
returns-in_err-insert_changed-clause-stays g c =
    let b = g.B.Board.shows c.loop-left.board in let taken = c.args.taken.now.items in let r = c.index-resource.result.now in let law = g.met.B.Board in
    let close : c.loop-left.left - 1 < length taken = one_less c.loop-left.left (length taken) c.loop-left-test.true c.loop-left.invariant.left in
    let there = is_held b.held taken r (ap (λ v. resources_of v.held) c.loop-left.invariant.shows ∙ sym c.requires.held) (at_among taken (c.loop-left.left - 1) r close c.index-resource.ensures) in
    law.stays_on c.args.board.now c.loop-left.board _ c.loop-left.invariant.stays (law.stays_with c.loop-left.board r c.content.result.now there)
