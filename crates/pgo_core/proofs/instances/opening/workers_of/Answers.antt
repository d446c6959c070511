use Rattle.std.proofs.Common.{◌≡◌, ◌+◌, ℕ, suc, length, ap, ◌∙◌, arith}
use Rattle.pgo_model.specs.Machine.{nth}
use Rattle.pgo_syntax.specs.RecordView.{settings_view}
use Rattle.pgo_workers.specs.Worlds.{layout_of, own_in}
use Rattle.pgo_core.proofs.OpenedLists.{one_opened}
use Rattle.pgo_core.proofs.instances.opening.workers_of.Goals as goal

none_more : (n k : ℕ) → k ≡ n → n + 0 ≡ k
none_more n k e = omega (arith, e)

moved : (n m j : ℕ) → m ≡ n + 1 → n + suc j ≡ m + j
moved n m j e = omega (arith, e)

pub open-requires-clause-own : goal.open-requires-clause-own
open-requires-clause-own g c =
    let y = g.S.Sections.system c.args.sections.now in let ws = c.loop-own.workers in
    c.loop-own.invariant.owns 0 c.in-Some.own (ap (λ l. nth l 0) c.in-Some.ensures.steps.0) ∙ ap (own_in (layout_of y) y.start) (none_more (length ws.items) c.len-k.result (c.len-k.ensures ∙ ws.ok.0))

pub loop-own-preserved : goal.loop-own-preserved
loop-own-preserved g c =
    let y = g.S.Sections.system c.args.sections.now in let tree = g.S.Sections.tree c.args.sections.now in let walk = g.S.Sections.walk c.args.sections.now in
    let ws = c.loop-own.workers in let new = c.push_reserved.new.self in let inv = c.loop-own.invariant in let rest = c.in-Some.ensures.steps.0 in let w = c.in_ok-worker.ensures in
    let longer : length new.items ≡ length ws.items + 1 = grind (arith, c.push_reserved.ensures.len, new.ok.0, ws.ok.0) in
    let fewer = ap length rest in
    record {
      count = grind (arith, longer, inv.count, fewer);
      capacity = omega (arith, c.push_reserved.ensures.capacity, inv.capacity);
      owns = λ j o e. inv.owns (suc j) o (ap (λ l. nth l (suc j)) rest ∙ e) ∙ ap (own_in (layout_of y) y.start) (moved (length ws.items) (length new.items) j longer);
      opened = one_opened y tree walk (settings_view c.args.settings.now) ws.items new.items c.in_ok-worker.worker c.len-k.result c.push_reserved.ensures.items (c.len-k.ensures ∙ ws.ok.0) inv.opened
          (record { number = w.number; settings_are = ap settings_view w.settings; records = w.records; out = w.memory; dropped = w.dropped; place = w.place; meets = w.meets });
    }
