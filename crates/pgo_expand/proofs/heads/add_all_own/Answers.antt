use Rattle.std.proofs.Common.{◌≡◌, ◌∙◌, ◌+◌, ◌++◌, map, drop, ap, sym, get_or, append_assoc}
use Rattle.pgo_measure.specs.Heights.{capped}
use Rattle.pgo_expand.specs.Items.{capped_items}
use Rattle.pgo_expand.specs.Module as expected
use Rattle.pgo_expand.proofs.Heights.{items_at}
use Rattle.pgo_expand.proofs.heads.add_all_own.Goals as goal

pub loop-i-preserved : goal.loop-i-preserved
loop-i-preserved c =
    let i = get_or c.args.ids.now c.loop-i.i 0 in
    let ds = get_or c.args.own.now c.loop-i.i c.index-own-i.result in
    let rest = capped_items (drop (c.loop-i.i + 1) c.args.ids.now) (drop (c.loop-i.i + 1) c.args.own.now) in
    let added : c.add_own.new.items.items ≡ c.loop-i.items.items ++ map (λ d. capped (expected.own_item i (expected.start_height d.initial))) ds =
    c.in_ok-add_own.ensures ∙ ap (λ es. c.loop-i.items.items ++ map (λ d. capped (expected.own_item i (expected.start_height d.initial))) es) (c.as_slice.ensures ∙ c.index-own-i.is) in
    c.loop-i.invariant
    ∙ ap (λ l. c.loop-i.items.items ++ l) (items_at c.args.ids.now c.args.own.now c.loop-i.i c.index-own-i.result c.loop-i-test.true c.requires)
    ∙ sym (append_assoc c.loop-i.items.items (map (λ d. capped (expected.own_item i (expected.start_height d.initial))) ds) rest)
    ∙ ap (λ l. l ++ rest) (sym added)
