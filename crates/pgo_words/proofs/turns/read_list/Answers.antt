use Rattle.std.proofs.Common.{rules, ◌≡◌, sym, subst, Bool, true, false, List, ℕ, Some}
use Rattle.pgo_words.specs.Items.{AddsItem, ReadsOn, SpelledOnly}
use Rattle.pgo_words.proofs.ListReads.{reads_start, reads_step, reads_none, last_some, last_none}
use Rattle.pgo_words.proofs.turns.read_list.Goals as goal

-- what `add_item` answered
answered : (old bs new : List ℕ) (b c : Bool) → b ≡ c → AddsItem old bs b new → AddsItem old bs c new
answered old bs new b c e a = subst (λ t. AddsItem old bs t new) e a

pub loop-first-init : goal.loop-first-init
loop-first-init c = (c.utf8.text, subst (λ l. ReadsOn c.args.text.now l c.args.text.now) (sym c.new-turns.ensures.items) (reads_start c.args.text.now))

pub returns-then-not-branch : goal.returns-then-not-branch
returns-then-not-branch c =
    reads_none c.args.text.now c.loop-first.turns.items c.loop-first.rest.now c.loop-first.invariant.1
    (c.in-Some.first, c.in-Some.later) c.add_item.new.turns.items c.in-Some.ensures
    (answered c.loop-first.turns.items c.in-Some.first.now c.add_item.new.turns.items c.in_ok-add_item.field-0 false c.if-not-branch.true c.in_ok-add_item.ensures)

pub loop-first-preserved : goal.loop-first-preserved
loop-first-preserved c = (
  search rules,
  reads_step c.args.text.now c.loop-first.turns.items c.loop-first.rest.now c.loop-first.invariant.1
      (c.in-Some.first, c.in-Some.later) c.add_item.new.turns.items c.in-Some.ensures
      (answered c.loop-first.turns.items c.in-Some.first.now c.add_item.new.turns.items c.in_ok-add_item.field-0 true c.if-not-branch.false c.in_ok-add_item.ensures),
)

pub returns-then-branch : goal.returns-then-branch
returns-then-branch c = subst (λ ts. SpelledOnly c.args.text.now (Some ts)) (sym c.from_vec.ensures)
    (last_some c.args.text.now c.loop-first.turns.items c.loop-first.rest.now c.loop-first.invariant.1 c.add_item-2.new.turns.items c.in_default.ensures
    (answered c.loop-first.turns.items c.loop-first.rest.now c.add_item-2.new.turns.items c.in_ok-add_item-2.field-0 true c.if-branch.true c.in_ok-add_item-2.ensures))

pub returns-else-branch : goal.returns-else-branch
returns-else-branch c =
    last_none c.args.text.now c.loop-first.turns.items c.loop-first.rest.now c.loop-first.invariant.1 c.add_item-2.new.turns.items c.in_default.ensures
    (answered c.loop-first.turns.items c.loop-first.rest.now c.add_item-2.new.turns.items c.in_ok-add_item-2.field-0 false c.if-branch.false c.in_ok-add_item-2.ensures)
