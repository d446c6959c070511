use Rattle.std.proofs.Common.{◌≡◌, ◌≢◌, ◌∙◌, sym, ap, ◌<◌, Some, false, length, get_or, set, arith, ⊎_elim, get_or-set_same, get_or-set_other}
use Rattle.std.specs.Mem.Slots.{slots_items, slots_filled, slots_counts}
use mathlib.Core.Option as Found
use lib.ListN.{get_elem?}
use Rattle.pgo_table.specs.Closing.{ContentAt}
use Rattle.pgo_table.specs.declared.slots.Stored.TheVariants.{Content}
use Rattle.pgo_table.proofs.Sums.{same_or}
use Rattle.pgo_shared.proofs.Closings.{pushed_get}
use Rattle.pgo_shared.proofs.closing.emptied.Goals as goal

pub content_of-requires : goal.content_of-requires
content_of-requires g c =
    let v = c.loop-i.invariant in let t = c.requires.contents c.loop-i.i c.loop-i-test.true in
    (t.0, Found.some-injective c.take.result (Some (Content t.0)) (sym c.take.ensures.value ∙ (ap (λ l. get_elem? l c.loop-i.i) v.same ∙ t.1)))

pub loop-i-preserved : goal.loop-i-preserved
loop-i-preserved g c =
    let v = c.loop-i.invariant in let o = c.take.ensures.others in
    let inside : c.loop-i.i < length (slots_filled c.loop-i.closed.slots) = omega (arith, v.long, c.loop-i-test.true, (slots_counts c.loop-i.closed.slots).1) in record {
      same = o.0 ∙ v.same;
      long = o.2 ∙ v.long;
      full = λ k after near. ap (λ l. get_or l k false) o.1 ∙ (get_or-set_other (slots_filled c.loop-i.closed.slots) c.loop-i.i k false false (λ e. omega (arith, after, e)) ∙ v.full k (omega (arith, after)) (omega (arith, near, o.2)));
      taken = λ k before. ap (λ l. get_or l k false) o.1 ∙ ⊎_elim
          (λ (e : k ≡ c.loop-i.i). ap (λ i. get_or (set (slots_filled c.loop-i.closed.slots) c.loop-i.i false) i false) e ∙ get_or-set_same (slots_filled c.loop-i.closed.slots) c.loop-i.i false false inside)
          (λ (ne : k ≢ c.loop-i.i). get_or-set_other (slots_filled c.loop-i.closed.slots) c.loop-i.i k false false ne ∙ v.taken k (omega (arith, before, ne)))
          (same_or k c.loop-i.i);
      made = omega (arith, c.push_reserved.ensures.len, v.made);
      room = omega (arith, c.push_reserved.ensures.capacity, v.room);
      each = pushed_get (λ r x. ContentAt (slots_items c.args.closed.slots) r x) c.loop-i.contents.items c.push_reserved.new.self.items c.content_of.result c.loop-i.i (sym c.loop-i.contents.ok.0 ∙ v.made) c.push_reserved.ensures.items v.each
          (ap (λ l. get_elem? l c.loop-i.i) (sym v.same) ∙ (c.take.ensures.value ∙ ap Found.some c.content_of.ensures));
    }

pub free-requires : goal.free-requires
free-requires g c k near =
    let v = c.loop-i.invariant in let o = c.take-2.ensures.others in
    let last : c.loop-i.i ≡ c.args.places = omega (arith, c.loop-i-test.false, c.loop-i.auto.i-end) in
    let inside : c.args.places < length (slots_filled c.loop-i.closed.slots) = omega (arith, v.long, (slots_counts c.loop-i.closed.slots).1) in
    ap (λ l. get_or l k false) o.1 ∙ ⊎_elim
    (λ (e : k ≡ c.args.places). ap (λ i. get_or (set (slots_filled c.loop-i.closed.slots) c.args.places false) i false) e ∙ get_or-set_same (slots_filled c.loop-i.closed.slots) c.args.places false false inside)
    (λ (ne : k ≢ c.args.places). get_or-set_other (slots_filled c.loop-i.closed.slots) c.args.places k false false ne ∙ v.taken k (omega (arith, near, ne, last, o.2, v.long)))
    (same_or k c.args.places)
