use Rattle.std.proofs.Common.{◌≡◌, ◌+◌, ◌*◌, ◌/◌, ◌≤◌, ℕ, suc, length, replicate, arith, sym, ap, ◌∙◌, subst, refl}
use Rattle.std.proofs.Math.Nat.{div-mul-le_self}
use Rattle.pgo_journal.specs.Journal.{JournalView}
use Rattle.pgo_workers.specs.Worlds.{Layout, world_of}
use Rattle.pgo_table.specs.SeatViews.{TableTerms}
use Rattle.pgo_table.proofs.Closes.{starts}
use Rattle.pgo_shared.proofs.opening.open.Goals as goal

pub new-requires : goal.new-requires
new-requires g c =
    let y = c.new-terms.result in let e = c.new-terms.ensures in let cs = c.args.contents.items in
    let layout = ap (λ (f : TableTerms). f.layout) e in
    let ids = ap (λ (f : TableTerms). length f.layout.ids) e in
    let as_many : length cs ≡ length y.layout.resources = omega (arith, c.args.contents.ok.0, c.requires.resources.0, ap (λ (f : TableTerms). length f.layout.resources) e) in
    let many : length y.layout.ids ≡ c.args.count = ids ∙ c.requires.instances.2 in
    let longer : c.len-places.result + 1 ≡ suc (length cs) = omega (arith, c.len-places.ensures, c.args.contents.ok.0) in
    let zeros : c.as_slice.result.now ≡ replicate (suc (length cs)) 0 = c.as_slice.ensures.value ∙ (c.in_ok-words.ensures ∙ ap (λ (n : ℕ). replicate n 0) longer) in
    let share : y.share ≡ c.args.journal.room / c.args.count = ap (λ (f : TableTerms). f.share) e ∙ ap (λ (n : ℕ). n / c.args.count) c.room.ensures in
    starts (world_of y.layout) g.R.Resource.shows y c.as_slice.result.now c.in_ok-slots.slots.items cs c.args.journal refl (omega (arith, many, c.requires.instances.0)) as_many zeros c.in_ok-slots.ensures
    (λ r x at. let f = c.requires.contents r x at in let same = ap (λ (z : Layout). (world_of z).value (world_of z).start r) (sym layout) in record { base = f.0 ∙ same; current = f.1 ∙ same; numbered = f.3 })
    (record {
      entries_are = ap (λ (j : JournalView). j.entries) c.requires.journal;
      notes_are = ap (λ (j : JournalView). j.notes) c.requires.journal;
      start = ap (λ (j : JournalView). j.start) c.requires.journal ∙ ap (λ (f : TableTerms). f.layout.start) (sym e);
      steps = sym (ap (λ (f : TableTerms). f.steps) e ∙ c.steps.ensures);
      room = subst (λ (n : ℕ). y.share * n ≤ c.args.journal.room) (sym many) (subst (λ (s : ℕ). s * c.args.count ≤ c.args.journal.room) (sym share) (div-mul-le_self c.args.journal.room c.args.count));
    })
