use Rattle.std.proofs.Common.{◌≡◌, ◌≤◌, ◌*◌, ◌-◌, ℕ, suc, length, IfOk, refl, sym, ap, ◌∙◌, subst, arith, vec_len}
use Rattle.pgo_journal.specs.Journal.{JournalView, opened}
use Rattle.pgo_meaning.specs.System.{system_of, resource_of}
use Rattle.pgo_workers.specs.View.{notes_of}
use Rattle.pgo_workers.specs.Worlds.{IsLayout, HasAll, layout_of}
use Rattle.pgo_workers.proofs.BoundLayout.{layout_sound, start_has}
use Rattle.pgo_resource.specs.Layouts.{layout_view}
use Rattle.pgo_resource.specs.PlainRows.{apart, FitsStart, FreeStands}
use Rattle.pgo_resource.specs.PlainSets.{map_length}
use Rattle.pgo_core.specs.Claims.{claimed, are_within}
use Rattle.pgo_core.specs.ExclusiveRows.{layout_with, values_behind, are_own, are_of_all}
use Rattle.pgo_core.proofs.Contents.{free_first}
use Rattle.pgo_core.proofs.Opened.{layout_is, as_many_ids}
use Rattle.pgo_core.proofs.exclusive_board.ExclusiveBoard.open.Goals as goal

pub invariant_of-result : goal.invariant_of-result
invariant_of-result g c =
    let b = c.args.bound.now in let l = c.in_ok-layout.layout in let xs = c.args.contents.items in let n = vec_len c.args.contents in
    let room : ℕ = c.args.attempts * suc (length b.instances - 1) in
    let fresh : JournalView = opened b.start c.args.steps room in
    let is : layout_view l ≡ layout_of (system_of b) = subst (λ r. IfOk r (λ l. layout_view l ≡ layout_of (system_of b))) c.in_ok-layout.ensures.first c.of.ensures in
    let made : c.in_ok-layout.journal ≡ fresh = subst (λ r. IfOk r (λ j. j ≡ fresh)) c.in_ok-layout.ensures.second c.empty_journal.ensures in
    let lay : layout_with l c.in_ok-layout.journal ≡ layout_of (system_of b) = layout_is b l is c.in_ok-layout.journal (ap (λ (j : JournalView). j.start) made) in
    let none = c.in_ok-claims.ensures.items in
    let last : ℕ = length (layout_view l).ids - 1 in record {
      is_layout = subst IsLayout (sym lay) (layout_sound b c.requires.sound c.requires.names);
      has_all = subst (λ y. HasAll y y.start) (sym lay) (start_has b c.requires.sound);
      as_many = c.requires.as_many ∙ sym (map_length resource_of b.resources) ∙ sym (ap (λ y. length y.resources) is);
      held_once = ap (λ l. apart n (claimed l)) none;
      holders = ap (are_within last) none;
      current_there = omega arith;
      own_entries = ap (λ (j : JournalView). are_own (layout_with l j) j.entries) made;
      unheld = subst (λ (j : JournalView). FreeStands g.R.Resource.shows n (values_behind (layout_with l j) j.entries) xs (claimed c.in_ok-claims.claims.items)) (sym made)
          (free_first g.R.Resource.shows (layout_with l fresh) n xs (claimed c.in_ok-claims.claims.items) c.args.contents.ok.0
          (subst (λ y. FitsStart g.R.Resource.shows y xs) (sym (layout_is b l is fresh refl)) c.requires.fit));
      within_steps = subst (λ (j : JournalView). length j.entries ≤ j.steps) (sym made) (omega arith);
      shares = subst (λ (j : JournalView). (i : ℕ) → notes_of i j.notes ≤ c.args.attempts) (sym made) (λ i. omega arith);
      noted_by = ap (λ (j : JournalView). are_of_all last j.notes) made;
      note_room = ap (λ (j : JournalView). j.room) made ∙ ap (λ m. c.args.attempts * suc (m - 1)) (sym (as_many_ids b l is));
      refused = refl;
      claim_room = omega (arith, c.in_ok-claims.ensures.capacity, c.len.ensures);
    }
