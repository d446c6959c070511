-- What holds of a board of all instances at any time.
use Rattle.std.proofs.Common.{◌≡◌, ◌<◌, length, ℕ, Bool, true, false, List, Option, Some, None, refl, sym, ap, ◌∙◌, arith}
use Rattle.std.specs.Prelude.{◌-◌, nat_lt, if◌then◌else◌, nat_eq, vec_len}
use Rattle.std.proofs.lemmas.Bool.{ltb-true}
use Rattle.pgo_bound.specs.Lookups.{same_of}
use Rattle.pgo_model.specs.Machine.{among}
use Rattle.pgo_workers.specs.View as view
use Rattle.pgo_workers.specs.View.{resources_of}
use Rattle.pgo_workers.specs.Worlds.{world_of}
use Rattle.pgo_resource.specs.declared.resource.Resource.{Ghosts}
use Rattle.pgo_resource.specs.Layouts.{layout_view}
use Rattle.pgo_resource.specs.PlainRows.{taken_of, shown_at}
use Rattle.pgo_syntax.specs.declared.records.Refusal.{Refusal}
use Rattle.pgo_syntax.specs.declared.records.Refusal.TheVariants as refusals
use Rattle.pgo_core.specs.declared.claims.Claim.{Claim}
use Rattle.pgo_core.specs.declared.exclusive_board.ExclusiveBoard.{ExclusiveBoard}
use Rattle.pgo_core.specs.AllViews.{IsBoard}
use Rattle.pgo_core.specs.Claims.{taken_by}
use Rattle.pgo_core.specs.ClaimLaws.{one_holder, resources_rows}
use Rattle.pgo_core.specs.ExclusiveBoards.{board_layout, here, view_at, views_of}
use Rattle.pgo_core.specs.ExclusiveRows.{last_of, is_refused}
use Rattle.pgo_core.proofs.FreeContents.{not_claimed, holder_within}
use Rattle.pgo_core.proofs.Contents.{rows_values, rows_contents}

refused_by : (o : Option Refusal) (k : ℕ) (cs : List Claim) (r h : ℕ) → is_refused o k cs ≡ true → last_of o ≡ Some (view.IsHeld r h) → among r (taken_of (taken_by h cs)) ≡ true
refused_by None k cs r h is e = absurd (grind (arith, e))
refused_by (Some (refusals.Held q j)) k cs r h is e = go (nat_eq j k) is
  where
    go : (b : Bool) → (if b then false else among q (taken_of (taken_by j cs))) ≡ true → among r (taken_of (taken_by h cs)) ≡ true
    go true is = absurd (grind (arith, is))
    go false is = let a : q ≡ r = grind (arith, e) in let b : j ≡ h = grind (arith, e) in (λ i. among (sym a i) (taken_of (taken_by (sym b i) cs))) ∙ is
refused_by (Some (refusals.Down q o)) k cs r h is e = absurd (grind (arith, e))
refused_by (Some (refusals.Many leaves at)) k cs r h is e = absurd (grind (arith, e))
refused_by (Some (refusals.Full n)) k cs r h is e = absurd (grind (arith, e))

module _ {R : Type 0} {g : Ghosts R} where
  pub is_board : (s : ExclusiveBoard R g) → IsBoard (world_of (board_layout s)) (views_of s)
  is_board s = record {
    instance = λ j. refl;
    entries = λ i j. refl;
    notes = λ i j. refl;
    room = λ j. s.within_steps;
    apart = λ i j r a b. one_holder (vec_len s.contents) i j r s.claims.items s.held_once (ap (among r) (sym (held i)) ∙ a) (ap (among r) (sym (held j)) ∙ b);
    holders = λ j r a. holder_within (length (layout_view s.layout).ids - 1) j r s.claims.items s.holders (ap (among r) (sym (held j)) ∙ a);
    free = λ r is none j.
        let f = s.unheld r (inside r is) (not_claimed r s.claims.items (λ i. ap (among r) (sym (held i)) ∙ none i)) in
        record { base = same_of (shown_at g.shows s.contents.items r).base (here s r) f.0; current = same_of (shown_at g.shows s.contents.items r).current (here s r) f.1 };
    values = λ j. rows_values g.shows (here s) s.contents.items (taken_by j s.claims.items);
    contents = λ j. rows_contents g.shows (here s) s.contents.items (taken_by j s.claims.items);
    last = λ r h e. ap (among r) (held h) ∙ refused_by s.last s.current s.claims.items r h s.refused e;
  }
    where
      inside : (r : ℕ) → nat_lt r (length (board_layout s).resources) ≡ true → r < vec_len s.contents
      inside r is = let h = ltb-true r (length (board_layout s).resources) is in omega (arith, h, s.as_many)

      held : (j : ℕ) → resources_of (view_at s j).held ≡ taken_of (taken_by j s.claims.items)
      held j = resources_rows g.shows (here s) s.contents.items (taken_by j s.claims.items)
