use Rattle.std.proofs.Common.{List, Option, ℕ, ◌≡◌, ◌<◌, ◌-◌, true, None, Some, length, refl, sym, ap, ◌∙◌, subst, arith, vec_len}
use Rattle.pgo_syntax.specs.declared.records.Refusal.TheVariants as refusals
use Rattle.pgo_workers.specs.View.{Takes}
use Rattle.pgo_workers.specs.Worlds.{world_of}
use Rattle.pgo_resource.specs.PlainRows.{apart, FreeStands}
use Rattle.pgo_core.specs.AllViews.{Leaves}
use Rattle.pgo_core.specs.Claims.{claimed, holder_of, are_within}
use Rattle.pgo_core.specs.ExclusiveBoards.{board_layout, here, shows_of, views_of}
use Rattle.pgo_core.specs.declared.claims.Claim.{Claim}
use Rattle.pgo_core.proofs.ClaimSteps.{within_push}
use Rattle.pgo_core.proofs.Contents.{free_push}
use Rattle.pgo_core.proofs.BoardSteps.{seen, all_seen, nobody_holds, somebody_holds, refused_is, take_held, take_room, take_once, takes, take_leaves, last_leaves}
use Rattle.pgo_core.proofs.exclusive_board.ExclusiveBoardBoard.take.Goals as goal

pub push_reserved-requires : goal.push_reserved-requires
push_reserved-requires g c =
    let a = c.args.self.now in
    let none : holder_of a.claims.items c.args.r ≡ None = ap (λ l. holder_of l c.args.r) (sym {A = List Claim} c.as_slice.ensures.value) ∙ sym {A = Option ℕ} c.holder-found.ensures ∙ c.in-None.is in
    omega (arith, take_room a c.args.r c.requires.free c.requires.inside none, a.claims.ok.0, a.claim_room)

pub invariant_of-self-in-None : goal.invariant_of-self-in-None
invariant_of-self-in-None g c =
    let a = c.args.self.now in let r = c.args.r in let items = c.push_reserved.ensures.items in
    let none : holder_of a.claims.items r ≡ None = ap (λ l. holder_of l r) (sym {A = List Claim} c.as_slice.ensures.value) ∙ sym {A = Option ℕ} c.holder-found.ensures ∙ c.in-None.is in record {
      is_layout = a.is_layout;
      has_all = a.has_all;
      as_many = a.as_many;
      held_once = ap (λ l. apart (vec_len a.contents) (claimed l)) items ∙ take_once a r c.requires.free c.requires.inside none _ refl refl;
      holders = ap (are_within (length (board_layout a).ids - 1)) items ∙ within_push (length (board_layout a).ids - 1) a.claims.items _ a.holders a.current_there;
      current_there = a.current_there;
      own_entries = a.own_entries;
      unheld = subst (λ l. FreeStands g.R.Resource.shows (vec_len a.contents) (here a) a.contents.items (claimed l)) (sym {A = List Claim} items) (free_push g.R.Resource.shows (vec_len a.contents) (here a) a.contents.items a.claims.items _ a.unheld);
      within_steps = a.within_steps;
      shares = a.shares;
      noted_by = a.noted_by;
      note_room = a.note_room;
      refused = refl;
      claim_room = omega (arith, c.push_reserved.ensures.capacity, a.claim_room);
    }

pub invariant_of-self : goal.invariant_of-self
invariant_of-self g c =
    let a = c.args.self.now in let r = c.args.r in let h = c.in-Some.h in
    let is : holder_of a.claims.items r ≡ Some h = ap (λ l. holder_of l r) (sym {A = List Claim} c.as_slice.ensures.value) ∙ sym {A = Option ℕ} c.holder-found.ensures ∙ c.in-Some.is in record {
      is_layout = a.is_layout;
      has_all = a.has_all;
      as_many = a.as_many;
      held_once = a.held_once;
      holders = a.holders;
      current_there = a.current_there;
      own_entries = a.own_entries;
      unheld = a.unheld;
      within_steps = a.within_steps;
      shares = a.shares;
      noted_by = a.noted_by;
      note_room = a.note_room;
      refused = refused_is a r c.requires.free h is;
      claim_room = a.claim_room;
    }

pub returns-in-None-clause-stays : goal.returns-in-None-clause-stays
returns-in-None-clause-stays g c =
    let a = c.args.self.now in let r = c.args.r in
    let none : holder_of a.claims.items r ≡ None = ap (λ l. holder_of l r) (sym {A = List Claim} c.as_slice.ensures.value) ∙ sym {A = Option ℕ} c.holder-found.ensures ∙ c.in-None.is in
    subst (λ l. Leaves (views_of a) (all_seen a l None a.journal true)) (sym {A = List Claim} c.push_reserved.ensures.items) (take_leaves a r c.requires.free c.requires.inside none _ refl refl)

pub returns-in-None-clause-ok : goal.returns-in-None-clause-ok
returns-in-None-clause-ok g c =
    let a = c.args.self.now in let r = c.args.r in
    let none : holder_of a.claims.items r ≡ None = ap (λ l. holder_of l r) (sym {A = List Claim} c.as_slice.ensures.value) ∙ sym {A = Option ℕ} c.holder-found.ensures ∙ c.in-None.is in
    let near : r < length a.contents.items = omega (arith, c.requires.inside, a.contents.ok.0) in
    subst (λ l. Takes (world_of (board_layout a)) r (shows_of a) (seen a l None a.journal a.current)) (sym {A = List Claim} c.push_reserved.ensures.items)
    (takes a r c.requires.free c.requires.inside none _ refl refl c.index.result.now near c.index.ensures c.count-count.ensures)

pub returns-in-Some-clause-stays : goal.returns-in-Some-clause-stays
returns-in-Some-clause-stays g c = last_leaves c.args.self.now (Some (refusals.Held c.args.r c.in-Some.h))

pub returns-in-Some-clause-err : goal.returns-in-Some-clause-err
returns-in-Some-clause-err g c =
    let a = c.args.self.now in let r = c.args.r in
    let is : holder_of a.claims.items r ≡ Some c.in-Some.h = ap (λ l. holder_of l r) (sym {A = List Claim} c.as_slice.ensures.value) ∙ sym {A = Option ℕ} c.holder-found.ensures ∙ c.in-Some.is in
    (refl, take_held a r c.requires.free c.in-Some.h is)

pub returns-in-None-clause-refused : goal.returns-in-None-clause-refused
returns-in-None-clause-refused g c =
    let a = c.args.self.now in let r = c.args.r in
    let none : holder_of a.claims.items r ≡ None = ap (λ l. holder_of l r) (sym {A = List Claim} c.as_slice.ensures.value) ∙ sym {A = Option ℕ} c.holder-found.ensures ∙ c.in-None.is in
    (λ e. absurd (grind (arith, e)), λ p. absurd (nobody_holds a r none p.0 p.1))

pub returns-in-Some-clause-refused : goal.returns-in-Some-clause-refused
returns-in-Some-clause-refused g c =
    let a = c.args.self.now in let r = c.args.r in
    let is : holder_of a.claims.items r ≡ Some c.in-Some.h = ap (λ l. holder_of l r) (sym {A = List Claim} c.as_slice.ensures.value) ∙ sym {A = Option ℕ} c.holder-found.ensures ∙ c.in-Some.is in
    (λ e. (c.in-Some.h, somebody_holds a r c.in-Some.h is), λ p. refl)
