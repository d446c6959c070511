use Rattle.std.proofs.Common.{List, ◌-◌, true, length, sym, ap, ◌∙◌, subst, arith, vec_len}
use Rattle.pgo_workers.specs.View.{Gives}
use Rattle.pgo_workers.specs.Worlds.{world_of}
use Rattle.pgo_resource.specs.PlainRows.{apart, FreeStands}
use Rattle.pgo_core.specs.AllViews.{Leaves}
use Rattle.pgo_core.specs.Claims.{claimed, taken_by, are_within}
use Rattle.pgo_core.specs.ExclusiveRows.{is_refused}
use Rattle.pgo_core.specs.ExclusiveBoards.{board_layout, here, shows_of, views_of}
use Rattle.pgo_core.specs.declared.claims.Claim.{Claim}
use Rattle.pgo_core.proofs.ClaimSteps.{within_without}
use Rattle.pgo_core.proofs.Contents.{free_give}
use Rattle.pgo_core.proofs.BoardSteps.{seen, all_seen, give_once, gives, give_leaves, give_refused}
use Rattle.pgo_core.proofs.exclusive_board.ExclusiveBoardBoard.give.Goals as goal

pub invariant_of-self : goal.invariant_of-self
invariant_of-self g c =
    let a = c.args.self.now in let m = c.requires.may in let r = c.args.r in let rest = c.forget.ensures.rest in record {
      is_layout = a.is_layout;
      has_all = a.has_all;
      as_many = a.as_many;
      held_once = ap (λ l. apart (vec_len a.contents) (claimed l)) rest ∙ give_once a r m;
      holders = ap (are_within (length (board_layout a).ids - 1)) rest ∙ within_without (length (board_layout a).ids - 1) a.claims.items r a.holders;
      current_there = a.current_there;
      own_entries = a.own_entries;
      unheld = subst (λ l. FreeStands g.R.Resource.shows (vec_len a.contents) (here a) a.contents.items (claimed l)) (sym {A = List Claim} rest)
          (free_give g.R.Resource.shows (vec_len a.contents) (here a) a.contents.items a.claims.items (taken_by a.current a.claims.items) r m.hold m.is_held m.base m.current m.number a.unheld);
      within_steps = a.within_steps;
      shares = a.shares;
      noted_by = a.noted_by;
      note_room = a.note_room;
      refused = ap (is_refused a.last a.current) rest ∙ give_refused a r m;
      claim_room = omega (arith, c.forget.ensures.capacity, a.claim_room);
    }

pub returns-clause-stays : goal.returns-clause-stays
returns-clause-stays g c =
    let a = c.args.self.now in subst (λ l. Leaves (views_of a) (all_seen a l a.last a.journal true)) (sym {A = List Claim} c.forget.ensures.rest) (give_leaves a c.args.r c.requires.may)

pub returns-clause-gives : goal.returns-clause-gives
returns-clause-gives g c =
    let a = c.args.self.now in subst (λ l. Gives (world_of (board_layout a)) c.args.r (shows_of a) (seen a l a.last a.journal a.current)) (sym {A = List Claim} c.forget.ensures.rest) (gives a c.args.r c.requires.may)
