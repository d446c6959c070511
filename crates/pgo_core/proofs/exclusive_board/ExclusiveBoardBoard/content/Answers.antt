use Rattle.std.proofs.Common.{length, refl, sym, ap, arith, vec_len}
use Rattle.std.specs.Prelude.{if◌then◌else◌}
use Rattle.std.specs.Vec.{with_item}
use Rattle.pgo_resource.specs.PlainSets.{held_among, apart_near}
use Rattle.pgo_resource.proofs.PlainSteps.{free_at, get_slice}
use Rattle.pgo_core.specs.Claims.{claimed, taken_by}
use Rattle.pgo_core.specs.ClaimLaws.{some_by}
use Rattle.pgo_core.specs.ExclusiveBoards.{here, board_ext}
use Rattle.pgo_core.proofs.exclusive_board.ExclusiveBoardBoard.content.Goals as goal

pub index_mut-requires : goal.index_mut-requires
index_mut-requires g c = let a = c.args.self.now in
    let there = some_by a.current c.args.r a.claims.items (held_among g.R.Resource.shows (here a) a.contents.items (taken_by a.current a.claims.items) c.args.r c.requires.held) in
    apart_near g.R.Resource.shows (vec_len a.contents) c.args.r (claimed a.claims.items) a.held_once there

pub invariant_of-self-lent : goal.invariant_of-self-lent
invariant_of-self-lent g c w = let a = c.args.self.now in
    let there = some_by a.current c.args.r a.claims.items (held_among g.R.Resource.shows (here a) a.contents.items (taken_by a.current a.claims.items) c.args.r c.requires.held) in
    (a.is_layout, (a.has_all, (a.as_many, (a.held_once, (a.holders, (a.current_there, (a.own_entries, (free_at g.R.Resource.shows (vec_len a.contents) (here a) a.contents.items (claimed a.claims.items) c.args.r w there a.unheld, (a.within_steps, (a.shares, (a.noted_by, (a.note_room, (a.refused, (a.claim_room, tt))))))))))))))

pub returns : goal.returns
returns g c = let a = c.args.self.now in
    let there = some_by a.current c.args.r a.claims.items (held_among g.R.Resource.shows (here a) a.contents.items (taken_by a.current a.claims.items) c.args.r c.requires.held) in
    let near = apart_near g.R.Resource.shows (vec_len a.contents) c.args.r (claimed a.claims.items) a.held_once there in (
      (refl, λ w. board_ext _ _ refl refl refl (ap (λ b. with_item a.contents (if b then c.args.r else length a.contents.items) w) (sym there)) refl refl refl refl refl),
      record { writes_back = tt; value = get_slice a.contents.items c.args.r c.index_mut.result.now (omega (arith, near, a.contents.ok.0)) c.index_mut.ensures.value; moved = λ c. refl },
    )
