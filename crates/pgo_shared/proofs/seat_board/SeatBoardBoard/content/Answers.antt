use Rattle.std.proofs.Common.{ℕ, Some, get_or, sym, ap, ◌∙◌, refl}
use Rattle.pgo_shared.specs.SeatBoards.{view_of, board_ext}
use Rattle.pgo_table.proofs.Cuts.{placed}
use Rattle.pgo_shared.proofs.Boarding.{rows_some, some_there, content_is}
use Rattle.std.specs.Vec.{with_item}
use Rattle.pgo_shared.proofs.seat_board.SeatBoardBoard.content.Goals as goal

pub place-place-requires : goal.place-place-requires
place-place-requires g c =
    let a = c.args.self.now in let h = some_there _ c.requires.held in let q = rows_some g.R.Resource.shows (view_of a).holds a.contents.items c.args.r h.0 h.1 in
    placed (view_of a).holds c.args.r q.0 q.2

pub returns : goal.returns
returns g c =
    let a = c.args.self.now in let first = c.place-place.ensures.first in
    let h = some_there _ c.requires.held in let q = rows_some g.R.Resource.shows (view_of a).holds a.contents.items c.args.r h.0 h.1 in (
      (refl, λ w. board_ext _ _ refl refl (ap (λ (p : ℕ). with_item a.contents p w) first) refl),
      record {
        writes_back = tt;
        value = content_is a c.args.r q.0 c.index_mut.result.now q.2 ∙ ap Some (sym (c.index_mut.ensures.value ∙ ap (λ (p : ℕ). get_or a.contents.items p c.index_mut.result.now) first));
        moved = λ c. refl;
      },
    )
