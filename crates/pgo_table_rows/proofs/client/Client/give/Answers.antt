use Rattle.std.proofs.Common.{sym, ap, ◌∙◌, subst}
use Rattle.pgo_shared.specs.SeatBoards.{layout_of_board, shows_of}
use Rattle.pgo_workers.specs.Worlds.{world_of}
use Rattle.pgo_table_rows.specs.Clients.{Knows, others}
use Rattle.pgo_table_rows.proofs.Knowing.{is_held, was_put_back, gave}
use Rattle.pgo_table_rows.proofs.client.Client.give.Goals as goal

pub put_back-requires : goal.put_back-requires
put_back-requires c =
    let s = c.args.self.now in is_held (shows_of s.board) s.number s.share s.noted s.held.items c.args.r c.requires.knows (sym c.holds.ensures ∙ c.if-not-holds.false)

pub give-requires : goal.give-requires
give-requires c =
    let s = c.args.self.now in
    record { may = (was_put_back c.args.r (shows_of s.board) (shows_of c.put_back.new.board) s.number s.share s.noted s.held.items (sym c.holds.ensures ∙ c.if-not-holds.false) c.put_back.ensures.shows c.requires.knows).1 }

pub returns-clause-stands : goal.returns-clause-stands
returns-clause-stands c =
    let s = c.args.self.now in let m = c.put_back.new.board in let b = c.give.new.self in
    let k = (was_put_back c.args.r (shows_of s.board) (shows_of m) s.number s.share s.noted s.held.items (sym c.holds.ensures ∙ c.if-not-holds.false) c.put_back.ensures.shows c.requires.knows).0 in
    record {
      layout_is = c.requires.layout_is ∙ sym c.put_back.ensures.layout ∙ sym c.give.ensures.layout;
      knows = subst (λ l. Knows (shows_of b) s.number s.share s.noted l) (sym (c.in_ok-left.ensures ∙ ap (others c.args.r) c.as_slice.ensures.value))
          (gave (world_of (layout_of_board m)) c.args.r (shows_of m) (shows_of b) s.number s.share s.noted s.held.items c.give.ensures.gives k);
    }
