use Rattle.std.proofs.Common.{◌++◌, ◌∷◌, [], sym, ap, ◌∙◌, subst}
use Rattle.pgo_shared.specs.SeatBoards.{layout_of_board, shows_of}
use Rattle.pgo_workers.specs.Worlds.{world_of}
use Rattle.pgo_table_rows.specs.Clients.{Knows}
use Rattle.pgo_table_rows.proofs.Knowing.{not_held, took, not_taken}
use Rattle.pgo_table_rows.proofs.client.Client.take.Goals as goal

pub take-requires-clause-free : goal.take-requires-clause-free
take-requires-clause-free c =
    let s = c.args.self.now in not_held (shows_of s.board) s.number s.share s.noted s.held.items c.args.r c.requires.knows (sym c.holds.ensures ∙ c.if-holds.false)

pub returns-in-Ok-clause-stands : goal.returns-in-Ok-clause-stands
returns-in-Ok-clause-stands c =
    let s = c.args.self.now in let b = c.take.new.self in
    record {
      layout_is = c.requires.layout_is ∙ sym c.take.ensures.layout;
      knows = subst (λ l. Knows (shows_of b) s.number s.share s.noted l) (sym (c.push_reserved.ensures.items ∙ ap (λ l. l ++ c.args.r ∷ []) c.in_ok-reserve.ensures.items))
          (took (world_of (layout_of_board s.board)) c.args.r (shows_of s.board) (shows_of b) s.number s.share s.noted s.held.items (sym c.holds.ensures ∙ c.if-holds.false) c.in-Ok.ensures.ok c.requires.knows);
    }

pub returns-in-Err-clause-stands : goal.returns-in-Err-clause-stands
returns-in-Err-clause-stands c =
    let s = c.args.self.now in let b = c.take.new.self in
    record {
      layout_is = c.requires.layout_is ∙ sym c.take.ensures.layout;
      knows = subst (λ l. Knows (shows_of b) s.number s.share s.noted l) (sym c.in_ok-reserve.ensures.items)
          (not_taken (world_of (layout_of_board s.board)) c.args.r c.in-Err.refusal (shows_of s.board) (shows_of b) s.number s.share s.noted s.held.items c.in-Err.ensures.err c.requires.knows);
    }
