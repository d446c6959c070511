use Rattle.std.proofs.Common.{◌≡◌, ◌∷◌, [], length, sym, ap, ◌∙◌, subst}
use Rattle.std.specs.Prelude.{nat_lt}
use Rattle.pgo_base.specs.View.{data_of}
use Rattle.pgo_model.specs.Log.{Effect}
use Rattle.pgo_model.specs.LogView.{entry_view}
use Rattle.pgo_resource.specs.Layouts.{layout_view}
use Rattle.pgo_shared.specs.SeatBoards.{layout_of_board, shows_of}
use Rattle.pgo_workers.specs.View.{View}
use Rattle.pgo_workers.specs.Worlds.{Layout, resource_change, world_of}
use Rattle.pgo_table_rows.specs.Clients.{IsNow, Knows}
use Rattle.pgo_table_rows.proofs.Knowing.{is_held, may_commit, still_held, settled, not_committed}
use Rattle.pgo_table_rows.proofs.client.Client.commit.Goals as goal

pub value_of-requires : goal.value_of-requires
value_of-requires c =
    let s = c.args.self.now in is_held (shows_of s.board) s.number s.share s.noted s.held.items c.args.r c.requires.knows (sym c.holds.ensures ∙ c.if-not-holds.false)

pub commit-requires : goal.commit-requires
commit-requires c =
    let s = c.args.self.now in let b = c.value_of.new.board in let y = layout_of_board b in let d = data_of c.in_ok-value.value in
    let here : layout_view s.layout.now ≡ y = c.requires.layout_is ∙ sym c.in_ok-value.ensures.layout in
    record {
      may = may_commit y (entry_view c.in_ok-entry.entry) (shows_of b) s.number s.share s.noted s.held.items c.args.r d (sym c.holds.ensures ∙ c.if-not-holds.false)
          c.in_ok-entry.ensures.instance
          (c.in_ok-entry.ensures.changes ∙ ap (λ (z : Layout). resource_change z (c.args.r, d) ∷ []) here)
          (ap (λ (z : Layout). nat_lt c.args.r (length z.resources)) (sym here) ∙ sym c.is_resource.ensures ∙ c.if-not-is_resource.false)
          (subst (λ (v : View Effect). IsNow v c.args.r c.in_ok-value.value) (sym c.in_ok-value.ensures.shows) c.in_ok-value.ensures.value)
          (subst (λ (v : View Effect). Knows v s.number s.share s.noted s.held.items) (sym c.in_ok-value.ensures.shows) c.requires.knows);
    }

pub settle-requires : goal.settle-requires
settle-requires c =
    let s = c.args.self.now in let b = c.value_of.new.board in let y = layout_of_board b in let d = data_of c.in_ok-value.value in
    let here : layout_view s.layout.now ≡ y = c.requires.layout_is ∙ sym c.in_ok-value.ensures.layout in
    still_held y (entry_view c.in_ok-entry.entry) c.in-Ok.n c.args.r d (shows_of b) (shows_of c.commit.new.self) s.number s.share s.noted s.held.items (sym c.holds.ensures ∙ c.if-not-holds.false)
    (c.in_ok-entry.ensures.changes ∙ ap (λ (z : Layout). resource_change z (c.args.r, d) ∷ []) here) c.in-Ok.ensures.ok
    (subst (λ (v : View Effect). Knows v s.number s.share s.noted s.held.items) (sym c.in_ok-value.ensures.shows) c.requires.knows)

pub returns-in-Ok-clause-stands : goal.returns-in-Ok-clause-stands
returns-in-Ok-clause-stands c =
    let s = c.args.self.now in let b = c.value_of.new.board in let y = layout_of_board b in let d = data_of c.in_ok-value.value in
    let here : layout_view s.layout.now ≡ y = c.requires.layout_is ∙ sym c.in_ok-value.ensures.layout in
    record {
      layout_is = here ∙ sym c.commit.ensures.layout ∙ sym c.settle.ensures.layout;
      knows = settled y (entry_view c.in_ok-entry.entry) c.in-Ok.n c.args.r d (shows_of b) (shows_of c.commit.new.self) (shows_of c.settle.new.board) s.number s.share s.noted s.held.items (sym c.holds.ensures ∙ c.if-not-holds.false)
          (c.in_ok-entry.ensures.changes ∙ ap (λ (z : Layout). resource_change z (c.args.r, d) ∷ []) here)
          (subst (λ (v : View Effect). IsNow v c.args.r c.in_ok-value.value) (sym c.in_ok-value.ensures.shows) c.in_ok-value.ensures.value)
          c.in-Ok.ensures.ok c.settle.ensures.shows
          (subst (λ (v : View Effect). Knows v s.number s.share s.noted s.held.items) (sym c.in_ok-value.ensures.shows) c.requires.knows);
    }

pub returns-in-Err-clause-stands : goal.returns-in-Err-clause-stands
returns-in-Err-clause-stands c =
    let s = c.args.self.now in let b = c.value_of.new.board in let y = layout_of_board b in
    let here : layout_view s.layout.now ≡ y = c.requires.layout_is ∙ sym c.in_ok-value.ensures.layout in
    record {
      layout_is = here ∙ sym c.commit.ensures.layout;
      knows = not_committed (world_of y) c.in-Err.refused.refusal (shows_of b) (shows_of c.commit.new.self) s.number s.share s.noted s.held.items c.in-Err.ensures.err.1
          (subst (λ (v : View Effect). Knows v s.number s.share s.noted s.held.items) (sym c.in_ok-value.ensures.shows) c.requires.knows);
    }
