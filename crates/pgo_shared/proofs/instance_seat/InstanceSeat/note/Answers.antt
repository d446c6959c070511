use Rattle.std.proofs.Common.{◌≡◌, ℕ, ◌+◌, ◌<◌, ◌≤◌, length, arith, sym, ap, ◌∙◌, subst}
use Rattle.std.specs.Prelude.{vec_capacity}
use Rattle.atomic_table.specs.Table.{Me}
use Rattle.pgo_journal.specs.Journal.{JournalView, placed}
use Rattle.pgo_syntax.specs.RecordView.{note_view}
use Rattle.pgo_resource.specs.PlainRows.{apart}
use Rattle.pgo_workers.specs.View.{notes_of}
use Rattle.pgo_table.specs.SeatViews.{SeatView, TableTerms, resources}
use Rattle.pgo_table.specs.Steps.{Slot, Opened, reads, noted, stepped_at}
use Rattle.pgo_table.specs.SeatCalls.{world}
use Rattle.pgo_table.proofs.Logs.{notes-append, notes-others}
use Rattle.pgo_table.proofs.Worlds.{proper}
use Rattle.pgo_table.proofs.Releases.{found_of, laid, note_at, noted_one}
use Rattle.pgo_shared.proofs.instance_seat.InstanceSeat.note.Goals as goal

-- what the seat has seen of its notes are all
left_of : (v : SeatView) (j : JournalView) (n : ℕ) → v.me.number ≡ n → Opened (world v) v j → notes_of n v.me.notes < v.terms.share → notes_of v.me.number j.notes < v.terms.share
left_of v j n is o left =
    let e = ap (notes_of v.me.number) o.notes_are in let a = notes-append v.me.number v.me.notes o.notes_more in let z = notes-others v.me.number o.notes_more o.other_notes in
    let l : notes_of v.me.number v.me.notes < v.terms.share = subst (λ k. notes_of k v.me.notes < v.terms.share) (sym is) left in omega (arith, e, a, z, l)

pub note-position-requires : goal.note-position-requires
note-position-requires g c = let a = c.args.self.now in let o = c.in-Ok.ensures.taken.2 in o.note_room (left_of a.seat.me.0 c.in-Ok.journal a.number a.numbered o c.requires.share)

pub store-requires : goal.store-requires
store-requires g c =
    let a = c.args.self.now in let sh = c.args.shared.now in let key = sh.table.shared.key in let t = c.in-Ok.ensures.taken in (
      c.exchange.ensures.0 ∙ (c.in-Ok.ensures.table ∙ c.requires.table),
      omega (arith, sh.sized.1),
      note_at g.R.Resource.shows key (proper key sh.proper.0 sh.proper.1 (omega (arith, sh.few.0, sh.sized.2))) _ _ sh.count sh.sized.2 a.seat.me.0 t.0 a.seat.me.1 c.in-Ok.journal c.note-position.new.self (placed c.note-position.result (note_view c.args.n)) c.exchange.new.seat.me a.live t.2 (c.requires.may ∙ sym a.numbered)
          (left_of a.seat.me.0 c.in-Ok.journal a.number a.numbered t.2 c.requires.share) c.note-position.ensures.noted
          (laid sh.count (stepped_at sh.count t.0 0 (a.seat.me.0.me.number + 1) (reads a.seat.me.0 c.in-Ok.journal.entries c.in-Ok.journal.notes)) a.seat.me.1 c.note-position.new.self c.take_journal-taken.new.seat.me c.exchange.new.seat.me t.1 c.exchange.ensures.3),
    )

pub invariant_of-self-2 : goal.invariant_of-self-2
invariant_of-self-2 g c =
    let a = c.args.self.now in let sh = c.args.shared.now in let key = sh.table.shared.key in let t = c.in-Ok.ensures.taken in
    let lies = laid sh.count (stepped_at sh.count t.0 0 (a.seat.me.0.me.number + 1) (reads a.seat.me.0 c.in-Ok.journal.entries c.in-Ok.journal.notes)) a.seat.me.1 c.note-position.new.self c.take_journal-taken.new.seat.me c.exchange.new.seat.me t.1 c.exchange.ensures.3 in
    let now = noted_one g.R.Resource.shows key (proper key sh.proper.0 sh.proper.1 (omega (arith, sh.few.0, sh.sized.2))) sh.table.shared.table_id.slots 0 sh.count sh.sized.2 a.seat.me.0 t.0 a.seat.me.1 c.in-Ok.journal c.note-position.new.self (placed c.note-position.result (note_view c.args.n)) c.exchange.new.seat.me c.store.new.seat.me c.note-position.ensures.noted lies c.store.ensures.2 in
    let view = ap (λ (m : Me (Slot g.row.R.Denot) SeatView). m.0) now.1 in
    record {
      live = ap (λ (v : SeatView). v.gone) view ∙ a.live;
      numbered = ap (λ (v : SeatView). v.me.number) view ∙ a.numbered;
      lone = (ap (λ (v : SeatView). length v.joined) view ∙ a.lone.0, ap (λ (v : SeatView). length v.spare) view ∙ a.lone.1);
      free = ap (λ (v : SeatView). v.has) view;
      carried = ap (λ (m : Me (Slot g.row.R.Denot) SeatView). m.1) now.1 ∙ a.carried;
      listed = ap (λ (v : SeatView). resources v.holds) view ∙ a.listed;
      apart = ap (λ (v : SeatView). apart (length v.terms.layout.resources) a.held.items) view ∙ a.apart;
      room = subst (λ (v : SeatView). length v.terms.layout.resources ≤ vec_capacity a.held) (sym view) a.room;
    }

pub returns-clause-ok : goal.returns-clause-ok
returns-clause-ok g c =
    let a = c.args.self.now in let sh = c.args.shared.now in let key = sh.table.shared.key in let t = c.in-Ok.ensures.taken in
    let lies = laid sh.count (stepped_at sh.count t.0 0 (a.seat.me.0.me.number + 1) (reads a.seat.me.0 c.in-Ok.journal.entries c.in-Ok.journal.notes)) a.seat.me.1 c.note-position.new.self c.take_journal-taken.new.seat.me c.exchange.new.seat.me t.1 c.exchange.ensures.3 in
    let now = noted_one g.R.Resource.shows key (proper key sh.proper.0 sh.proper.1 (omega (arith, sh.few.0, sh.sized.2))) sh.table.shared.table_id.slots 0 sh.count sh.sized.2 a.seat.me.0 t.0 a.seat.me.1 c.in-Ok.journal c.note-position.new.self (placed c.note-position.result (note_view c.args.n)) c.exchange.new.seat.me c.store.new.seat.me c.note-position.ensures.noted lies c.store.ensures.2 in
    record {
      entries = c.in-Ok.journal.entries;
      notes = c.in-Ok.journal.notes;
      opened = t.0;
      released = now.0;
      found = found_of a.seat.me.0 c.in-Ok.journal t.2;
      position = c.note-position.ensures.position;
      view = subst (λ (i : ℕ). c.store.new.seat.me.0 ≡ stepped_at i now.0 (a.seat.me.0.me.number + 1) 0 (noted (stepped_at i t.0 0 (a.seat.me.0.me.number + 1) (reads a.seat.me.0 c.in-Ok.journal.entries c.in-Ok.journal.notes)) (placed c.note-position.result (note_view c.args.n))))
          (sh.sized.2 ∙ ap (λ (f : TableTerms). length f.layout.resources) (sym c.requires.terms)) (ap (λ (m : Me (Slot g.row.R.Denot) SeatView). m.0) now.1);
    }
