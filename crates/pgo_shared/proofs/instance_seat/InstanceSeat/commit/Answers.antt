use Rattle.std.proofs.Common.{◌≡◌, ℕ, suc, ◌+◌, ◌≤◌, true, false, [], ◌∷◌, length, arith, refl, sym, ap, ◌∙◌, subst}
use Rattle.std.specs.Prelude.{vec_capacity}
use Rattle.atomic_table.specs.Table.{Me}
use Rattle.pgo_journal.specs.Journal.{JournalView}
use Rattle.pgo_model.specs.LogView.{entry_view}
use Rattle.pgo_resource.specs.PlainRows.{apart}
use Rattle.pgo_workers.specs.Worlds.{IsLayout, HasAll}
use Rattle.pgo_table.specs.SeatViews.{SeatView, TableTerms, resources}
use Rattle.pgo_table.specs.Steps.{Slot, reads, wrote, filled, stepped_at}
use Rattle.pgo_table.specs.SeatCalls.{world}
use Rattle.pgo_table.proofs.Logs.{length_append}
use Rattle.pgo_table.proofs.Sums.{resources_renewed}
use Rattle.pgo_table.proofs.Worlds.{proper, may_append}
use Rattle.pgo_table.proofs.Releases.{found_of, laid, commit_at, committed, fill_at, filled_up}
use Rattle.pgo_shared.proofs.instance_seat.InstanceSeat.commit.Goals as goal

not_true : false ≡ true → ⊥
not_true e = grind (arith, e)

fits : (a b : ℕ) → a ≤ b → (a ≡ b → ⊥) → suc a ≤ b
fits a b h ne = omega (arith, h, ne)

pub append-requires : goal.append-requires
append-requires g c =
    let sh = c.args.shared.now in let o = c.in-Ok.ensures.taken.2 in
    let y = ap (λ (f : TableTerms). f.layout) (sym c.requires.terms) in
    may_append c.args.self.now.seat.me.0.terms.layout (subst IsLayout y sh.proper.0) (subst (λ z. HasAll z z.start) y sh.proper.1) c.in-Ok.journal (entry_view c.args.e) o.is_journal.start o.all_of c.requires.may.1

pub store-requires : goal.store-requires
store-requires g c =
    let a = c.args.self.now in let sh = c.args.shared.now in let key = sh.table.shared.key in let t = c.in-Ok.ensures.taken in (
      c.exchange.ensures.0 ∙ (c.in-Ok.ensures.table ∙ c.requires.table),
      omega (arith, sh.sized.1),
      commit_at g.R.Resource.shows key (proper key sh.proper.0 sh.proper.1 (omega (arith, sh.few.0, sh.sized.2))) _ _ sh.count sh.sized.2 a.seat.me.0 t.0 a.seat.me.1 c.in-Ok.journal c.append.new.self (entry_view c.args.e) c.exchange.new.seat.me a.live t.2 c.requires.may c.in-Ok-append.ensures.appended
          (λ e. not_true (c.in-Ok-append.ensures.full.1 e))
          (laid sh.count (stepped_at sh.count t.0 0 (a.seat.me.0.me.number + 1) (reads a.seat.me.0 c.in-Ok.journal.entries c.in-Ok.journal.notes)) a.seat.me.1 c.append.new.self c.take_journal-taken.new.seat.me c.exchange.new.seat.me t.1 c.exchange.ensures.3),
    )

pub store-requires-in-Err-append : goal.store-requires-in-Err-append
store-requires-in-Err-append g c =
    let a = c.args.self.now in let sh = c.args.shared.now in let key = sh.table.shared.key in let t = c.in-Ok.ensures.taken in (
      c.exchange-in-Err-append.ensures.0 ∙ (c.in-Ok.ensures.table ∙ c.requires.table),
      omega (arith, sh.sized.1),
      fill_at g.R.Resource.shows key (proper key sh.proper.0 sh.proper.1 (omega (arith, sh.few.0, sh.sized.2))) _ _ sh.count sh.sized.2 a.seat.me.0 t.0 a.seat.me.1 c.in-Ok.journal c.append.new.self c.exchange-in-Err-append.new.seat.me a.live t.2 c.in-Err-append.ensures.unchanged
          (laid sh.count (stepped_at sh.count t.0 0 (a.seat.me.0.me.number + 1) (reads a.seat.me.0 c.in-Ok.journal.entries c.in-Ok.journal.notes)) a.seat.me.1 c.append.new.self c.take_journal-taken.new.seat.me c.exchange-in-Err-append.new.seat.me t.1 c.exchange-in-Err-append.ensures.3),
    )

pub invariant_of-self-in-Ok-append : goal.invariant_of-self-in-Ok-append
invariant_of-self-in-Ok-append g c =
    let a = c.args.self.now in let sh = c.args.shared.now in let key = sh.table.shared.key in let t = c.in-Ok.ensures.taken in
    let lies = laid sh.count (stepped_at sh.count t.0 0 (a.seat.me.0.me.number + 1) (reads a.seat.me.0 c.in-Ok.journal.entries c.in-Ok.journal.notes)) a.seat.me.1 c.append.new.self c.take_journal-taken.new.seat.me c.exchange.new.seat.me t.1 c.exchange.ensures.3 in
    let now = committed g.R.Resource.shows key (proper key sh.proper.0 sh.proper.1 (omega (arith, sh.few.0, sh.sized.2))) sh.table.shared.table_id.slots 0 sh.count sh.sized.2 a.seat.me.0 t.0 a.seat.me.1 c.in-Ok.journal c.append.new.self (entry_view c.args.e) c.exchange.new.seat.me c.store.new.seat.me c.in-Ok-append.ensures.appended lies c.store.ensures.2 in
    let view = ap (λ (m : Me (Slot g.row.R.Denot) SeatView). m.0) now.1 in
    record {
      live = ap (λ (v : SeatView). v.gone) view ∙ a.live;
      numbered = ap (λ (v : SeatView). v.me.number) view ∙ a.numbered;
      lone = (ap (λ (v : SeatView). length v.joined) view ∙ a.lone.0, ap (λ (v : SeatView). length v.spare) view ∙ a.lone.1);
      free = ap (λ (v : SeatView). v.has) view;
      carried = ap (λ (m : Me (Slot g.row.R.Denot) SeatView). m.1) now.1 ∙ a.carried;
      listed = ap (λ (v : SeatView). resources v.holds) view ∙ (resources_renewed ((world a.seat.me.0).changes (entry_view c.args.e).change) a.seat.me.0.holds ∙ a.listed);
      apart = ap (λ (v : SeatView). apart (length v.terms.layout.resources) a.held.items) view ∙ a.apart;
      room = subst (λ (v : SeatView). length v.terms.layout.resources ≤ vec_capacity a.held) (sym view) a.room;
    }

pub returns-in-Ok-append-clause-ok : goal.returns-in-Ok-append-clause-ok
returns-in-Ok-append-clause-ok g c =
    let a = c.args.self.now in let sh = c.args.shared.now in let key = sh.table.shared.key in let t = c.in-Ok.ensures.taken in
    let lies = laid sh.count (stepped_at sh.count t.0 0 (a.seat.me.0.me.number + 1) (reads a.seat.me.0 c.in-Ok.journal.entries c.in-Ok.journal.notes)) a.seat.me.1 c.append.new.self c.take_journal-taken.new.seat.me c.exchange.new.seat.me t.1 c.exchange.ensures.3 in
    let now = committed g.R.Resource.shows key (proper key sh.proper.0 sh.proper.1 (omega (arith, sh.few.0, sh.sized.2))) sh.table.shared.table_id.slots 0 sh.count sh.sized.2 a.seat.me.0 t.0 a.seat.me.1 c.in-Ok.journal c.append.new.self (entry_view c.args.e) c.exchange.new.seat.me c.store.new.seat.me c.in-Ok-append.ensures.appended lies c.store.ensures.2 in
    let longer = ap (λ (j : JournalView). length j.entries) c.in-Ok-append.ensures.appended ∙ length_append c.in-Ok.journal.entries (entry_view c.args.e ∷ []) in
    record {
      entries = c.in-Ok.journal.entries;
      notes = c.in-Ok.journal.notes;
      opened = t.0;
      released = now.0;
      found = found_of a.seat.me.0 c.in-Ok.journal t.2;
      number = omega (arith, c.in-Ok-append.ensures.number, longer);
      room = fits (length c.in-Ok.journal.entries) a.seat.me.0.terms.steps t.2.within_steps (λ e. not_true (c.in-Ok-append.ensures.full.1 (e ∙ sym t.2.is_journal.steps)));
      view = subst (λ (i : ℕ). c.store.new.seat.me.0 ≡ stepped_at i now.0 (a.seat.me.0.me.number + 1) 0 (wrote (world a.seat.me.0) (stepped_at i t.0 0 (a.seat.me.0.me.number + 1) (reads a.seat.me.0 c.in-Ok.journal.entries c.in-Ok.journal.notes)) (entry_view c.args.e)))
          (sh.sized.2 ∙ ap (λ (f : TableTerms). length f.layout.resources) (sym c.requires.terms)) (ap (λ (m : Me (Slot g.row.R.Denot) SeatView). m.0) now.1);
    }

pub invariant_of-self-in-Err-append : goal.invariant_of-self-in-Err-append
invariant_of-self-in-Err-append g c =
    let a = c.args.self.now in let sh = c.args.shared.now in let key = sh.table.shared.key in let t = c.in-Ok.ensures.taken in
    let lies = laid sh.count (stepped_at sh.count t.0 0 (a.seat.me.0.me.number + 1) (reads a.seat.me.0 c.in-Ok.journal.entries c.in-Ok.journal.notes)) a.seat.me.1 c.append.new.self c.take_journal-taken.new.seat.me c.exchange-in-Err-append.new.seat.me t.1 c.exchange-in-Err-append.ensures.3 in
    let now = filled_up g.R.Resource.shows key (proper key sh.proper.0 sh.proper.1 (omega (arith, sh.few.0, sh.sized.2))) sh.table.shared.table_id.slots 0 sh.count sh.sized.2 a.seat.me.0 t.0 a.seat.me.1 c.in-Ok.journal.entries c.in-Ok.journal.notes c.append.new.self c.exchange-in-Err-append.new.seat.me c.store-in-Err-append.new.seat.me lies c.store-in-Err-append.ensures.2 in
    let view = ap (λ (m : Me (Slot g.row.R.Denot) SeatView). m.0) now.1 in
    record {
      live = ap (λ (v : SeatView). v.gone) view ∙ a.live;
      numbered = ap (λ (v : SeatView). v.me.number) view ∙ a.numbered;
      lone = (ap (λ (v : SeatView). length v.joined) view ∙ a.lone.0, ap (λ (v : SeatView). length v.spare) view ∙ a.lone.1);
      free = ap (λ (v : SeatView). v.has) view;
      carried = ap (λ (m : Me (Slot g.row.R.Denot) SeatView). m.1) now.1 ∙ a.carried;
      listed = ap (λ (v : SeatView). resources v.holds) view ∙ a.listed;
      apart = ap (λ (v : SeatView). apart (length v.terms.layout.resources) a.held.items) view ∙ a.apart;
      room = subst (λ (v : SeatView). length v.terms.layout.resources ≤ vec_capacity a.held) (sym view) a.room;
    }

pub returns-in-Err-append-clause-err : goal.returns-in-Err-append-clause-err
returns-in-Err-append-clause-err g c =
    let a = c.args.self.now in let sh = c.args.shared.now in let key = sh.table.shared.key in let t = c.in-Ok.ensures.taken in
    let lies = laid sh.count (stepped_at sh.count t.0 0 (a.seat.me.0.me.number + 1) (reads a.seat.me.0 c.in-Ok.journal.entries c.in-Ok.journal.notes)) a.seat.me.1 c.append.new.self c.take_journal-taken.new.seat.me c.exchange-in-Err-append.new.seat.me t.1 c.exchange-in-Err-append.ensures.3 in
    let now = filled_up g.R.Resource.shows key (proper key sh.proper.0 sh.proper.1 (omega (arith, sh.few.0, sh.sized.2))) sh.table.shared.table_id.slots 0 sh.count sh.sized.2 a.seat.me.0 t.0 a.seat.me.1 c.in-Ok.journal.entries c.in-Ok.journal.notes c.append.new.self c.exchange-in-Err-append.new.seat.me c.store-in-Err-append.new.seat.me lies c.store-in-Err-append.ensures.2 in (
      ap (λ z. z.entry) c.in-Err-append.ensures.refused,
      record {
        entries = c.in-Ok.journal.entries;
        notes = c.in-Ok.journal.notes;
        opened = t.0;
        released = now.0;
        found = found_of a.seat.me.0 c.in-Ok.journal t.2;
        number = ap (λ z. z.entries) c.in-Err-append.ensures.refused ∙ t.2.is_journal.steps;
        full = c.in-Err-append.ensures.full.0 refl ∙ t.2.is_journal.steps;
        view = subst (λ (i : ℕ). c.store-in-Err-append.new.seat.me.0 ≡ stepped_at i now.0 (a.seat.me.0.me.number + 1) 0 (filled (stepped_at i t.0 0 (a.seat.me.0.me.number + 1) (reads a.seat.me.0 c.in-Ok.journal.entries c.in-Ok.journal.notes)) a.seat.me.0.terms.steps))
            (sh.sized.2 ∙ ap (λ (f : TableTerms). length f.layout.resources) (sym c.requires.terms)) (ap (λ (m : Me (Slot g.row.R.Denot) SeatView). m.0) now.1);
      },
    )
