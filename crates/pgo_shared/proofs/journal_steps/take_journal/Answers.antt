use Rattle.std.proofs.Common.{◌≡◌, ℕ, ◌+◌, ◌∷◌, Some, None, length, arith, sym, ap, ◌∙◌, subst}
use Rattle.pgo_journal.specs.Journal.{JournalView}
use Rattle.atomic_table.specs.Table.{rest, Me}
use Rattle.pgo_table.specs.SeatViews.{SeatView, TableTerms}
use Rattle.pgo_table.specs.Steps.{Slot, Opened, stepped_at, reads}
use Rattle.pgo_table.specs.SeatCalls.{world}
use Rattle.pgo_table.specs.declared.slots.Stored.{Stored}
use Rattle.pgo_table.specs.declared.slots.Stored.TheVariants.{Journal as AsJournal}
use Rattle.pgo_workers.specs.Worlds.{world_of, HasAll}
use Rattle.pgo_table.proofs.JournalSteps.{opens_keeps}
use Rattle.pgo_table.proofs.Worlds.{proper}
use Rattle.pgo_shared.proofs.Found.{same_journal, journal_refused_at}
use Rattle.pgo_shared.proofs.journal_steps.take_journal.Goals as goal

pub compare_exchange-found-requires : goal.compare_exchange-found-requires
compare_exchange-found-requires g c =
    let sh = c.args.shared.now in let key = sh.table.shared.key in let live = c.requires.live in (
      c.requires.table,
      omega (arith, sh.sized.1),
      opens_keeps world_of HasAll g.R.Resource.shows key (proper key sh.proper.0 sh.proper.1 (omega (arith, sh.few.0, sh.sized.2))) _ _ c.args.seat.now.me sh.count (c.from.result + 1) (omega (arith, c.from.ensures, live.2)) sh.sized.2 live.0 live.1,
    )

pub exchange-stored-requires : goal.exchange-stored-requires
exchange-stored-requires g c =
    let t = c.compare_exchange-found.ensures.2.1 c.if-found-ne0.false in
    let e = ap (λ (m : Me (Slot g.row.R.Denot) SeatView). m.1) t.1 in
    (c.compare_exchange-found.ensures.0 ∙ c.requires.table, (Some (AsJournal t.0), e ∙ ap (λ l. (c.args.shared.now.count, Some (AsJournal t.0)) ∷ rest l) (sym e)))

pub returns-clause-taken : goal.returns-clause-taken
returns-clause-taken g c =
    let v = c.args.seat.now.me.0 in let count = c.args.shared.now.count in
    let t = c.compare_exchange-found.ensures.2.1 c.if-found-ne0.false in let n = c.compare_exchange-found.ensures.2.0 in
    let own : c.from.result + 1 ≡ v.me.number + 1 = omega (arith, c.from.ensures, c.requires.live.2) in
    let same : t.0 ≡ c.in-Some-Journal.journal = same_journal {C = g.row.R.Denot} _ _ _ count _ c.in-Some-Journal.journal t.0 c.exchange-stored.ensures.2 (ap (λ (m : Me (Slot g.row.R.Denot) SeatView). m.1) t.1) (c.in-Some-Journal.is ∙ ap (λ (z : Stored g.row.R.Denot). Some z) c.in-Some-Journal.field-0-is) in
    subst (λ (j : JournalView). (k : ℕ) × (c.exchange-stored.new.seat.me ≡ (stepped_at count k 0 (v.me.number + 1) (reads v j.entries j.notes), (count, None) ∷ c.args.seat.now.me.1)) × Opened (world v) v j) same
    (n, c.exchange-stored.ensures.3 ∙ (ap (λ (m : Me (Slot g.row.R.Denot) SeatView). (m.0, (count, None) ∷ rest m.1)) t.1 ∙ (λ i. (stepped_at count n (c.if-found-ne0.false i) (own i) (reads v t.0.entries t.0.notes), (count, None) ∷ c.args.seat.now.me.1))), t.2)

pub returns-then-found-ne0-clause-refused : goal.returns-then-found-ne0-clause-refused
returns-then-found-ne0-clause-refused g c =
    let sh = c.args.shared.now in let v = c.args.seat.now.me.0 in
    let q = c.compare_exchange-found.ensures.2.2 c.if-found-ne0.true in (
      ap (λ (m : Me (Slot g.row.R.Denot) SeatView). m.1) q.0,
      journal_refused_at v c.compare_exchange-found.new.seat.me.0 sh.count c.compare_exchange-found.result c.compare_exchange-found.ensures.2.0 (sh.sized.2 ∙ ap (λ (f : TableTerms). length f.layout.resources) (sym c.requires.terms)) c.if-found-ne0.true
          (ap (λ (m : Me (Slot g.row.R.Denot) SeatView). m.0) q.0) q.1,
    )
