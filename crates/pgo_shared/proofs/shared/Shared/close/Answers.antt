use Rattle.std.proofs.Common.{◌≡◌, ◌∙◌, sym, ap, subst, ◌≤◌, ◌<◌, ◌*◌, ℕ, zero, suc, List, [], ◌∷◌, arith, Some, map, length, refl, slice_get}
use Rattle.std.proofs.lemmas.List.{length-map}
use lib.ListN.{get_elem?}
use Rattle.std.specs.Slots.{slots_items}
use Rattle.pgo_model.specs.Log.{Effect}
use Rattle.pgo_model.specs.Machine.{Entry, Note}
use Rattle.pgo_journal.specs.Journal.{JournalView}
use Rattle.pgo_workers.specs.Worlds.{world_of}
use Rattle.pgo_table.specs.Closing.{IsClosed, PassedUpTo, turned_round}
use Rattle.pgo_table.specs.Rule.{Rests, component}
use Rattle.pgo_table.specs.SeatViews.{History}
use Rattle.pgo_shared.specs.Seats.{history_of}
use Rattle.pgo_table.proofs.Closes.{Settled, settled}
use Rattle.pgo_shared.proofs.Closings.{passed_turned, nil_of, turned-length, closed_turned, one_journal, one_content}
use Rattle.pgo_shared.proofs.shared.Shared.close.Goals as goal

below : {A : Type 0} (r : ℕ) (l : List A) (x : A) → slice_get l r ≡ Some x → r < length l
below r [] x e = absurd (grind (arith, e))
below zero (y ∷ l) x e = omega arith
below (suc r) (y ∷ l) x e = let q = below r l x e in omega (arith, q)

pub emptied-requires-clause-contents : goal.emptied-requires-clause-contents
emptied-requires-clause-contents g c r near =
    let y = c.args.self.table.shared.key in let j = c.join_all-seat.ensures in let v = c.join_all-seat.result.me.0 in
    let xs = slots_items c.close_with-closed.result.slots in
    let long = ap (λ (l : List History). length l) j.known in
    let t = turned-length (map history_of c.args.seats.items) in let m = length-map c.args.seats.items history_of in
    let s : Settled (world_of y.layout) g.R.Resource.shows y v xs = settled (world_of y.layout) g.R.Resource.shows y _ v _ xs j.live.0 (nil_of v.holds j.live.2) j.live.1 (nil_of v.spare j.live.3) (omega (arith, long, t, m, c.args.seats.ok.0, c.requires.all.0)) c.close_with-closed.ensures.values.2 in
    let q = s.contents r (omega (arith, near, c.args.self.sized.2)) in (q.0, q.1)

pub emptied-requires-clause-journal : goal.emptied-requires-clause-journal
emptied-requires-clause-journal g c =
    let y = c.args.self.table.shared.key in let j = c.join_all-seat.ensures in let v = c.join_all-seat.result.me.0 in
    let xs = slots_items c.close_with-closed.result.slots in
    let long = ap (λ (l : List History). length l) j.known in
    let t = turned-length (map history_of c.args.seats.items) in let m = length-map c.args.seats.items history_of in
    let s : Settled (world_of y.layout) g.R.Resource.shows y v xs = settled (world_of y.layout) g.R.Resource.shows y _ v _ xs j.live.0 (nil_of v.holds j.live.2) j.live.1 (nil_of v.spare j.live.3) (omega (arith, long, t, m, c.args.seats.ok.0, c.requires.all.0)) c.close_with-closed.ensures.values.2 in
    (s.contents_journal.0, ap (λ n. get_elem? xs n) c.args.self.sized.2 ∙ s.contents_journal.1)

pub returns-clause-closed : goal.returns-clause-closed
returns-clause-closed g c =
    let y = c.args.self.table.shared.key in let j = c.join_all-seat.ensures in let v = c.join_all-seat.result.me.0 in
    let xs = slots_items c.close_with-closed.result.slots in
    let long = ap (λ (l : List History). length l) j.known in
    let t = turned-length (map history_of c.args.seats.items) in let m = length-map c.args.seats.items history_of in
    let s : Settled (world_of y.layout) g.R.Resource.shows y v xs = settled (world_of y.layout) g.R.Resource.shows y _ v _ xs j.live.0 (nil_of v.holds j.live.2) j.live.1 (nil_of v.spare j.live.3) (omega (arith, long, t, m, c.args.seats.ok.0, c.requires.all.0)) c.close_with-closed.ensures.values.2 in
    let out = c.emptied.result.0 in let q = s.contents_journal in
    let same : q.0 ≡ out = one_journal {C = g.row.R.Denot} xs c.args.self.count q.0 out (ap (λ n. get_elem? xs n) c.args.self.sized.2 ∙ q.1) c.emptied.ensures.journal in
    let entries : s.entries ≡ out.entries = sym q.2.entries_are ∙ ap (λ (z : JournalView). z.entries) same in
    let notes : s.notes ≡ out.notes = sym q.2.notes_are ∙ ap (λ (z : JournalView). z.notes) same in
    closed_turned (world_of y.layout) y out.entries out.notes (map history_of c.args.seats.items)
    (subst (λ (l : List History). IsClosed (world_of y.layout) y out.entries out.notes l) j.known
    (subst (λ (ns : List Note). IsClosed (world_of y.layout) y out.entries ns (v.me ∷ v.joined)) notes
    (subst (λ (es : List (Entry Effect)). IsClosed (world_of y.layout) y es s.notes (v.me ∷ v.joined)) entries s.closed)))

pub returns-clause-journal : goal.returns-clause-journal
returns-clause-journal g c =
    let y = c.args.self.table.shared.key in let j = c.join_all-seat.ensures in let v = c.join_all-seat.result.me.0 in
    let xs = slots_items c.close_with-closed.result.slots in
    let long = ap (λ (l : List History). length l) j.known in
    let t = turned-length (map history_of c.args.seats.items) in let m = length-map c.args.seats.items history_of in
    let s : Settled (world_of y.layout) g.R.Resource.shows y v xs = settled (world_of y.layout) g.R.Resource.shows y _ v _ xs j.live.0 (nil_of v.holds j.live.2) j.live.1 (nil_of v.spare j.live.3) (omega (arith, long, t, m, c.args.seats.ok.0, c.requires.all.0)) c.close_with-closed.ensures.values.2 in
    let out = c.emptied.result.0 in let q = s.contents_journal in
    let same : q.0 ≡ out = one_journal {C = g.row.R.Denot} xs c.args.self.count q.0 out (ap (λ n. get_elem? xs n) c.args.self.sized.2 ∙ q.1) c.emptied.ensures.journal in
    record { entries_are = refl; notes_are = refl; start = ap (λ (z : JournalView). z.start) (sym same) ∙ q.2.start; steps = ap (λ (z : JournalView). z.steps) (sym same) ∙ q.2.steps; room = subst (λ (z : JournalView). y.share * length y.layout.ids ≤ z.room) same q.2.room }

pub returns-clause-as_many : goal.returns-clause-as_many
returns-clause-as_many g c = c.emptied.ensures.len ∙ c.args.self.sized.2

pub returns-clause-contents : goal.returns-clause-contents
returns-clause-contents g c =
    let y = c.args.self.table.shared.key in let j = c.join_all-seat.ensures in let v = c.join_all-seat.result.me.0 in
    let xs = slots_items c.close_with-closed.result.slots in
    let long = ap (λ (l : List History). length l) j.known in
    let t = turned-length (map history_of c.args.seats.items) in let m = length-map c.args.seats.items history_of in
    let s : Settled (world_of y.layout) g.R.Resource.shows y v xs = settled (world_of y.layout) g.R.Resource.shows y _ v _ xs j.live.0 (nil_of v.holds j.live.2) j.live.1 (nil_of v.spare j.live.3) (omega (arith, long, t, m, c.args.seats.ok.0, c.requires.all.0)) c.close_with-closed.ensures.values.2 in
    let out = c.emptied.result.0 in let q = s.contents_journal in
    let same : q.0 ≡ out = one_journal {C = g.row.R.Denot} xs c.args.self.count q.0 out (ap (λ n. get_elem? xs n) c.args.self.sized.2 ∙ q.1) c.emptied.ensures.journal in
    let entries : s.entries ≡ out.entries = sym q.2.entries_are ∙ ap (λ (z : JournalView). z.entries) same in
    λ r x at. let near = below r c.emptied.result.1.items x at in let k = s.contents r (omega (arith, near, c.emptied.result.1.ok.0, c.emptied.ensures.len, c.args.self.sized.2)) in
    let one : k.0 ≡ x = one_content {C = g.row.R.Denot} xs r k.0 x k.1 (c.emptied.ensures.contents r x at) in
    subst (λ (z : g.row.R.Denot). Rests g.R.Resource.shows (component (world_of y.layout) out.entries) r z) one (subst (λ (es : List (Entry Effect)). Rests g.R.Resource.shows (component (world_of y.layout) es) r k.0) entries k.2)

pub returns-clause-passed : goal.returns-clause-passed
returns-clause-passed g c =
    let y = c.args.self.table.shared.key in let j = c.join_all-seat.ensures in let v = c.join_all-seat.result.me.0 in
    let xs = slots_items c.close_with-closed.result.slots in
    let long = ap (λ (l : List History). length l) j.known in
    let t = turned-length (map history_of c.args.seats.items) in let m = length-map c.args.seats.items history_of in
    let s : Settled (world_of y.layout) g.R.Resource.shows y v xs = settled (world_of y.layout) g.R.Resource.shows y _ v _ xs j.live.0 (nil_of v.holds j.live.2) j.live.1 (nil_of v.spare j.live.3) (omega (arith, long, t, m, c.args.seats.ok.0, c.requires.all.0)) c.close_with-closed.ensures.values.2 in
    λ r x at. let near = below r c.emptied.result.1.items x at in let k = s.contents r (omega (arith, near, c.emptied.result.1.ok.0, c.emptied.ensures.len, c.args.self.sized.2)) in
    let one : k.0 ≡ x = one_content {C = g.row.R.Denot} xs r k.0 x k.1 (c.emptied.ensures.contents r x at) in
    passed_turned (map history_of c.args.seats.items) r (g.R.Resource.shows x).count
    (subst (λ (z : g.row.R.Denot). PassedUpTo (turned_round (map history_of c.args.seats.items)) r (g.R.Resource.shows z).count) one
    (subst (λ (l : List History). PassedUpTo l r (g.R.Resource.shows k.0).count) j.known k.3))
