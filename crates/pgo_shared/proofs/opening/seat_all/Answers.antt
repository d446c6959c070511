use Rattle.std.proofs.Common.{◌≡◌, ◌∙◌, sym, ap, ◌<◌, ◌-◌, ◌+◌, length, arith}
use Rattle.atomic_table.specs.Table.{Me}
use Rattle.pgo_workers.specs.Worlds.{world_of}
use Rattle.pgo_shared.specs.Seats.{IsFreshSeat}
use Rattle.pgo_table.specs.SeatViews.{SeatView, no_history, upto}
use Rattle.pgo_table.specs.Steps.{Slot}
use Rattle.pgo_table.proofs.Seated.{splits_upto, parted, pushed_each}
use Rattle.pgo_shared.proofs.opening.seat_all.Goals as goal

pub split_seat-new-requires : goal.split_seat-new-requires
split_seat-new-requires g c =
    let v = c.loop-k.invariant in let sh = c.args.shared.now in let s = v.spare in
    let left : 0 < c.args.count - 1 - c.loop-k.k = omega (arith, c.loop-k-test.true) in
    (v.same, omega (arith, sh.sized.1), splits_upto (world_of sh.table.shared.key.layout) g.R.Resource.shows _ _ c.loop-k.seat.me.0 c.loop-k.k (c.args.count - 1 - c.loop-k.k) s.2 left s.0)

pub loop-k-preserved : goal.loop-k-preserved
loop-k-preserved g c =
    let v = c.loop-k.invariant in let z = v.spare in let e = c.split_seat-new.ensures in let s = c.in_ok-sit.field-0 in let made = c.in_ok-sit.ensures in
    let left : 0 < c.args.count - 1 - c.loop-k.k = omega (arith, c.loop-k-test.true) in
    let p = parted c.loop-k.seat.me.0.spare c.loop-k.k (c.args.count - 1 - c.loop-k.k) z.2 left in
    let fewer : c.args.count - 1 - c.loop-k.k - 1 ≡ c.args.count - 1 - (c.loop-k.k + 1) = omega arith in
    let view = ap (λ (m : Me (Slot g.row.R.Denot) SeatView). m.0) e.2 in
    let new = ap (λ (m : Me (Slot g.row.R.Denot) SeatView). m.0) e.4 in record {
      spare = (
        ap (λ (w : SeatView). w.gone) view ∙ z.0,
        ap (λ (w : SeatView). w.me) view ∙ z.1,
        ap (λ (w : SeatView). w.spare) view ∙ (p.1 ∙ ap (upto (c.loop-k.k + 1)) fewer),
        ap (λ (w : SeatView). w.has) view ∙ z.3,
        ap (λ (w : SeatView). length w.joined) view ∙ z.4,
        ap (λ (w : SeatView). w.holds) view ∙ z.5,
        ap (λ (m : Me (Slot g.row.R.Denot) SeatView). m.1) e.2 ∙ z.6,
      );
      same = e.0 ∙ v.same;
      terms = ap (λ (w : SeatView). w.terms) view ∙ v.terms;
      made = omega (arith, c.push_reserved.ensures.len, v.made);
      room = omega (arith, c.push_reserved.ensures.capacity, v.room);
      each = pushed_each (λ i x. IsFreshSeat c.args.shared.now i x) c.loop-k.seats.items c.push_reserved.new.self.items s c.loop-k.k (sym c.loop-k.seats.ok.0 ∙ v.made) c.push_reserved.ensures.items v.each
          ((ap (λ x. x.table_id) made.0 ∙ (e.3 ∙ v.same), ap (λ x. x.me.0.terms) made.0 ∙ (ap (λ (w : SeatView). w.terms) new ∙ v.terms)), ap (λ x. x.me.0.me) made.0 ∙ (ap (λ (w : SeatView). w.me) new ∙ ap no_history p.0));
    }

pub returns : goal.returns
returns g c =
    let v = c.loop-k.invariant in let z = v.spare in let s = c.in_ok-sit-2.field-0 in let made = c.in_ok-sit-2.ensures in
    let here : c.args.count - 1 ≡ c.loop-k.k = omega (arith, c.loop-k-test.false, c.loop-k.auto.k-end) in
    let each = pushed_each (λ i x. IsFreshSeat c.args.shared.now i x) c.loop-k.seats.items c.push_reserved-2.new.self.items s c.loop-k.k (sym c.loop-k.seats.ok.0 ∙ v.made) c.push_reserved-2.ensures.items v.each
    ((ap (λ x. x.table_id) made.0 ∙ v.same, ap (λ x. x.me.0.terms) made.0 ∙ v.terms), ap (λ x. x.me.0.me) made.0 ∙ (z.1 ∙ ap no_history here)) in
    (omega (arith, c.push_reserved-2.ensures.len, v.made, here, c.requires.count), λ k d near. each k d (omega (arith, near, here, c.requires.count)))
