use Rattle.std.proofs.Common.{◌≡◌, ◌∙◌, sym, ap, List, [], ◌∷◌, ◌++◌, arith, map, length, append_assoc}
use Rattle.std.proofs.lemmas.List.{length-append}
use Rattle.std.specs.Option.{option_to_list}
use Rattle.atomic_table.specs.Table.{Me}
use Rattle.pgo_workers.specs.Worlds.{world_of}
use Rattle.pgo_table.specs.Closing.{turned_round}
use Rattle.pgo_table.specs.SeatViews.{SeatView, History}
use Rattle.pgo_shared.specs.Seats.{history_of}
use Rattle.pgo_table.specs.Steps.{Slot}
use Rattle.pgo_shared.proofs.Closings.{nil_of, no_slots, last_of, rest_of, known-push}
use Rattle.pgo_table.proofs.Seating.{joins}
use Rattle.pgo_shared.proofs.closing.join_all.Goals as goal

pub loop-other-init : goal.loop-other-init
loop-other-init g c =
    let s = c.unwrap-instance.result in
    let is : c.args.seats.items ≡ c.pop.new.self.items ++ s ∷ [] = c.pop.ensures.items ∙ ap (λ o. c.pop.new.self.items ++ option_to_list o) c.unwrap-instance.ensures in record {
      same = (last_of c.args.shared.now c.args.seats.items c.pop.new.self.items s is c.requires.all.1).0;
      live = (s.instance.live, s.instance.free, s.empty.0, s.instance.lone.1);
      known = ap (λ (l : List History). history_of s ∷ (l ++ turned_round (map history_of c.pop.new.self.items))) (nil_of s.instance.seat.me.0.joined s.instance.lone.0) ∙ (sym (known-push c.pop.new.self.items s) ∙ ap (λ l. turned_round (map history_of l)) (sym is));
      all = rest_of c.args.shared.now c.args.seats.items c.pop.new.self.items (s ∷ []) is c.requires.all.1;
    }

pub join_seat-requires : goal.join_seat-requires
join_seat-requires g c =
    let v = c.loop-other.invariant in let x = c.in-Some.other in let sh = c.args.shared.now in
    let is : c.loop-other.seats.items ≡ c.pop-in-loop-other.new.self.items ++ x ∷ [] = c.pop-in-loop-other.ensures.items ∙ ap (λ o. c.pop-in-loop-other.new.self.items ++ option_to_list o) c.in-Some.is in (
      v.same,
      (last_of sh c.loop-other.seats.items c.pop-in-loop-other.new.self.items x is v.all).0,
      no_slots x,
      omega (arith, sh.sized.1),
      joins (world_of sh.table.shared.key.layout) g.R.Resource.shows sh.table.shared.key _ c.loop-other.seat.me.0 _ x.instance.seat.me.0 v.live.0 x.instance.live (nil_of x.instance.seat.me.0.holds x.empty.0) x.instance.free,
    )

pub loop-other-preserved : goal.loop-other-preserved
loop-other-preserved g c =
    let v = c.loop-other.invariant in let x = c.in-Some.other in let e = c.join_seat.ensures.2 in
    let is : c.loop-other.seats.items ≡ c.pop-in-loop-other.new.self.items ++ x ∷ [] = c.pop-in-loop-other.ensures.items ∙ ap (λ o. c.pop-in-loop-other.new.self.items ++ option_to_list o) c.in-Some.is in
    let view = ap (λ (m : Me (Slot g.row.R.Denot) SeatView). m.0) e in
    let front = turned_round (map history_of c.pop-in-loop-other.new.self.items) in
    let me = c.loop-other.seat.me.0 in let xs = x.instance.seat.me.0.joined in
    let none : length xs ≡ 0 = x.instance.lone.0 in
    let spare = length-append me.spare x.instance.seat.me.0.spare in record {
      same = c.join_seat.ensures.0 ∙ v.same;
      live = (
        ap (λ (w : SeatView). w.gone) view ∙ v.live.0,
        ap (λ (w : SeatView). w.has) view ∙ v.live.1,
        ap (λ (w : SeatView). length w.holds) view ∙ v.live.2,
        ap (λ (w : SeatView). length w.spare) view ∙ omega (arith, spare, v.live.3, x.instance.lone.1),
      );
      known = ap (λ (w : SeatView). (w.me ∷ w.joined) ++ front) view
          ∙ (ap (λ (l : List History). (me.me ∷ (me.joined ++ (history_of x ∷ l))) ++ front) (nil_of xs none)
          ∙ (ap (λ (l : List History). me.me ∷ l) (append_assoc me.joined (history_of x ∷ []) front)
          ∙ (ap (λ (l : List History). (me.me ∷ me.joined) ++ l) (sym (known-push c.pop-in-loop-other.new.self.items x) ∙ ap (λ l. turned_round (map history_of l)) (sym is)) ∙ v.known)));
      all = rest_of c.args.shared.now c.loop-other.seats.items c.pop-in-loop-other.new.self.items (x ∷ []) is v.all;
    }
