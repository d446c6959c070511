use Rattle.std.proofs.Common.{◌≡◌, ℕ, ◌+◌, ◌<◌, ◌≤◌, false, List, [], ◌∷◌, ◌++◌, Some, None, map, length, arith, refl, sym, ap, ◌∙◌, subst}
use Rattle.std.specs.Prelude.{vec_capacity}
use Rattle.atomic_table.specs.Table.{rest, turned, Me}
use Rattle.pgo_model.specs.Machine.{among}
use Rattle.pgo_resource.specs.PlainRows.{apart}
use Rattle.pgo_resource.proofs.PlainPlaces.{room, apart_push}
use Rattle.pgo_workers.specs.Worlds.{world_of, HasAll}
use Rattle.pgo_table.specs.SeatViews.{SeatView, TableTerms, Holding, holding, holding_at, resources}
use Rattle.pgo_table.specs.Steps.{Slot, took, stepped_at}
use Rattle.pgo_table.specs.SeatCalls.{world, many, empty_slot, TookWith}
use Rattle.pgo_table.specs.declared.slots.Stored.{Stored}
use Rattle.pgo_table.specs.declared.slots.Stored.TheVariants.{Content}
use Rattle.pgo_table.proofs.Sums.{not_among, resources_push}
use Rattle.pgo_table.proofs.Cuts.{turns}
use Rattle.pgo_table.proofs.HoldSteps.{takes_keeps}
use Rattle.pgo_table.proofs.Worlds.{proper}
use Rattle.pgo_shared.proofs.Found.{same_content, one_less, take_refused_at}
use Rattle.pgo_shared.proofs.instance_seat.InstanceSeat.take.Goals as goal

-- r isn't listed
out : (held : List ℕ) (hs : List Holding) (r : ℕ) → resources hs ≡ held → holding_at hs r ≡ None → among r held ≡ false
out held hs r listed none = subst (λ l. among r l ≡ false) listed (not_among hs r none)

pub compare_exchange-found-requires : goal.compare_exchange-found-requires
compare_exchange-found-requires g c =
    let a = c.args.self.now in let sh = c.args.shared.now in let key = sh.table.shared.key in
    let near : c.args.r < length key.layout.resources = omega (arith, c.requires.inside, ap (λ (f : TableTerms). length f.layout.resources) c.requires.terms) in (
      c.requires.table,
      omega (arith, near, sh.sized.1, sh.sized.2),
      takes_keeps world_of HasAll g.R.Resource.shows key (proper key sh.proper.0 sh.proper.1 (omega (arith, sh.few.0, sh.sized.2))) _ _ a.seat.me c.args.r (c.from-number.result + 1) (omega (arith, c.from-number.ensures, a.numbered)) near a.live c.requires.free,
    )

pub exchange-stored-requires : goal.exchange-stored-requires
exchange-stored-requires g c =
    let t = c.compare_exchange-found.ensures.2.1 c.if-found-ne0.false in
    let e = ap (λ (m : Me (Slot g.row.R.Denot) SeatView). m.1) t.1 in
    (c.compare_exchange-found.ensures.0 ∙ c.requires.table, (Some (Content t.0), e ∙ ap (λ l. (c.args.r, Some (Content t.0)) ∷ rest l) (sym e)))

pub push_reserved-requires : goal.push_reserved-requires
push_reserved-requires g c =
    let a = c.args.self.now in
    let free = out a.held.items a.seat.me.0.holds c.args.r a.listed c.requires.free in
    omega (arith, room (many a.seat.me.0) c.args.r a.held.items a.apart c.requires.inside free, a.room, a.held.ok.0)

pub invariant_of-self-2 : goal.invariant_of-self-2
invariant_of-self-2 g c =
    let a = c.args.self.now in
    let t = c.compare_exchange-found.ensures.2.1 c.if-found-ne0.false in
    let free = out a.held.items a.seat.me.0.holds c.args.r a.listed c.requires.free in
    let h = holding c.args.r (g.R.Resource.shows t.0).base (g.R.Resource.shows t.0).count in
    let view : c.turn.new.self.me.0 ≡ stepped_at c.args.r c.compare_exchange-found.ensures.2.0 c.compare_exchange-found.result (c.from-number.result + 1) (took (world a.seat.me.0) a.seat.me.0 c.args.r (g.R.Resource.shows t.0).base (g.R.Resource.shows t.0).count) =
    ap (λ (m : Me (Slot g.row.R.Denot) SeatView). m.0) (c.turn.ensures.2 ∙ (ap (λ (m : Me (Slot g.row.R.Denot) SeatView). (m.0, turned m.1)) c.exchange-stored.ensures.3)) ∙ ap (λ (m : Me (Slot g.row.R.Denot) SeatView). m.0) t.1 in
    let carried : c.turn.new.self.me.1 ≡ map (empty_slot {C = g.row.R.Denot}) (a.held.items ++ c.args.r ∷ []) =
    ap (λ (m : Me (Slot g.row.R.Denot) SeatView). m.1) c.turn.ensures.2
    ∙ (ap (λ (m : Me (Slot g.row.R.Denot) SeatView). turned m.1) c.exchange-stored.ensures.3
    ∙ (ap (λ (m : Me (Slot g.row.R.Denot) SeatView). turned ((c.args.r, None) ∷ rest m.1)) t.1
    ∙ (ap (λ (l : List (ℕ × Slot g.row.R.Denot)). turned ((c.args.r, None) ∷ l)) a.carried ∙ turns {C = g.row.R.Denot} c.args.r a.held.items))) in
    let pushed = c.push_reserved.ensures.items in
    record {
      live = ap (λ (v : SeatView). v.gone) view ∙ a.live;
      numbered = ap (λ (v : SeatView). v.me.number) view ∙ a.numbered;
      lone = (ap (λ (v : SeatView). length v.joined) view ∙ a.lone.0, ap (λ (v : SeatView). length v.spare) view ∙ a.lone.1);
      free = ap (λ (v : SeatView). v.has) view ∙ a.free;
      carried = carried ∙ ap (map (empty_slot {C = g.row.R.Denot})) (sym pushed);
      listed = ap (λ (v : SeatView). resources v.holds) view ∙ (resources_push a.seat.me.0.holds h ∙ (ap (λ (l : List ℕ). l ++ c.args.r ∷ []) a.listed ∙ sym pushed));
      apart = ap (λ (v : SeatView). apart (length v.terms.layout.resources) c.push_reserved.new.self.items) view ∙ (ap (apart (many a.seat.me.0)) pushed ∙ apart_push (many a.seat.me.0) c.args.r a.held.items a.apart c.requires.inside free);
      room = subst (λ (v : SeatView). length v.terms.layout.resources ≤ vec_capacity c.push_reserved.new.self) (sym view) (omega (arith, c.push_reserved.ensures.capacity, a.room));
    }

pub returns-clause-taken : goal.returns-clause-taken
returns-clause-taken g c =
    let a = c.args.self.now in let M = g.R.Resource.shows in
    let t = c.compare_exchange-found.ensures.2.1 c.if-found-ne0.false in let n = c.compare_exchange-found.ensures.2.0 in
    let view = ap (λ (m : Me (Slot g.row.R.Denot) SeatView). m.0) (c.turn.ensures.2 ∙ (ap (λ (m : Me (Slot g.row.R.Denot) SeatView). (m.0, turned m.1)) c.exchange-stored.ensures.3)) ∙ ap (λ (m : Me (Slot g.row.R.Denot) SeatView). m.0) t.1 in
    let own : c.from-number.result + 1 ≡ a.seat.me.0.me.number + 1 = omega (arith, c.from-number.ensures, a.numbered) in
    let same : t.0 ≡ c.in-Some-Content.content = same_content {C = g.row.R.Denot} _ _ _ c.args.r _ c.in-Some-Content.content t.0 c.exchange-stored.ensures.2 (ap (λ (m : Me (Slot g.row.R.Denot) SeatView). m.1) t.1) (c.in-Some-Content.is ∙ ap (λ (z : Stored g.row.R.Denot). Some z) c.in-Some-Content.field-0-is) in
    subst (λ (d : g.row.R.Denot). TookWith M a.seat.me.0 c.args.r d c.turn.new.self.me.0) same
    (n, view ∙ (λ i. stepped_at c.args.r n (c.if-found-ne0.false i) (own i) (took (world a.seat.me.0) a.seat.me.0 c.args.r (M t.0).base (M t.0).count)), t.2, t.3)

pub returns-then-found-ne0-clause-refused : goal.returns-then-found-ne0-clause-refused
returns-then-found-ne0-clause-refused g c =
    let q = c.compare_exchange-found.ensures.2.2 c.if-found-ne0.true in
    take_refused_at c.args.self.now.seat.me.0 c.compare_exchange-found.new.seat.me.0 c.args.r c.compare_exchange-found.result c.compare_exchange-found.ensures.2.0 c.if-found-ne0.true (ap (λ (m : Me (Slot g.row.R.Denot) SeatView). m.0) q.0) q.1

pub returns-then-found-ne0-clause-step : goal.returns-then-found-ne0-clause-step
returns-then-found-ne0-clause-step g c =
    let q = c.compare_exchange-found.ensures.2.2 c.if-found-ne0.true in
    record {
      number = c.compare_exchange-found.ensures.2.0;
      found = c.compare_exchange-found.result;
      left = c.compare_exchange-found.result;
      step = c.compare_exchange-found.ensures.2.3;
      made = ap (λ (m : Me (Slot g.row.R.Denot) SeatView). m.0.word_steps) q.0;
      answer = (one_less c.compare_exchange-found.result c.if-found-ne0.true, refl);
    }

pub returns-clause-step : goal.returns-clause-step
returns-clause-step g c =
    let a = c.args.self.now in
    let t = c.compare_exchange-found.ensures.2.1 c.if-found-ne0.false in
    let view = ap (λ (m : Me (Slot g.row.R.Denot) SeatView). m.0) (c.turn.ensures.2 ∙ (ap (λ (m : Me (Slot g.row.R.Denot) SeatView). (m.0, turned m.1)) c.exchange-stored.ensures.3)) ∙ ap (λ (m : Me (Slot g.row.R.Denot) SeatView). m.0) t.1 in
    record {
      number = c.compare_exchange-found.ensures.2.0;
      found = c.compare_exchange-found.result;
      left = c.from-number.result + 1;
      step = c.compare_exchange-found.ensures.2.3;
      made = ap (λ (v : SeatView). v.word_steps) view;
      answer = (c.if-found-ne0.false, omega (arith, c.from-number.ensures, a.numbered));
    }
