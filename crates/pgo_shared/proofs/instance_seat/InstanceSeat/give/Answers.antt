use Rattle.std.proofs.Common.{◌≡◌, ℕ, ◌+◌, ◌-◌, ◌<◌, ◌≤◌, false, List, ◌∷◌, ◌++◌, Some, None, map, length, get_or, arith, sym, ap, ◌∙◌, subst, length-append}
use Rattle.std.specs.Prelude.{vec_capacity}
use mathlib.Core.Option.{none}
use Rattle.atomic_table.specs.Table.{rest, Me, step, Allows}
use Rattle.pgo_resource.specs.PlainRows.{apart}
use Rattle.pgo_workers.specs.View.{Shown}
use Rattle.pgo_workers.specs.Worlds.{world_of, HasAll}
use Rattle.pgo_table.specs.SeatViews.{SeatView, TableTerms, holding_at, resources}
use Rattle.pgo_table.specs.Rule.{Kept, Proper}
use Rattle.pgo_table.specs.Steps.{Slot, gave, stepped_at}
use Rattle.pgo_table.specs.Steps as Steps
use Rattle.pgo_table.specs.SeatCalls.{many, empty_slot, turned_by, MayReturn}
use Rattle.pgo_table.specs.declared.slots.Stored.TheVariants.{Content}
use Rattle.pgo_table.proofs.Sums.{near_of}
use Rattle.pgo_table.proofs.Cuts.{Cut, cut, to_front, to_back, around, listed-without, placed}
use Rattle.pgo_table.proofs.HoldSteps.{gives_keeps}
use Rattle.pgo_table.proofs.Worlds.{proper}
use Rattle.pgo_shared.proofs.instance_seat.InstanceSeat.give.Goals as goal

pub place_of-place-requires : goal.place_of-place-requires
place_of-place-requires g c = let a = c.args.self.now in let h = c.requires.held in
    subst (λ (l : List ℕ). (k : ℕ) × (k < length l) × (get_or l k 0 ≡ c.args.r)) (a.listed ∙ sym c.deref.ensures.value) (placed a.seat.me.0.holds c.args.r h.0 h.1)

-- where r stands
cut_at : (held list : List ℕ) (p r : ℕ) → list ≡ held → p < length list → get_or list p 0 ≡ r → Cut held p r
cut_at held list p r e near at = subst (λ (l : List ℕ). Cut l p r) e (cut list p r near at)

-- the slots once r is in front
front_is : {C : Type 0} (held : List ℕ) (p r : ℕ) (t : Cut held p r) (was now : Me (Slot C) SeatView) → was.1 ≡ map (empty_slot {C = C}) held → now ≡ (was.0, turned_by p was.1)
    → now ≡ (was.0, (r, None) ∷ (map (empty_slot {C = C}) t.back ++ map (empty_slot {C = C}) t.front))
front_is {C} held p r t was now carried e = e ∙ ap (λ (l : List (ℕ × Slot C)). (was.0, turned_by p l)) carried ∙ ap (λ (l : List (ℕ × Slot C)). (was.0, l)) (to_front {C = C} held p r t)

-- a step that gives r back, at a seat that is known up to an equation
gives_at : {C : Type 0} (M : C → Shown) (key : TableTerms) (p : Proper world_of HasAll key) (slots id : ℕ) (m : Me (Slot C) SeatView) (v : SeatView) (r : ℕ) (c : C) (more : List (ℕ × Slot C)) → m ≡ (v, (r, Some (Content c)) ∷ more) → v.gone ≡ false → MayReturn M v r c
    → Allows (Kept (world_of key.layout) M key) slots id m r (λ _. 0) (λ _. Steps.gives world_of M (step slots r 0 0 none) m 0)
gives_at {C} M key p slots id m v r c more e live h =
    subst (λ (x : Me (Slot C) SeatView). Allows (Kept (world_of key.layout) M key) slots id x r (λ _. 0) (λ _. Steps.gives world_of M (step slots r 0 0 none) x 0)) (sym e) (gives_keeps world_of HasAll M key p slots id v r c h.0 more live h.1 h.2 h.3 h.4 h.5)

pub exchange-requires : goal.exchange-requires
exchange-requires g c = let a = c.args.self.now in
    let t = cut_at a.held.items _ c.place_of-place.result c.args.r c.deref.ensures.value c.place_of-place.ensures.within c.place_of-place.ensures.found in
    let f = ap (λ (m : Me (Slot g.row.R.Denot) SeatView). m.1) (front_is {C = g.row.R.Denot} a.held.items _ c.args.r t a.seat.me c.turn_by.new.seat.me a.carried c.turn_by.ensures.2) in
    (c.turn_by.ensures.0 ∙ c.requires.table, (None, f ∙ ap (λ l. (c.args.r, None) ∷ rest l) (sym f)))

pub store-requires : goal.store-requires
store-requires g c = let a = c.args.self.now in let sh = c.args.shared.now in let key = sh.table.shared.key in let h = c.requires.held in
    let t = cut_at a.held.items _ c.place_of-place.result c.args.r c.deref.ensures.value c.place_of-place.ensures.within c.place_of-place.ensures.found in
    let f = front_is {C = g.row.R.Denot} a.held.items _ c.args.r t a.seat.me c.turn_by.new.seat.me a.carried c.turn_by.ensures.2 in
    let m : c.exchange.new.seat.me ≡ (a.seat.me.0, (c.args.r, Some (Content c.args.content)) ∷ (map (empty_slot {C = g.row.R.Denot}) t.back ++ map (empty_slot {C = g.row.R.Denot}) t.front)) =
    c.exchange.ensures.3 ∙ ap (λ (m : Me (Slot g.row.R.Denot) SeatView). (m.0, (c.args.r, Some (Content c.args.content)) ∷ rest m.1)) f in
    let near = near_of (many a.seat.me.0) a.seat.me.0.holds c.args.r h.0 (ap (apart (many a.seat.me.0)) a.listed ∙ a.apart) h.1 in
    let wide = ap (λ (f : TableTerms). length f.layout.resources) c.requires.terms in (
      c.exchange.ensures.0 ∙ (c.turn_by.ensures.0 ∙ c.requires.table),
      omega (arith, near, wide, sh.sized.1, sh.sized.2),
      gives_at g.R.Resource.shows key (proper key sh.proper.0 sh.proper.1 (omega (arith, sh.few.0, sh.sized.2))) _ _ c.exchange.new.seat.me a.seat.me.0 c.args.r c.args.content _ m a.live h,
    )

pub invariant_of-self : goal.invariant_of-self
invariant_of-self g c = let a = c.args.self.now in
    let t = cut_at a.held.items _ c.place_of-place.result c.args.r c.deref.ensures.value c.place_of-place.ensures.within c.place_of-place.ensures.found in
    let h = c.requires.held in
    let f = front_is {C = g.row.R.Denot} a.held.items _ c.args.r t a.seat.me c.turn_by.new.seat.me a.carried c.turn_by.ensures.2 in
    let more : List (ℕ × Slot g.row.R.Denot) = map (empty_slot {C = g.row.R.Denot}) t.back ++ map (empty_slot {C = g.row.R.Denot}) t.front in
    let m : c.exchange.new.seat.me ≡ (a.seat.me.0, (c.args.r, Some (Content c.args.content)) ∷ more) =
    c.exchange.ensures.3 ∙ ap (λ (m : Me (Slot g.row.R.Denot) SeatView). (m.0, (c.args.r, Some (Content c.args.content)) ∷ rest m.1)) f in
    let e = ap (λ (m : Me (Slot g.row.R.Denot) SeatView). m.1) m in
    let view_then = ap (λ (m : Me (Slot g.row.R.Denot) SeatView). m.0) m in
    let now = (g.R.Resource.shows c.args.content).count in
    let given : c.store.new.seat.me ≡ (stepped_at c.args.r c.store.ensures.2.0 (a.seat.me.0.me.number + 1) 0 (gave a.seat.me.0 c.args.r h.0.count now), more) =
    c.store.ensures.2.1 h.0 c.args.content (ap (λ (v : SeatView). holding_at v.holds c.args.r) view_then ∙ h.1) (e ∙ ap (λ l. (c.args.r, Some (Content c.args.content)) ∷ rest l) (sym e))
    ∙ ap (λ (m : Me (Slot g.row.R.Denot) SeatView). (stepped_at c.args.r c.store.ensures.2.0 (m.0.me.number + 1) 0 (gave m.0 c.args.r h.0.count now), rest m.1)) m in
    let others : c.remove.new.self.items ≡ t.front ++ t.back = c.remove.ensures.items ∙ t.others in
    let turns : ℕ = c.len.result - c.place_of-place.result in
    let as_many : turns ≡ length t.back = omega (arith, c.len.ensures, c.remove.new.self.ok.0, ap (λ (l : List ℕ). length l) others, length-append t.front t.back, t.place) in
    let last : c.turn_by-2.new.seat.me ≡ (stepped_at c.args.r c.store.ensures.2.0 (a.seat.me.0.me.number + 1) 0 (gave a.seat.me.0 c.args.r h.0.count now), map (empty_slot {C = g.row.R.Denot}) (t.front ++ t.back)) =
    c.turn_by-2.ensures.2 ∙ (ap (λ (m : Me (Slot g.row.R.Denot) SeatView). (m.0, turned_by turns m.1)) given ∙ ap (λ (l : List (ℕ × Slot g.row.R.Denot)). (stepped_at c.args.r c.store.ensures.2.0 (a.seat.me.0.me.number + 1) 0 (gave a.seat.me.0 c.args.r h.0.count now), l)) (to_back {C = g.row.R.Denot} t.front t.back turns as_many)) in
    let view = ap (λ (m : Me (Slot g.row.R.Denot) SeatView). m.0) last in
    let whole = a.listed ∙ t.whole in
    let q = around (many a.seat.me.0) c.args.r t.front t.back (ap (apart (many a.seat.me.0)) (sym t.whole) ∙ a.apart) in
    record {
      live = ap (λ (v : SeatView). v.gone) view ∙ a.live;
      numbered = ap (λ (v : SeatView). v.me.number) view ∙ a.numbered;
      lone = (ap (λ (v : SeatView). length v.joined) view ∙ a.lone.0, ap (λ (v : SeatView). length v.spare) view ∙ a.lone.1);
      free = ap (λ (v : SeatView). v.has) view ∙ a.free;
      carried = ap (λ (m : Me (Slot g.row.R.Denot) SeatView). m.1) last ∙ ap (map (empty_slot {C = g.row.R.Denot})) (sym others);
      listed = ap (λ (v : SeatView). resources v.holds) view ∙ (listed-without a.seat.me.0.holds t.front t.back c.args.r whole q.before q.behind ∙ sym others);
      apart = ap (λ (v : SeatView). apart (length v.terms.layout.resources) c.remove.new.self.items) view ∙ (ap (apart (many a.seat.me.0)) others ∙ q.others);
      room = subst (λ (v : SeatView). length v.terms.layout.resources ≤ vec_capacity c.remove.new.self) (sym view) (omega (arith, c.remove.ensures.capacity, a.room));
    }

pub returns-clause-given : goal.returns-clause-given
returns-clause-given g c = let a = c.args.self.now in
    let t = cut_at a.held.items _ c.place_of-place.result c.args.r c.deref.ensures.value c.place_of-place.ensures.within c.place_of-place.ensures.found in
    let f = front_is {C = g.row.R.Denot} a.held.items _ c.args.r t a.seat.me c.turn_by.new.seat.me a.carried c.turn_by.ensures.2 in
    let more : List (ℕ × Slot g.row.R.Denot) = map (empty_slot {C = g.row.R.Denot}) t.back ++ map (empty_slot {C = g.row.R.Denot}) t.front in
    let m : c.exchange.new.seat.me ≡ (a.seat.me.0, (c.args.r, Some (Content c.args.content)) ∷ more) =
    c.exchange.ensures.3 ∙ ap (λ (m : Me (Slot g.row.R.Denot) SeatView). (m.0, (c.args.r, Some (Content c.args.content)) ∷ rest m.1)) f in
    let e = ap (λ (m : Me (Slot g.row.R.Denot) SeatView). m.1) m in
    let view_then = ap (λ (m : Me (Slot g.row.R.Denot) SeatView). m.0) m in
    let now = (g.R.Resource.shows c.args.content).count in (
      c.store.ensures.2.0,
      λ h at.
          let given : c.store.new.seat.me ≡ (stepped_at c.args.r c.store.ensures.2.0 (a.seat.me.0.me.number + 1) 0 (gave a.seat.me.0 c.args.r h.count now), more) =
          c.store.ensures.2.1 h c.args.content (ap (λ (v : SeatView). holding_at v.holds c.args.r) view_then ∙ at) (e ∙ ap (λ l. (c.args.r, Some (Content c.args.content)) ∷ rest l) (sym e))
          ∙ ap (λ (m : Me (Slot g.row.R.Denot) SeatView). (stepped_at c.args.r c.store.ensures.2.0 (m.0.me.number + 1) 0 (gave m.0 c.args.r h.count now), rest m.1)) m in
          let others : c.remove.new.self.items ≡ t.front ++ t.back = c.remove.ensures.items ∙ t.others in
          let turns : ℕ = c.len.result - c.place_of-place.result in
          let as_many : turns ≡ length t.back = omega (arith, c.len.ensures, c.remove.new.self.ok.0, ap (λ (l : List ℕ). length l) others, length-append t.front t.back, t.place) in
          let last : c.turn_by-2.new.seat.me ≡ (stepped_at c.args.r c.store.ensures.2.0 (a.seat.me.0.me.number + 1) 0 (gave a.seat.me.0 c.args.r h.count now), map (empty_slot {C = g.row.R.Denot}) (t.front ++ t.back)) =
          c.turn_by-2.ensures.2 ∙ (ap (λ (m : Me (Slot g.row.R.Denot) SeatView). (m.0, turned_by turns m.1)) given ∙ ap (λ (l : List (ℕ × Slot g.row.R.Denot)). (stepped_at c.args.r c.store.ensures.2.0 (a.seat.me.0.me.number + 1) 0 (gave a.seat.me.0 c.args.r h.count now), l)) (to_back {C = g.row.R.Denot} t.front t.back turns as_many)) in
          ap (λ (m : Me (Slot g.row.R.Denot) SeatView). m.0) last,
    )
