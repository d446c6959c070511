-- A list of turns is read item by item.
use Rattle.std.proofs.Common.{◌≡◌, ◌≤◌, ◌+◌, ℕ, true, false, List, [], ◌++◌, length, refl, sym, ap, ◌∙◌, subst, arith, append_assoc, length-append, Some, None}
use Rattle.std.specs.Borrow.{Bor}
use Rattle.pgo_words.specs.Cuts.{Cuts}
use Rattle.pgo_words.specs.Items.{AddsItem, ReadsOn, SpelledOnly}
use Rattle.pgo_words.specs.Turns.{TurnList, last, more, most_turns}
use Rattle.pgo_words.proofs.TurnLists.{list_parts, list_item}

pub reads_start : (bs : List ℕ) → ReadsOn bs [] bs
reads_start bs = record { sound = λ us t. t; only = λ ts t few. (ts, t, refl); few = omega arith }

module _ (bs old rest : List ℕ) (r : ReadsOn bs old rest) where
  -- the turns of what is left are few enough too
  left_few : (ts us : List ℕ) → ts ≡ old ++ us → length ts ≤ most_turns → length us ≤ most_turns
  left_few ts us e few = let l = length-append old us in let k = ap length e in omega (arith, l, k, few)

  room : (ts us vs t2 : List ℕ) → ts ≡ old ++ us → us ≡ vs ++ t2 → length ts ≤ most_turns → length old + length vs ≤ most_turns
  room ts us vs t2 e f few =
      let l = length-append old us in let k = ap length e in let m = length-append vs t2 in let n = ap length f in omega (arith, l, k, m, n, few)

  pub reads_step : (x : Bor (List ℕ) × Bor (List ℕ)) (new : List ℕ) → Cuts 44 rest (Some x) → AddsItem old x.0.now true new → ReadsOn bs new x.1.now
  reads_step x new c a = record {
    sound = λ us t.
        subst (TurnList bs) (sym (append_assoc old a.0 us) ∙ ap (λ z. z ++ us) (sym a.2))
        (r.sound (a.0 ++ us) (subst (λ z. TurnList z (a.0 ++ us)) (sym c.0) (more a.1 t)));
    only = λ ts t few.
        let o = r.only ts t few in
        let p = list_parts rest o.0 o.1 (left_few ts o.0 o.2 few) x.0.now x.1.now c.0 c.1 in
        let same = a.4 p.0 p.2 (room ts o.0 p.0 p.1 o.2 p.4 few) in
        (p.1, p.3, o.2 ∙ ap (λ z. old ++ z) (p.4 ∙ ap (λ z. z ++ p.1) same) ∙ sym (append_assoc old a.0 p.1) ∙ ap (λ z. z ++ p.1) (sym a.2));
    few = a.3;
  }

  pub reads_none : (x : Bor (List ℕ) × Bor (List ℕ)) (new : List ℕ) → Cuts 44 rest (Some x) → AddsItem old x.0.now false new → SpelledOnly bs None
  reads_none x new c a ts t few =
      let o = r.only ts t few in
      let p = list_parts rest o.0 o.1 (left_few ts o.0 o.2 few) x.0.now x.1.now c.0 c.1 in
      a p.0 p.2 (room ts o.0 p.0 p.1 o.2 p.4 few)

  pub last_some : (new : List ℕ) → Cuts 44 rest None → AddsItem old rest true new → SpelledOnly bs (Some new)
  last_some new c a = (
    subst (TurnList bs) (sym a.2) (r.sound a.0 (last a.1)),
    a.3,
    λ ts t few.
        let o = r.only ts t few in
        let l = length-append old o.0 in let k = ap length o.2 in
        o.2 ∙ ap (λ z. old ++ z) (a.4 o.0 (list_item rest o.0 o.1 c) (omega (arith, l, k, few))) ∙ sym a.2,
  )

  pub last_none : (new : List ℕ) → Cuts 44 rest None → AddsItem old rest false new → SpelledOnly bs None
  last_none new c a ts t few =
      let o = r.only ts t few in
      let l = length-append old o.0 in let k = ap length o.2 in
      a o.0 (list_item rest o.0 o.1 c) (omega (arith, l, k, few))
