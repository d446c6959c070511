-- Whether what a queue shows is changed, or deeper than a limit.
use Rattle.std.proofs.Common.{◌≡◌, ◌<◌, ◌-◌, ℕ, Bool, true, false, List, length, map, take, drop, Some, nat_eq, refl, sym, ap, ◌∙◌, subst, arith}
use Rattle.std.specs.Prelude.{◌↔◌, IsTrue}
use Rattle.std.proofs.lemmas.List.{length-take-le, take_all}
use Rattle.pgo_base.specs.Data.{Data}
use Rattle.pgo_base.specs.Size.{depth, members_size}
use Rattle.pgo_base.specs.View.{pair_of, value_of}
use Rattle.pgo_base.specs.declared.value.Value.{Value}
use Rattle.pgo_model.specs.Log.{differs}
use Rattle.pgo_mailbox.specs.Holdable.{Holdable, pairs_in}
use Rattle.pgo_mailbox.specs.Queues.{IsQueue, Fits, sequence_data}
use Rattle.pgo_mailbox.proofs.Sequences.{changed, not_changed, deep_sequence, deep_one, held, data_is}

module _ (ms : List Data) (base taken : ℕ) (q : IsQueue ms base taken) (now : List Data × List Data) (view : ◌≡◌ {A = List Data × List Data} (take base ms, drop taken ms) now) where
  first_is : take base ms ≡ now.0
  first_is = ap (λ p. p.0) view

  now_is : drop taken ms ≡ now.1
  now_is = ap (λ p. p.1) view

  base_long : length now.0 ≡ base
  base_long = ap length (sym first_is) ∙ length-take-le base ms q.base_within

  pub differ_in_length : (n : ℕ) → n ≡ length now.1 → (n ≡ base → ⊥) → true ≡ differs (Some (sequence_data now.0)) (Some (sequence_data now.1))
  differ_in_length n l h = changed now.0 now.1 (λ e. h (l ∙ ap length (sym e) ∙ base_long))

  module _ (n : ℕ) (l : n ≡ length now.1) (h : n ≡ base) where
    whole : take base (drop taken ms) ≡ now.1
    whole = take_all base (drop taken ms) (let e : length (drop taken ms) ≡ length now.1 = ap length now_is in omega (arith, e, l, h)) ∙ now_is

    pub same_as_taken : taken ≡ 0 → false ≡ differs (Some (sequence_data now.0)) (Some (sequence_data now.1))
    same_as_taken z =
        let zero : drop taken ms ≡ ms = ap (λ k. drop k ms) z in
        let long : length ms ≡ base = ap length (sym zero) ∙ ap length now_is ∙ sym l ∙ h in
        not_changed now.0 now.1 (sym first_is ∙ take_all base ms (omega (arith, long)) ∙ sym zero ∙ now_is)

    pub by_moved : (b : Bool) → (b ≡ false → take base ms ≡ take base (drop taken ms)) → (b ≡ true → take base ms ≡ take base (drop taken ms) → ⊥) → b ≡ differs (Some (sequence_data now.0)) (Some (sequence_data now.1))
    by_moved false s o = not_changed now.0 now.1 (sym first_is ∙ s refl ∙ whole)
    by_moved true s o = changed now.0 now.1 (λ e. o refl (first_is ∙ e ∙ sym whole))

  pub too_high : (limit : ℕ) → 254 < limit → IsTrue false ↔ limit < depth (sequence_data now.1)
  too_high limit h =
      let f : Fits now.1 = subst Fits now_is q.now_fits in
      (λ (t : false ≡ true). absurd (cc), λ k. absurd (omega (arith, k, h, deep_sequence now.1, f.deep)))

  pub above_zero : (limit : ℕ) → limit ≡ 0 → IsTrue (nat_eq limit 0) ↔ limit < depth (sequence_data now.1)
  above_zero limit z = (λ t. omega (arith, z, deep_one (sequence_data now.1)), λ k. ap (λ n. nat_eq n 0) z)

  pub by_deeper : (r : Bool) (limit : ℕ) → (limit ≡ 0 → ⊥) → IsTrue r ↔ limit - 1 < members_size (drop taken ms) → IsTrue r ↔ limit < depth (sequence_data now.1)
  by_deeper r limit z e =
      let same : members_size (drop taken ms) ≡ members_size now.1 = ap members_size now_is in (
        λ t. (let k = e.0 t in omega (arith, k, z, same, deep_sequence now.1)),
        λ k. e.1 (omega (arith, k, z, same, deep_sequence now.1)),
      )

-- ---- a queue that is made of a value
pub queue_fits : (v : Data) (h : Holdable v) (ps : List (Value × Value)) (ms : List Data) → map pair_of ps ≡ pairs_in v → ms ≡ map value_of ps → Fits ms × (v ≡ sequence_data ms)
queue_fits v h ps ms e s =
    let same : ms ≡ h.0 = s ∙ held v h ps e in
    (subst Fits (sym same) h.2, data_is v h.0 h.1 ∙ ap sequence_data (sym same))

pub queue_is : (v : Data) (q : List Data × List Data) (ms : List Data) → ◌≡◌ {A = List Data × List Data} q (ms, ms) → v ≡ sequence_data ms → (q.1 ≡ q.0) × (v ≡ sequence_data q.0)
queue_is v q ms e s = (ap (λ p. p.1) e ∙ sym (ap (λ p. p.0) e), s ∙ ap sequence_data (sym (ap (λ p. p.0) e)))
