-- Workers that are stopped one after the other.
use Rattle.std.proofs.Common.{◌≡◌, ◌<◌, ℕ, ◌+◌, Bool, true, false, List, length, Some, refl, sym, ap, ◌∙◌, subst, arith, set}
use Rattle.std.specs.Prelude.{nat_eq}
use Rattle.pgo_model.specs.Machine.{nth}
use Rattle.pgo_model.specs.MachineAccounts.{equal_or}
use Rattle.pgo_section.specs.declared.worker.Worker.{Worker}
use Rattle.pgo_core.specs.Cores.{Rested, RestedBelow}
use Rattle.pgo_core.proofs.CoreTurned.{nth_inside, set_here, set_else, set_length, same_some}

module _ {C : Type 0} where
  pub none_rested : (ws : List (Worker C)) → RestedBelow 0 ws ws
  none_rested ws = record {
    as_many = refl;
    records = λ j w v a b. ap (λ (w : Worker C). w.records) (same_some v w (sym b ∙ a));
    out = λ j w v a b. ap (λ (w : Worker C). w.out_of_memory) (same_some v w (sym b ∙ a));
    own = λ j w v a b. ap (λ (w : Worker C). w.own) (same_some v w (sym b ∙ a));
    giving = λ j v l e. absurd (omega (arith, l));
  }

  -- what holds of the changed one and of the others holds of each
  each_changed : (Q : Worker C → Worker C → Type 0) (k : ℕ) (ws vs : List (Worker C)) (u : Worker C) → k < length vs → ((w : Worker C) → nth ws k ≡ Some w → Q w u) → ((j : ℕ) (w x : Worker C) → nth ws j ≡ Some w → nth vs j ≡ Some x → Q w x)
      → (j : ℕ) (w x : Worker C) → nth ws j ≡ Some w → nth (set vs k u) j ≡ Some x → Q w x
  each_changed Q k ws vs u inside mine others j w x a b = go (nat_eq j k) refl
    where
      go : (t : Bool) → nat_eq j k ≡ t → Q w x
      go true e =
          let same = (equal_or j k true e).0 refl in
          subst (Q w) (same_some u x (sym (set_here vs k u inside) ∙ ap (nth (set vs k u)) (sym same) ∙ b)) (mine w (ap (nth ws) (sym same) ∙ a))
      go false e = others j w x a (sym (set_else vs k j u ((equal_or j k false e).1 refl)) ∙ b)

  pub one_rested : (k : ℕ) (ws vs us : List (Worker C)) (v u : Worker C) → RestedBelow k ws vs → nth vs k ≡ Some v → us ≡ set vs k u → Rested v u → RestedBelow (k + 1) ws us
  one_rested k ws vs us v u r here items rests = subst (RestedBelow (k + 1) ws) (sym items) (record {
    as_many = set_length vs k u ∙ r.as_many;
    records = each_changed (λ w x. x.records ≡ w.records) k ws vs u inside (λ w e. rests.records ∙ r.records k w v e here) r.records;
    out = each_changed (λ w x. x.out_of_memory ≡ w.out_of_memory) k ws vs u inside (λ w e. rests.out ∙ r.out k w v e here) r.out;
    own = each_changed (λ w x. x.own ≡ w.own) k ws vs u inside (λ w e. rests.own ∙ r.own k w v e here) r.own;
    giving = λ j x l e. gives j x l e (nat_eq j k) refl;
  })
    where
      inside : k < length vs
      inside = nth_inside vs k v here

      gives : (j : ℕ) (x : Worker C) → j < k + 1 → nth (set vs k u) j ≡ Some x → (b : Bool) → nat_eq j k ≡ b → x.giving ≡ false
      gives j x l e true q =
          let same = (equal_or j k true q).0 refl in
          ap (λ (w : Worker C). w.giving) (sym (same_some u x (sym (set_here vs k u inside) ∙ ap (nth (set vs k u)) (sym same) ∙ e))) ∙ rests.giving
      gives j x l e false q = let n = (equal_or j k false q).1 refl in r.giving j x (omega (arith, l, n)) (sym (set_else vs k j u n) ∙ e)
