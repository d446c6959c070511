-- The states along a journal of all instances, and an entry more.
use Rattle.std.proofs.Common.{◌≡◌, ◌<◌, ◌≤◌, ℕ, suc, Bool, true, false, List, [], ◌∷◌, ◌++◌, length, Some, refl, sym, ap, ◌∙◌, subst, arith}
use Rattle.std.proofs.lemmas.List.{append-nil}
use Rattle.std.specs.Prelude.{if◌then◌else◌, nat_eq, nat_lt, ◌&&◌, option_and_then}
use Rattle.std.proofs.lemmas.Bool.{and_parts}
use Rattle.pgo_base.specs.Lookup.{Vars}
use Rattle.pgo_journal.specs.Journal.{JournalView, MayAppend}
use Rattle.pgo_model.specs.Log.{Effect, StateAt}
use Rattle.pgo_model.specs.Machine.{Entry}
use Rattle.pgo_model.specs.MachineAccounts.{equal_or}
use Rattle.pgo_workers.specs.View.{View, Hold, EachHold, IsSteady, StandsAt, along, own_left, changed}
use Rattle.pgo_workers.specs.Worlds.{Layout, IsLayout, HasAll, value_in, own_in, are_components_of, world_of}
use Rattle.pgo_workers.proofs.Patched.{after_is, patched_has, patched_value, patched_own, patched_else}
use Rattle.pgo_core.specs.ExclusiveRows.{state_behind, values_behind, are_own}

abbrev pub behind : Layout → Vars → List (Entry Effect) → Vars
behind y s es = along (world_of y).patched s es (length es)

behind_push : (y : Layout) (s : Vars) (es : List (Entry Effect)) (e : Entry Effect) → behind y s (es ++ e ∷ []) ≡ (world_of y).patched (behind y s es) e.change
behind_push y s [] e = refl
behind_push y s (x ∷ es) e = behind_push y ((world_of y).patched s x.change) es e

pub own_push : (y : Layout) (es : List (Entry Effect)) (e : Entry Effect) → are_own y es ≡ true → (world_of y).is_of e.instance e.change ≡ true → are_own y (es ++ e ∷ []) ≡ true
own_push y [] e h is = ap (λ b. b && true) is
own_push y (x ∷ es) e h is =
    let p = and_parts (are_components_of y x.instance x.change.changes) (are_own y es) h in
    (λ i. p.0 i && own_push y es e p.1 is i)

-- where they aren't as many as may be
pub one_more : (es : List (Entry Effect)) (e : Entry Effect) (n : ℕ) → length es ≤ n → (length es ≡ n → ⊥) → length (es ++ e ∷ []) ≤ n
one_more es e n h ne = go (nat_eq (length es) n) refl
  where
    longer : (l : List (Entry Effect)) → length (l ++ e ∷ []) ≡ suc (length l)
    longer [] = refl
    longer (x ∷ l) = ap (λ n. suc n) (longer l)

    go : (b : Bool) → nat_eq (length es) n ≡ b → length (es ++ e ∷ []) ≤ n
    go true q = absurd (ne (grind (arith, q)))
    go false q = let less : length es < n = grind (arith, h, q) in let l = longer es in omega (arith, l, less)

module _ (y : Layout) (layout : IsLayout y) where
  behind_has : (s : Vars) (es : List (Entry Effect)) → HasAll y s → are_own y es ≡ true → HasAll y (behind y s es)
  behind_has s [] has h = has
  behind_has s (e ∷ es) has h =
      let p = and_parts (are_components_of y e.instance e.change.changes) (are_own y es) h in
      behind_has ((world_of y).patched s e.change) es (patched_has y layout e.instance s has e.change p.0) p.1

  -- there is a state behind all entries
  reached : (s : Vars) (es : List (Entry Effect)) → HasAll y s → are_own y es ≡ true → StateAt s es (length es) ≡ Some (behind y s es)
  reached s [] has h = refl
  reached s (e ∷ es) has h =
      let p = and_parts (are_components_of y e.instance e.change.changes) (are_own y es) h in
      ap (λ o. option_and_then (λ t. StateAt t es (length es)) o) (after_is y layout e.instance s has e.change p.0)
      ∙ reached ((world_of y).patched s e.change) es (patched_has y layout e.instance s has e.change p.0) p.1

  -- own components follow the journal
  own_follows : (k : ℕ) (s : Vars) (es : List (Entry Effect)) → HasAll y s → are_own y es ≡ true → own_in y (behind y s es) k ≡ own_left (world_of y) k (own_in y s k) es
  own_follows k s [] has h = refl
  own_follows k s (e ∷ es) has h =
      let p = and_parts (are_components_of y e.instance e.change.changes) (are_own y es) h in
      own_follows k ((world_of y).patched s e.change) es (patched_has y layout e.instance s has e.change p.0) p.1
      ∙ ap (λ o. own_left (world_of y) k o es) (one (nat_eq e.instance k) refl p.0)
    where
      one : (b : Bool) → nat_eq e.instance k ≡ b → are_components_of y e.instance e.change.changes ≡ true
          → own_in y ((world_of y).patched s e.change) k ≡ (if b then (world_of y).owned (own_in y s k) e.change else own_in y s k)
      one true q is = let same : e.instance ≡ k = (equal_or e.instance k true q).0 refl in
          subst (λ k. own_in y ((world_of y).patched s e.change) k ≡ (world_of y).owned (own_in y s k) e.change) same (patched_own y layout e.instance s has e.change is)
      one false q is = patched_else y layout e.instance s has e.change is k (λ z. (equal_or e.instance k false q).1 refl (sym z))

  module _ (es : List (Entry Effect)) (has : HasAll y y.start) (own : are_own y es ≡ true) where
    -- one more entry changes what it says
    pub values_push : (e : Entry Effect) → (world_of y).is_of e.instance e.change ≡ true → (n : ℕ) → n ≡ length y.resources
        → (r : ℕ) → r < n → values_behind y (es ++ e ∷ []) r ≡ changed ((world_of y).changes e.change) r (values_behind y es r)
    values_push e is n all r near =
        ap (λ s. value_in y s r) (behind_push y y.start es e)
        ∙ patched_value y layout e.instance (state_behind y es) (behind_has y.start es has own) e.change is r (let z : nat_lt r (length y.resources) ≡ true = grind (arith, near, all) in z)

    -- it may be appended
    pub may_append : (j : JournalView) (e : Entry Effect) → j.start ≡ y.start → j.entries ≡ es → (world_of y).is_of e.instance e.change ≡ true → MayAppend j e
    may_append j e start entries is = record {
      before = state_behind y es;
      after = (world_of y).patched (state_behind y es) e.change;
      from = (λ i. StateAt (start i) (entries i) (length (entries i))) ∙ reached y.start es has own;
      to = after_is y layout e.instance (state_behind y es) (behind_has y.start es has own) e.change is;
    }

    -- where each base is its value, and values are those behind the entries
    pub stands_here : (b : View Effect) → b.entries ≡ es → EachHold (λ h. values_behind y es h.resource ≡ h.value) b.held → EachHold IsSteady b.held → StandsAt (world_of y) b (b.entries ++ [])
    stands_here b log values steady =
        subst (StandsAt (world_of y) b) (sym (append-nil b.entries ∙ log)) (record {
          values = steady_stands b.held values steady;
          own = own_follows b.instance y.start es has own ∙ ap (own_left (world_of y) b.instance (own_in y y.start b.instance)) (sym log);
        })
      where
        steady_stands : (hs : List Hold) → EachHold (λ h. values_behind y es h.resource ≡ h.value) hs → EachHold IsSteady hs → EachHold (λ h. values_behind y es h.resource ≡ h.content.base) hs
        steady_stands [] v h = tt
        steady_stands (x ∷ hs) v h = (v.0 ∙ sym h.0, steady_stands hs v.1 h.1)
