-- The states along a journal whose entries are each of their own instance.
use Rattle.std.proofs.Common.{◌≡◌, ℕ, zero, suc, Bool, true, false, List, [], ◌∷◌, ◌++◌, length, refl, sym, ap, ◌∙◌, subst}
use Rattle.std.specs.Prelude.{if◌then◌else◌, nat_eq, ◌&&◌}
use Rattle.std.proofs.lemmas.Bool.{and_parts}
use Rattle.pgo_base.specs.Lookup.{Vars}
use Rattle.pgo_model.specs.Log.{Effect}
use Rattle.pgo_model.specs.Machine.{Entry}
use Rattle.pgo_model.specs.MachineAccounts.{equal_or}
use Rattle.pgo_workers.specs.View.{along, changed, own_left}
use Rattle.pgo_workers.specs.Worlds.{Layout, IsLayout, HasAll, world_of}
use Rattle.pgo_workers.proofs.Patched.{patched_has, patched_own, patched_else, patched_value}

-- each entry changes components of resources and of its own instance alone
abbrev pub are_each_of : Layout → List (Entry Effect) → Bool
are_each_of y [] = true
are_each_of y (e ∷ es) = (world_of y).is_of e.instance e.change && are_each_of y es

pub each_of_append : (y : Layout) (es : List (Entry Effect)) (e : Entry Effect) → are_each_of y es ≡ true → (world_of y).is_of e.instance e.change ≡ true → are_each_of y (es ++ e ∷ []) ≡ true
each_of_append y [] e h is = λ i. is i && true
each_of_append y (x ∷ es) e h is =
    let p = and_parts ((world_of y).is_of x.instance x.change) (are_each_of y es) h in λ i. p.0 i && each_of_append y es e p.1 is i

pub along_append : (y : Layout) (s : Vars) (es : List (Entry Effect)) (e : Entry Effect)
    → along (world_of y).patched s (es ++ e ∷ []) (length (es ++ e ∷ [])) ≡ (world_of y).patched (along (world_of y).patched s es (length es)) e.change
along_append y s [] e = refl
along_append y s (x ∷ es) e = along_append y ((world_of y).patched s x.change) es e

module _ (y : Layout) (layout : IsLayout y) where
  -- each state has all components
  pub along_has : (s : Vars) (es : List (Entry Effect)) (n : ℕ) → HasAll y s → are_each_of y es ≡ true → HasAll y (along (world_of y).patched s es n)
  along_has s es zero has h = has
  along_has s [] (suc n) has h = has
  along_has s (e ∷ es) (suc n) has h =
      let p = and_parts ((world_of y).is_of e.instance e.change) (are_each_of y es) h in
      along_has ((world_of y).patched s e.change) es n (patched_has y layout e.instance s has e.change p.0) p.1

  -- an instance's own components are those that its last entry left
  pub along_own : (k : ℕ) (s : Vars) (es : List (Entry Effect)) → HasAll y s → are_each_of y es ≡ true
      → (world_of y).own (along (world_of y).patched s es (length es)) k ≡ own_left (world_of y) k ((world_of y).own s k) es
  along_own k s [] has h = refl
  along_own k s (e ∷ es) has h =
      let p = and_parts ((world_of y).is_of e.instance e.change) (are_each_of y es) h in
      along_own k ((world_of y).patched s e.change) es (patched_has y layout e.instance s has e.change p.0) p.1
      ∙ ap (λ o. own_left (world_of y) k o es) (go p.0 (nat_eq e.instance k) refl)
    where
      go : (world_of y).is_of e.instance e.change ≡ true → (b : Bool) → nat_eq e.instance k ≡ b
          → (world_of y).own ((world_of y).patched s e.change) k ≡ (if b then (world_of y).owned ((world_of y).own s k) e.change else (world_of y).own s k)
      go is true q =
          let mine = subst (λ j. (world_of y).is_of j e.change ≡ true) ((equal_or e.instance k true q).0 refl) is in patched_own y layout k s has e.change mine
      go is false q = patched_else y layout e.instance s has e.change is k (λ z. (equal_or e.instance k false q).1 refl (sym z))

  -- one more entry changes what it says of resources
  pub along_value : (s : Vars) (es : List (Entry Effect)) (e : Entry Effect) → HasAll y s → are_each_of y es ≡ true → (world_of y).is_of e.instance e.change ≡ true → (r : ℕ) → (world_of y).is_resource r ≡ true
      → (world_of y).value (along (world_of y).patched s (es ++ e ∷ []) (length (es ++ e ∷ []))) r ≡ changed ((world_of y).changes e.change) r ((world_of y).value (along (world_of y).patched s es (length es)) r)
  along_value s es e has h is r there =
      ap (λ t. (world_of y).value t r) (along_append y s es e)
      ∙ patched_value y layout e.instance (along (world_of y).patched s es (length es)) (along_has s es (length es) has h) e.change is r there
