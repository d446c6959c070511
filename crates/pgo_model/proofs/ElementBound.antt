-- The premise of the machine's law is met where a global is element-bound: the one member's section is `x[1] := 5`, where x
-- starts as a function on 1, whose element is a resource, or as the empty function, which has none. Beside it stands a local of
-- a process that has no identifiers.
use Rattle.std.specs.Prelude.{◌≡◌, ℕ, zero, suc, pos, Bool, true, false, not, if◌then◌else◌, List, [], ◌∷◌, map, ℤ, Option, Some, None, option_and_then, codes, refl, ◌⊎◌, unwrap_or}
use Rattle.std.proofs.Common.{sym, ap, ◌∙◌, subst, arith, inl, inr}
use Rattle.std.specs.List.Sorted.{IsStrictlySortedBy}
use Rattle.pgo_base.specs.Data.{Data, integer, string, function, Pairs, pair, no_pairs, graph, keys}
use Rattle.pgo_base.specs.Exact.{data_exact}
use Rattle.pgo_base.specs.Lookup.{Name, Vars, find}
use Rattle.pgo_base.specs.Order.{data_cmp}
use Rattle.pgo_base.specs.Sets.{IsSorted, in_order}
use Rattle.std.proofs.lemmas.Option.{same_Some}
use Rattle.pgo_base.specs.SameName.{equal_is}
use Rattle.pgo_model.specs.Accounts.{Fits, AllIn}
use Rattle.pgo_model.specs.Core.{Settings, Reaches, is_place, numbers_of, rules_of}
use Rattle.pgo_model.specs.Log.{Change, OfResource, OfInstance, After, after_changes, are_in, effect_between}
use Rattle.pgo_model.specs.Choice.{Seeded, words_of}
use Rattle.pgo_model.specs.Machine.{nth}
use Rattle.pgo_model.specs.SystemFits.{AreOfResources, SystemFits}
use Rattle.pgo_model.specs.Operators.{apply, fits_i64, both, except, same_data}
use Rattle.pgo_model.specs.Outcome.{NoValue, Outcome, Next, Stuck, Nowhere, Section}
use Rattle.pgo_model.specs.System.{System, Member, Owned, Resource, Touched, Words}
use Rattle.pgo_model.specs.SystemState.{IsSystemState, IsElementBound}
use Rattle.pgo_model.specs.Variables.{place_of, store, IsFunctionOn, HasOneDomain}
use Rattle.pgo_model.specs.Written.{pc, done}

abbrev one : Data
one = integer (pos 1)

abbrev five : Data
five = integer (pos 5)

abbrev x : Name
x = codes "x"

abbrev settings : Settings
settings = record { seed = 0; attempts = 1; steps = 1; down = [] }

-- a local of the process that has no identifiers
abbrev v : Name
v = codes "Q_v"

abbrev at : (f p : Data) → Vars
at f p = (x, f) ∷ (pc, function (pair one p no_pairs)) ∷ (v, function no_pairs) ∷ []

-- [x EXCEPT ![1] = 5], and then Done
abbrev assigned : Vars → Option Vars
assigned s =
    both (λ f p. Some (store pc p (store x f s)))
    (option_and_then (λ f. except f one five) (find x s))
    (option_and_then (λ p. except p one (string done)) (find pc s))

abbrev end_of : Option Vars → Outcome Vars
end_of None = Stuck NoValue
end_of (Some t) = Next t []

-- x[1], where 1 is in the domain of x
abbrev element_of : Vars → Option Data
element_of s = option_and_then (λ f. apply f one) (find x s)

-- an assignment to what isn't there has no value, and writes nothing
abbrev assignment : Vars → Option Data → Section Touched Vars
assignment s None = record { trace = []; end = Stuck NoValue }
assignment s (Some old) = record { trace = (x, Some one) ∷ []; end = end_of (assigned s) }

abbrev nowhere : Section Touched Vars
nowhere = record { trace = []; end = Nowhere }

abbrev label : Name
label = codes "P_l"

abbrev sect : ℕ → Vars → Words → Section Touched Vars
sect zero s d = if is_place label (place_of one s) then assignment s (element_of s) else nowhere
sect (suc k) s d = nowhere

abbrev member : Member
member = record { id = one; globals = x ∷ [] }

abbrev local : Owned
local = record { variable = v; ids = [] }

abbrev element : Resource
element = record { number = 0; global = x; index = Some one }

abbrev system : List Resource → Data → System
system rs f = record { members = member ∷ []; own = local ∷ []; resources = rs; start = at f (string label); sect = sect }

-- x is a function on 1
abbrev with_element : System
with_element = system (element ∷ []) (function (pair one (integer (pos 0)) no_pairs))

-- x is the empty function
abbrev without_element : System
without_element = system [] (function no_pairs)

-- ---- the forms of states

by_names : (g h l : Name) (s : Vars) → map (λ p. p.0) s ≡ g ∷ h ∷ l ∷ [] → (d e w : Data) × (s ≡ (g, d) ∷ (h, e) ∷ (l, w) ∷ [])
by_names g h l [] e = absurd (cc)
by_names g h l (p ∷ []) e = absurd (cc)
by_names g h l (p ∷ (q ∷ [])) e = absurd (cc)
by_names g h l (p ∷ (q ∷ (r ∷ []))) e = (p.1, q.1, r.1, λ i. (a i, p.1) ∷ (b i, q.1) ∷ (c i, r.1) ∷ [])
  where
    a : p.0 ≡ g
    a = cc

    b : q.0 ≡ h
    b = cc

    c : r.0 ≡ l
    c = cc
by_names g h l (p ∷ (q ∷ (r ∷ (t ∷ s)))) e = absurd (cc)

by_key : (k : Data) (ps : Pairs) → keys (graph ps) ≡ k ∷ [] → (w : Data) × (ps ≡ pair k w no_pairs)
by_key k no_pairs e = absurd (cc)
by_key k (pair l w no_pairs) e = (w, λ i. pair (a i) w no_pairs)
  where
    a : l ≡ k
    a = cc
by_key k (pair l w (pair m v ps)) e = absurd (cc)

by_none : (ps : Pairs) → keys (graph ps) ≡ [] → ps ≡ no_pairs
by_none no_pairs e = refl
by_none (pair l w ps) e = absurd (cc)

pairs_are : (ps qs : Pairs) → Some (function ps) ≡ Some (function qs) → ps ≡ qs
pairs_are ps qs h = cc

only : {A : Type 0} (x y : A) (n : ℕ) → nth (x ∷ []) n ≡ Some y → x ≡ y
only x y zero e = same_Some x y e
only x y (suc n) e = absurd (grind (arith, e))

module _ (rs : List Resource) (ps : Pairs) where
  abbrev y : System
  y = system rs (function ps)

  module _ (bound : IsElementBound y x) where
    -- each state has this form
    form : (s : Vars) → IsSystemState y s → (qs : Pairs) × (p : Data) × (s ≡ at (function qs) p) × (keys (graph qs) ≡ keys (graph ps))
    form s h =
        let n = by_names x pc v s h.variables in
        let k = by_key one h.places.0 h.places.2 in
        let place : n.1 ≡ function (pair one k.0 no_pairs) = same_Some _ _ (sym (ap (find pc) n.3) ∙ h.places.1) ∙ ap function k.1 in
        let o = h.own 0 local refl in
        let none : n.2 ≡ function no_pairs = same_Some _ _ (sym (ap (find v) n.3) ∙ o.1) ∙ ap function (by_none o.0 o.2) in
        let d = h.domains x bound in
        let value : n.0 ≡ function d.2.0 = same_Some _ _ (sym (ap (find x) n.3) ∙ d.2.1) in
        let same : ps ≡ d.1.0 = pairs_are ps d.1.0 d.1.1 in
        (d.2.0, k.0, n.3 ∙ (λ i. (x, value i) ∷ (pc, place i) ∷ (v, none i) ∷ []), d.2.2 ∙ sym d.1.2 ∙ ap (λ qs. keys (graph qs)) (sym same))

  -- what a state of the system has beside its values
  module _ (global : (n : ℕ) (r : Resource) → nth rs n ≡ Some r → r.global ≡ x) (qs : Pairs) (same : keys (graph qs) ≡ keys (graph ps)) (l : Name) where
    own : (n : ℕ) (o : Owned) → nth y.own n ≡ Some o → IsFunctionOn (in_order o.ids) (find o.variable (at (function qs) (string l)))
    own n o e = subst (λ o. IsFunctionOn (in_order o.ids) (find o.variable (at (function qs) (string l)))) (only local o n e) (no_pairs, refl, refl)

    domains : (g : Name) → IsElementBound y g → HasOneDomain y.start (at (function qs) (string l)) g
    domains g b = subst (λ g. HasOneDomain y.start (at (function qs) (string l)) g) (is_x b.shared) (keys (graph ps), (ps, refl, refl), (qs, refl, same))
      where
        is_x : ((k n : ℕ) × (i : Member) × (nth y.members k ≡ Some i) × (nth i.globals n ≡ Some g)) ⊎ ((n : ℕ) × (r : Resource) × (nth y.resources n ≡ Some r) × (r.global ≡ g)) → x ≡ g
        is_x (inl h) = only x g h.1 (ap (λ j. nth j.globals h.1) (only member h.2 h.0 h.3) ∙ h.4)
        is_x (inr h) = sym (global h.0 h.1 h.2) ∙ h.3

one_key : (k : Data) → IsSorted (k ∷ [])
unfolding IsStrictlySortedBy
one_key k = (tt, tt)

no_key : IsSorted []
unfolding IsStrictlySortedBy
no_key = tt

same_is : (v w : Data) → same_data v w ≡ true → v ≡ w
same_is v w h = data_exact v w (equal_is (data_cmp v w) h)

next_is : (t u : Vars) (ps qs : List Data) → Next t ps ≡ Next u qs → t ≡ u
next_is t u ps qs h = cc

-- ---- with an element

abbrev on_one : Data → Pairs
on_one v = pair one v no_pairs

is_bound : IsElementBound with_element x
is_bound = record { shared = inl (0, 0, member, refl, refl); elements = λ n r e g i. let none = ap (λ r. r.index) (only element r n e) ∙ i in absurd (grind (arith, none)) }

good : (z : ℤ) (l : Name) → fits_i64 z ≡ true → IsSystemState with_element (at (function (on_one (integer z))) (string l))
good z l f = record {
  variables = refl;
  values = (((refl, f, tt), one_key one), (((refl, tt, tt), one_key one), ((tt, no_key), tt)));
  shallow = refl;
  places = (on_one (string l), refl, refl);
  own = own (element ∷ []) (on_one (integer (pos 0))) (λ n r e. ap (λ r. r.global) (sym (only element r n e))) (on_one (integer z)) refl l;
  domains = domains (element ∷ []) (on_one (integer (pos 0))) (λ n r e. ap (λ r. r.global) (sym (only element r n e))) (on_one (integer z)) refl l;
}

abbrev reached : Vars
reached = at (function (on_one five)) (string done)

-- the entry of the step leads to its end
leads : (v p : Data) (ps : List Data) → After (at (function (on_one v)) p) (effect_between with_element 0 (at (function (on_one v)) p) reached ps) ≡ Some reached
leads v p ps = go (same_data v five) (same_data p (string done)) refl refl
  where
    place : List Change
    place = record { component = record { variable = pc; index = Some one; owner = OfInstance 0 }; value = string done } ∷ []

    changes : (a b : Bool) → List Change
    changes a b = if not a then record { component = record { variable = x; index = Some one; owner = OfResource 0 }; value = five } ∷ (if not b then place else []) else (if not b then place else [])

    go : (a b : Bool) → same_data v five ≡ a → same_data p (string done) ≡ b
        → (if are_in (changes a b) (at (function (on_one v)) p) then after_changes (changes a b) (at (function (on_one v)) p) else None) ≡ Some reached
    go true true e f = λ i. Some (at (function (on_one (same_is v five e i))) (same_is p (string done) f i))
    go true false e f = λ i. Some (at (function (on_one (same_is v five e i))) (string done))
    go false true e f = λ i. Some (at (function (on_one five)) (same_is p (string done) f i))
    go false false e f = refl

-- each state of the system, and what the member does on it
with_form : (s : Vars) → IsSystemState with_element s → (old : Data) × (p : Data) × (s ≡ at (function (on_one old)) p)
with_form s h =
    let f = form (element ∷ []) (on_one (integer (pos 0))) is_bound s h in
    let k = by_key one f.0 f.3 in
    (k.0, f.1, f.2 ∙ (λ i. at (function (k.1 i)) f.1))

-- where it stands at its label it writes the element and is at Done
abbrev made : Bool → Section Touched Vars
made b = if b then record { trace = (x, Some one) ∷ []; end = Next reached [] } else nowhere

with_ends : (s t : Vars) (ps : List Data) (d : Words) → IsSystemState with_element s → (sect 0 s d).end ≡ Next t ps → (old : Data) × (p : Data) × (s ≡ at (function (on_one old)) p) × (reached ≡ t)
with_ends s t ps d h e =
    let f = with_form s h in
    (f.0, f.1, f.2, go (is_place label (Some f.1)) (ap (λ s. (sect 0 s d).end) (sym f.2) ∙ e))
  where
    go : (b : Bool) → (made b).end ≡ Next t ps → reached ≡ t
    go true e = next_is reached t [] ps e
    go false e = absurd (grind (arith, e))

-- what holds of the traces [] and [x[1]] holds of its trace
with_trace : (P : List Touched → Type 0) → P [] → P ((x, Some one) ∷ []) → (k : ℕ) (s : Vars) (d : Words) → IsSystemState with_element s → P (sect k s d).trace
with_trace P none one_write zero s d h =
    let f = with_form s h in subst (λ s. P (sect 0 s d).trace) (sym f.2) (go (is_place label (Some f.1)))
  where
    go : (b : Bool) → P (made b).trace
    go true = one_write
    go false = none
with_trace P none one_write (suc k) s d h = none

with_rules : Fits (rules_of with_element settings) (Reaches with_element) (IsSystemState with_element)
with_rules = record {
  start = good (pos 0) label refl;
  kept = kept;
  patches = patches;
  prints = λ k s t ps. refl;
  reaches = reaches;
}
  where
    kept : (k a : ℕ) (s t : Vars) (ps : List Data) → IsSystemState with_element s → ((rules_of with_element settings).sect k a s).end ≡ Next t ps → IsSystemState with_element t
    kept zero a s t ps h e = subst (IsSystemState with_element) (with_ends s t ps (words_of (Seeded 0 0 a)) h e).3 (good (pos 5) done refl)
    kept (suc k) a s t ps h e = absurd (grind (arith, e))

    patches : (k a : ℕ) (s t : Vars) (ps : List Data) → IsSystemState with_element s → ((rules_of with_element settings).sect k a s).end ≡ Next t ps
        → unwrap_or (After s (effect_between with_element k s t ps)) s ≡ t
    patches zero a s t ps h e =
        let q = with_ends s t ps (words_of (Seeded 0 0 a)) h e in
        (λ i. unwrap_or (After (q.2 i) (effect_between with_element 0 (q.2 i) (sym q.3 i) ps)) (q.2 i))
        ∙ ap (λ o. unwrap_or o (at (function (on_one q.0)) q.1)) (leads q.0 q.1 ps) ∙ q.3
    patches (suc k) a s t ps h e = absurd (grind (arith, e))

    reaches : (k a : ℕ) (s : Vars) → IsSystemState with_element s → AllIn (Reaches with_element k) ((rules_of with_element settings).sect k a s).trace
    reaches zero a s h =
        with_trace (λ cs. AllIn (Reaches with_element 0) (numbers_of (element ∷ []) cs)) tt ((member, element, refl, refl, (0, refl)), tt) 0 s (words_of (Seeded 0 0 a)) h
    reaches (suc k) a s h = tt

with_fits : SystemFits with_element settings
with_fits = record {
  rules = with_rules;
  numbers = λ n r e. go n r e;
  resources = λ k a s h. with_trace (AreOfResources (element ∷ [])) tt ((0, refl), tt) k s (words_of (Seeded 0 k a)) h;
}
  where
    go : (n : ℕ) (r : Resource) → nth (element ∷ []) n ≡ Some r → r.number ≡ n
    go zero r e = ap (λ r. r.number) (sym (same_Some element r e))
    go (suc n) r e = absurd (grind (arith, e))

-- ---- without one

is_bound_empty : IsElementBound without_element x
is_bound_empty = record { shared = inl (0, 0, member, refl, refl); elements = λ n r e g i. absurd (grind (arith, e)) }

empty : (l : Name) → IsSystemState without_element (at (function no_pairs) (string l))
empty l = record {
  variables = refl;
  values = ((tt, no_key), (((refl, tt, tt), one_key one), ((tt, no_key), tt)));
  shallow = refl;
  places = (on_one (string l), refl, refl);
  own = own [] no_pairs (λ n r e. absurd (grind (arith, e))) no_pairs refl l;
  domains = domains [] no_pairs (λ n r e. absurd (grind (arith, e))) no_pairs refl l;
}

-- on each state of the system the member's section has no value at its label, and is at no label elsewhere
abbrev stuck : Bool → Section Touched Vars
stuck b = if b then record { trace = []; end = Stuck NoValue } else nowhere

without : (P : Section Touched Vars → Type 0) → ((b : Bool) → P (stuck b)) → (k : ℕ) (s : Vars) (d : Words) → IsSystemState without_element s → P (sect k s d)
without P all zero s d h =
    let f = form [] no_pairs is_bound_empty s h in
    let is : s ≡ at (function no_pairs) f.1 = f.2 ∙ (λ i. at (function (by_none f.0 f.3 i)) f.1) in
    subst (λ s. P (sect 0 s d)) (sym is) (all (is_place label (Some f.1)))
without P all (suc k) s d h = all false

without_trace : (P : List Touched → Type 0) → P [] → (k : ℕ) (s : Vars) (d : Words) → IsSystemState without_element s → P (sect k s d).trace
without_trace P none k s d h = without (λ z. P z.trace) go k s d h
  where
    go : (b : Bool) → P (stuck b).trace
    go true = none
    go false = none

without_next : (k : ℕ) (s t : Vars) (ps : List Data) (d : Words) → IsSystemState without_element s → (sect k s d).end ≡ Next t ps → ⊥
without_next k s t ps d h e = without (λ z. z.end ≡ Next t ps → ⊥) go k s d h e
  where
    go : (b : Bool) → (stuck b).end ≡ Next t ps → ⊥
    go true e = absurd (grind (arith, e))
    go false e = absurd (grind (arith, e))

without_fits : SystemFits without_element settings
without_fits = record {
  rules = record {
    start = empty label;
    kept = λ k a s t ps h e. absurd (without_next k s t ps (words_of (Seeded 0 k a)) h e);
    patches = λ k a s t ps h e. absurd (without_next k s t ps (words_of (Seeded 0 k a)) h e);
    prints = λ k s t ps. refl;
    reaches = λ k a s h. without_trace (λ cs. AllIn (Reaches without_element k) (numbers_of [] cs)) tt k s (words_of (Seeded 0 k a)) h;
  };
  numbers = λ n r e. absurd (grind (arith, e));
  resources = λ k a s h. without_trace (AreOfResources []) tt k s (words_of (Seeded 0 k a)) h;
}
