-- The states along a journal, and changes that are put in.
use Rattle.std.proofs.Common.{◌≡◌, ℕ, zero, suc, ◌<◌, ◌≤◌, ◌+◌, List, [], ◌∷◌, length, map, take, get_or, refl, ap, sym, ◌∙◌, add-one, subst, arith}
use Rattle.std.proofs.lemmas.List.{length-map, length-take-le}
use Rattle.std.specs.Prelude.{Bool, true, false, if◌then◌else◌, Option, Some, None, option_and_then, option_map}
use Rattle.pgo_base.specs.Data.{Data, boolean, integer, string, model, set, function, pairs, graph, graph-pairs}
use Rattle.pgo_base.specs.Lookup.{Vars, find}
use Rattle.pgo_base.specs.declared.log.Entry as base_entry
use Rattle.pgo_model.specs.Log.{Change, Effect, After, StateAt, are_in, after_changes, changed, with_part}
use Rattle.pgo_model.specs.LogView.{entry_view}
use Rattle.pgo_model.specs.Machine.{Entry, nth}
use Rattle.pgo_model.specs.Operators.{lookup, replace_at}
use Rattle.pgo_model.specs.Options.{on}
use Rattle.pgo_model.specs.Variables.{store}
use Rattle.pgo_journal.specs.Journal.{JournalView, last_state}
use Rattle.pgo_journal.specs.States.{with_new, put_found, put, put_all}

-- a part that is in a value
part_put : (i v old f : Data) → with_part old i v ≡ Some f → with_new (Some i) v old ≡ f
part_put i v (function ps) f h = go (lookup i (graph ps)) h
  where
    go : (o : Option Data) → option_map (λ w. function (pairs (replace_at i v (graph ps)))) o ≡ Some f → function (pairs (replace_at i v (graph ps))) ≡ f
    go None g = absurd (cc)
    go (Some w) g = cc
part_put i v (boolean b) f h = absurd (cc)
part_put i v (integer b) f h = absurd (cc)
part_put i v (string b) f h = absurd (cc)
part_put i v (model b) f h = absurd (cc)
part_put i v (set b) f h = absurd (cc)

-- a function with another value at an index, by its pairs
pub with_new_pairs : (f : List (Data × Data)) (i v : Data) → with_new (Some i) v (function (pairs f)) ≡ function (pairs (replace_at i v f))
with_new_pairs f i v = λ j. function (pairs (replace_at i v (graph-pairs f j)))

-- a component that is in a state
changed_put : (c : Change) (s t : Vars) → changed c s ≡ Some t → put c s ≡ t
changed_put c s t h = go (find c.component.variable s) h
  where
    at : (x : Option Data) (old : Data) → on (Some (store c.component.variable c.value s)) x (λ i. option_map (λ f. store c.component.variable f s) (with_part old i c.value)) ≡ Some t → store c.component.variable (with_new x c.value old) s ≡ t
    at None old g = cc
    at (Some i) old g = part (with_part old i c.value) g (λ f k. part_put i c.value old f k)
      where
        part : (o : Option Data) → option_map (λ f. store c.component.variable f s) o ≡ Some t → ((f : Data) → o ≡ Some f → with_new (Some i) c.value old ≡ f) → store c.component.variable (with_new (Some i) c.value old) s ≡ t
        part None k e = absurd (cc)
        part (Some f) k e = ap (λ w. store c.component.variable w s) (e f refl) ∙ (cc)

    go : (o : Option Data) → option_and_then (λ old. on (Some (store c.component.variable c.value s)) c.component.index (λ i. option_map (λ f. store c.component.variable f s) (with_part old i c.value))) o ≡ Some t → put_found c s o ≡ t
    go None g = absurd (cc)
    go (Some old) g = at c.component.index old g

changes_put : (cs : List Change) (s t : Vars) → after_changes cs s ≡ Some t → put_all cs s ≡ t
changes_put [] s t h = cc
changes_put (c ∷ cs) s t h = go (changed c s) refl h (λ u k. changes_put cs u t k)
  where
    go : (o : Option Vars) → changed c s ≡ o → option_and_then (after_changes cs) o ≡ Some t → ((u : Vars) → after_changes cs u ≡ Some t → put_all cs u ≡ t) → put_all cs (put c s) ≡ t
    go None e g ih = absurd (cc)
    go (Some u) e g ih = ap (put_all cs) (changed_put c s u e) ∙ ih u g

-- the state after an entry is the one with its changes put in
pub after_put : (s t : Vars) (e : Effect) → After s e ≡ Some t → put_all e.changes s ≡ t
after_put s t e h = go (are_in e.changes s) h
  where
    go : (b : Bool) → (if b then after_changes e.changes s else None) ≡ Some t → put_all e.changes s ≡ t
    go true g = changes_put e.changes s t g
    go false g = absurd (cc)

-- the state after an entry is made from the state before it
state_after : (s b : Vars) (l : List (Entry Effect)) (i : ℕ) (e : Entry Effect) → StateAt s l i ≡ Some b → nth l i ≡ Some e → StateAt s l (suc i) ≡ After b e.change
state_after s b [] i e h g = absurd (cc)
state_after s b (d ∷ l) zero e h g =
    let same : s ≡ b = cc in
    let that : d ≡ e = cc in
    behind (After s d.change) ∙ ap (λ x. After x d.change) same ∙ ap (λ (x : Entry Effect). After b x.change) that
  where
    behind : (o : Option Vars) → option_and_then (λ t. StateAt t l 0) o ≡ o
    behind None = refl
    behind (Some t) = refl
state_after s b (d ∷ l) (suc i) e h g = go (After s d.change) h (λ t k. state_after t b l i e k g)
  where
    go : (o : Option Vars) → option_and_then (λ t. StateAt t l i) o ≡ Some b → ((t : Vars) → StateAt t l i ≡ Some b → StateAt t l (suc i) ≡ After b e.change) → option_and_then (λ t. StateAt t l (suc i)) o ≡ After b e.change
    go None k ih = absurd (cc)
    go (Some t) k ih = ih t k

-- where there is a state after n entries, there is one after fewer
pub state_within : (s : Vars) (l : List (Entry Effect)) (k n : ℕ) (t : Vars) → StateAt s l n ≡ Some t → k ≤ n → (u : Vars) × (StateAt s l k ≡ Some u)
state_within s l zero n t h b = (s, refl)
state_within s l (suc k) zero t h b = absurd (omega (arith, b))
state_within s [] (suc k) (suc n) t h b = absurd (cc)
state_within s (e ∷ l) (suc k) (suc n) t h b = go (After s e.change) h (λ u g. state_within u l k n t g (omega (arith, b)))
  where
    go : (o : Option Vars) → option_and_then (λ u. StateAt u l n) o ≡ Some t → ((u : Vars) → StateAt u l n ≡ Some t → (w : Vars) × (StateAt u l k ≡ Some w)) → (w : Vars) × (option_and_then (λ u. StateAt u l k) o ≡ Some w)
    go None g ih = absurd (cc)
    go (Some u) g ih = ih u g

-- the entries after the first n don't count
pub state_taken : (s : Vars) (es : List base_entry.Entry) (k n : ℕ) → k ≤ n → StateAt s (map entry_view (take n es)) k ≡ StateAt s (map entry_view es) k
state_taken s es zero n h = refl
state_taken s es (suc k) zero h = absurd (omega (arith, h))
state_taken s [] (suc k) (suc n) h = refl
state_taken s (e ∷ es) (suc k) (suc n) h = go (After s (entry_view e).change) (λ t. state_taken t es k n (omega (arith, h)))
  where
    go : (o : Option Vars) → ((t : Vars) → StateAt t (map entry_view (take n es)) k ≡ StateAt t (map entry_view es) k) → option_and_then (λ t. StateAt t (map entry_view (take n es)) k) o ≡ option_and_then (λ t. StateAt t (map entry_view es) k) o
    go None ih = refl
    go (Some t) ih = ih t

-- what stands at an index of a log in memory
pub entry_at : (es : List base_entry.Entry) (i : ℕ) (e : base_entry.Entry) → i < length es → e ≡ get_or es i e → nth (map entry_view es) i ≡ Some (entry_view e)
entry_at [] i e h g = absurd (omega (arith, h))
entry_at (d ∷ es) zero e h g = ap (λ x. Some (entry_view x)) (sym g)
entry_at (d ∷ es) (suc i) e h g = entry_at es i e (omega (arith, h)) g

-- one entry more is put in, where there is a state after n
pub put_more : (s b t : Vars) (es : List base_entry.Entry) (n i : ℕ) (e : base_entry.Entry) → StateAt s (map entry_view es) n ≡ Some t → i < n → i < length es → e ≡ get_or es i e → StateAt s (map entry_view es) i ≡ Some b → StateAt s (map entry_view es) (i + 1) ≡ Some (put_all (entry_view e).change.changes b)
put_more s b t es n i e h m k g r =
    let l = map entry_view es in
    let after = state_after s b l i (entry_view e) r (entry_at es i e k g) in
    let w = state_within s l (suc i) n t h (omega (arith, m)) in
    let u = after_put b w.0 (entry_view e).change (sym after ∙ w.1) in
    subst (λ n. StateAt s l n ≡ Some (put_all (entry_view e).change.changes b)) (sym (add-one i)) (w.1 ∙ ap Some (sym u))

module _ (j : JournalView) (es : List base_entry.Entry) (n : ℕ) (same : map entry_view es ≡ j.entries) (h : n ≤ length j.entries) where
  -- the first n entries are n
  pub taken_length : length (take n es) ≡ n
  taken_length = let l = length-map es entry_view in let m = ap length same in length-take-le n es (omega (arith, l, m, h))

  -- there is a state after the first n entries
  pub taken_state : (t : Vars) → last_state j ≡ Some t → (u : Vars) × (StateAt j.start (map entry_view (take n es)) n ≡ Some u)
  taken_state t r =
      let w = state_within j.start j.entries n (length j.entries) t r h in
      (w.0, state_taken j.start es n n (omega arith) ∙ ap (λ l. StateAt j.start l n) same ∙ w.1)

  -- the state after the first n entries is that of the journal
  pub taken_is : (k : ℕ) (v : Vars) → k ≡ n → StateAt j.start (map entry_view (take n es)) k ≡ Some v → StateAt j.start j.entries n ≡ Some v
  taken_is k v e r =
      ap (λ l. StateAt j.start l n) (sym same) ∙ sym (state_taken j.start es n n (omega arith)) ∙ ap (λ m. StateAt j.start (map entry_view (take n es)) m) (sym e) ∙ r
