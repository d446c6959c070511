-- The steps at a word, as the seats tell them.
use Rattle.std.proofs.Common.{◌≡◌, ℕ, suc, ◌+◌, ◌<◌, ◌≤◌, ◌≢◌, ◌⊎◌, Bool, true, false, List, [], ◌∷◌, ◌++◌, Some, length, get_or, set, sym, refl, ap, ◌∙◌, subst, ⊎_elim, arith, get_or-set_same, get_or-set_other}
use Rattle.std.specs.Prelude.{if◌then◌else◌, nat_eq, nat_lt}
use mathlib.Core.Option.{some}
use lib.ListN.{get_elem?}
use Rattle.pgo_model.specs.Machine.{nth}
use Rattle.pgo_model.specs.MachineLists.{nth_left, nth_last}
use Rattle.pgo_workers.specs.Closed.{Has}
use Rattle.pgo_table.specs.SeatViews.{WordStep, SeatView, total, bit, made, cap}
use Rattle.pgo_table.specs.Rule.{Chain, Traced}
use Rattle.pgo_table.proofs.Sums.{is_eq, not_eq, same_or, total-append, total-set, has_snoc, all_set}
use Rattle.pgo_table.proofs.Logs.{length_append}

chain_push : (from : ℕ) (l : List (ℕ × ℕ)) (word new : ℕ) → Chain from l word → Chain from (l ++ (word, new) ∷ []) new
chain_push from [] word new e = (sym e, refl)
chain_push from (p ∷ ps) word new h = (h.0, chain_push p.1 ps word new h.1)

cap_more : (n x : ℕ) → cap (suc n) x ≡ cap n x + bit (nat_eq n x)
cap_more n x = go (nat_lt x (suc n)) (nat_lt x n) (nat_eq n x) refl refl refl
  where
    go : (a b c : Bool) → nat_lt x (suc n) ≡ a → nat_lt x n ≡ b → nat_eq n x ≡ c → bit a ≡ bit b + bit c
    go true true true d e f = absurd (grind (arith, e, f))
    go true true false d e f = refl
    go true false true d e f = refl
    go true false false d e f = absurd (grind (arith, d, e, f))
    go false true c d e f = absurd (grind (arith, d, e))
    go false false true d e f = absurd (grind (arith, d, f))
    go false false false d e f = refl

pub cap_none : (x : ℕ) → cap 0 x ≡ 0
cap_none x = go (nat_lt x 0) refl
  where
    go : (a : Bool) → nat_lt x 0 ≡ a → bit a ≡ 0
    go true e = absurd (grind (arith, e))
    go false e = refl

-- a step at its own word, and at another
made_here : (i n k found left : ℕ) → made i n (record { word = i; number = k; found = found; left = left } ∷ []) ≡ bit (nat_eq k n)
made_here i n k found left = let e : (if nat_eq i i then bit (nat_eq k n) else 0) ≡ bit (nat_eq k n) = ap (λ b. if b then bit (nat_eq k n) else 0) (is_eq i i refl) in omega (arith, e)

made_else : (r i n k found left : ℕ) → i ≢ r → made r n (record { word = i; number = k; found = found; left = left } ∷ []) ≡ 0
made_else r i n k found left ne = let e : (if nat_eq i r then bit (nat_eq k n) else 0) ≡ (if false then bit (nat_eq k n) else 0) = ap (λ b. if b then bit (nat_eq k n) else 0) (not_eq i r ne) in omega (arith, e)

-- a seat made a step at i's word
here : (word : ℕ) (views : List SeatView) (id i new : ℕ) (v w : SeatView) (t : Traced word views i) → get_elem? views id ≡ some v → w.word_steps ≡ v.word_steps ++ record { word = i; number = length t.trace; found = word; left = new } ∷ [] → Traced new (set views id w) i
here word views id i new v w t me is = record {
  trace = t.trace ++ (word, new) ∷ [];
  chain = chain_push 0 t.trace word new t.chain;
  numbered = λ n.
      let q = total-set (λ (u : SeatView). made i n u.word_steps) views id v w me in let e = t.numbered n in
      let a : made i n w.word_steps ≡ made i n v.word_steps + made i n (x ∷ []) = ap (made i n) is ∙ total-append (λ (x : WordStep). if nat_eq x.word i then bit (nat_eq x.number n) else 0) v.word_steps (x ∷ []) in
      let one = made_here i n (length t.trace) word new in let c = cap_more (length t.trace) n in
      let l : cap (length (t.trace ++ (word, new) ∷ [])) n ≡ cap (suc (length t.trace)) n = ap (λ m. cap m n) longer in
      omega (arith, q, e, a, one, c, l);
  told = λ j u z at h is_at. all_set views id w (λ j u. (z : WordStep) → Has u.word_steps z → z.word ≡ i → nth (t.trace ++ (word, new) ∷ []) z.number ≡ Some (z.found, z.left))
      (λ z h at. ⊎_elim
      (λ (old : Has v.word_steps z). nth_left t.trace ((word, new) ∷ []) z.number (z.found, z.left) (t.told id v z me old at))
      (λ (e : x ≡ z). subst (λ (q : WordStep). nth (t.trace ++ (word, new) ∷ []) q.number ≡ Some (q.found, q.left)) e (nth_last t.trace (word, new)))
      (has_snoc v.word_steps x z (subst (λ l. Has l z) is h)))
      (λ j u ne there z h at. nth_left t.trace ((word, new) ∷ []) z.number (z.found, z.left) (t.told j u z there h at)) j u at z h is_at;
}
  where
    x : WordStep
    x = record { word = i; number = length t.trace; found = word; left = new }

    longer : length (t.trace ++ (word, new) ∷ []) ≡ suc (length t.trace)
    longer = let q = length_append t.trace ((word, new) ∷ []) in omega (arith, q)

-- a seat made a step at another word
elsewhere : (word : ℕ) (views : List SeatView) (id i r number found left : ℕ) (v w : SeatView) → i ≢ r → Traced word views r → get_elem? views id ≡ some v → w.word_steps ≡ v.word_steps ++ record { word = i; number = number; found = found; left = left } ∷ [] → Traced word (set views id w) r
elsewhere word views id i r number found left v w ne t me is = record {
  trace = t.trace;
  chain = t.chain;
  numbered = λ n.
      let q = total-set (λ (u : SeatView). made r n u.word_steps) views id v w me in let e = t.numbered n in
      let a : made r n w.word_steps ≡ made r n v.word_steps + made r n (x ∷ []) = ap (made r n) is ∙ total-append (λ (x : WordStep). if nat_eq x.word r then bit (nat_eq x.number n) else 0) v.word_steps (x ∷ []) in
      let none = made_else r i n number found left ne in omega (arith, q, e, a, none);
  told = λ j u z at h is_at. all_set views id w (λ j u. (z : WordStep) → Has u.word_steps z → z.word ≡ r → nth t.trace z.number ≡ Some (z.found, z.left))
      (λ z h at. ⊎_elim
      (λ (old : Has v.word_steps z). t.told id v z me old at)
      (λ (e : x ≡ z). absurd (ne (ap (λ (q : WordStep). q.word) e ∙ at)))
      (has_snoc v.word_steps x z (subst (λ l. Has l z) is h)))
      (λ j u far there z h at. t.told j u z there h at) j u at z h is_at;
}
  where
    x : WordStep
    x = record { word = i; number = number; found = found; left = left }

pub traced_after : (many : ℕ) (words : List ℕ) (views : List SeatView) (ts : (r : ℕ) → r ≤ many → Traced (get_or words r 0) views r) (id i new : ℕ) (v w : SeatView) (near : i ≤ many) → i < length words → get_elem? views id ≡ some v
    → w.word_steps ≡ v.word_steps ++ record { word = i; number = length (ts i near).trace; found = get_or words i 0; left = new } ∷ [] → (r : ℕ) → r ≤ many → Traced (get_or (set words i new) r 0) (set views id w) r
traced_after many words views ts id i new v w near inside me is r far = ⊎_elim
    (λ (e : r ≡ i). subst (λ q. Traced (get_or (set words i new) q 0) (set views id w) q) (sym e)
    (subst (λ n. Traced n (set views id w) i) (sym (get_or-set_same words i new 0 inside)) (here (get_or words i 0) views id i new v w (ts i near) me is)))
    (λ (ne : r ≢ i). subst (λ n. Traced n (set views id w) r) (sym (get_or-set_other words i r new 0 ne))
    (elsewhere (get_or words r 0) views id i r (length (ts i near).trace) (get_or words i 0) new v w (λ e. ne (sym e)) (ts r far) me is))
    (same_or r i)

-- the same steps in other views
pub traced_moved : (word : ℕ) (views others : List SeatView) (r : ℕ) → ((n : ℕ) → total (λ (v : SeatView). made r n v.word_steps) others ≡ total (λ (v : SeatView). made r n v.word_steps) views)
    → ((j : ℕ) (u : SeatView) (x : WordStep) → get_elem? others j ≡ some u → Has u.word_steps x → (i : ℕ) × (w : SeatView) × (get_elem? views i ≡ some w) × Has w.word_steps x) → Traced word views r → Traced word others r
traced_moved word views others r sums from t = record {
  trace = t.trace;
  chain = t.chain;
  numbered = λ n. sums n ∙ t.numbered n;
  told = λ j u x there h at. let q = from j u x there h in t.told q.0 q.1 x q.2 q.3 at;
}
