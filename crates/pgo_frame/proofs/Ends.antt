-- Where a section ends at a label on two states beside each other: it leads to a state on both or on neither, and the ends agree on
-- what the states agreed on.
use Rattle.std.proofs.Common.{◌≡◌, Bool, true, false, ◌&&◌, List, [], ◌∷◌, map, Option, Some, None, ◌⊎◌, inl, inr, refl, sym, ap, ◌∙◌, subst, arith}
use Rattle.std.specs.Prelude.{if◌then◌else◌, nat_le}
use Rattle.std.proofs.lemmas.Option.{same_Some}
use Rattle.pgo_base.specs.Data.{Data, string, function, Pairs, graph}
use Rattle.pgo_base.specs.Lookup.{Name, Vars, same_name, find}
use Rattle.pgo_base.specs.Size.{depth}
use Rattle.pgo_model.specs.Names.{is_among}
use Rattle.pgo_model.specs.Operators.{both}
use Rattle.pgo_model.specs.Options.{on}
use Rattle.pgo_model.specs.Outcome.{Outcome, Next, Stuck, NoValue}
use Rattle.pgo_model.specs.State.{is_shallow}
use Rattle.pgo_model.specs.Variables.{HasOneDomain}
use Rattle.pgo_model.specs.Written.{pc}
use Rattle.pgo_bound.specs.Among.{IsAmong}
use Rattle.pgo_sections.specs.BoundValues.{put_part, value_put}
use Rattle.pgo_sections.specs.Code.{Whole}
use Rattle.pgo_sections.specs.Context.{Context, value_now}
use Rattle.pgo_sections.specs.Section.{closed_value, closed, if_shallow, end_of, run_of}
use Rattle.pgo_sections.specs.SectionRun.{Out}
use Rattle.pgo_accesses.proofs.Ending.{shallow_at}
use Rattle.pgo_accesses.proofs.Parts.{of_le, size_is}
use Rattle.pgo_frame.specs.Agreement.{at_index, AgreeAt, SameEnd}
use Rattle.pgo_frame.proofs.Near.{near_start, near_le, puts_near, Puts, neither, functions}
use Rattle.pgo_frame.proofs.Changed.{K1, K2, Changed, Alike, same, near, alike_at}
use Rattle.pgo_frame.proofs.Beside.{Sim, goes, jumps, stops, parts}
use Rattle.pgo_frame.proofs.Parted.{agree_test, Parted}

-- ---- what a variable becomes

-- neither has a value, or both have, which are deep together; and what was the same at an index is the same
data Becomes (old old' : Data) (o o' : Option Data) : Type 0 where
  none : o ≡ None → o' ≡ None → Becomes old old' o o'
  values : (u u' : Data) → o ≡ Some u → o' ≡ Some u' → nat_le (depth u) 256 ≡ nat_le (depth u') 256
      → ((j : Option Data) → at_index j (Some old) ≡ at_index j (Some old') → at_index j (Some u) ≡ at_index j (Some u')) → Becomes old old' o o'

-- ---- what all of them become

-- no value, or both lead to variables, which are deep together; and what was the same of them is the same
data Closes (a c : Vars) (o o' : Option Vars) : Type 0 where
  never : o ≡ None → o' ≡ None → Closes a c o o'
  ends : (u v : Vars) → o ≡ Some u → o' ≡ Some v → is_shallow u ≡ is_shallow v
      → ((x : Name) (j : Option Data) → at_index j (find x a) ≡ at_index j (find x c) → at_index j (find x u) ≡ at_index j (find x v)) → Closes a c o o'

join : (x : Name) (v w : Data) (a c : Vars) (o o' : Option Data) (r r' : Option Vars) → Becomes v w o o' → Closes a c r r'
    → Closes ((x, v) ∷ a) ((x, w) ∷ c) (both (λ u t. Some ((x, u) ∷ t)) o r) (both (λ u t. Some ((x, u) ∷ t)) o' r')
join x v w a c o o' r r' (none e f) h = never (ap (λ o. both (λ u t. Some ((x, u) ∷ t)) o r) e) (ap (λ o. both (λ u t. Some ((x, u) ∷ t)) o r') f)
join x v w a c o o' r r' (values u u' e f low kept) (never g k) = never (λ i. both (λ u t. Some ((x, u) ∷ t)) (e i) (g i)) (λ i. both (λ u t. Some ((x, u) ∷ t)) (f i) (k i))
join x v w a c o o' r r' (values u u' e f low kept) (ends us vs g k deep more) =
    ends ((x, u) ∷ us) ((x, u') ∷ vs) (λ i. both (λ u t. Some ((x, u) ∷ t)) (e i) (g i)) (λ i. both (λ u t. Some ((x, u) ∷ t)) (f i) (k i)) (λ i. low i && deep i) (λ y j m. found y j (same_name y x) m)
  where
    found : (y : Name) (j : Option Data) (b : Bool) → at_index j (if b then Some v else find y a) ≡ at_index j (if b then Some w else find y c)
        → at_index j (if b then Some u else find y us) ≡ at_index j (if b then Some u' else find y vs)
    found y j true m = kept j m
    found y j false m = more y j m

abbrev Entries : Vars → Vars → Type 0
Entries s a = (p : Name × Data) → IsAmong p a → find p.0 s ≡ Some p.1

module _ (C : Context) (s t : Vars) (low_s : is_shallow s ≡ true) (low_t : is_shallow t ≡ true)
    (domains : (x : Name) → (same_name x pc ≡ true) ⊎ (is_among x C.owns ≡ true) → HasOneDomain s t x)
    (l : Name) (ch ch' : Vars) (h : Changed C s t ch ch') where
  -- the instance's part of a variable becomes v
  part_becomes : (x : Name) (old old' v : Data) → find x s ≡ Some old → find x t ≡ Some old' → HasOneDomain s t x → Becomes old old' (put_part C.id (Some old) (Some v)) (put_part C.id (Some old') (Some v))
  part_becomes x old old' v e f d =
      let p = d.1 in let q = d.2 in
      let at_s : function p.0 ≡ old = same_Some (function p.0) old (sym p.1 ∙ e) in
      let at_t : function q.0 ≡ old' = same_Some (function q.0) old' (sym q.1 ∙ f) in
      let deep_p = shallow_at s x (function p.0) low_s p.1 in let deep_q = shallow_at t x (function q.0) low_t q.1 in
      let a = size_is p.0 in let c = size_is q.0 in
      let n = near_start (graph p.0) (graph q.0) (p.2 ∙ sym q.2) (omega (arith, deep_p, a)) (omega (arith, deep_q, c)) in
      let P : Data → Type 0 = λ z. Becomes z old' (put_part C.id (Some z) (Some v)) (put_part C.id (Some old') (Some v)) in
      let Q : Data → Type 0 = λ z. Becomes (function p.0) z (put_part C.id (Some (function p.0)) (Some v)) (put_part C.id (Some z) (Some v)) in
      subst P at_s (subst Q at_t (go p.0 q.0 (put_part C.id (Some (function p.0)) (Some v)) (put_part C.id (Some (function q.0)) (Some v)) (λ k. ap (λ o. put_part C.id o (Some v)) k) (puts_near C.id v p.0 q.0 n)))
    where
      go : (ps qs : Pairs) (o o' : Option Data) → (Some (function ps) ≡ Some (function qs) → o ≡ o') → Puts ps qs o o' → Becomes (function ps) (function qs) o o'
      go ps qs o o' one (neither e f) = none e f
      go ps qs o o' one (functions us vs e f n kept) = values (function us) (function vs) e f (near_le us vs 255 (omega arith) n) each
        where
          each : (j : Option Data) → at_index j (Some (function ps)) ≡ at_index j (Some (function qs)) → at_index j (Some (function us)) ≡ at_index j (Some (function vs))
          each None k = sym e ∙ one k ∙ f
          each (Some i) k = kept i k

  -- a global has what it has now
  global_becomes : (x : Name) (old old' : Data) → find x s ≡ Some old → find x t ≡ Some old' → is_among x C.globals ≡ true
      → Becomes old old' (on (Some old) (find x ch) (λ v. Some v)) (on (Some old') (find x ch') (λ v. Some v))
  global_becomes x old old' e f is = go (C.by_element x) refl
    where
      there : (z : Data) (o : Option Data) → (w : Data) × (on (Some z) o (λ v. Some v) ≡ Some w)
      there z None = (z, refl)
      there z (Some w) = (w, refl)

      alike : (o o' : Option Data) → ((w : Data) × (o ≡ Some w)) → Alike C s t x o o' → Becomes old old' o o'
      alike o o' w (same k) = values w.0 w.0 w.1 (sym k ∙ w.1) refl (λ j m. refl)
      alike o o' w (near ps qs m n near_by each whole) =
          values (function ps) (function qs) m n (near_le ps qs 255 (omega arith) near_by) (λ j k.
          let agree : AgreeAt s t (x, j) = ap (at_index j) e ∙ k ∙ sym (ap (at_index j) f) in
          sym (ap (at_index j) m) ∙ alike_at C s t x j o o' (near ps qs m n near_by each whole) (agree_test s t (x, j) agree) ∙ ap (at_index j) n)

      other : (o : Option Data) → Becomes old old' (on (Some old) o (λ v. Some v)) (on (Some old') o (λ v. Some v))
      other None = values old old' refl refl (of_le (depth old) 256 (shallow_at s x old low_s e) ∙ sym (of_le (depth old') 256 (shallow_at t x old' low_t f))) (λ j k. k)
      other (Some v) = values v v refl refl refl (λ j k. refl)

      go : (b : Bool) → C.by_element x ≡ b → Becomes old old' (on (Some old) (find x ch) (λ v. Some v)) (on (Some old') (find x ch') (λ v. Some v))
      go true b =
          let a = h.elements x (λ i. b i && is i) in
          let now = ap (λ o. on o (find x ch) (λ v. Some v)) e in let now' = ap (λ o. on o (find x ch') (λ v. Some v)) f in
          alike (on (Some old) (find x ch) (λ v. Some v)) (on (Some old') (find x ch') (λ v. Some v)) (there old (find x ch)) (subst (λ o. Alike C s t x o (on (Some old') (find x ch') (λ v. Some v))) now (subst (λ o. Alike C s t x (value_now (K1 C s t) (Whole x) ch) o) now' a))
      go false b =
          subst (λ o. Becomes old old' (on (Some old) (find x ch) (λ v. Some v)) (on (Some old') o (λ v. Some v))) (h.others x (λ i. b i && is_among x C.globals)) (other (find x ch))

  becomes : (x : Name) (old old' : Data) → find x s ≡ Some old → find x t ≡ Some old' → Becomes old old' (closed_value (K1 C s t) l ch x old) (closed_value (K2 C s t) l ch' x old')
  becomes x old old' e f = settled (same_name x pc) refl (is_among x C.globals) refl
    where
      own : (o : Option Data) → ((v : Data) → o ≡ Some v → HasOneDomain s t x) → Becomes old old' (on (Some old) o (λ v. value_put false C.id (Some old) (Some v))) (on (Some old') o (λ v. value_put false C.id (Some old') (Some v)))
      own None d = values old old' refl refl (of_le (depth old) 256 (shallow_at s x old low_s e) ∙ sym (of_le (depth old') 256 (shallow_at t x old' low_t f))) (λ j k. k)
      own (Some v) d = part_becomes x old old' v e f (d v refl)

      mine : is_among x C.globals ≡ false → (is_among x C.globals ≡ true) ⊎ (is_among x C.owns ≡ true) → HasOneDomain s t x
      mine n (inl g) = absurd (let z : true ≡ false = sym g ∙ n in grind (arith, z))
      mine n (inr m) = domains x (inr m)

      none_by : (b c : Bool) → c ≡ false → b && c ≡ false
      none_by true c e = e
      none_by false c e = refl

      settled : (b : Bool) → same_name x pc ≡ b → (g : Bool) → is_among x C.globals ≡ g
          → Becomes old old' (if b then put_part C.id (Some old) (Some (string l)) else on (Some old) (find x ch) (λ v. value_put g C.id (Some old) (Some v)))
          (if b then put_part C.id (Some old') (Some (string l)) else on (Some old') (find x ch') (λ v. value_put g C.id (Some old') (Some v)))
      settled true n g m = part_becomes x old old' (string l) e f (domains x (inl n))
      settled false n true m = global_becomes x old old' e f m
      settled false n false m =
          subst (λ o. Becomes old old' (on (Some old) (find x ch) (λ v. value_put false C.id (Some old) (Some v))) (on (Some old') o (λ v. value_put false C.id (Some old') (Some v))))
          (h.others x (none_by (C.by_element x) (is_among x C.globals) m)) (own (find x ch) (λ v k. mine m (h.mine x v k)))

  closing : (a c : Vars) → map (λ p. p.0) a ≡ map (λ p. p.0) c → Entries s a → Entries t c → Closes a c (closed (K1 C s t) l ch a) (closed (K2 C s t) l ch' c)
  closing [] [] e f g = ends [] [] refl refl refl (λ x j k. k)
  closing [] (q ∷ c) e f g = absurd (let z = ap Rattle.std.proofs.Common.length e in grind (arith, z))
  closing (p ∷ a) [] e f g = absurd (let z = ap Rattle.std.proofs.Common.length e in grind (arith, z))
  closing (p ∷ a) (q ∷ c) e f g =
      let first : p.0 ≡ q.0 = heads e in
      let here = becomes p.0 p.1 q.1 (f p (inl refl)) (subst (λ y. find y t ≡ Some q.1) (sym first) (g q (inl refl))) in
      let rest = closing a c (tails e) (λ x m. f x (inr m)) (λ x m. g x (inr m)) in
      subst (λ y. Closes (p ∷ a) ((y, q.1) ∷ c) (closed (K1 C s t) l ch (p ∷ a)) (closed (K2 C s t) l ch' ((y, q.1) ∷ c))) first
      (join p.0 p.1 q.1 a c (closed_value (K1 C s t) l ch p.0 p.1) (closed_value (K2 C s t) l ch' p.0 q.1) (closed (K1 C s t) l ch a) (closed (K2 C s t) l ch' c) here rest)
    where
      heads : p.0 ∷ map (λ p. p.0) a ≡ q.0 ∷ map (λ p. p.0) c → p.0 ≡ q.0
      heads e = cc

      tails : p.0 ∷ map (λ p. p.0) a ≡ q.0 ∷ map (λ p. p.0) c → map (λ p. p.0) a ≡ map (λ p. p.0) c
      tails e = cc

-- ---- how a section ends

same_ends : (s t : Vars) (ps : List Data) (o o' : Option Vars) → Closes s t o o' → SameEnd s t (on (Stuck NoValue) o (if_shallow ps)) (on (Stuck NoValue) o' (if_shallow ps))
same_ends s t ps o o' (never e f) =
    let A : Option Vars → Outcome Vars = λ q. on (Stuck NoValue) q (if_shallow ps) in
    subst (λ q. SameEnd s t (A q) (A o')) (sym e) (subst (λ q. SameEnd s t (Stuck NoValue) (A q)) (sym f) refl)
same_ends s t ps o o' (ends u v e f deep kept) =
    let A : Option Vars → Outcome Vars = λ q. on (Stuck NoValue) q (if_shallow ps) in
    subst (λ q. SameEnd s t (A q) (A o')) (sym e) (subst (λ q. SameEnd s t (if_shallow ps u) (A q)) (sym f)
    (subst (λ b. SameEnd s t (if_shallow ps u) (if b then Next v ps else Stuck NoValue)) deep (go (is_shallow u))))
  where
    go : (b : Bool) → SameEnd s t (if b then Next u ps else Stuck NoValue) (if b then Next v ps else Stuck NoValue)
    go true = (refl, λ c k. kept c.0 c.1 k)
    go false = refl

-- the traces part, or all is the same
abbrev pub Same : Context → Vars → Vars → Out → Out → Type 0
Same C s t o o' =
    Parted s t (run_of o).trace (run_of o').trace ⊎ (((run_of o).trace ≡ (run_of o').trace) × ((run_of o).choices ≡ (run_of o').choices) × SameEnd s t (end_of (K1 C s t) o) (end_of (K2 C s t) o'))

pub end_same : (C : Context) (s t : Vars) → is_shallow s ≡ true → is_shallow t ≡ true → ((x : Name) → (same_name x pc ≡ true) ⊎ (is_among x C.owns ≡ true) → HasOneDomain s t x)
    → map (λ p. p.0) s ≡ map (λ p. p.0) t → Entries s s → Entries t t → (o o' : Out) → Sim C s t o o' → Same C s t o o'
end_same C s t low_s low_t domains one es et o o' (goes run ch' h) = inr (refl, refl, tt)
end_same C s t low_s low_t domains one es et o o' (jumps l run ch' h) =
    inr (refl, refl, same_ends s t run.prints (closed (K1 C s t) l run.changes s) (closed (K2 C s t) l ch' t) (closing C s t low_s low_t domains l run.changes ch' h s t one es et))
end_same C s t low_s low_t domains one es et o o' (stops kind run ch') = inr (refl, refl, refl)
end_same C s t low_s low_t domains one es et o o' (parts q q' h) = inl h
