-- The step from one choice of members to the next.
use Rattle.std.proofs.Common.{◌≡◌, ℕ, zero, suc, ◌<◌, ◌≤◌, ◌+◌, List, [], ◌∷◌, ◌++◌, length, map, drop, take, get_or, refl, ap, sym, ◌∙◌, arith, add-one, subst}
use Rattle.std.proofs.Math.ListN.{set}
use Rattle.std.proofs.Math.Seq.{drop-cons}
use Rattle.std.proofs.lemmas.List.{take-append-drop}
use Rattle.pgo_base.specs.Data.{Data}
use Rattle.pgo_base.specs.declared.bindings.BoundName.{BoundName}
use Rattle.pgo_model.specs.Operators.{choices}
use Rattle.pgo_eval.specs.Choices.{over_of, over_bound, sets_of, AreAt, AreFirst, chosen, left, at_place, restarted}
use Rattle.pgo_eval.proofs.Choices.{left_first, last_member, next_member, behind}

-- the names stand at members, of the same sets, and what was left is one choice more than what is left
pub record Advanced (old new : List BoundName) (rest : List (List Data)) : Type 0 where
  pub at : AreAt new
  pub over : over_bound new ≡ over_bound old
  pub left : left old ≡ chosen old ∷ rest

get_front : {A : Type 0} (xs ys : List A) (k : ℕ) (d : A) → k < length xs → get_or (take (suc k) xs ++ ys) k d ≡ get_or xs k d
get_front [] ys k d h = absurd (omega arith)
get_front (x ∷ xs) ys zero d h = refl
get_front (x ∷ xs) ys (suc k) d h = get_front xs ys k d (omega arith)

set_front : {A : Type 0} (xs ys : List A) (k : ℕ) (y : A) → k < length xs → set (take (suc k) xs ++ ys) k y ≡ take k xs ++ y ∷ ys
set_front [] ys k y h = absurd (omega arith)
set_front (x ∷ xs) ys zero y h = refl
set_front (x ∷ xs) ys (suc k) y h = ap (λ zs. x ∷ zs) (set_front xs ys k y (omega arith))

at_index : (bs : List BoundName) (k : ℕ) (d : BoundName) → AreAt bs → k < length bs → (get_or bs k d).at < length (get_or bs k d).set
at_index [] k d a h = absurd (omega arith)
at_index (b ∷ bs) zero d a h = a.0
at_index (b ∷ bs) (suc k) d a h = at_index bs k d a.1 (omega arith)

at_taken : (bs : List BoundName) (k : ℕ) → AreAt bs → AreAt (take k bs)
at_taken bs zero a = tt
at_taken [] (suc k) a = tt
at_taken (b ∷ bs) (suc k) a = (a.0, at_taken bs k a.1)

at_joined : (bs cs : List BoundName) → AreAt bs → AreAt cs → AreAt (bs ++ cs)
at_joined [] cs a e = e
at_joined (b ∷ bs) cs a e = (a.0, at_joined bs cs a.1 e)

at_dropped : (bs : List BoundName) (k : ℕ) → AreAt bs → AreAt (drop k bs)
at_dropped bs zero a = a
at_dropped [] (suc k) a = tt
at_dropped (b ∷ bs) (suc k) a = at_dropped bs k a.1

pub at_restarted : (bs : List BoundName) → AreAt bs → AreAt (map restarted bs)
at_restarted [] a = tt
at_restarted (b ∷ bs) a = (omega (arith, a.0), at_restarted bs a.1)

pub first_restarted : (bs : List BoundName) → AreFirst (map restarted bs)
first_restarted [] = tt
first_restarted (b ∷ bs) = (refl, first_restarted bs)

pub over_restarted : (bs : List BoundName) → over_bound (map restarted bs) ≡ over_bound bs
over_restarted [] = refl
over_restarted (b ∷ bs) = ap (λ os. over_of b ∷ os) (over_restarted bs)

over_joined : (bs cs : List BoundName) → over_bound (bs ++ cs) ≡ over_bound bs ++ over_bound cs
over_joined [] cs = refl
over_joined (b ∷ bs) cs = ap (λ os. over_of b ∷ os) (over_joined bs cs)

pub sets_restarted : (bs : List BoundName) → sets_of (map restarted bs) ≡ sets_of bs
sets_restarted [] = refl
sets_restarted (b ∷ bs) = ap (λ ss. b.set ∷ ss) (sets_restarted bs)

-- one name goes on
went_on : (front bs : List BoundName) (b : BoundName) → AreAt front → b.at + 1 < length b.set → AreAt bs → left bs ≡ chosen bs ∷ [] → Advanced (front ++ b ∷ bs) (front ++ at_place (b.at + 1) b ∷ map restarted bs) (left (front ++ at_place (b.at + 1) b ∷ map restarted bs))
went_on front bs b f h g e = record {
  at = at_joined front _ f (h, at_restarted bs g);
  over = over_joined front (at_place (b.at + 1) b ∷ map restarted bs) ∙ ap (λ os. over_bound front ++ over_of b ∷ os) (over_restarted bs) ∙ sym (over_joined front (b ∷ bs));
  left = behind front (b ∷ bs) (at_place (b.at + 1) b ∷ map restarted bs) f (ap (λ ss. b.set ∷ ss) (sets_restarted bs)) (next_member b bs (map restarted bs) (omega arith) e (sets_restarted bs) (left_first (map restarted bs) (first_restarted bs) ∙ ap choices (sets_restarted bs)));
}

split : {A : Type 0} (xs : List A) (k : ℕ) (d : A) → k < length xs → xs ≡ take k xs ++ get_or xs k d ∷ drop (suc k) xs
split xs k d h = sym (take-append-drop k xs) ∙ ap (λ ys. take k xs ++ ys) (drop-cons xs k d h)

goes_at : (old : List BoundName) (k : ℕ) (d : BoundName) → k < length old → AreAt old → left (drop (suc k) old) ≡ chosen (drop (suc k) old) ∷ [] → (get_or old k d).at + 1 < length (get_or old k d).set → Advanced old (take k old ++ at_place ((get_or old k d).at + 1) (get_or old k d) ∷ map restarted (drop (suc k) old)) (left (take k old ++ at_place ((get_or old k d).at + 1) (get_or old k d) ∷ map restarted (drop (suc k) old)))
goes_at old k d h a e m =
    let new = take k old ++ at_place ((get_or old k d).at + 1) (get_or old k d) ∷ map restarted (drop (suc k) old) in
    subst (λ xs. Advanced xs new (left new)) (sym (split old k d h)) (went_on (take k old) (drop (suc k) old) (get_or old k d) (at_taken old k a) m (at_dropped old (suc k) a) e)

-- what the list is where the names from place i on have started anew
now_is : (old now : List BoundName) (i k : ℕ) → i ≡ k + 1 → now ≡ take i old ++ map restarted (drop i old) → now ≡ take (suc k) old ++ map restarted (drop (suc k) old)
now_is old now i k n e = e ∙ ap (λ j. take j old ++ map restarted (drop j old)) (n ∙ add-one k)

same_here : (old now : List BoundName) (i k : ℕ) (d : BoundName) → i ≡ k + 1 → k < length old → now ≡ take i old ++ map restarted (drop i old) → get_or now k d ≡ get_or old k d
same_here old now i k d n h e = ap (λ xs. get_or xs k d) (now_is old now i k n e) ∙ get_front old _ k d h

changed_here : (old now : List BoundName) (i k : ℕ) (b : BoundName) → i ≡ k + 1 → k < length old → now ≡ take i old ++ map restarted (drop i old) → set now k b ≡ take k old ++ b ∷ map restarted (drop (suc k) old)
changed_here old now i k b n h e = ap (λ xs. set xs k b) (now_is old now i k n e) ∙ set_front old _ k b h

-- the name at this place goes on
pub goes_on : (old now : List BoundName) (i k : ℕ) (b d : BoundName) → i ≡ k + 1 → k < length old → AreAt old → now ≡ take i old ++ map restarted (drop i old) → left (drop i old) ≡ chosen (drop i old) ∷ [] → b ≡ at_place ((get_or now k d).at + 1) (get_or now k d) → (get_or now k d).at + 1 < length (get_or now k d).set → Advanced old (set now k b) (left (set now k b))
goes_on old now i k b d n h a e f g m =
    let q = same_here old now i k d n h e in
    let p : set now k b ≡ take k old ++ at_place ((get_or old k d).at + 1) (get_or old k d) ∷ map restarted (drop (suc k) old) =
    changed_here old now i k b n h e ∙ ap (λ x. take k old ++ x ∷ map restarted (drop (suc k) old)) (g ∙ ap (λ x. at_place (x.at + 1) x) q) in
    subst (λ xs. Advanced old xs (left xs)) (sym p) (goes_at old k d h a (subst (λ j. left (drop j old) ≡ chosen (drop j old) ∷ []) (n ∙ add-one k) f) (subst (λ (x : BoundName). x.at + 1 < length x.set) q m))

-- the name at this place starts anew
pub starts_anew : (old now : List BoundName) (i k : ℕ) (b d : BoundName) → i ≡ k + 1 → k < length old → AreAt old → now ≡ take i old ++ map restarted (drop i old) → left (drop i old) ≡ chosen (drop i old) ∷ [] → b ≡ at_place 0 (get_or now k d) → length (get_or now k d).set ≤ (get_or now k d).at + 1 → (set now k b ≡ take k old ++ map restarted (drop k old)) × (left (drop k old) ≡ chosen (drop k old) ∷ [])
starts_anew old now i k b d n h a e f g m =
    let q = same_here old now i k d n h e in
    let s : drop k old ≡ get_or old k d ∷ drop (suc k) old = drop-cons old k d h in
    (changed_here old now i k b n h e ∙ ap (λ x. take k old ++ x ∷ map restarted (drop (suc k) old)) (g ∙ ap (at_place 0) q) ∙ ap (λ xs. take k old ++ map restarted xs) (sym s), subst (λ xs. left xs ≡ chosen xs ∷ []) (sym s) (last_member (get_or old k d) (drop (suc k) old) (at_index old k d a h) (subst (λ (x : BoundName). length x.set ≤ x.at + 1) q m) (subst (λ j. left (drop j old) ≡ chosen (drop j old) ∷ []) (n ∙ add-one k) f)))

-- the name at this place stands at a member
pub at_now : (old now : List BoundName) (i k : ℕ) (d : BoundName) → i ≡ k + 1 → k < length old → AreAt old → now ≡ take i old ++ map restarted (drop i old) → (get_or now k d).at < length (get_or now k d).set
at_now old now i k d n h a e = subst (λ (x : BoundName). x.at < length x.set) (sym (same_here old now i k d n h e)) (at_index old k d a h)
