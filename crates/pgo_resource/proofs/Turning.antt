-- Turning to the next leaf.
use Rattle.std.proofs.Common.{◌≡◌, ◌≤◌, ◌<◌, ℕ, zero, suc, ◌+◌, ◌%◌, Bool, true, false, List, [], ◌∷◌, ◌++◌, length, map, take, drop, get_or, Some, None, refl, sym, ap, ◌∙◌, arith}
use Rattle.std.proofs.lemmas.List.{length-reverse}
use Rattle.std.specs.Prelude.{if◌then◌else◌, nat_eq, reverse}
use Rattle.pgo_model.specs.Choice.{pick}
use Rattle.pgo_model.specs.System.{Words}
use Rattle.pgo_tries.specs.Chosen.{ChoiceMade, turned, turned_at, following}
use Rattle.pgo_tries.specs.Sections.{along}
use Rattle.pgo_resource.specs.declared.points.Point.{Point}
use Rattle.pgo_resource.specs.Points.{point_view, turned_to}

-- where some later choice is turned, what is before it stays
pub turned_front : (w : Words) (d : ℕ) (l m : List ChoiceMade) (q : List ℕ) → turned w (d + length l) m ≡ Some q → turned w d (l ++ m) ≡ Some (map (λ (c : ChoiceMade). c.taken) l ++ q)
turned_front w d [] m q h = ap (λ n. turned w n m) (let e : d ≡ d + 0 = omega arith in e) ∙ h
turned_front w d (c ∷ l) m q h =
    ap (turned_at (pick (w d) c.count) c) (turned_front w (suc d) l m q (ap (λ n. turned w n m) (let n = length l in let e : suc d + n ≡ d + suc n = omega arith in e) ∙ h))

-- no later choice can be turned, and this one can, or can't
pub turned_here : (w : Words) (d : ℕ) (c : ChoiceMade) (m : List ChoiceMade) → turned w (suc d) m ≡ None → nat_eq (following c) (pick (w d) c.count) ≡ false → turned w d (c ∷ m) ≡ Some (following c ∷ [])
turned_here w d c m h e = ap (turned_at (pick (w d) c.count) c) h ∙ ap (λ (b : Bool). if b then None else Some (following c ∷ [])) e

pub not_here : (w : Words) (d : ℕ) (c : ChoiceMade) (m : List ChoiceMade) → turned w (suc d) m ≡ None → nat_eq (following c) (pick (w d) c.count) ≡ true → turned w d (c ∷ m) ≡ None
not_here w d c m h e = ap (turned_at (pick (w d) c.count) c) h ∙ ap (λ (b : Bool). if b then None else Some (following c ∷ [])) e

-- the words of a leaf: the path's numbers, and behind it the words
pub along_path : (d : ℕ) (p : List ℕ) (w : Words) (j : ℕ) → j < length p → along d p w (d + j) ≡ get_or p j 0
along_path d [] w j h = absurd (omega (arith, h))
along_path d (i ∷ p) w zero h = let e : nat_eq (d + 0) d ≡ true = grind arith in ap (λ (b : Bool). if b then i else along (suc d) p w (d + 0)) e
along_path d (i ∷ p) w (suc j) h =
    let e : nat_eq (d + suc j) d ≡ false = grind arith in
    ap (λ (b : Bool). if b then i else along (suc d) p w (d + suc j)) e ∙ ap (along (suc d) p w) (let e : d + suc j ≡ suc d + j = omega arith in e) ∙ along_path (suc d) p w j (omega (arith, h))

pub along_behind : (d : ℕ) (p : List ℕ) (w : Words) (j : ℕ) → length p ≤ j → along d p w (d + j) ≡ w (d + j)
along_behind d [] w j h = refl
along_behind d (i ∷ p) w zero h = absurd (omega (arith, h))
along_behind d (i ∷ p) w (suc j) h =
    let e : nat_eq (d + suc j) d ≡ false = grind arith in let s : d + suc j ≡ suc d + j = omega arith in
    ap (λ (b : Bool). if b then i else along (suc d) p w (d + suc j)) e ∙ ap (along (suc d) p w) s ∙ along_behind (suc d) p w j (omega (arith, h)) ∙ ap w (sym s)

-- the last choice that can be turned
turn_from : (w : Words) (d : ℕ) (ps : List Point) (i : ℕ) (p : Point) → i < length ps → get_or ps i p ≡ p → turned w (suc (d + i)) (map point_view (drop (suc i) ps)) ≡ None → nat_eq (following (point_view p)) (pick (w (d + i)) p.count) ≡ false
    → turned w d (map point_view ps) ≡ Some (map (λ (p : Point). p.taken) (take i ps) ++ following (point_view p) ∷ [])
turn_from w d [] i p h is none can = absurd (omega (arith, h))
turn_from w d (x ∷ ps) zero p h is none can =
    let s : d + 0 ≡ d = omega arith in
    ap (λ x. turned w d (point_view x ∷ map point_view ps)) is
    ∙ turned_here w d (point_view p) (map point_view ps) (ap (λ n. turned w (suc n) (map point_view ps)) (sym s) ∙ none) (ap (λ n. nat_eq (following (point_view p)) (pick (w n) p.count)) (sym s) ∙ can)
turn_from w d (x ∷ ps) (suc i) p h is none can =
    let s : suc d + i ≡ d + suc i = omega arith in
    ap (turned_at (pick (w d) x.count) (point_view x))
    (turn_from w (suc d) ps i p (omega (arith, h)) is (ap (λ n. turned w (suc n) (map point_view (drop (suc i) ps))) s ∙ none) (ap (λ n. nat_eq (following (point_view p)) (pick (w n) p.count)) s ∙ can))

pub turn_last : (w : Words) (ps : List Point) (i : ℕ) (p : Point) → i < length ps → get_or ps i p ≡ p → turned w (suc i) (map point_view (drop (suc i) ps)) ≡ None → nat_eq (following (point_view p)) (pick (w i) p.count) ≡ false
    → turned w 0 (map point_view ps) ≡ Some (map (λ (p : Point). p.taken) (take i ps) ++ following (point_view p) ∷ [])
turn_last w ps i p h is none can =
    let s : 0 + i ≡ i = omega arith in
    turn_from w 0 ps i p h is (ap (λ n. turned w (suc n) (map point_view (drop (suc i) ps))) s ∙ none) (ap (λ n. nat_eq (following (point_view p)) (pick (w n) p.count)) s ∙ can)

length_view : (ps : List Point) → length (map point_view ps) ≡ length ps
length_view [] = refl
length_view (p ∷ ps) = ap suc (length_view ps)

get_other : {A : Type 0} (l : List A) (i : ℕ) (x y : A) → i < length l → get_or l i x ≡ get_or l i y
get_other [] i x y h = absurd (omega (arith, h))
get_other (z ∷ l) zero x y h = refl
get_other (z ∷ l) (suc i) x y h = get_other l i x y (omega (arith, h))

-- the word of the next choice, of which there are as many before as points
made_before : (ps : List Point) (j : ℕ) → j ≡ length ps → 0 + j ≡ length (reverse (map point_view ps))
made_before ps j e = let l = length_view ps in let r = length-reverse (map point_view ps) in omega (arith, e, l, r)

pub word_in : (p : List ℕ) (w : Words) (ps : List Point) (j x : ℕ) → j ≡ length ps → j < length p → x ≡ get_or p j x → x ≡ along 0 p w (length (reverse (map point_view ps)))
word_in p w ps j x e h is = is ∙ get_other p j x 0 h ∙ sym (along_path 0 p w j h) ∙ ap (along 0 p w) (made_before ps j e)

pub word_behind : (p : List ℕ) (w : Words) (ps : List Point) (j x : ℕ) → j ≡ length ps → length p ≤ j → x ≡ w j → x ≡ along 0 p w (length (reverse (map point_view ps)))
word_behind p w ps j x e h is =
    is ∙ ap w (let z : j ≡ 0 + j = omega arith in z) ∙ sym (along_behind 0 p w j h) ∙ ap (along 0 p w) (made_before ps j e)

pub turn_answer : (w : Words) (ps : List Point) (i n : ℕ) (d : Point) (next word : ℕ) → n ≡ suc i → n ≤ length ps → turned w n (map point_view (drop n ps)) ≡ None → next ≡ following (point_view (get_or ps i d)) → word ≡ w i → (next ≡ word % (get_or ps i d).count → ⊥)
    → Some (turned_to ps (record { at = i; pick = next })) ≡ turned w 0 (map point_view ps)
turn_answer w ps i n d next word e below none is word_is not =
    let h : i < length ps = omega (arith, e, below) in
    ap (λ x. Some (map (λ (p : Point). p.taken) (take i ps) ++ x ∷ [])) is
    ∙ sym (turn_last w ps i (get_or ps i d) h (get_other ps i (get_or ps i d) d h) (ap (λ n. turned w n (map point_view (drop n ps))) (sym e) ∙ none)
    (differs (following (point_view (get_or ps i d))) (w i % (get_or ps i d).count) (λ z. not (is ∙ z ∙ ap (λ v. v % (get_or ps i d).count) (sym word_is)))))
  where
    differs : (a b : ℕ) → (a ≡ b → ⊥) → nat_eq a b ≡ false
    differs a b n = go (nat_eq a b) refl
      where
        go : (c : Bool) → nat_eq a b ≡ c → c ≡ false
        go true e = absurd (n (grind (arith, e)))
        go false e = refl
