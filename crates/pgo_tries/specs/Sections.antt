-- The leaves of what is told by its words of choice alone.
use Rattle.std.proofs.Common.{◌≡◌, ◌≤◌, ℕ, zero, suc, Bool, true, false, List, [], ◌∷◌, Option, Some, None, refl, sym, ap, ◌∙◌, subst, arith}
use Rattle.std.specs.Prelude.{if◌then◌else◌, nat_eq}
use Rattle.pgo_model.specs.Choice.{pick}
use Rattle.pgo_model.specs.Machine.{put}
use Rattle.pgo_model.specs.System.{Words}
use Rattle.pgo_tries.specs.Chosen.{Chosen, Ended, Chooses, Leaf, ahead, follow, leaves_from, leaves, turned}
use Rattle.pgo_tries.specs.Outcomes.{Result, Found, AllBlocked, Many, tried_on, tried, tried_leaves, AreBlocked, all_blocked, when_blocked}
use Rattle.pgo_tries.specs.Counts.{count, as_many, is_leaf, same_leaves}

-- the path's numbers from word d on, and then the words
abbrev pub along : ℕ → List ℕ → Words → Words
along d [] w = w
along d (i ∷ p) w = put d i (along (suc d) p w)

-- a run tells by its words the choices that it makes and how it ends
abbrev pub Run : Type 0 → Type 0
Run E = Words → Leaf E

-- it chooses as the tree does
abbrev pub Follows : {E : Type 0} → Run E → Chosen E → Type 0
Follows run t = (w : Words) → run w ≡ follow w 0 [] t

-- at most `room` runs, from the path p on, up to the first that isn't blocked
abbrev pub tries : {E : Type 0} → (E → Bool) → Run E → Words → ℕ → List ℕ → Result E
tries blocked run w zero p = Many
tries blocked run w (suc room) p =
    let l = run (along 0 p w) in if blocked l.1 then tried_on (λ q. tries blocked run w room q) (turned w 0 l.0) else Found l.1

abbrev Agree : Words → Words → ℕ → List ℕ → Type 0
Agree u w d [] = (e : ℕ) → d ≤ e → u e ≡ w e
Agree u w d (i ∷ p) = (u d ≡ i) × Agree u w (suc d) p

agree_else : (u v w : Words) (d : ℕ) (p : List ℕ) → ((e : ℕ) → d ≤ e → v e ≡ u e) → Agree u w d p → Agree v w d p
agree_else u v w d [] h a = λ e l. h e l ∙ a e l
agree_else u v w d (i ∷ p) h a = ((let z : d ≤ d = omega arith in h d z) ∙ a.0, agree_else u v w (suc d) p (λ e l. h e (let z : d ≤ e = omega (arith, l) in z)) a.1)

put_else : (d i : ℕ) (u : Words) (e : ℕ) → suc d ≤ e → put d i u e ≡ u e
put_else d i u e h = let n : nat_eq e d ≡ false = (let x : e ≡ d → ⊥ = (λ z. omega (arith, h, z)) in grind (arith, x)) in ap (λ (b : Bool). if b then i else u e) n

along_agrees : (d : ℕ) (p : List ℕ) (w : Words) → Agree (along d p w) w d p
along_agrees d [] w = λ e l. refl
along_agrees d (i ∷ p) w = (
  let n : nat_eq d d ≡ true = grind arith in ap (λ (b : Bool). if b then i else along (suc d) p w d) n,
  agree_else (along (suc d) p w) (put d i (along (suc d) p w)) w (suc d) p (λ e l. put_else d i (along (suc d) p w) e l) (along_agrees (suc d) p w),
)

module _ {E : Type 0} where
  follow_along : (u w : Words) (d : ℕ) (p : List ℕ) (t : Chosen E) → Agree u w d p → follow u d [] t ≡ follow w d p t
  follow_along u w d [] (Ended e) a = refl
  follow_along u w d (i ∷ p) (Ended e) a = refl
  follow_along u w d [] (Chooses more arms) a =
      ap (λ n. let i = pick n (suc more) in ahead more i (follow u (suc d) [] (arms i))) (a d (let z : d ≤ d = omega arith in z))
      ∙ ap (ahead more (pick (w d) (suc more))) (follow_along u w (suc d) [] (arms (pick (w d) (suc more))) (λ e l. a e (let z : d ≤ e = omega (arith, l) in z)))
  follow_along u w d (i ∷ p) (Chooses more arms) a =
      ap (λ n. let i = pick n (suc more) in ahead more i (follow u (suc d) [] (arms i))) a.0
      ∙ ap (ahead more (pick i (suc more))) (follow_along u w (suc d) p (arms (pick i (suc more))) a.1)

  module _ (blocked : E → Bool) (run : Run E) (t : Chosen E) (follows : Follows run t) where
    pub tries_tree : (w : Words) (room : ℕ) (p : List ℕ) → tries blocked run w room p ≡ tried blocked w room p t
    tries_tree w zero p = refl
    tries_tree w (suc room) p =
        go (run (along 0 p w)) (follow w 0 p t) (follows (along 0 p w) ∙ follow_along (along 0 p w) w 0 p t (along_agrees 0 p w)) (λ q. tries_tree w room q)
      where
        go : (l m : Leaf E) → l ≡ m → ((q : List ℕ) → tries blocked run w room q ≡ tried blocked w room q t)
            → (if blocked l.1 then tried_on (λ q. tries blocked run w room q) (turned w 0 l.0) else Found l.1) ≡ (if blocked m.1 then tried_on (λ q. tried blocked w room q t) (turned w 0 m.0) else Found m.1)
        go l m e ih = one (turned w 0 l.0) ∙ ap (λ (l : Leaf E). if blocked l.1 then tried_on (λ q. tried blocked w room q t) (turned w 0 l.0) else Found l.1) e
          where
            one : (o : Option (List ℕ)) → (if blocked l.1 then tried_on (λ q. tries blocked run w room q) o else Found l.1) ≡ (if blocked l.1 then tried_on (λ q. tried blocked w room q t) o else Found l.1)
            one None = refl
            one (Some q) = ap (λ r. if blocked l.1 then r else Found l.1) (ih q)

    -- all tries are blocked exactly where there are at most so many leaves and each of them is
    pub tries_blocked : (w : Words) (room : ℕ) → tries blocked run w room [] ≡ AllBlocked → AreBlocked blocked (leaves t) × (count t ≤ room)
    tries_blocked w room h =
        let r = all_blocked blocked room (leaves_from w 0 t) (sym (tries_tree w room [] ∙ tried_leaves blocked w t room) ∙ h) in
        ((λ l i. r.0 l (same_leaves (λ d. 0) w 0 t l i)), subst (λ n. n ≤ room) (as_many w 0 t) r.1)

    pub blocked_tries : (w : Words) (room : ℕ) → AreBlocked blocked (leaves t) → count t ≤ room → tries blocked run w room [] ≡ AllBlocked
    blocked_tries w room a n =
        (tries_tree w room [] ∙ tried_leaves blocked w t room)
        ∙ when_blocked blocked room (leaves_from w 0 t) (λ l i. a l (same_leaves w (λ d. 0) 0 t l i)) (subst (λ n. n ≤ room) (sym (as_many w 0 t)) n)

    -- so no words lead to another end
    pub none_enabled : (w v : Words) (room : ℕ) → tries blocked run w room [] ≡ AllBlocked → blocked (run v).1 ≡ true
    none_enabled w v room h = ap (λ (l : Leaf E). blocked l.1) (follows v) ∙ (tries_blocked w room h).0 (follow v 0 [] t) (is_leaf (λ d. 0) v 0 t)
