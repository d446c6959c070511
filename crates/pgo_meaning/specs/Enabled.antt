-- What an attempt says of which sections are enabled. Source: this project's choice.
use Rattle.std.proofs.Common.{◌≡◌, ◌≤◌, ◌<◌, ◌↔◌, ℕ, zero, suc, Bool, true, false, List, [], ◌∷◌, map, take, drop, Option, Some, None, refl, sym, ap, ◌∙◌, subst, arith}
use Rattle.std.specs.Prelude.{if◌then◌else◌}
use Rattle.pgo_base.specs.Lookup.{Vars}
use Rattle.pgo_model.specs.Choice.{word_at}
use Rattle.pgo_model.specs.Machine.{nth}
use Rattle.pgo_model.specs.Options.{on}
use Rattle.pgo_model.specs.Outcome as kinds
use Rattle.pgo_model.specs.Outcome.{Kind, Blocked, NoValue, AssertFails, most_leaves, Outcome, Next, Stuck, Nowhere, Section}
use Rattle.pgo_model.specs.State.{is_shallow}
use Rattle.pgo_model.specs.System.{Words, Touched}
use Rattle.pgo_model.specs.Written.{pc}
use Rattle.pgo_syntax.specs.declared.bound.Bound.{Bound}
use Rattle.pgo_syntax.specs.declared.bound.Instance.{Instance}
use Rattle.pgo_bound.specs.Declares.{value_in}
use Rattle.pgo_bound.specs.State.{id_of}
use Rattle.pgo_sections.specs.ChoiceTrees.{section_leaf, tree}
use Rattle.pgo_sections.specs.Code.{Code}
use Rattle.pgo_sections.specs.Context.{Context}
use Rattle.pgo_sections.specs.Kinds.{EndsSo, section_so}
use Rattle.pgo_sections.specs.Macros.{exec}
use Rattle.pgo_sections.specs.Section.{end_of, closed, if_shallow}
use Rattle.pgo_sections.specs.SectionRun.{begun, Out, Go, Jump, Yielded, Stop}
use Rattle.pgo_tries.specs.Attempts.{Tried, ends_of, outcome_of, is_blocked, try_outcome, blocked_is}
use Rattle.pgo_tries.specs.Chosen.{Chosen, Ended, Leaf, follow, leaves, leaves_from, turned, mapped, follow_mapped}
use Rattle.pgo_tries.specs.Counts.{count, as_many}
use Rattle.pgo_tries.specs.Outcomes.{Result, Found, AllBlocked, Many, AreBlocked, tried_on, first_of, tried_leaves, more_leaves, first_found}
use Rattle.pgo_tries.specs.Sections.{along, tries, Follows, tries_tree, tries_blocked, blocked_tries, none_enabled}
pub use Rattle.pgo_meaning.specs.Attempt.{SectLeaf, SectTry}
use Rattle.pgo_meaning.specs.Attempt.{no_points, code_leaf, leaf_section}
use Rattle.pgo_meaning.specs.Sect.{Sect, Allows, context_of, code_at}

-- the ends of the section of instance k on s, as a tree of its choices
abbrev pub SectTree : Bound → ℕ → Vars → Chosen (Outcome Vars)
SectTree b k s =
    on (Ended Nowhere) (nth b.instances k) (λ i.
    on (Ended Nowhere) (code_at b i (value_in s pc (id_of i))) (λ c. mapped (end_of (context_of b i s)) (tree (context_of b i s) c [] (begun [] []))))

-- its outcomes over all words of choice, each path of choices once
abbrev pub Leaves : Bound → ℕ → Vars → List (Outcome Vars)
Leaves b k s = map (λ l. l.1) (leaves (SectTree b k s))

-- instance k has no step there: it has few leaves, and each is Blocked
abbrev pub IsQuiet : Bound → ℕ → Vars → Type 0
IsQuiet b k s = AreBlocked is_blocked (leaves (SectTree b k s)) × (count (SectTree b k s) ≤ most_leaves)

-- Of the leaves in the order of the words, this is the first that isn't Blocked, it is among those that are tried, and it ends so.
pub record FirstEnds (b : Bound) (k : ℕ) (s : Vars) (w : Words) (o : Outcome Vars) : Type 0 where
  pub number : ℕ
  pub few : number < most_leaves
  pub leaf : Leaf (Outcome Vars)
  pub behind : List (Leaf (Outcome Vars))
  pub is_leaf : drop number (leaves_from w 0 (SectTree b k s)) ≡ leaf ∷ behind
  pub before : AreBlocked is_blocked (take number (leaves_from w 0 (SectTree b k s)))
  pub free : is_blocked o ≡ false
  pub ends : leaf.1 ≡ o

-- the leaves that are tried, as many as 65,536, are Blocked, and there are more
pub record TooMany (b : Bound) (k : ℕ) (s : Vars) (w : Words) : Type 0 where
  pub blocked : AreBlocked is_blocked (take most_leaves (leaves_from w 0 (SectTree b k s)))
  pub more : most_leaves < count (SectTree b k s)

abbrev pub is_many : Outcome Vars → Bool
is_many (Next t ps) = false
is_many (Stuck Blocked) = false
is_many (Stuck NoValue) = false
is_many (Stuck AssertFails) = false
is_many (Stuck kinds.Many) = true
is_many Nowhere = false

-- ---- laws

pub leaf_follows : (b : Bound) (k : ℕ) (s : Vars) → Follows (ends_of (SectLeaf b k s)) (SectTree b k s)
leaf_follows b k s d = go (nth b.instances k) refl
  where
    pair : Tried Touched Vars → Leaf (Outcome Vars)
    pair l = (l.points, l.section.end)

    code : (i : Instance) → nth b.instances k ≡ Some i → (o : Option Code) → code_at b i (value_in s pc (id_of i)) ≡ o
        → pair (on no_points o (λ c. code_leaf b i s c d)) ≡ follow d 0 [] (on (Ended Nowhere) o (λ c. mapped (end_of (context_of b i s)) (tree (context_of b i s) c [] (begun [] []))))
    code i e None f = refl
    code i e (Some c) f =
        let K = context_of b i s in
        ap (λ (l : Leaf Out). (l.0, end_of K l.1)) (section_leaf d K c) ∙ sym (follow_mapped (end_of K) d 0 (tree K c [] (begun [] [])))

    go : (o : Option Instance) → nth b.instances k ≡ o
        → pair (on no_points o (λ i. on no_points (code_at b i (value_in s pc (id_of i))) (λ c. code_leaf b i s c d)))
        ≡ follow d 0 [] (on (Ended Nowhere) o (λ i. on (Ended Nowhere) (code_at b i (value_in s pc (id_of i))) (λ c. mapped (end_of (context_of b i s)) (tree (context_of b i s) c [] (begun [] [])))))
    go None e = refl
    go (Some i) e = code i e (code_at b i (value_in s pc (id_of i))) refl

blocked_outcome : (r : Result (Outcome Vars)) → outcome_of r ≡ Stuck Blocked → ((e : Outcome Vars) → r ≡ Found e → is_blocked e ≡ false) → r ≡ AllBlocked
blocked_outcome (Found e) h n = absurd (let z : true ≡ false = sym (ap is_blocked h) ∙ n e refl in grind (arith, z))
blocked_outcome AllBlocked h n = refl
blocked_outcome Many h n = absurd (let z : false ≡ true = ap is_blocked h in grind (arith, z))

-- what is found is the end of a leaf that isn't blocked
found_of : {S : Type 0} (Q : Outcome S → Type 0) (run : Words → Leaf (Outcome S)) → ((d : Words) → is_blocked (run d).1 ≡ false → Q (run d).1) → (w : Words) (room : ℕ) (p : List ℕ) (e : Outcome S) → tries is_blocked run w room p ≡ Found e → Q e
found_of {S = S} Q run all w zero p e h = absurd (let z : true ≡ false = ap is_many h in grind (arith, z))
  where
    is_many : Result (Outcome S) → Bool
    is_many (Found e) = false
    is_many AllBlocked = false
    is_many Many = true
found_of {S = S} Q run all w (suc room) p e h = go (is_blocked (run (along 0 p w)).1) refl (turned w 0 (run (along 0 p w)).0) (λ q. found_of Q run all w room q e) h
  where
    l : Leaf (Outcome S)
    l = run (along 0 p w)

    at : Result (Outcome S) → Outcome S → Outcome S
    at (Found x) y = x
    at AllBlocked y = y
    at Many y = y

    is_found : Result (Outcome S) → Bool
    is_found (Found e) = true
    is_found AllBlocked = false
    is_found Many = false

    go : (b : Bool) → is_blocked l.1 ≡ b → (o : Option (List ℕ)) → ((q : List ℕ) → tries is_blocked run w room q ≡ Found e → Q e)
        → (if b then tried_on (λ q. tries is_blocked run w room q) o else Found l.1) ≡ Found e → Q e
    go true f None ih h = absurd (let z : false ≡ true = ap is_found h in grind (arith, z))
    go true f (Some q) ih h = ih q h
    go false f o ih h = let s : l.1 ≡ e = ap (λ r. at r e) h in subst Q s (all (along 0 p w) f)

-- An attempt is Blocked exactly where no path of choices leads on, and there are few.
pub blocked_try : (b : Bound) (k : ℕ) (s : Vars) (w : Words) → ((SectTry b k s w).end ≡ Stuck Blocked) ↔ IsQuiet b k s
blocked_try b k s w = (
  λ h. tries_blocked is_blocked (ends_of (SectLeaf b k s)) (SectTree b k s) (leaf_follows b k s) w most_leaves (all h),
  λ q. try_outcome (SectLeaf b k s) w most_leaves [] ∙ ap outcome_of (blocked_tries is_blocked (ends_of (SectLeaf b k s)) (SectTree b k s) (leaf_follows b k s) w most_leaves q.0 q.1),
)
  where
    all : (SectTry b k s w).end ≡ Stuck Blocked → tries is_blocked (ends_of (SectLeaf b k s)) w most_leaves [] ≡ AllBlocked
    all h =
        blocked_outcome (tries is_blocked (ends_of (SectLeaf b k s)) w most_leaves []) (sym (try_outcome (SectLeaf b k s) w most_leaves []) ∙ h)
        (λ e f. found_of (λ e. is_blocked e ≡ false) (ends_of (SectLeaf b k s)) (λ d free. free) w most_leaves [] e f)

-- So a Blocked note says that the instance has no step: whatever the words, its section is Blocked.
pub blocked_note : (b : Bound) (k : ℕ) (s : Vars) (w v : Words) → (SectTry b k s w).end ≡ Stuck Blocked → (Sect b k s v).end ≡ Stuck Blocked
blocked_note b k s w v h =
    let all = blocked_tries is_blocked (ends_of (SectLeaf b k s)) (SectTree b k s) (leaf_follows b k s) w most_leaves ((blocked_try b k s w).0 h).0 ((blocked_try b k s w).0 h).1 in
    let n = none_enabled is_blocked (ends_of (SectLeaf b k s)) (SectTree b k s) (leaf_follows b k s) w v most_leaves all in
    ap (λ (x : Section Touched Vars). x.end) (sym (leaf_section b k s v)) ∙ blocked_is (SectLeaf b k s v).section.end n

-- and no step is allowed
pub no_step : (b : Bound) (k : ℕ) (s : Vars) (w : Words) → (SectTry b k s w).end ≡ Stuck Blocked → (t : Vars) → Allows b k s t → ⊥
no_step b k s w h t a = let z : true ≡ false = ap is_blocked (sym (blocked_note b k s w (word_at a.words) h) ∙ a.leads) in grind (arith, z)

-- so one attempt decides it, with whatever words
pub quiet_try : (b : Bound) (k : ℕ) (s : Vars) (w : Words) → (is_blocked (SectTry b k s w).end ≡ true) ↔ IsQuiet b k s
quiet_try b k s w = (λ h. (blocked_try b k s w).0 (blocked_is (SectTry b k s w).end h), λ q. ap is_blocked ((blocked_try b k s w).1 q))

-- ---- Many, and what is found

end_free : (K : Context) (o : Out) → EndsSo o → is_many (end_of K o) ≡ false
end_free K (Go run) h = refl
end_free K (Jump l run) h = go (closed K l run.changes K.start)
  where
    shallow : (t : Vars) (b : Bool) → is_many (if b then Next t run.prints else Stuck NoValue) ≡ false
    shallow t true = refl
    shallow t false = refl

    go : (o : Option Vars) → is_many (on (Stuck NoValue) o (if_shallow run.prints)) ≡ false
    go None = refl
    go (Some t) = shallow t (is_shallow t)
end_free K (Yielded v run) h = refl
end_free K (Stop Blocked run) h = refl
end_free K (Stop NoValue run) h = refl
end_free K (Stop AssertFails run) h = refl
end_free K (Stop kinds.Many run) h = absurd h

leaf_free : (b : Bound) (k : ℕ) (s : Vars) (d : Words) → is_many (SectLeaf b k s d).section.end ≡ false
leaf_free b k s d = go (nth b.instances k)
  where
    code : (i : Instance) (o : Option Code) → is_many (on no_points o (λ c. code_leaf b i s c d)).section.end ≡ false
    code i None = refl
    code i (Some c) = end_free (context_of b i s) (exec (context_of b i s) c [] d (begun [] [])) (section_so d (context_of b i s) c [] (begun [] []))

    go : (o : Option Instance) → is_many (on no_points o (λ i. on no_points (code_at b i (value_in s pc (id_of i))) (λ c. code_leaf b i s c d))).section.end ≡ false
    go None = refl
    go (Some i) = code i (code_at b i (value_in s pc (id_of i)))

many_result : (r : Result (Outcome Vars)) → outcome_of r ≡ Stuck kinds.Many → ((e : Outcome Vars) → r ≡ Found e → is_many e ≡ false) → r ≡ Many
many_result (Found e) h n = absurd (let z : true ≡ false = sym (ap is_many h) ∙ n e refl in grind (arith, z))
many_result AllBlocked h n = absurd (let z : false ≡ true = ap is_many h in grind (arith, z))
many_result Many h n = refl

found_result : (r : Result (Outcome Vars)) (o : Outcome Vars) → outcome_of r ≡ o → is_blocked o ≡ false → is_many o ≡ false → r ≡ Found o
found_result (Found e) o h free few = ap Found h
found_result AllBlocked o h free few = absurd (let z : true ≡ false = ap is_blocked h ∙ free in grind (arith, z))
found_result Many o h free few = absurd (let z : true ≡ false = ap is_many h ∙ few in grind (arith, z))

module _ (b : Bound) (k : ℕ) (s : Vars) (w : Words) where
  abbrev run : Words → Leaf (Outcome Vars)
  run = ends_of (SectLeaf b k s)

  abbrev result : Result (Outcome Vars)
  result = tries is_blocked run w most_leaves []

  outcome_is : outcome_of result ≡ (SectTry b k s w).end
  outcome_is = sym (try_outcome (SectLeaf b k s) w most_leaves [])

  of_leaves : result ≡ first_of is_blocked most_leaves (leaves_from w 0 (SectTree b k s))
  of_leaves = tries_tree is_blocked run (SectTree b k s) (leaf_follows b k s) w most_leaves [] ∙ tried_leaves is_blocked w (SectTree b k s) most_leaves

  pub many_try : (SectTry b k s w).end ≡ Stuck kinds.Many → TooMany b k s w
  many_try h =
      let r = many_result result (outcome_is ∙ h) (λ e f. found_of (λ e. is_many e ≡ false) run (λ d free. leaf_free b k s d) w most_leaves [] e f) in
      let m = more_leaves is_blocked most_leaves (leaves_from w 0 (SectTree b k s)) (sym of_leaves ∙ r) in
      record { blocked = m.0; more = subst (λ n. most_leaves < n) (as_many w 0 (SectTree b k s)) m.1 }

  -- every other outcome but Blocked is that of the first leaf that isn't Blocked
  pub found_try : (o : Outcome Vars) → (SectTry b k s w).end ≡ o → is_blocked o ≡ false → is_many o ≡ false → FirstEnds b k s w o
  found_try o h free few =
      let r = found_result result o (outcome_is ∙ h) free few in
      let f = first_found is_blocked most_leaves (leaves_from w 0 (SectTree b k s)) o (sym of_leaves ∙ r) in
      record { number = f.0; few = f.1; leaf = f.2; behind = f.3; is_leaf = f.4; before = f.7; free = f.6; ends = f.5 }
