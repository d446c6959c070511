-- How high the expressions of a written module are: no higher than the numbers that are counted without it.
use Rattle.std.proofs.Common.{◌≡◌, ℕ, suc, max, ◌≤◌, Bool, true, false, if◌then◌else◌, List, [], ◌∷◌, ◌++◌, map, Option, Some, None, refl, subst, arith}
use Rattle.std.proofs.lemmas.List.{append_assoc}
use Rattle.std.specs.Prelude.{option_map}
use Rattle.pgo_base.specs.declared.expr.Infix.{Infix}
use Rattle.pgo_base.specs.declared.expr.Infix.TheVariants as infixs
use Rattle.pgo_base.specs.Lookup.{Name, same_name, find}
use Rattle.pgo_base.specs.Tree.{Tree, name, primed, number, text, truth, at, word, unary, binary, product, cond_of, case_of, case_other, let_in, quantified, choose, tuple, set_of, filter_of, image, fun_of, fun_set, record_of, record_set, except, index, field, call, unchanged, no_trees, more_trees}
use Rattle.pgo_model.specs.Module.{joined_by, all_of, any_of, stands_at}
use Rattle.pgo_model.specs.Options.{on}
use Rattle.pgo_model.specs.Written.{pc}
use Rattle.pgo_model.specs.Names.{is_among}
use Rattle.pgo_sections.specs.Expansion.{Expansion, With, In, Skip, Await, Assert, Print, If, Either, End, Expansions, no_expansions, more_expansions}
use Rattle.pgo_expr_read.specs.Heights.{height}
use Rattle.pgo_measure.specs.Heights.{all_joined, action_height, either_height, label_height, items_of}
use Rattle.pgo_translate.specs.Items.{equals, at_self, asserts, prints, items, arm_trees, assigned_to, assignments, staying, is_missing, unless_none, action_body}

pub least : (t : Tree) → 1 ≤ height t
least (name x) = omega arith
least (primed x) = omega arith
least (number x) = omega arith
least (text x) = omega arith
least (truth x) = omega arith
least at = omega arith
least (word x) = omega arith
least (unary x y) = omega arith
least (binary x y z) = omega arith
least (product x) = omega arith
least (cond_of x y z) = omega arith
least (case_of x) = omega arith
least (case_other x y) = omega arith
least (let_in x y) = omega arith
least (quantified x y z) = omega arith
least (choose x y z) = omega arith
least (tuple x) = omega arith
least (set_of x) = omega arith
least (filter_of x y z) = omega arith
least (image x y z) = omega arith
least (fun_of x y) = omega arith
least (fun_set x y) = omega arith
least (record_of x) = omega arith
least (record_set x) = omega arith
least (except x y) = omega arith
least (index x no_trees) = omega arith
least (index x (more_trees t no_trees)) = omega arith
least (index x (more_trees t (more_trees u us))) = omega arith
least (field x y) = omega arith
least (call x y) = omega arith
least (unchanged x) = omega arith

-- ---- expressions and their heights, one for one

-- each is at most so high
pub data Below : List Tree → List ℕ → Type 0 where
  none : Below [] []
  one : {t : Tree} {h : ℕ} {ts : List Tree} {hs : List ℕ} → height t ≤ h → Below ts hs → Below (t ∷ ts) (h ∷ hs)

pub below_append : {ts us : List Tree} {hs ks : List ℕ} → Below ts hs → Below us ks → Below (ts ++ us) (hs ++ ks)
below_append none d = d
below_append (one h e) d = one h (below_append e d)

pub below_map : {A : Type 0} (f : A → Tree) (g : A → ℕ) → ((a : A) → height (f a) ≤ g a) → (xs : List A) → Below (map f xs) (map g xs)
below_map f g h [] = none
below_map f g h (x ∷ xs) = one (h x) (below_map f g h xs)

-- joined from the left by an operator
pub joined_low : (o : Infix) (a : Tree) (k : ℕ) {ts : List Tree} {hs : List ℕ} → height a ≤ k → Below ts hs → height (joined_by o a ts) ≤ all_joined (Some k) hs
joined_low o a k h none = h
joined_low o a k h (one {t = t} {h = n} e d) = joined_low o (binary o a t) (suc (max k n)) (omega (arith, h, e)) d

-- all of them, joined
pub all_low : {ts : List Tree} {hs : List ℕ} → Below ts hs → height (all_of ts) ≤ all_joined None hs
all_low none = omega arith
all_low (one {t = t} {h = n} e d) = joined_low infixs.And t n e d

-- ---- the end of a section

abbrev is_some : List Name → Bool
is_some [] = false
is_some (y ∷ ys) = true

some_more : (ys : List Name) (x : Name) → is_some (ys ++ x ∷ []) ≡ true
some_more [] x = refl
some_more (y ∷ ys) x = refl

module _ (vars globals : List Name) (changes : List (Name × Name)) (l : Name) where
  -- the items of the end from these variables on, where UNCHANGED speaks of these others besides
  abbrev ending : List Name → List Name → List Tree
  ending ys xs = assignments vars globals changes l xs ++ unless_none vars globals (ys ++ staying vars globals changes xs)

  change_low : (x y : Name) (b : Bool) → height (equals (primed x) (if b then name y else at_self x (name y))) ≤ (if b then 2 else 3)
  change_low x y true = omega arith
  change_low x y false = omega arith

  -- of one variable, where the items of those behind it are known, without it and with it among those that stay
  by_change : (ys xs : List Name) (x : Name) (o : Option Name) → Below (ending ys xs) (items_of globals changes (is_some ys) xs) → Below (ending (ys ++ x ∷ []) xs) (items_of globals changes (is_some (ys ++ x ∷ [])) xs)
      → Below ((assigned_to vars globals x o ++ assignments vars globals changes l xs) ++ unless_none vars globals (ys ++ (if is_missing vars globals o then x ∷ staying vars globals changes xs else staying vars globals changes xs)))
      (on (items_of globals changes true xs) (option_map (λ y. if is_among x globals then 2 else 3) o) (λ h. h ∷ items_of globals changes (is_some ys) xs))
  by_change ys xs x (Some y) rest more = one (change_low x y (is_among x globals)) rest
  by_change ys xs x None rest more =
      let D : List Name → Bool → Type 0 = λ zs k. Below (assignments vars globals changes l xs ++ unless_none vars globals zs) (items_of globals changes k xs) in
      subst (λ zs. D zs true) (append_assoc ys (x ∷ []) (staying vars globals changes xs)) (subst (λ k. D ((ys ++ x ∷ []) ++ staying vars globals changes xs) k) (some_more ys x) more)

  by_place : (ys xs : List Name) (x : Name) (b : Bool) → Below (ending ys xs) (items_of globals changes (is_some ys) xs) → Below (ending (ys ++ x ∷ []) xs) (items_of globals changes (is_some (ys ++ x ∷ [])) xs)
      → Below (((if b then equals (primed pc) (at_self pc (text l)) ∷ [] else assigned_to vars globals x (find x changes)) ++ assignments vars globals changes l xs) ++ unless_none vars globals (ys ++ (if (if b then false else is_missing vars globals (find x changes)) then x ∷ staying vars globals changes xs else staying vars globals changes xs)))
      (on (items_of globals changes true xs) (if b then Some 3 else option_map (λ y. if is_among x globals then 2 else 3) (find x changes)) (λ h. h ∷ items_of globals changes (is_some ys) xs))
  by_place ys xs x true rest more = one (omega arith) rest
  by_place ys xs x false rest more = by_change ys xs x (find x changes) rest more

  pub end_low : (ys xs : List Name) → Below (ending ys xs) (items_of globals changes (is_some ys) xs)
  end_low [] [] = none
  end_low (y ∷ ys) [] = one (omega arith) none
  end_low ys (x ∷ xs) = by_place ys xs x (same_name x pc) (end_low ys xs) (end_low (ys ++ x ∷ []) xs)

-- ---- actions

module _ (vars globals : List Name) where
  mutual
    -- an expansion's items behind an expression
    pub behind_low : (x : Expansion) (a : Tree) (k : ℕ) → height a ≤ k → height (joined_by infixs.And a (items vars globals x)) ≤ action_height vars globals (Some k) x
    behind_low (With x e rest) a k h = omega (arith, h, action_low rest)
    behind_low (In x e rest) a k h = omega (arith, h, action_low rest)
    behind_low (Skip rest) a k h = behind_low rest a k h
    behind_low (Await e rest) a k h = behind_low rest (binary infixs.And a e) (suc (max k (height e))) (omega (arith, h))
    behind_low (Assert e rest) a k h = behind_low rest (binary infixs.And a (asserts e)) (suc (max k (suc (max (height e) 1)))) (omega (arith, h))
    behind_low (Print e rest) a k h = behind_low rest (binary infixs.And a (prints e)) (suc (max k (suc (height e)))) (omega (arith, h))
    behind_low (If e x y) a k h = omega (arith, h, action_low x, action_low y)
    behind_low (Either arms) a k h = omega (arith, h, arms_low arms)
    behind_low (End changes l) a k h = joined_low infixs.And a k h (end_low vars globals changes l [] vars)

    -- and alone
    pub action_low : (x : Expansion) → height (all_of (items vars globals x)) ≤ action_height vars globals None x
    action_low (With x e rest) = omega (arith, action_low rest)
    action_low (In x e rest) = omega (arith, action_low rest)
    action_low (Skip rest) = action_low rest
    action_low (Await e rest) = behind_low rest e (height e) (omega arith)
    action_low (Assert e rest) = behind_low rest (asserts e) (suc (max (height e) 1)) (omega arith)
    action_low (Print e rest) = behind_low rest (prints e) (suc (height e)) (omega arith)
    action_low (If e x y) = omega (arith, action_low x, action_low y)
    action_low (Either arms) = arms_low arms
    action_low (End changes l) = all_low (end_low vars globals changes l [] vars)

    -- arms behind an expression
    further_low : (xs : Expansions) (a : Tree) (k : ℕ) → height a ≤ k → height (joined_by infixs.Or a (arm_trees vars globals xs)) ≤ either_height vars globals (Some k) xs
    further_low no_expansions a k h = h
    further_low (more_expansions x xs) a k h = further_low xs (binary infixs.Or a (all_of (items vars globals x))) (suc (max k (action_height vars globals None x))) (omega (arith, h, action_low x))

    arms_low : (xs : Expansions) → height (any_of (arm_trees vars globals xs)) ≤ either_height vars globals None xs
    arms_low no_expansions = omega arith
    arms_low (more_expansions x xs) = further_low xs (all_of (items vars globals x)) (action_height vars globals None x) (action_low x)

  -- a label's action
  pub label_low : (l : Name) (x : Expansion) → height (action_body vars globals l x) ≤ label_height vars globals x
  label_low l x = behind_low x (stands_at l) 3 (omega arith)
