-- How high the action of a label is: as high as is counted without it.
use Rattle.std.proofs.Common.{◌≡◌, ℕ, suc, max, Bool, true, false, if◌then◌else◌, List, [], ◌∷◌, ◌++◌, map, Option, Some, None, refl, subst, arith}
use Rattle.std.proofs.lemmas.List.{append_assoc}
use Rattle.std.specs.Prelude.{option_map}
use Rattle.pgo_base.specs.declared.expr.Infix.{Infix}
use Rattle.pgo_base.specs.declared.expr.Infix.TheVariants as infixs
use Rattle.pgo_base.specs.Lookup.{Name, same_name, find}
use Rattle.pgo_base.specs.Tree.{Tree, name, primed, text, binary}
use Rattle.pgo_model.specs.Module.{joined_by, all_of, any_of, stands_at}
use Rattle.pgo_model.specs.Options.{on}
use Rattle.pgo_model.specs.Written.{pc}
use Rattle.pgo_model.specs.Names.{is_among}
use Rattle.pgo_sections.specs.Expansion.{Expansion, With, In, Skip, Await, Assert, Print, If, Either, End, Expansions, no_expansions, more_expansions}
use Rattle.pgo_expr_read.specs.Heights.{height}
use Rattle.pgo_measure.specs.Heights.{all_joined, action_height, either_height, label_height, items_of}
use Rattle.pgo_translate.specs.Items.{equals, at_self, asserts, prints, items, arm_trees, assigned_to, assignments, staying, is_missing, unless_none, action_body}

-- ---- expressions and their heights, one for one

-- each is so high
pub data Heights : List Tree → List ℕ → Type 0 where
  none : Heights [] []
  one : {t : Tree} {h : ℕ} {ts : List Tree} {hs : List ℕ} → height t ≡ h → Heights ts hs → Heights (t ∷ ts) (h ∷ hs)

pub heights_append : {ts us : List Tree} {hs ks : List ℕ} → Heights ts hs → Heights us ks → Heights (ts ++ us) (hs ++ ks)
heights_append none d = d
heights_append (one h e) d = one h (heights_append e d)

pub heights_map : {A : Type 0} (f : A → Tree) (g : A → ℕ) → ((a : A) → height (f a) ≡ g a) → (xs : List A) → Heights (map f xs) (map g xs)
heights_map f g h [] = none
heights_map f g h (x ∷ xs) = one (h x) (heights_map f g h xs)

-- joined from the left by an operator
pub joined_is : (o : Infix) (a : Tree) (k : ℕ) {ts : List Tree} {hs : List ℕ} → height a ≡ k → Heights ts hs → height (joined_by o a ts) ≡ all_joined (Some k) hs
joined_is o a k h none = h
joined_is o a k h (one {t = t} {h = n} e d) = joined_is o (binary o a t) (suc (max k n)) (omega (arith, h, e)) d

-- all of them, joined
pub all_is : {ts : List Tree} {hs : List ℕ} → Heights ts hs → height (all_of ts) ≡ all_joined None hs
all_is none = omega arith
all_is (one {t = t} {h = n} e d) = joined_is infixs.And t n e d

-- ---- the end of a section

abbrev is_some : List Name → Bool
is_some [] = false
is_some (y ∷ ys) = true

some_more : (ys : List Name) (x : Name) → is_some (ys ++ x ∷ []) ≡ true
some_more [] x = refl
some_more (y ∷ ys) x = refl

module _ (vars globals : List Name) (changes : List (Name × Name)) (l : Name) where
  -- the items of the end from these variables on, where UNCHANGED speaks of these others besides
  abbrev ending : List Name → List Name → List Tree
  ending ys xs = assignments vars globals changes l xs ++ unless_none vars globals (ys ++ staying vars globals changes xs)

  change_is : (x y : Name) (b : Bool) → height (equals (primed x) (if b then name y else at_self x (name y))) ≡ (if b then 2 else 3)
  change_is x y true = omega arith
  change_is x y false = omega arith

  -- of one variable, where the items of those behind it are known, without it and with it among those that stay
  by_change : (ys xs : List Name) (x : Name) (o : Option Name) → Heights (ending ys xs) (items_of globals changes (is_some ys) xs) → Heights (ending (ys ++ x ∷ []) xs) (items_of globals changes (is_some (ys ++ x ∷ [])) xs)
      → Heights ((assigned_to vars globals x o ++ assignments vars globals changes l xs) ++ unless_none vars globals (ys ++ (if is_missing vars globals o then x ∷ staying vars globals changes xs else staying vars globals changes xs)))
      (on (items_of globals changes true xs) (option_map (λ y. if is_among x globals then 2 else 3) o) (λ h. h ∷ items_of globals changes (is_some ys) xs))
  by_change ys xs x (Some y) rest more = one (change_is x y (is_among x globals)) rest
  by_change ys xs x None rest more =
      let D : List Name → Bool → Type 0 = λ zs k. Heights (assignments vars globals changes l xs ++ unless_none vars globals zs) (items_of globals changes k xs) in
      subst (λ zs. D zs true) (append_assoc ys (x ∷ []) (staying vars globals changes xs)) (subst (λ k. D ((ys ++ x ∷ []) ++ staying vars globals changes xs) k) (some_more ys x) more)

  by_place : (ys xs : List Name) (x : Name) (b : Bool) → Heights (ending ys xs) (items_of globals changes (is_some ys) xs) → Heights (ending (ys ++ x ∷ []) xs) (items_of globals changes (is_some (ys ++ x ∷ [])) xs)
      → Heights (((if b then equals (primed pc) (at_self pc (text l)) ∷ [] else assigned_to vars globals x (find x changes)) ++ assignments vars globals changes l xs) ++ unless_none vars globals (ys ++ (if (if b then false else is_missing vars globals (find x changes)) then x ∷ staying vars globals changes xs else staying vars globals changes xs)))
      (on (items_of globals changes true xs) (if b then Some 3 else option_map (λ y. if is_among x globals then 2 else 3) (find x changes)) (λ h. h ∷ items_of globals changes (is_some ys) xs))
  by_place ys xs x true rest more = one (omega arith) rest
  by_place ys xs x false rest more = by_change ys xs x (find x changes) rest more

  pub end_is : (ys xs : List Name) → Heights (ending ys xs) (items_of globals changes (is_some ys) xs)
  end_is [] [] = none
  end_is (y ∷ ys) [] = one (omega arith) none
  end_is ys (x ∷ xs) = by_place ys xs x (same_name x pc) (end_is ys xs) (end_is (ys ++ x ∷ []) xs)

-- ---- actions

module _ (vars globals : List Name) where
  mutual
    -- an expansion's items behind an expression
    pub behind_is : (x : Expansion) (a : Tree) (k : ℕ) → height a ≡ k → height (joined_by infixs.And a (items vars globals x)) ≡ action_height vars globals (Some k) x
    behind_is (With x e rest) a k h = omega (arith, h, action_is rest)
    behind_is (In x e rest) a k h = omega (arith, h, action_is rest)
    behind_is (Skip rest) a k h = behind_is rest a k h
    behind_is (Await e rest) a k h = behind_is rest (binary infixs.And a e) (suc (max k (height e))) (omega (arith, h))
    behind_is (Assert e rest) a k h = behind_is rest (binary infixs.And a (asserts e)) (suc (max k (suc (max (height e) 1)))) (omega (arith, h))
    behind_is (Print e rest) a k h = behind_is rest (binary infixs.And a (prints e)) (suc (max k (suc (height e)))) (omega (arith, h))
    behind_is (If e x y) a k h = omega (arith, h, action_is x, action_is y)
    behind_is (Either arms) a k h = omega (arith, h, arms_is arms)
    behind_is (End changes l) a k h = joined_is infixs.And a k h (end_is vars globals changes l [] vars)

    -- and alone
    pub action_is : (x : Expansion) → height (all_of (items vars globals x)) ≡ action_height vars globals None x
    action_is (With x e rest) = omega (arith, action_is rest)
    action_is (In x e rest) = omega (arith, action_is rest)
    action_is (Skip rest) = action_is rest
    action_is (Await e rest) = behind_is rest e (height e) (omega arith)
    action_is (Assert e rest) = behind_is rest (asserts e) (suc (max (height e) 1)) (omega arith)
    action_is (Print e rest) = behind_is rest (prints e) (suc (height e)) (omega arith)
    action_is (If e x y) = omega (arith, action_is x, action_is y)
    action_is (Either arms) = arms_is arms
    action_is (End changes l) = all_is (end_is vars globals changes l [] vars)

    -- arms behind an expression
    further_is : (xs : Expansions) (a : Tree) (k : ℕ) → height a ≡ k → height (joined_by infixs.Or a (arm_trees vars globals xs)) ≡ either_height vars globals (Some k) xs
    further_is no_expansions a k h = h
    further_is (more_expansions x xs) a k h = further_is xs (binary infixs.Or a (all_of (items vars globals x))) (suc (max k (action_height vars globals None x))) (omega (arith, h, action_is x))

    arms_is : (xs : Expansions) → height (any_of (arm_trees vars globals xs)) ≡ either_height vars globals None xs
    arms_is no_expansions = omega arith
    arms_is (more_expansions x xs) = further_is xs (all_of (items vars globals x)) (action_height vars globals None x) (action_is x)

  -- a label's action
  pub label_is : (l : Name) (x : Expansion) → height (action_body vars globals l x) ≡ label_height vars globals x
  label_is l x = behind_is x (stands_at l) 3 (omega arith)
