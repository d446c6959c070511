-- The items of a tree are TRUE exactly where some path goes through it.
use Rattle.std.proofs.Common.{◌≡◌, ℕ, zero, suc, Contains, Bool, true, false, List, [], ◌∷◌, Option, Some, None, ◌↔◌, refl, sym, ap, ◌∙◌, subst, option_and_then, option_map}
use Rattle.std.specs.Prelude.{if◌then◌else◌, ◌||◌}
use Rattle.pgo_model.specs.Options.{on}
use Rattle.std.specs.List.{AllByRecursion}
use Rattle.std.proofs.lemmas.Option.{same_Some}
use Rattle.pgo_base.specs.Data.{Data, boolean, integer, string, model, set, function, graph}
use Rattle.pgo_base.specs.Lookup.{Name, Names, Vars, same_name, find}
use Rattle.pgo_base.specs.Tree.{Tree, name, primed, text, index, trees}
use Rattle.pgo_model.specs.Machine.{nth}
use Rattle.pgo_model.specs.Module.{all_of, stands_at}
use Rattle.pgo_model.specs.Names.{same_name-is, same_name-self, is_among}
use Rattle.pgo_model.specs.Operators.{both, put_at, lookup, replace_at, function_of, apply, is_member, members_of}
use Rattle.pgo_model.specs.Val.{Scope, Meaning, meanings, seen, val, same_variables, call_def, or_else, index_of}
use Rattle.pgo_model.specs.Written.{pc, self_name}
use Rattle.pgo_sections.specs.Expansion.{Expansion, With, In, Skip, Await, Assert, Print, If, Either, End, Expansions, no_expansions, more_expansions, PathContext, Path, SomePath, EndsIn, value_at_end}
use Rattle.pgo_sections.specs.BoundValues.{bindable}
use Rattle.pgo_sections.specs.BoundValues.{value_put, value_under, put_part}
use Rattle.pgo_translate.specs.Items.{items, arm_trees, assignments, assigned, assigned_to, staying, stays, is_missing, unless_none, new_value, at_self, equals, action_body}
use Rattle.pgo_translate.proofs.Truths.{from_truth-yes, equal-yes}
use Rattle.pgo_translate.proofs.Kleene.{is_true, member-yes, iff_then, pair_iff, sum_iff, lone_iff, if-yes, some_in-yes, one-yes, assert-yes, print-yes, AllYes, SomeYes, all-yes, any-yes, all_append, AllSame, same-yes}

-- an update that makes no value, and one that makes v
none_put : (f : Data) (id : Data) (ps : List (Data × Data)) (o : Option Data) → elim o as (λ o. Option Data) [ None ↦ option_map {T = Data} {U = Data} (λ v. f) None | Some part ↦ option_and_then {T = Data} {U = Data} (λ v. function_of (replace_at id v ps)) None ] ≡ None
none_put f id ps None = refl
none_put f id ps (Some part) = refl

put_none : (id f : Data) → put_at (id ∷ []) (λ part. None) (Some f) ≡ None
put_none id (function ps) = none_put (function ps) id (graph ps) (lookup id (graph ps))
put_none id (boolean b) = refl
put_none id (integer z) = refl
put_none id (string u) = refl
put_none id (model u) = refl
put_none id (set xs) = refl

put_value : (id f : Data) (o : Option Data) → put_at (id ∷ []) (λ part. o) (Some f) ≡ put_part id (Some f) o
put_value id f None = put_none id f
put_value id f (Some v) = refl

not_same : (x y : Name) (xs : List Name) → is_among y xs ≡ true → is_among x xs ≡ false → same_name y x ≡ false
not_same x y xs h g = go (same_name y x) refl
  where
    go : (b : Bool) → same_name y x ≡ b → b ≡ false
    go true e = let k : is_among x xs ≡ true = ap (λ z. is_among z xs) (sym (same_name-is y x e)) ∙ h in absurd (cc)
    go false e = refl

-- what a name that a tree binds is not
abbrev pub Apart : List Name → Name → Type 0
Apart vars x = (same_name self_name x ≡ false) × (is_among x vars ≡ false)

abbrev mutual
  -- under the names bound above: what a tree binds is no variable and not `self`, and what its ends assign is bound
  pub Binds : List Name → List Name → Expansion → Type 0
  Binds vars above (With x e rest) = Apart vars x × Binds vars (x ∷ above) rest
  Binds vars above (In x e rest) = Apart vars x × Binds vars (x ∷ above) rest
  Binds vars above (Skip rest) = Binds vars above rest
  Binds vars above (Await e rest) = Binds vars above rest
  Binds vars above (Assert e rest) = Binds vars above rest
  Binds vars above (Print e rest) = Binds vars above rest
  Binds vars above (If e a b) = Binds vars above a × Binds vars above b
  Binds vars above (Either arms) = ArmsBind vars above arms
  Binds vars above (End changes l) = AllByRecursion (λ c. is_among c.1 above ≡ true) changes

  pub ArmsBind : List Name → List Name → Expansions → Type 0
  ArmsBind vars above no_expansions = Unit {0}
  ArmsBind vars above (more_expansions a rest) = Binds vars above a × ArmsBind vars above rest

found_bound : (above : List Name) (x y : Name) (cs : List (Name × Name)) → AllByRecursion (λ c. is_among c.1 above ≡ true) cs → find x cs ≡ Some y → is_among y above ≡ true
found_bound above x y [] a h = absurd (cc)
found_bound above x y (c ∷ cs) a h = go (same_name x c.0) h (found_bound above x y cs a.1)
  where
    go : (b : Bool) → (if b then Some c.1 else find x cs) ≡ Some y → (find x cs ≡ Some y → is_among y above ≡ true) → is_among y above ≡ true
    go true k r = ap (λ z. is_among z above) (sym (same_Some c.1 y k)) ∙ a.0
    go false k r = r k

-- where a path goes, and two states, in the first of which each variable has a value
module _ (a : PathContext) (s t : Vars)
    (known : (x : Name) → is_among x a.variables ≡ true → (v : Data) × (find x s ≡ Some v)) (pc_among : is_among pc a.variables ≡ true)
    (next_known : (x : Name) → is_among x a.variables ≡ true → (v : Data) × (find x t ≡ Some v)) where
  abbrev ds : List Meaning
  ds = meanings a.defs s (Some t)

  abbrev vars : List Name
  vars = a.variables

  abbrev globals : List Name
  globals = a.globals

  abbrev id : Data
  id = a.id

  abbrev under : Names → Scope
  under ns = seen a.defs ns s (Some t)

  abbrev value : Tree → Names → Option Data
  value e ns = val e (under ns)

  -- `self` is the identifier, no variable is hidden, and the names bound above have values
  pub record Holds (above : List Name) (ns : Names) : Type 0 where
    pub self : find self_name ns ≡ Some (Some id)
    pub plain : (x : Name) → is_among x vars ≡ true → find x ns ≡ None
    pub bound_above : (x : Name) → is_among x above ≡ true → (v : Data) × (find x ns ≡ Some (Some v))

  holds_more : (above : List Name) (ns : Names) (x : Name) (v : Data) → Holds above ns → Apart vars x → Holds (x ∷ above) ((x, Some v) ∷ ns)
  holds_more above ns x v h p = record {
    self = ap (λ b. if b then Some (Some v) else find self_name ns) p.0 ∙ h.self;
    plain = λ y m. ap (λ b. if b then Some (Some v) else find y ns) (not_same x y vars m p.1) ∙ h.plain y m;
    bound_above = λ y m. bound_more y (same_name y x) m;
  }
    where
      bound_more : (y : Name) (b : Bool) → (b || is_among y above) ≡ true → (w : Data) × ((if b then Some (Some v) else find y ns) ≡ Some (Some w))
      bound_more y true m = (v, refl)
      bound_more y false m = h.bound_above y m

  module _ (above : List Name) (ns : Names) (h : Holds above ns) where
    -- a variable is what it is in s
    variable_value : (x : Name) → is_among x vars ≡ true → value (name x) ns ≡ find x s
    variable_value x m =
        let k = known x m in
        ap (λ o. or_else o (λ p. p) (or_else (find x s) (λ v. Some v) (call_def x [] ds))) (h.plain x m)
        ∙ ap (λ o. or_else o (λ v. Some v) (call_def x [] ds)) k.1 ∙ sym k.1

    self_value : value (name self_name) ns ≡ Some id
    self_value = ap (λ o. or_else o (λ p. p) (or_else (find self_name s) (λ v. Some v) (call_def self_name [] ds))) h.self

    -- a name bound above is what it is there
    above_value : (y : Name) → is_among y above ≡ true → value (name y) ns ≡ value_under y ns
    above_value y m =
        let k = h.bound_above y m in
        ap (λ o. or_else o (λ p. p) (or_else (find y s) (λ v. Some v) (call_def y [] ds))) k.1
        ∙ sym (ap (option_and_then (λ o. o)) k.1)

    -- an update at `self` whose right side doesn't ask for `@`
    update_value : (x : Name) (o : Option Data) → is_among x vars ≡ true
        → option_and_then (λ path. option_and_then (λ v. put_at path (λ part. o) (Some v)) (value (name x) ns)) (both (λ v vs. Some (v ∷ vs)) (value (name self_name) ns) (Some []))
        ≡ put_part id (find x s) o
    update_value x o m =
        let k = known x m in
        (λ i. option_and_then (λ path. option_and_then (λ v. put_at path (λ part. o) (Some v)) ((variable_value x m ∙ k.1) i)) (both (λ v vs. Some (v ∷ vs)) (self_value i) (Some [])))
        ∙ put_value id k.0 o ∙ ap (λ p. put_part id p o) (sym k.1)

    -- the new value of a variable that changed
    new_is : (x y : Name) → is_among x vars ≡ true → is_among y above ≡ true → value (new_value vars globals x (name y)) ns ≡ value_put (is_among x globals) id (find x s) (value_under y ns)
    new_is x y m n = go (is_among x globals)
      where
        go : (b : Bool) → value (if b then name y else at_self x (name y)) ns ≡ value_put b id (find x s) (value_under y ns)
        go true = above_value y n
        go false = update_value x (value (name y) ns) m ∙ ap (put_part id (find x s)) (above_value y n)

    abbrev Ended : List (Name × Name) → Name → Name → Type 0
    Ended changes l x = find x t ≡ value_at_end a ns changes l s x

    -- an equation for the next value, which is there
    next-yes : (x : Name) (e : Tree) (o : Option Data) → is_among x vars ≡ true → value e ns ≡ o → is_true (value (equals (primed x) e) ns) ↔ (find x t ≡ o)
    next-yes x e o m q = iff_then (equal-yes (find x t) (value e ns)) (to, from)
      where
        to : (v : Data) × (find x t ≡ Some v) × (value e ns ≡ Some v) → find x t ≡ o
        to r = r.1 ∙ sym r.2 ∙ q

        from : find x t ≡ o → (v : Data) × (find x t ≡ Some v) × (value e ns ≡ Some v)
        from r = let k = next_known x m in (k.0, k.1, q ∙ sym r ∙ k.1)

    -- what the end says of one variable: its assignment, or that it stays
    abbrev OneYes : List (Name × Name) → Name → Name → Type 0
    OneYes changes l x = AllYes (under ns) (assigned vars globals changes l x) × AllSame s t (if stays vars globals changes x then x ∷ [] else [])

    one_end : (changes : List (Name × Name)) (l x : Name) → is_among x vars ≡ true → AllByRecursion (λ c. is_among c.1 above ≡ true) changes → OneYes changes l x ↔ Ended changes l x
    one_end changes l x m all = go (same_name x pc) refl (find x changes) (λ y e. found_bound above x y changes all e)
      where
        go : (b : Bool) → same_name x pc ≡ b → (o : Option Name) → ((y : Name) → o ≡ Some y → is_among y above ≡ true)
            → (AllYes (under ns) (if b then equals (primed pc) (at_self pc (text l)) ∷ [] else assigned_to vars globals x o) × AllSame s t (if (if b then false else is_missing vars globals o) then x ∷ [] else []))
            ↔ (find x t ≡ (if b then put_part id (find pc s) (Some (string l)) else on (find x s) o (λ y. value_put (is_among x globals) id (find x s) (value_under y ns))))
        go true e o f =
            let q : x ≡ pc = same_name-is x pc e in
            let yes = next-yes pc (at_self pc (text l)) (put_part id (find pc s) (Some (string l))) pc_among (update_value pc (Some (string l)) pc_among) in
            (λ h. ap (λ z. find z t) q ∙ yes.0 h.0.0, λ h. ((yes.1 (ap (λ z. find z t) (sym q) ∙ h), tt), tt))
        go false e None f = (λ h. let p = h.1.0 in p.2 ∙ sym p.1, λ h. let k = known x m in (tt, ((k.0, k.1, h ∙ k.1), tt)))
        go false e (Some y) f =
            let yes = next-yes x (new_value vars globals x (name y)) (value_put (is_among x globals) id (find x s) (value_under y ns)) m (new_is x y m (f y refl)) in
            (λ h. yes.0 h.0.0, λ h. ((yes.1 h, tt), tt))

    stay_more : (changes : List (Name × Name)) (x : Name) (xs : List Name) → AllSame s t (staying vars globals changes (x ∷ xs)) ↔ (AllSame s t (if stays vars globals changes x then x ∷ [] else []) × AllSame s t (staying vars globals changes xs))
    stay_more changes x xs = go (stays vars globals changes x)
      where
        go : (b : Bool) → AllSame s t (if b then x ∷ staying vars globals changes xs else staying vars globals changes xs) ↔ (AllSame s t (if b then x ∷ [] else []) × AllSame s t (staying vars globals changes xs))
        go true = (λ h. ((h.0, tt), h.1), λ h. (h.0.0, h.1))
        go false = (λ h. (tt, h), λ h. h.1)

    unless-yes : (xs : List Name) → AllYes (under ns) (unless_none vars globals xs) ↔ AllSame s t xs
    unless-yes [] = (λ h. tt, λ h. tt)
    unless-yes (x ∷ xs) = lone_iff (iff_then (from_truth-yes (same_variables (x ∷ xs) s t)) (same-yes s t (x ∷ xs)))

    abbrev EachEnds : List (Name × Name) → Name → List Name → Type 0
    EachEnds changes l xs = (n : ℕ) (x : Name) → nth xs n ≡ Some x → Ended changes l x

    each_more : (changes : List (Name × Name)) (l x : Name) (xs : List Name) → (Ended changes l x × EachEnds changes l xs) ↔ EachEnds changes l (x ∷ xs)
    each_more changes l x xs = (to, λ h. (h 0 x refl, λ n y e. h (suc n) y e))
      where
        to : Ended changes l x × EachEnds changes l xs → EachEnds changes l (x ∷ xs)
        to h zero y e = subst (Ended changes l) (same_Some x y e) h.0
        to h (suc n) y e = h.1 n y e

    end-all : (changes : List (Name × Name)) (l : Name) (xs : List Name) → AllByRecursion (λ c. is_among c.1 above ≡ true) changes → ((x : Name) → is_among x xs ≡ true → is_among x vars ≡ true)
        → (AllYes (under ns) (assignments vars globals changes l xs) × AllSame s t (staying vars globals changes xs)) ↔ EachEnds changes l xs
    end-all changes l [] all f = (λ h n x e. absurd (cc), λ h. (tt, tt))
    end-all changes l (x ∷ xs) all f =
        let here = one_end changes l x (f x (ap (λ b. b || is_among x xs) (same_name-self x))) all in
        let rest = end-all changes l xs all (λ y m. f y (later y m)) in
        iff_then (pair_iff (all_append (under ns) (assigned vars globals changes l x) (assignments vars globals changes l xs)) (stay_more changes x xs))
        (iff_then ((λ h. ((h.0.0, h.1.0), (h.0.1, h.1.1))), (λ h. ((h.0.0, h.1.0), (h.0.1, h.1.1))))
        (iff_then (pair_iff here rest) (each_more changes l x xs)))
      where
        later : (y : Name) → is_among y xs ≡ true → is_among y (x ∷ xs) ≡ true
        later y m = go (same_name y x)
          where
            go : (b : Bool) → (b || is_among y xs) ≡ true
            go true = refl
            go false = m

    end-yes : (changes : List (Name × Name)) (l : Name) → AllByRecursion (λ c. is_among c.1 above ≡ true) changes → AllYes (under ns) (items vars globals (End changes l)) ↔ EndsIn a ns changes l s t
    end-yes changes l all =
        iff_then (all_append (under ns) (assignments vars globals changes l vars) (unless_none vars globals (staying vars globals changes vars)))
        (iff_then (pair_iff (λ h. h, λ h. h) (unless-yes (staying vars globals changes vars))) (end-all changes l vars all (λ x m. m)))

  exists_iff2 : {A B : Data → Type 0} (P : Data → Type 0) → ((v : Data) → A v ↔ B v) → ((v : Data) × P v × A v) ↔ ((v : Data) × P v × B v)
  exists_iff2 P f = (λ h. (h.0, h.1, (f h.0).0 h.2), λ h. (h.0, h.1, (f h.0).1 h.2))

  member_iff : {A B : Data → Type 0} (o : Option Data) → ((v : Data) → A v ↔ B v) → ((v : Data) × (is_member v o ≡ Some true) × A v) ↔ ((v : Data) × (ms : List Data) × (option_and_then members_of o ≡ Some ms) × Contains ms v × B v)
  member_iff o f = (
    λ h. let m = (member-yes h.0 o).0 h.1 in (h.0, m.0, m.1, m.2, (f h.0).0 h.2),
    λ h. (h.0, (member-yes h.0 o).1 (h.1, h.2, h.3), (f h.0).1 h.4),
  )

  same_iff : {A : Type 0} → A ↔ A
  same_iff = (λ h. h, λ h. h)

  out_iff : {P : Data → Type 0} {B : Type 0} → (((v : Data) × P v) × B) ↔ ((v : Data) × P v × B)
  out_iff = (λ h. (h.0.0, h.0.1, h.1), λ h. ((h.0, h.1), h.2))

  mutual
    pub items-path : (x : Expansion) (above : List Name) (ns : Names) → Holds above ns → Binds vars above x → AllYes (under ns) (items vars globals x) ↔ Path a x ns s t
    items-path (With x e rest) above ns h b =
        lone_iff (iff_then (one-yes x (all_of (items vars globals rest)) (under ns) e)
        (exists_iff2 (λ v. bindable (value e ns) ≡ Some v) (λ v. iff_then (all-yes (under ((x, Some v) ∷ ns)) (items vars globals rest)) (items-path rest (x ∷ above) ((x, Some v) ∷ ns) (holds_more above ns x v h b.0) b.1))))
    items-path (In x e rest) above ns h b =
        lone_iff (iff_then (some_in-yes x (all_of (items vars globals rest)) (under ns) e)
        (member_iff (value e ns) (λ v. iff_then (all-yes (under ((x, Some v) ∷ ns)) (items vars globals rest)) (items-path rest (x ∷ above) ((x, Some v) ∷ ns) (holds_more above ns x v h b.0) b.1))))
    items-path (Skip rest) above ns h b = items-path rest above ns h b
    items-path (Await e rest) above ns h b = pair_iff same_iff (items-path rest above ns h b)
    items-path (Assert e rest) above ns h b = pair_iff (assert-yes e (under ns)) (items-path rest above ns h b)
    items-path (Print e rest) above ns h b = iff_then (pair_iff (print-yes e (under ns)) (items-path rest above ns h b)) out_iff
    items-path (If e p q) above ns h b =
        lone_iff (iff_then (if-yes (value e ns) (value (all_of (items vars globals p)) ns) (value (all_of (items vars globals q)) ns))
        (sum_iff (pair_iff same_iff (iff_then (all-yes (under ns) (items vars globals p)) (items-path p above ns h b.0))) (pair_iff same_iff (iff_then (all-yes (under ns) (items vars globals q)) (items-path q above ns h b.1)))))
    items-path (Either arms) above ns h b = lone_iff (iff_then (any-yes (under ns) (arm_trees vars globals arms)) (arms-path arms above ns h b))
    items-path (End changes l) above ns h b = end-yes above ns h changes l b

    arms-path : (arms : Expansions) (above : List Name) (ns : Names) → Holds above ns → ArmsBind vars above arms → SomeYes (under ns) (arm_trees vars globals arms) ↔ SomePath a arms ns s t
    arms-path no_expansions above ns h b = (λ k. k, λ k. k)
    arms-path (more_expansions x rest) above ns h b =
        sum_iff (iff_then (all-yes (under ns) (items vars globals x)) (items-path x above ns h b.0)) (arms-path rest above ns h b.1)

  -- the instance stands at the label
  pub stands-yes : (l : Name) (above : List Name) (ns : Names) → Holds above ns → is_true (value (stands_at l) ns) ↔ (option_and_then (λ f. apply f id) (find pc s) ≡ Some (string l))
  stands-yes l above ns h = subst (λ o. is_true (value (stands_at l) ns) ↔ (o ≡ Some (string l))) place_value (iff_then (equal-yes (value (index (name pc) (trees (name self_name ∷ []))) ns) (Some (string l))) (to, λ k. (string l, k, refl)))
    where
      place_value : value (index (name pc) (trees (name self_name ∷ []))) ns ≡ option_and_then (λ f. apply f id) (find pc s)
      place_value = λ i. both apply (variable_value above ns h pc pc_among i) (option_and_then index_of (both (λ v vs. Some (v ∷ vs)) (self_value above ns h i) (Some [])))

      to : (v : Data) × (value (index (name pc) (trees (name self_name ∷ []))) ns ≡ Some v) × (Some (string l) ≡ Some v) → value (index (name pc) (trees (name self_name ∷ []))) ns ≡ Some (string l)
      to r = r.1 ∙ sym r.2

  -- the body of a label's action is TRUE exactly where the instance stands at the label and some path goes through the tree
  pub body-yes : (l : Name) (x : Expansion) (above : List Name) (ns : Names) → Holds above ns → Binds vars above x
      → is_true (value (action_body vars globals l x) ns) ↔ ((option_and_then (λ f. apply f id) (find pc s) ≡ Some (string l)) × Path a x ns s t)
  body-yes l x above ns h b = iff_then (all-yes (under ns) (stands_at l ∷ items vars globals x)) (pair_iff (stands-yes l above ns h) (items-path x above ns h b))
