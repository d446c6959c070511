-- The processes of a module, with their label actions.
use Rattle.std.proofs.Common.{◌≡◌, ◌≤◌, ◌+◌, ℕ, Bool, true, false, ◌&&◌, nat_le, List, [], ◌∷◌, ◌++◌, length, map, take, drop, Option, Some, None, refl, ap, sym, ◌∙◌, subst, arith, cond}
use Rattle.std.specs.List.{AllByRecursion}
use Rattle.std.proofs.lemmas.Bool.{and_parts, eqb-true, le-leb}
use Rattle.std.proofs.lemmas.List.{append_assoc, append-nil, length-append, take-append-drop}
use Rattle.std.proofs.Math.Seq.{take-append_seam, drop-append_seam}
use Rattle.pgo_base.specs.ActionView.{action_pair}
use Rattle.pgo_base.specs.Lookup.{Name}
use Rattle.pgo_base.specs.declared.expr.Infix.TheVariants as infixs
use Rattle.pgo_base.specs.Tree.{Tree, binary}
use Rattle.pgo_base.specs.declared.module.Action.{Action}
use Rattle.pgo_base.specs.declared.module.WrittenProcess as base
use Rattle.pgo_lexer.specs.Pieces.{begins}
use Rattle.pgo_lexer.proofs.Runs.{cond_true, cond_false}
use Rattle.pgo_model.specs.Module.{WrittenProcess, joined_by, any_of, self_call, process_body}
use Rattle.pgo_expr_read.specs.Heights.{height}
use Rattle.pgo_model.specs.ModuleView.{process_view}
use Rattle.pgo_model.specs.Names.{same_bytes-self, same_bytes-is}
use Rattle.pgo_model.specs.ValueText.{same_bytes}
use Rattle.pgo_model.specs.Written.{written}
use Rattle.pgo_mpcal_read.specs.ReadingSpec.{if_some}
use Rattle.pgo_expr_write.specs.WellFormed.{IsWellFormed, IsName}
use Rattle.pgo_module_spells.specs.Parts.{IsActionOf, HasActions}
use Rattle.pgo_module_read.specs.declared.steps.Step.{Step}
use Rattle.pgo_module_read.specs.Building.{same_tree, is_underscore, is_action_of, has_some, most_actions, is_own, process_with, process, process_from, processes_from}
use Rattle.pgo_module_read.proofs.FormedTrees.{body_formed}
use Rattle.pgo_module_read.proofs.LinesExact.{action_from, all_actions}
use Rattle.pgo_module_read.proofs.SameTrees.{tree_is, same_self}
use Rattle.pgo_module_read.proofs.StepsExact.{some_then, step_of}

-- ---- names of label actions

underscored : (bs : List ℕ) → begins is_underscore bs ≡ true → (l : Name) × (bs ≡ 95 ∷ l)
underscored [] e = cc
underscored (b ∷ bs) e = (bs, ap (λ z. z ∷ bs) (eqb-true b 95 e))

action_named : (p x : Name) → is_action_of p x ≡ true → (l : Name) × (x ≡ written p l)
action_named p x e =
    let q = and_parts (same_bytes (take (length p) x) p) (begins is_underscore (drop (length p) x)) e in
    let front = same_bytes-is (take (length p) x) p q.0 in
    let rest = underscored (drop (length p) x) q.1 in
    (rest.0, sym (take-append-drop (length p) x) ∙ (λ i. front i ++ rest.1 i) ∙ sym (append_assoc p (95 ∷ []) rest.0))

named_action : (p l : Name) → is_action_of p (written p l) ≡ true
named_action p l =
    ap (is_action_of p) (append_assoc p (95 ∷ []) l)
    ∙ (λ i. same_bytes (take-append_seam p (95 ∷ l) i) p && begins is_underscore (drop-append_seam p (95 ∷ l) i))
    ∙ (λ i. same_bytes-self p i && true)

longer : (p l : Name) → length (written p l) ≡ length p + 1 + length l
longer p l =
    let a = length-append (p ++ 95 ∷ []) l in
    let b = length-append p (95 ∷ []) in
    omega (arith, a, b)

not_own : (p l : Name) (b : Bool) → same_bytes (written p l) p ≡ b → b ≡ false
not_own p l true e = absurd (let q = ap length (same_bytes-is (written p l) p e) in let k = longer p l in omega (arith, q, k))
not_own p l false e = refl

-- ---- one process

-- the label actions of a process, its own body, and what is behind
record Taken (s : Step) (done as' : List Action) (p : base.WrittenProcess) (rest : List Action) : Type 0 where
  more : List Action
  own : Tree
  split : as' ≡ more ++ (record { name = s.name; body = own } ∷ rest)
  is : p ≡ process_with s (done ++ more)
  owned : is_own (process_with s (done ++ more)) own ≡ true
  named : AllByRecursion (λ a. is_action_of s.name a.name ≡ true) more

pair_is : {A B : Type 0} (a c : A) (b d : B) → ◌≡◌ {A = Option (A × B)} (Some (a, b)) (Some (c, d)) → (a ≡ c) × (b ≡ d)
pair_is {A} {B} a c b d e = let q : ◌≡◌ {A = A × B} (a, b) (c, d) = cc in (ap (λ (p : A × B). p.0) q, ap (λ (p : A × B). p.1) q)

own_is : (b : Bool) (q p : base.WrittenProcess) → cond b (Some q) None ≡ Some p → (b ≡ true) × (q ≡ p)
own_is true q p e = (refl, cc)
own_is false q p e = cc

-- a process, where there is one, and what is behind
abbrev with_rest : Option base.WrittenProcess → List Action → Option (base.WrittenProcess × List Action)
with_rest o as' = if_some o (λ q. Some (q, as'))

taken_here : (s : Step) (done as' : List Action) (a : Action) (p : base.WrittenProcess) (rest : List Action) → a.name ≡ s.name → with_rest (process s done a.body) as' ≡ Some (p, rest) → Taken s done (a ∷ as') p rest
taken_here s done as' a p rest same e =
    some_then (process s done a.body) (λ q. Some (q, as')) (p, rest) (Taken s done (a ∷ as') p rest) e (λ q got e.
    let k = pair_is _ _ _ _ e in
    let o = own_is (is_own (process_with s done) a.body) (process_with s done) q got in
    record {
      more = [];
      own = a.body;
      split = λ i. record { name = same i; body = a.body } ∷ k.1 i;
      is = sym k.0 ∙ sym o.1 ∙ ap (process_with s) (sym (append-nil done));
      owned = ap (λ z. is_own (process_with s z) a.body) (append-nil done) ∙ o.0;
      named = tt;
    })

taken_more : (s : Step) (done as' : List Action) (a : Action) (p : base.WrittenProcess) (rest : List Action) → is_action_of s.name a.name ≡ true → Taken s (done ++ a ∷ []) as' p rest → Taken s done (a ∷ as') p rest
taken_more s done as' a p rest named t = record {
  more = a ∷ t.more;
  own = t.own;
  split = ap (λ z. a ∷ z) t.split;
  is = t.is ∙ ap (process_with s) (append_assoc done (a ∷ []) t.more);
  owned = ap (λ z. is_own (process_with s z) t.own) (sym (append_assoc done (a ∷ []) t.more)) ∙ t.owned;
  named = (named, t.named);
}

taken_by : (b c : Bool) (s : Step) (done as' : List Action) (a : Action) (p : base.WrittenProcess) (rest : List Action) → same_bytes a.name s.name ≡ b → is_action_of s.name a.name ≡ c
    → (process_from s (done ++ a ∷ []) as' ≡ Some (p, rest) → Taken s (done ++ a ∷ []) as' p rest)
    → cond b (with_rest (process s done a.body) as') (cond c (process_from s (done ++ a ∷ []) as') None) ≡ Some (p, rest) → Taken s done (a ∷ as') p rest
taken_by true c s done as' a p rest same named ih e = taken_here s done as' a p rest (same_bytes-is a.name s.name same) e
taken_by false true s done as' a p rest same named ih e = taken_more s done as' a p rest named (ih e)
taken_by false false s done as' a p rest same named ih e = cc

taken : (s : Step) (done as' : List Action) (p : base.WrittenProcess) (rest : List Action) → process_from s done as' ≡ Some (p, rest) → Taken s done as' p rest
unfolding process_from
taken s done [] p rest e = cc
taken s done (a ∷ as') p rest e = taken_by (same_bytes a.name s.name) (is_action_of s.name a.name) s done as' a p rest refl refl (λ e. taken s (done ++ a ∷ []) as' p rest e) e

-- ---- what is found is so

pub record IsFormedAction (a : Action) : Type 0 where
  pub name : IsName a.name
  pub body : IsWellFormed a.body

all_front : {A : Type 0} (P : A → Type 0) (xs ys : List A) → AllByRecursion P (xs ++ ys) → AllByRecursion P xs × AllByRecursion P ys
all_front P [] ys h = (tt, h)
all_front P (x ∷ xs) ys h = let k = all_front P xs ys h.1 in ((h.0, k.0), k.1)

names_formed : (as' : List Action) → AllByRecursion IsFormedAction as' → AllByRecursion (λ a. IsName a.0) (map action_pair as')
names_formed [] h = tt
names_formed (a ∷ as') h = (h.0.name, names_formed as' h.1)

actions_named : (s : Step) (as' : List Action) → AllByRecursion (λ a. is_action_of s.name a.name ≡ true) as' → AllByRecursion (IsActionOf s.name) (map action_pair as')
actions_named s [] h = tt
actions_named s (a ∷ as') h = (action_named s.name a.name h.0, actions_named s as' h.1)

some_is : {A : Type 0} (xs : List A) → has_some xs ≡ true → xs ≡ [] → ⊥
some_is [] e q = cc
some_is (x ∷ xs) e q = cc

pub same_actions : (as' : List Action) → map action_from (map action_pair as') ≡ as'
same_actions [] = refl
same_actions (a ∷ as') = ap (λ z. a ∷ z) (same_actions as')

-- what one process is
record Found (s : Step) (as' : List Action) (p : base.WrittenProcess) (rest : List Action) : Type 0 where
  step_is : step_of (process_view p) ≡ s
  split : as' ≡ map action_from p.actions ++ (record { name = p.name; body = process_body (process_view p) } ∷ rest)
  has : HasActions (process_view p)

found_with : (s : Step) (more rest : List Action) (own : Tree) → is_own (process_with s more) own ≡ true → AllByRecursion (λ a. is_action_of s.name a.name ≡ true) more
    → AllByRecursion IsFormedAction (more ++ (record { name = s.name; body = own } ∷ rest)) → Found s (more ++ (record { name = s.name; body = own } ∷ rest)) (process_with s more) rest
found_with s more rest own owned named formed =
    let few = and_parts (nat_le (length (map action_pair more)) most_actions) (has_some (map action_pair more) && same_tree own (process_body (process_view (process_with s more)))) owned in
    let q = and_parts (has_some (map action_pair more)) (same_tree own (process_body (process_view (process_with s more)))) few.1 in
    let f = all_front IsFormedAction more (record { name = s.name; body = own } ∷ rest) formed in
    let same : own ≡ process_body (process_view (process_with s more)) = tree_is own (process_body (process_view (process_with s more))) f.1.0.body (body_formed (process_view (process_with s more)) (names_formed more f.0)) q.1 in
    record {
      step_is = refl;
      split = λ i. sym (same_actions more) i ++ (record { name = s.name; body = same i } ∷ rest);
      has = record { some = some_is (map action_pair more) q.0; named = actions_named s more named };
    }

found : (s : Step) (as' : List Action) (p : base.WrittenProcess) (rest : List Action) → process_from s [] as' ≡ Some (p, rest) → AllByRecursion IsFormedAction as' → Found s as' p rest
found s as' p rest e formed =
    let t = taken s [] as' p rest e in
    let P : List Action → Type 0 = λ z. Found s z p rest in
    let Q : base.WrittenProcess → Type 0 = λ z. Found s (t.more ++ (record { name = s.name; body = t.own } ∷ rest)) z rest in
    subst P (sym t.split) (subst Q (sym t.is) (found_with s t.more rest t.own t.owned t.named (subst (AllByRecursion IsFormedAction) t.split formed)))

pub record ProcessesFound (done : List base.WrittenProcess) (ss : List Step) (as' : List Action) (ps : List base.WrittenProcess) : Type 0 where
  pub more : List base.WrittenProcess
  pub is : ps ≡ done ++ more
  pub steps : map step_of (map process_view more) ≡ ss
  pub actions : as' ≡ all_actions (map process_view more)
  pub each : AllByRecursion HasActions (map process_view more)

one_found : (done : List base.WrittenProcess) (s : Step) (ss : List Step) (as' rest : List Action) (p : base.WrittenProcess) (ps : List base.WrittenProcess) → Found s as' p rest → ProcessesFound (done ++ p ∷ []) ss rest ps → ProcessesFound done (s ∷ ss) as' ps
one_found done s ss as' rest p ps f r = record {
  more = p ∷ r.more;
  is = r.is ∙ append_assoc done (p ∷ []) r.more;
  steps = λ i. f.step_is i ∷ r.steps i;
  actions = f.split ∙ (λ i. map action_from p.actions ++ (record { name = p.name; body = process_body (process_view p) } ∷ r.actions i));
  each = (f.has, r.each);
}

rest_formed : (s : Step) (as' rest : List Action) (p : base.WrittenProcess) → Found s as' p rest → AllByRecursion IsFormedAction as' → AllByRecursion IsFormedAction rest
rest_formed s as' rest p f h = (all_front IsFormedAction (map action_from p.actions) (record { name = p.name; body = process_body (process_view p) } ∷ rest) (subst (AllByRecursion IsFormedAction) f.split h)).1.1

pub processes_found : (done : List base.WrittenProcess) (ss : List Step) (as' : List Action) (ps : List base.WrittenProcess) → processes_from done ss as' ≡ Some ps → AllByRecursion IsFormedAction as' → ProcessesFound done ss as' ps
unfolding processes_from
processes_found done [] [] ps e h = record { more = []; is = (let q : done ≡ ps = cc in sym q ∙ sym (append-nil done)); steps = refl; actions = refl; each = tt }
processes_found done [] (a ∷ as') ps e h = cc
processes_found done (s ∷ ss) as' ps e h =
    some_then (process_from s [] as') _ ps (ProcessesFound done (s ∷ ss) as' ps) e (λ p got e.
    let f = found s as' p.0 p.1 got h in
    one_found done s ss as' p.1 p.0 ps f (processes_found (done ++ p.0 ∷ []) ss p.1 ps e (rest_formed s as' p.1 p.0 f h)))

-- ---- what is so is found

abbrev pub base_process : WrittenProcess → base.WrittenProcess
base_process p = record { name = p.name; ids = p.ids; actions = p.actions }

abbrev own_action : WrittenProcess → Action
own_action p = record { name = p.name; body = process_body p }

-- a disjunction from the left is higher by one with each call
calls_high : (a : Tree) (as' : List (Name × Tree)) → height a + length as' ≤ height (joined_by infixs.Or a (map (λ b. self_call b.0) as'))
calls_high a [] = omega arith
calls_high a (b ∷ bs) = let r = calls_high (binary infixs.Or a (self_call b.0)) bs in omega (arith, r)

-- so an expression that isn't too high calls few label actions
pub few_calls : (as' : List (Name × Tree)) → height (any_of (map (λ b. self_call b.0) as')) ≤ 512 → length as' ≤ most_actions
few_calls [] h = omega arith
few_calls (a ∷ as') h = let r = calls_high (self_call a.0) as' in omega (arith, h, r)

over_action : (s : Step) (done as' : List Action) (a : Action) → IsActionOf s.name (action_pair a) → process_from s done (a ∷ as') ≡ process_from s (done ++ a ∷ []) as'
unfolding process_from
over_action s done as' a h =
    let other : same_bytes a.name s.name ≡ false = ap (λ z. same_bytes z s.name) h.1 ∙ not_own s.name h.0 _ refl in
    let named : is_action_of s.name a.name ≡ true = ap (is_action_of s.name) h.1 ∙ named_action s.name h.0 in
    cond_false (same_bytes a.name s.name) _ _ other ∙ cond_true (is_action_of s.name a.name) _ _ named

at_own : (s : Step) (done rest : List Action) (own : Tree) (p : base.WrittenProcess) → process s done own ≡ Some p → process_from s done (record { name = s.name; body = own } ∷ rest) ≡ Some (p, rest)
unfolding process_from
at_own s done rest own p e = cond_true (same_bytes s.name s.name) _ _ (same_bytes-self s.name) ∙ ap (λ o. with_rest o rest) e

over_actions : (s : Step) (done : List Action) (as' : List (Name × Tree)) (rest : List Action) → AllByRecursion (IsActionOf s.name) as' → process_from s done (map action_from as' ++ rest) ≡ process_from s (done ++ map action_from as') rest
over_actions s done [] rest h = ap (λ z. process_from s z rest) (sym (append-nil done))
over_actions s done (a ∷ as') rest h =
    over_action s done (map action_from as' ++ rest) (action_from a) h.0
    ∙ over_actions s (done ++ action_from a ∷ []) as' rest h.1
    ∙ ap (λ z. process_from s z rest) (append_assoc done (action_from a ∷ []) (map action_from as'))

pairs_back : (as' : List (Name × Tree)) → map action_pair (map action_from as') ≡ as'
pairs_back [] = refl
pairs_back (a ∷ as') = ap (λ z. a ∷ z) (pairs_back as')

some_given : {A : Type 0} (xs : List A) → (xs ≡ [] → ⊥) → has_some xs ≡ true
some_given [] h = absurd (h refl)
some_given (x ∷ xs) h = refl

-- no more label actions than a process may have
abbrev pub IsFew : WrittenProcess → Type 0
IsFew p = length p.actions ≤ most_actions

own_given : (p : WrittenProcess) → HasActions p → IsFew p → process (step_of p) (map action_from p.actions) (process_body p) ≡ Some (base_process p)
own_given p h few =
    let same : process_with (step_of p) (map action_from p.actions) ≡ base_process p = (λ i. record { name = p.name; ids = p.ids; actions = pairs_back p.actions i }) in
    let owned : is_own (base_process p) (process_body p) ≡ true = (λ i. le-leb (length p.actions) most_actions few i && (some_given p.actions h.some i && same_self (process_body p) i)) in
    (λ i. cond (is_own (same i) (process_body p)) (Some (same i)) None) ∙ cond_true (is_own (base_process p) (process_body p)) _ _ owned

process_given : (p : WrittenProcess) (rest : List Action) → HasActions p → IsFew p → process_from (step_of p) [] (map action_from p.actions ++ (own_action p ∷ rest)) ≡ Some (base_process p, rest)
process_given p rest h few = over_actions (step_of p) [] p.actions (own_action p ∷ rest) h.named ∙ at_own (step_of p) (map action_from p.actions) rest (process_body p) (base_process p) (own_given p h few)

pub processes_given : (done : List base.WrittenProcess) (ps : List WrittenProcess) → AllByRecursion HasActions ps → AllByRecursion IsFew ps → processes_from done (map step_of ps) (all_actions ps) ≡ Some (done ++ map base_process ps)
unfolding processes_from
processes_given done [] h few = ap Some (sym (append-nil done))
processes_given done (p ∷ ps) h few =
    ap (λ o. if_some o (λ q. processes_from (done ++ q.0 ∷ []) (map step_of ps) q.1)) (process_given p (all_actions ps) h.0 few.0)
    ∙ processes_given (done ++ base_process p ∷ []) ps h.1 few.1
    ∙ ap Some (append_assoc done (base_process p ∷ []) (map base_process ps))
