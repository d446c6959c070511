-- The actions of a specification's module say what the trees of its labels allow.
use Rattle.std.proofs.Common.{◌≡◌, Bool, true, false, List, [], ◌∷◌, ◌++◌, map, Option, Some, None, ◌↔◌, refl, sym, ap, ◌∙◌, subst, option_and_then, option_map, inl, inr, ⊎_elim, fold, length, append_assoc}
use Rattle.std.specs.Prelude.{reverse, if◌then◌else◌, ◌||◌, ◌==◌}
use Rattle.std.specs.List.{AllByRecursion, filter_map, flat_map, cons_option}
use Rattle.std.proofs.lemmas.Option.{same_Some}
use Rattle.pgo_base.specs.Data.{Data, string, model}
use Rattle.pgo_base.specs.Lookup.{Name, Names, Vars, same_name, find}
use Rattle.pgo_base.specs.Tree.{Tree}
use Rattle.pgo_base.specs.ValueCode.{value_from}
use Rattle.pgo_model.specs.Acts.{Acts}
use Rattle.pgo_model.specs.Module.{actions_in, actions_of, defs_of, process_definitions, action_definition, process_body, proc_set_of, terminating_body, stands_at}
use Rattle.pgo_model.specs.ModuleView.{defined_view}
use Rattle.pgo_base.specs.declared.module.Defined.TheVariants as base_variants
use Rattle.pgo_model.specs.Names.{same_name-is, same_name-not, same_name-self, is_among}
use Rattle.pgo_model.specs.Operators.{apply, members_of}
use Rattle.pgo_model.specs.Val.{Meaning, Defined, Given, Means, Val, seen, meanings, meaning_of, call_def, default_meaning, body_meaning}
use Rattle.pgo_model.specs.Written.{written, pc, self_name, proc_set, terminating, default_init_value}
use Rattle.pgo_syntax.specs.declared.name.PlacedName.{PlacedName}
use Rattle.pgo_syntax.specs.declared.process.Process.{Process}
use Rattle.pgo_syntax.specs.declared.spec.Spec.{Spec}
use Rattle.pgo_bound.specs.Values as values
use Rattle.pgo_bound.specs.Values.{meant, define_of, given_value, given_constant, default_definition}
use Rattle.pgo_bound.specs.BoundOf.{bound_of}
use Rattle.pgo_bound.specs.State.{AreDifferent, IsState, variables_of, own_names}
use Rattle.pgo_bound.specs.Lookups.{data_from}
use Rattle.pgo_bound.specs.Among.{IsAmong, all_at, among_append, among_left as front, among_right as behind}
use Rattle.pgo_bound.specs.Different.{all_from, different_apart, different_left}
use Rattle.pgo_bound.specs.StartNames.{map-append}
use Rattle.pgo_sections.specs.Expansion.{Expansion, With, In, Skip, Await, Assert, Print, If, Either, End, Expansions, no_expansions, more_expansions, PathContext, Path, SomePath}
use Rattle.pgo_sections.specs.BoundValues.{bindable}
use Rattle.pgo_translate.specs.Items.{action_body}
use Rattle.pgo_translate.specs.ModuleOf.{module_of, constants_with, named_constant}
use Rattle.pgo_translate.proofs.ByProcess.{module_is, global_names, own_module, label_actions, written_process}
use Rattle.pgo_meaning.specs.Expansions.{process_expansions, trees_of}
use Rattle.pgo_translate.specs.Avoids.{Avoids}
use Rattle.pgo_meaning.specs.TreeAllows.{TreeAllows, path_context}
use Rattle.pgo_translate.specs.Premises.{IsNamed, ArmsNamed, IsFree, TreeNamed, ModuleNames, further_names, process_names, is_further}
use Rattle.pgo_translate.specs.Agrees.{ActsAgree}
use Rattle.pgo_translate.proofs.FoundBack.{found_back}
use Rattle.pgo_translate.proofs.Alike.{Alike, sem_alike}
use Rattle.pgo_translate.proofs.Kleene.{is_true, iff_then, pair_iff}
use Rattle.pgo_translate.proofs.Paths.{Binds, ArmsBind, Holds, body-yes, stands-yes}

-- a path depends on the definitions only by the values of expressions that avoid the bad names
module _ (bad : Name → Bool) (free : Name → Type 0) (c : List Defined) (d : List Defined) (vars globals : List Name) (id : Data) (s t : Vars) where
  abbrev over : List Defined → PathContext
  over ds = record { defs = ds; variables = vars; globals = globals; id = id }

  abbrev Same : Type 0
  Same = (e : Tree) (ns : Names) → Avoids bad e → Val c e ns s (Some t) ≡ Val d e ns s (Some t)

  mutual
    pub path_over : Same → (x : Expansion) (above : List Name) (ns : Names) → IsNamed bad free above x → Path (over c) x ns s t → Path (over d) x ns s t
    path_over f (With x e rest) above ns n h = (h.0, ap bindable (sym (f e ns n.1)) ∙ h.1, path_over f rest (x ∷ above) ((x, Some h.0) ∷ ns) n.2 h.2)
    path_over f (In x e rest) above ns n h = (h.0, h.1, ap (option_and_then members_of) (sym (f e ns n.1)) ∙ h.2, h.3, path_over f rest (x ∷ above) ((x, Some h.0) ∷ ns) n.2 h.4)
    path_over f (Skip rest) above ns n h = path_over f rest above ns n h
    path_over f (Await e rest) above ns n h = (sym (f e ns n.0) ∙ h.0, path_over f rest above ns n.1 h.1)
    path_over f (Assert e rest) above ns n h = (sym (f e ns n.0) ∙ h.0, path_over f rest above ns n.1 h.1)
    path_over f (Print e rest) above ns n h = (h.0, sym (f e ns n.0) ∙ h.1, path_over f rest above ns n.1 h.2)
    path_over f (If e p q) above ns n (inl h) = inl (sym (f e ns n.0) ∙ h.0, path_over f p above ns n.1 h.1)
    path_over f (If e p q) above ns n (inr h) = inr (sym (f e ns n.0) ∙ h.0, path_over f q above ns n.2 h.1)
    path_over f (Either arms) above ns n h = arms_over f arms above ns n h
    path_over f (End cs l) above ns n h = h

    arms_over : Same → (arms : Expansions) (above : List Name) (ns : Names) → ArmsNamed bad free above arms → SomePath (over c) arms ns s t → SomePath (over d) arms ns s t
    arms_over f no_expansions above ns n h = h
    arms_over f (more_expansions a rest) above ns n (inl h) = inl (path_over f a above ns n.0 h)
    arms_over f (more_expansions a rest) above ns n (inr h) = inr (arms_over f rest above ns n.1 h)

-- definitions of other names change nothing that a name stands for
abbrev pub defined_name : Defined → Name
defined_name (Given x v) = x
defined_name (Means x ps e) = x

pub fold_append : {A B : Type 0} (f : B → A → B) (b : B) (xs ys : List A) → fold f b (xs ++ ys) ≡ fold f (fold f b xs) ys
fold_append f b [] ys = refl
fold_append f b (x ∷ xs) ys = fold_append f (f b x) xs ys

pub among_left : (x : Name) (xs ys : List Name) → is_among x (xs ++ ys) ≡ false → is_among x xs ≡ false
among_left x [] ys h = refl
among_left x (y ∷ xs) ys h = go (same_name x y) h (among_left x xs ys)
  where
    go : (b : Bool) → (b || is_among x (xs ++ ys)) ≡ false → (is_among x (xs ++ ys) ≡ false → is_among x xs ≡ false) → (b || is_among x xs) ≡ false
    go true k r = k
    go false k r = r k

pub among_right : (x : Name) (xs ys : List Name) → is_among x (xs ++ ys) ≡ false → is_among x ys ≡ false
among_right x [] ys h = h
among_right x (y ∷ xs) ys h = go (same_name x y) h (among_right x xs ys)
  where
    go : (b : Bool) → (b || is_among x (xs ++ ys)) ≡ false → (is_among x (xs ++ ys) ≡ false → is_among x ys ≡ false) → is_among x ys ≡ false
    go true k r = absurd (cc)
    go false k r = r k

pub first_apart : (x y : Name) (ys : List Name) → is_among x (y ∷ ys) ≡ false → (same_name x y ≡ false) × (is_among x ys ≡ false)
first_apart x y ys h = go (same_name x y) h
  where
    go : (b : Bool) → (b || is_among x ys) ≡ false → (b ≡ false) × (is_among x ys ≡ false)
    go true k = absurd (cc)
    go false k = (refl, k)

module _ (now : Vars) (next : Option Vars) (x : Name) (args : List Data) where
  call_one : (d : Defined) (before : List Meaning) → same_name x (defined_name d) ≡ false → call_def x args (meaning_of now next before d) ≡ call_def x args before
  call_one (Given y v) before h = ap (λ b. if b then (if length args == 0 then Some v else None) else call_def x args before) h
  call_one (Means y ps e) before h = ap (λ b. if b then (if length args == length ps then (body_meaning now next before y ps e).gives args else None) else call_def x args before) h

  pub call_further : (more : List Defined) (before : List Meaning) → is_among x (map defined_name more) ≡ false → call_def x args (fold (meaning_of now next) before more) ≡ call_def x args before
  call_further [] before h = refl
  call_further (d ∷ more) before h =
      let p = first_apart x (defined_name d) (map defined_name more) h in
      call_further more (meaning_of now next before d) p.1 ∙ call_one d before p.0

-- a module's definitions are those of its specification, and then the further ones
abbrev pub further : Spec → List Defined
further s =
    Means proc_set [] (proc_set_of (own_module s)) ∷ process_definitions (map (written_process s) s.processes)
    ++ (Means terminating [] (terminating_body (own_module s)) ∷ [])

label_names : (s : Spec) (ls : List (Name × Expansion)) → map defined_name (map action_definition (label_actions s ls)) ≡ map (λ l. l.0) ls
label_names s [] = refl
label_names s (l ∷ ls) = ap (λ xs. l.0 ∷ xs) (label_names s ls)

pub process_defined : (s : Spec) (ps : List Process) → map defined_name (process_definitions (map (written_process s) ps)) ≡ process_names s ps
process_defined s [] = refl
process_defined s (p ∷ ps) =
    map-append defined_name (map action_definition (label_actions s (process_expansions s p))) (Means p.name.name (self_name ∷ []) (process_body (written_process s p)) ∷ process_definitions (map (written_process s) ps))
    ∙ (λ i. label_names s (process_expansions s p) i ++ (p.name.name ∷ process_defined s ps i))

pub later_defined : (s : Spec) → map defined_name (process_definitions (map (written_process s) s.processes) ++ (Means terminating [] (terminating_body (own_module s)) ∷ [])) ≡ process_names s s.processes ++ (terminating ∷ [])
later_defined s =
    map-append defined_name (process_definitions (map (written_process s) s.processes)) (Means terminating [] (terminating_body (own_module s)) ∷ [])
    ∙ ap (λ xs. xs ++ (terminating ∷ [])) (process_defined s s.processes)

pub further_defined : (s : Spec) → map defined_name (further s) ≡ further_names s
further_defined s = ap (λ xs. proc_set ∷ xs) (later_defined s)

given_view : (consts : List (Name × Data)) (cs : List PlacedName) → map (λ c. Given c.0 c.1) (filter_map (named_constant consts) cs) ≡ map defined_view (filter_map (given_constant consts) cs)
given_view consts [] = refl
given_view consts (c ∷ cs) = go (given_value consts c.name) (given_view consts cs)
  where
    go : (o : Option Data) → map (λ c. Given c.0 c.1) (filter_map (named_constant consts) cs) ≡ map defined_view (filter_map (given_constant consts) cs)
        → map (λ c. Given c.0 c.1) (cons_option (option_map (λ v. (c.name, v)) o) (filter_map (named_constant consts) cs)) ≡ map defined_view (cons_option (option_map (λ v. base_variants.Given c.name (value_from v)) o) (filter_map (given_constant consts) cs))
    go None r = r
    go (Some v) r = λ i. Given c.name (sym (data_from v) i) ∷ r i

map_map : {A B C : Type 0} (f : A → B) (g : B → C) (xs : List A) → map (λ x. g (f x)) xs ≡ map g (map f xs)
map_map f g [] = refl
map_map f g (x ∷ xs) = ap (λ ys. g (f x) ∷ ys) (map_map f g xs)

-- the nesting of lists one behind the other
nested : {A : Type 0} (a d m n q t : List A) (x : A) → ((((a ++ d) ++ (m ++ n)) ++ (x ∷ [])) ++ q) ++ t ≡ (((a ++ d) ++ m) ++ n) ++ (x ∷ (q ++ t))
nested a d m n q t x = simp append_assoc refl

pub specification_defs : (s : Spec) (consts : List (Name × Data))
    → map defined_view (values.defs_of s consts)
    ≡ ((map (λ c. Given c.0 c.1) (constants_with s consts) ++ (Given default_init_value (model default_init_value) ∷ [])) ++ map (λ d. defined_view (meant d)) s.definitions) ++ map (λ d. defined_view (meant d)) (define_of s.define)
specification_defs s consts =
    let f = filter_map (given_constant consts) s.constants in
    let m = map meant s.definitions in
    let n = map meant (define_of s.define) in
    map-append defined_view ((f ++ (default_definition ∷ [])) ++ m) n
    ∙ (λ i. map-append defined_view (f ++ (default_definition ∷ [])) m i ++ sym (map_map meant defined_view (define_of s.define)) i)
    ∙ (λ i. (map-append defined_view f (default_definition ∷ []) i ++ sym (map_map meant defined_view s.definitions) i) ++ map (λ d. defined_view (meant d)) (define_of s.define))
    ∙ (λ i. ((sym (given_view consts s.constants) i ++ (Given default_init_value (model default_init_value) ∷ [])) ++ map (λ d. defined_view (meant d)) s.definitions) ++ map (λ d. defined_view (meant d)) (define_of s.define))

pub module_defs : (s : Spec) (consts : List (Name × Data)) → defs_of (own_module s) (constants_with s consts) ≡ map defined_view (values.defs_of s consts) ++ further s
module_defs s consts =
    nested (map (λ c. Given c.0 c.1) (constants_with s consts)) (Given default_init_value (model default_init_value) ∷ []) (map (λ d. defined_view (meant d)) s.definitions) (map (λ d. defined_view (meant d)) (define_of s.define)) (process_definitions (map (written_process s) s.processes)) (Means terminating [] (terminating_body (own_module s)) ∷ []) (Means proc_set [] (proc_set_of (own_module s)))
    ∙ ap (λ ds. ds ++ further s) (sym (specification_defs s consts))

-- the value of an expression that avoids the further definitions is the same with some of them
value_same : (s : Spec) (consts : List (Name × Data)) (more : List Defined) (u t : Vars) (e : Tree) (ns : Names) → ((x : Name) → is_further s x ≡ false → is_among x (map defined_name more) ≡ false) → Avoids (is_further s) e
    → Val (map defined_view (values.defs_of s consts) ++ more) e ns u (Some t) ≡ Val (map defined_view (values.defs_of s consts)) e ns u (Some t)
value_same s consts more u t e ns few h =
    ap (λ m. m.value) (sem_alike (is_further s) e (seen (map defined_view (values.defs_of s consts) ++ more) ns u (Some t)) (seen (map defined_view (values.defs_of s consts)) ns u (Some t)) alike h)
  where
    calls_same : (x : Name) (args : List Data) → is_further s x ≡ false → call_def x args (meanings (map defined_view (values.defs_of s consts) ++ more) u (Some t)) ≡ call_def x args (meanings (map defined_view (values.defs_of s consts)) u (Some t))
    calls_same x args g =
        ap (call_def x args) (fold_append (meaning_of u (Some t)) (default_meaning ∷ []) (map defined_view (values.defs_of s consts)) more)
        ∙ call_further u (Some t) x args more (meanings (map defined_view (values.defs_of s consts)) u (Some t)) (few x g)

    alike : Alike (is_further s) (seen (map defined_view (values.defs_of s consts) ++ more) ns u (Some t)) (seen (map defined_view (values.defs_of s consts)) ns u (Some t))
    alike = record { names = λ y k. refl; part = refl; now = λ x g. refl; calls = calls_same }

-- a label's action is there exactly where its tree is
actions_are : (s : Spec) (ps : List Process) → actions_in (map (written_process s) ps) ≡ label_actions s (flat_map (process_expansions s) ps)
actions_are s [] = refl
actions_are s (p ∷ ps) =
    ap (λ ls. label_actions s (process_expansions s p) ++ ls) (actions_are s ps)
    ∙ sym (map-append (λ l. (l.0, action_body (variables_of s) (global_names s) l.0 l.1)) (process_expansions s p) (flat_map (process_expansions s) ps))

find_action : (s : Spec) (a : Name) (ls : List (Name × Expansion)) → find a (label_actions s ls) ≡ option_map (action_body (variables_of s) (global_names s) a) (find a ls)
find_action s a [] = refl
find_action s a (l ∷ ls) = go (same_name a l.0) refl (find_action s a ls)
  where
    go : (b : Bool) → same_name a l.0 ≡ b → find a (label_actions s ls) ≡ option_map (action_body (variables_of s) (global_names s) a) (find a ls)
        → (if b then Some (action_body (variables_of s) (global_names s) l.0 l.1) else find a (label_actions s ls)) ≡ option_map (action_body (variables_of s) (global_names s) a) (if b then Some l.1 else find a ls)
    go true e r = ap (λ x. Some (action_body (variables_of s) (global_names s) x l.1)) (sym (same_name-is a l.0 e))
    go false e r = r

action_names : (s : Spec) (ls : List (Name × Expansion)) → map (λ l. l.0) (label_actions s ls) ≡ map (λ l. l.0) ls
action_names s [] = refl
action_names s (l ∷ ls) = ap (λ xs. l.0 ∷ xs) (action_names s ls)

named_in : (x : Name) (s : Vars) → is_among x (map (λ p. p.0) s) ≡ true → (v : Data) × (find x s ≡ Some v)
named_in x [] k = absurd (cc)
named_in x (p ∷ ps) k = go (same_name x p.0) k (named_in x ps)
  where
    go : (b : Bool) → (b || is_among x (map (λ p. p.0) ps)) ≡ true → (is_among x (map (λ p. p.0) ps) ≡ true → (v : Data) × (find x ps ≡ Some v)) → (v : Data) × ((if b then Some p.1 else find x ps) ≡ Some v)
    go true g r = (p.1, refl)
    go false g r = r g

-- where all variables are named, each has a value
pub named_known : (s : Vars) (vars : List Name) → map (λ p. p.0) s ≡ vars → (x : Name) → is_among x vars ≡ true → (v : Data) × (find x s ≡ Some v)
named_known s vars e x h = named_in x s (subst (λ vs. is_among x vs ≡ true) (sym e) h)

pub among_front : (x : Name) (xs ys : List Name) → is_among x xs ≡ true → is_among x (xs ++ ys) ≡ true
among_front x [] ys h = absurd (cc)
among_front x (y ∷ xs) ys h = go (same_name x y) h (among_front x xs ys)
  where
    go : (b : Bool) → (b || is_among x xs) ≡ true → (is_among x xs ≡ true → is_among x (xs ++ ys) ≡ true) → (b || is_among x (xs ++ ys)) ≡ true
    go true k r = refl
    go false k r = r k

among_last : (x : Name) (xs : List Name) → is_among x (xs ++ x ∷ []) ≡ true
among_last x [] = ap (λ b. b || false) (same_name-self x)
among_last x (y ∷ xs) = go (same_name x y) (among_last x xs)
  where
    go : (b : Bool) → is_among x (xs ++ x ∷ []) ≡ true → (b || is_among x (xs ++ x ∷ [])) ≡ true
    go true r = refl
    go false r = r

mutual
  binds_of : (bad : Name → Bool) (s : Spec) (above : List Name) (x : Expansion) → IsNamed bad (IsFree s) above x → Binds (variables_of s) above x
  binds_of bad s above (With x e rest) n = ((n.0.self, n.0.variable), binds_of bad s (x ∷ above) rest n.2)
  binds_of bad s above (In x e rest) n = ((n.0.self, n.0.variable), binds_of bad s (x ∷ above) rest n.2)
  binds_of bad s above (Skip rest) n = binds_of bad s above rest n
  binds_of bad s above (Await e rest) n = binds_of bad s above rest n.1
  binds_of bad s above (Assert e rest) n = binds_of bad s above rest n.1
  binds_of bad s above (Print e rest) n = binds_of bad s above rest n.1
  binds_of bad s above (If e p q) n = (binds_of bad s above p n.1, binds_of bad s above q n.2)
  binds_of bad s above (Either arms) n = arms_bind bad s above arms n
  binds_of bad s above (End cs l) n = n

  arms_bind : (bad : Name → Bool) (s : Spec) (above : List Name) (arms : Expansions) → ArmsNamed bad (IsFree s) above arms → ArmsBind (variables_of s) above arms
  arms_bind bad s above no_expansions n = tt
  arms_bind bad s above (more_expansions a rest) n = (binds_of bad s above a n.0, arms_bind bad s above rest n.1)

pub pc_there : (s : Spec) → is_among pc (variables_of s) ≡ true
pc_there s =
    among_front pc (map (λ d. d.name.name) s.globals ++ (pc ∷ [])) (flat_map (λ p. map (written p.name.name) (own_names s p)) s.processes)
    (among_last pc (map (λ d. d.name.name) s.globals))

self_apart : (x : Name) (vars : List Name) → is_among x vars ≡ true → is_among self_name vars ≡ false → same_name x self_name ≡ false
self_apart x vars h g = go (same_name x self_name) refl
  where
    go : (b : Bool) → same_name x self_name ≡ b → b ≡ false
    go true e = let k : is_among self_name vars ≡ true = ap (λ z. is_among z vars) (sym (same_name-is x self_name e)) ∙ h in absurd (cc)
    go false e = refl

pub apart_from_all : (x : Name) (xs : List Name) → AllByRecursion (λ y. same_name x y ≡ false) xs → is_among x xs ≡ false
apart_from_all x [] h = refl
apart_from_all x (y ∷ ys) h = ap (λ b. b || is_among x ys) h.0 ∙ apart_from_all x ys h.1

pub different_behind : (xs ys : List Name) → AreDifferent (xs ++ ys) → AreDifferent ys
different_behind [] ys h = h
different_behind (x ∷ xs) ys h = different_behind xs ys h.1

-- names that differ from those behind
different_joined : (xs ys : List Name) → AreDifferent xs → AreDifferent ys → ((x y : Name) → IsAmong x xs → IsAmong y ys → x ≡ y → ⊥) → AreDifferent (xs ++ ys)
different_joined [] ys h g f = g
different_joined (x ∷ xs) ys h g f = (all_from (λ y. same_name x y ≡ false) (xs ++ ys) apart, different_joined xs ys h.1 g (λ z y m n. f z y (inr m) n))
  where
    apart : (y : Name) → IsAmong y (xs ++ ys) → same_name x y ≡ false
    apart y m = ⊎_elim (λ k. all_at (λ z. same_name x z ≡ false) y xs h.0 k) (λ k. same_name-not x y (f x y (inl refl) k)) (among_append y xs ys m)

-- a label is one of the names that processes write
label_written : (s : Spec) (ps : List Process) (x : Name) → IsAmong x (map (λ l. l.0) (flat_map (process_expansions s) ps)) → IsAmong x (process_names s ps)
label_written s [] x h = absurd h
label_written s (p ∷ ps) x h =
    let here = map (λ l. l.0) (process_expansions s p) in
    ⊎_elim (λ k. front x here (p.name.name ∷ process_names s ps) k) (λ k. behind x here (p.name.name ∷ process_names s ps) (inr (label_written s ps x k)))
    (among_append x here (map (λ l. l.0) (flat_map (process_expansions s) ps)) (subst (λ (xs : List Name). IsAmong x xs) (map-append (λ l. l.0) (process_expansions s p) (flat_map (process_expansions s) ps)) h))

written_labels_differ : (s : Spec) (ps : List Process) → AreDifferent (process_names s ps) → AreDifferent (map (λ l. l.0) (flat_map (process_expansions s) ps))
written_labels_differ s [] h = tt
written_labels_differ s (p ∷ ps) h =
    let here = map (λ l. l.0) (process_expansions s p) in
    subst AreDifferent (sym (map-append (λ l. l.0) (process_expansions s p) (flat_map (process_expansions s) ps)))
    (different_joined here (map (λ l. l.0) (flat_map (process_expansions s) ps)) (different_left here (p.name.name ∷ process_names s ps) h) (written_labels_differ s ps (different_behind here (p.name.name ∷ process_names s ps) h).1)
    (λ x y m n e. different_apart here (p.name.name ∷ process_names s ps) x y h m (inr (label_written s ps y n)) e))

-- so no two labels have one written name
pub labels_differ : (s : Spec) → ModuleNames s → AreDifferent (map (λ l. l.0) (trees_of s))
labels_differ s names = written_labels_differ s s.processes (different_left (process_names s s.processes) (terminating ∷ []) names.differ.1)

module _ (s : Spec) (consts : List (Name × Data)) (names : ModuleNames s) where
  abbrev module_definitions : List Defined
  module_definitions = defs_of (own_module s) (constants_with s consts)

  abbrev specification_definitions : List Defined
  specification_definitions = map defined_view (values.defs_of s consts)

  abbrev with_more : List Defined → Data → PathContext
  with_more more id = record { defs = specification_definitions ++ more; variables = variables_of s; globals = global_names s; id = id }

  abbrev only_self : Data → Names
  only_self id = (self_name, Some id) ∷ []

  module _ (more : List Defined) (id : Data) (u t : Vars) (hu : IsState (bound_of s consts) u) (ht : IsState (bound_of s consts) t) where
    known : (x : Name) → is_among x (variables_of s) ≡ true → (v : Data) × (find x u ≡ Some v)
    known = named_known u (variables_of s) hu.variables

    next_known : (x : Name) → is_among x (variables_of s) ≡ true → (v : Data) × (find x t ≡ Some v)
    next_known = named_known t (variables_of s) ht.variables

    holds : Holds (with_more more id) u t known (pc_there s) next_known [] (only_self id)
    holds = record {
      self = ap (λ b. if b then Some (Some id) else None) (same_name-self self_name);
      plain = λ y m. ap (λ b. if b then Some (Some id) else None) (self_apart y (variables_of s) m names.self_variable);
      bound_above = λ y m. absurd (cc);
    }

    -- `pc` has the label at the identifier
    pub stands-over : (l : Name) → is_true (Val (specification_definitions ++ more) (stands_at l) (only_self id) u (Some t)) ↔ (option_and_then (λ f. apply f id) (find pc u) ≡ Some (string l))
    stands-over l = stands-yes (with_more more id) u t known (pc_there s) next_known l [] (only_self id) holds

  -- with some of the further definitions, an action's body is TRUE exactly where the instance stands at the label and a path of the
  -- tree leads on
  pub acts-over : (more : List Defined) → ((x : Name) → is_further s x ≡ false → is_among x (map defined_name more) ≡ false) → (a : Name) (id : Data) (u t : Vars) → IsState (bound_of s consts) u → IsState (bound_of s consts) t → (x : Expansion) → TreeNamed s x
      → is_true (Val (specification_definitions ++ more) (action_body (variables_of s) (global_names s) a x) (only_self id) u (Some t))
      ↔ ((option_and_then (λ f. apply f id) (find pc u) ≡ Some (string a)) × Path (path_context (bound_of s consts) id) x (only_self id) u t)
  acts-over more few a id u t hu ht x named =
      iff_then (body-yes (with_more more id) u t (known more id u t hu ht) (pc_there s) (next_known more id u t hu ht) a x [] (only_self id) (holds more id u t hu ht) (binds_of (is_further s) s [] x named))
      (pair_iff (λ h. h, λ h. h) (
        path_over (is_further s) (IsFree s) (specification_definitions ++ more) specification_definitions (variables_of s) (global_names s) id u t (λ f ns g. value_same s consts more u t f ns few g) x [] (only_self id) named,
        path_over (is_further s) (IsFree s) specification_definitions (specification_definitions ++ more) (variables_of s) (global_names s) id u t (λ f ns g. sym (value_same s consts more u t f ns few g)) x [] (only_self id) named,
      ))

  acts-tree : (a : Name) (id : Data) (u t : Vars) → IsState (bound_of s consts) u → IsState (bound_of s consts) t → (x : Expansion) → TreeNamed s x
      → is_true (Val module_definitions (action_body (variables_of s) (global_names s) a x) (only_self id) u (Some t))
      ↔ ((option_and_then (λ f. apply f id) (find pc u) ≡ Some (string a)) × Path (path_context (bound_of s consts) id) x (only_self id) u t)
  acts-tree a id u t hu ht x named =
      subst (λ ds. is_true (Val ds (action_body (variables_of s) (global_names s) a x) (only_self id) u (Some t)) ↔ ((option_and_then (λ f. apply f id) (find pc u) ≡ Some (string a)) × Path (path_context (bound_of s consts) id) x (only_self id) u t)) (sym (module_defs s consts))
      (acts-over (further s) (λ x g. ap (is_among x) (further_defined s) ∙ g) a id u t hu ht x named)

  found_action : (a : Name) → find a (reverse (actions_of (own_module s))) ≡ option_map (action_body (variables_of s) (global_names s) a) (find a (trees_of s))
  found_action a =
      ap (λ l. find a (reverse l)) (actions_are s s.processes)
      ∙ found_back a (label_actions s (trees_of s)) (subst AreDifferent (sym (action_names s (trees_of s))) (labels_differ s names))
      ∙ find_action s a (trees_of s)

  -- of the module with whatever Init
  acts-own : (a : Name) → ((x : Expansion) → find a (trees_of s) ≡ Some x → TreeNamed s x) → ActsAgree (own_module s) (constants_with s consts) (bound_of s consts) (trees_of s) a
  acts-own a tree_named id u t hu ht = (λ h. to (find a (trees_of s)) refl h, from)
    where
      from : (option_and_then (λ f. apply f id) (find pc u) ≡ Some (string a)) × TreeAllows (trees_of s) (bound_of s consts) a id u t → Acts (own_module s) (constants_with s consts) a id u t
      from h =
          let x = h.1.0 in
          (action_body (variables_of s) (global_names s) a x, found_action a ∙ ap (option_map (action_body (variables_of s) (global_names s) a)) h.1.1, (acts-tree a id u t hu ht x (tree_named x h.1.1)).1 (h.0, h.1.2.1))

      to : (o : Option Expansion) → find a (trees_of s) ≡ o → Acts (own_module s) (constants_with s consts) a id u t → (option_and_then (λ f. apply f id) (find pc u) ≡ Some (string a)) × TreeAllows (trees_of s) (bound_of s consts) a id u t
      to None e h = let k : None ≡ Some h.0 = sym (found_action a ∙ ap (option_map (action_body (variables_of s) (global_names s) a)) e) ∙ h.1 in absurd (cc)
      to (Some x) e h =
          let k : Some (action_body (variables_of s) (global_names s) a x) ≡ Some h.0 = sym (found_action a ∙ ap (option_map (action_body (variables_of s) (global_names s) a)) e) ∙ h.1 in
          let q = same_Some (action_body (variables_of s) (global_names s) a x) h.0 k in
          let r = (acts-tree a id u t hu ht x (tree_named x e)).0 (subst (λ b. is_true (Val module_definitions b (only_self id) u (Some t))) (sym q) h.2) in
          (r.0, (x, e, (ht, r.1)))

pub acts-agree : (s : Spec) (consts : List (Name × Data)) → ModuleNames s → (a : Name) → ((x : Expansion) → find a (trees_of s) ≡ Some x → TreeNamed s x) → ActsAgree (module_of s) (constants_with s consts) (bound_of s consts) (trees_of s) a
acts-agree s consts names a tree_named =
    subst (λ m. ActsAgree m (constants_with s consts) (bound_of s consts) (trees_of s) a) (module_is s) (acts-own s consts names a tree_named)
