-- What a call with `self` is worth over a module's definitions: the body of the newest definition of the name, over those before
-- it.
use Rattle.std.proofs.Common.{◌≡◌, false, List, [], ◌∷◌, ◌++◌, map, Option, Some, None, refl, sym, ap, ◌∙◌, subst, inl, inr, fold, append_assoc}
use Rattle.std.specs.Prelude.{if◌then◌else◌, ◌||◌, option_and_then}
use Rattle.std.specs.List.{AllByRecursion}
use Rattle.pgo_base.specs.Data.{Data}
use Rattle.pgo_base.specs.Lookup.{Name, Vars, same_name, find}
use Rattle.pgo_base.specs.Tree.{Tree, name, no_trees, more_trees}
use Rattle.pgo_model.specs.Module.{action_definition, process_body, process_definitions, self_call}
use Rattle.pgo_model.specs.Names.{same_name-self, is_among}
use Rattle.pgo_model.specs.Operators.{both}
use Rattle.pgo_model.specs.Sequences.{operators, assert_name}
use Rattle.pgo_model.specs.Val.{Scope, Meaning, Defined, Means, meaning_of, call_def, val, or_else, asserted}
use Rattle.pgo_model.specs.Written.{self_name}
use Rattle.pgo_syntax.specs.declared.process.Process.{Process}
use Rattle.pgo_syntax.specs.declared.spec.Spec.{Spec}
use Rattle.pgo_bound.specs.Among.{IsAmong}
use Rattle.pgo_bound.specs.State.{AreDifferent}
use Rattle.pgo_meaning.specs.Expansions.{process_expansions}
use Rattle.pgo_translate.proofs.Actions.{apart_from_all, call_further, defined_name, first_apart}
use Rattle.pgo_translate.proofs.ByProcess.{label_actions, written_process}

module _ (u : Vars) (after : Option Vars) where
  -- `self` is the identifier
  abbrev pub under : List Meaning → Data → Scope
  under ms id = record { names = (self_name, Some id) ∷ []; part = None; now = u; next = after; defs = ms }

  -- a name that is looked up among the definitions
  pub record Callable (x : Name) : Type 0 where
    pub operator : find x operators ≡ None
    pub assert : same_name x assert_name ≡ false
    pub self : same_name x self_name ≡ false
    pub variable : find x u ≡ None

  pub call_value : (x : Name) (id : Data) (ms : List Meaning) → Callable x → val (self_call x) (under ms id) ≡ call_def x (id ∷ []) ms
  call_value x id ms c =
      λ i. if c.assert i then asserted (more_trees (name self_name) no_trees) (under ms id)
      else option_and_then (λ args. or_else (c.operator i) (λ f. f args) (or_else (if c.self i then Some (Some id) else None) (λ o. None) (or_else (c.variable i) (λ v. None) (call_def x args ms))))
      (both (λ v vs. Some (v ∷ vs)) (or_else (if same_name-self self_name i then Some (Some id) else None) (λ o. o) (or_else (find self_name u) (λ v. Some v) (call_def self_name [] ms))) (Some []))

  -- no later definition has the name
  pub call_last : (x : Name) (e : Tree) (id : Data) (before : List Meaning) (more : List Defined) → is_among x (map defined_name more) ≡ false
      → call_def x (id ∷ []) (fold (meaning_of u after) (meaning_of u after before (Means x (self_name ∷ []) e)) more) ≡ val e (under before id)
  call_last x e id before more h =
      call_further u after x (id ∷ []) more (meaning_of u after before (Means x (self_name ∷ []) e)) h
      ∙ ap (λ b. if b then val e (under before id) else call_def x (id ∷ []) before) (same_name-self x)

  -- of definitions whose names differ
  pub call_among : (ds : List Defined) (before : List Meaning) (x : Name) (e : Tree) (id : Data) → AreDifferent (map defined_name ds) → IsAmong (Means x (self_name ∷ []) e) ds
      → (front : List Defined) × ((y : Name) → is_among y (map defined_name ds) ≡ false → is_among y (map defined_name front) ≡ false)
      × (call_def x (id ∷ []) (fold (meaning_of u after) before ds) ≡ val e (under (fold (meaning_of u after) before front) id))
  call_among [] before x e id n m = absurd m
  call_among (d ∷ ds) before x e id n (inl q) =
      ([], λ y h. refl, subst (λ z. call_def x (id ∷ []) (fold (meaning_of u after) (meaning_of u after before z) ds) ≡ val e (under before id)) q (call_last x e id before ds (apart_from_all x (map defined_name ds) (subst (λ z. AllByRecursion (λ y. same_name (defined_name z) y ≡ false) (map defined_name ds)) (sym q) n.0))))
  call_among (d ∷ ds) before x e id n (inr m) =
      let r = call_among ds (meaning_of u after before d) x e id n.1 m in
      (d ∷ r.0, λ y h. (let p = first_apart y (defined_name d) (map defined_name ds) h in ap (λ b. b || is_among y (map defined_name r.0)) p.0 ∙ r.1 y p.1), r.2)

-- where a process's definitions stand among those of all
pub split_at : (s : Spec) (ps : List Process) (p : Process) → IsAmong p ps
    → (front back : List Defined)
    × (process_definitions (map (written_process s) ps) ≡ front ++ (map action_definition (label_actions s (process_expansions s p)) ++ (Means p.name.name (self_name ∷ []) (process_body (written_process s p)) ∷ back)))
split_at s [] p m = absurd m
split_at s (q ∷ ps) p (inl e) =
    ([], process_definitions (map (written_process s) ps), ap (λ r. map action_definition (label_actions s (process_expansions s r)) ++ (Means r.name.name (self_name ∷ []) (process_body (written_process s r)) ∷ process_definitions (map (written_process s) ps))) (sym e))
split_at s (q ∷ ps) p (inr m) =
    let r = split_at s ps p m in
    let here = map action_definition (label_actions s (process_expansions s q)) in
    let own = Means q.name.name (self_name ∷ []) (process_body (written_process s q)) in
    let rest = map action_definition (label_actions s (process_expansions s p)) ++ (Means p.name.name (self_name ∷ []) (process_body (written_process s p)) ∷ r.1) in
    (here ++ (own ∷ r.0), r.1, ap (λ ds. here ++ (own ∷ ds)) r.2 ∙ sym (append_assoc here (own ∷ r.0) rest))
