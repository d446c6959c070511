-- The start of a bound system is a declared one.
use Rattle.std.proofs.Common.{◌≡◌, ℕ, List, [], ◌∷◌, ◌++◌, map, Some, None, option_map, option_and_then, Result, Ok, Err, refl, ap, sym, ◌∙◌, subst, inl}
use Rattle.std.specs.Prelude.{IfOk}
use Rattle.std.specs.List.{filter_map, flat_map}
use Rattle.pgo_base.specs.Data.{Data, string}
use Rattle.pgo_base.specs.Lookup.{Name, Vars, same_name, find}
use Rattle.pgo_base.specs.Tree.{Tree}
use Rattle.pgo_base.specs.declared.module.Defined.{Defined}
use Rattle.pgo_model.specs.Machine.{nth}
use Rattle.pgo_model.specs.Names.{same_name-self}
use Rattle.pgo_model.specs.Operators.{apply}
use Rattle.pgo_model.specs.Written.{pc, written}
use Rattle.pgo_syntax.specs.declared.bound.Binding.{Binding}
use Rattle.pgo_syntax.specs.declared.bound.Bound.{Bound}
use Rattle.pgo_syntax.specs.declared.bound.Instance.{Instance}
use Rattle.pgo_syntax.specs.declared.bound.Target.TheVariants as targets
use Rattle.pgo_syntax.specs.declared.declaration.Declaration.{Declaration}
use Rattle.pgo_syntax.specs.declared.spec.Spec.{Spec}
use Rattle.pgo_bound.specs.Values.{defs_of, value_at, local_start, argument_start, start_of_value, beginning}
use Rattle.pgo_bound.specs.Runs.{Run, Handed, archetype_named, run_with, run_of, runs_of, run_ids, binding_of, bindings_of}
use Rattle.pgo_bound.specs.BoundOf.{GlobalStart, global_of, globals_of, global_value, places_of, instances_of, first_place, first_places, first_label, first_label_in, expression_of, own_argument, own_start, locals_of, function_at, start_of, bound_of}
use Rattle.pgo_bound.specs.State.{AreDifferent, id_of}
use Rattle.pgo_bound.specs.Declares.{StartsAs, StartsAt, value_in, Declares}
use Rattle.pgo_bound.specs.Sound.{WellNamed}
use Rattle.pgo_bound.specs.Among.{IsAmong, among_map, among_left, among_right, among_flat_map, among_filter_map, among_filter, from_map, from_filter_map, among_nth, some_any, found_among, mapped_some}
use Rattle.pgo_bound.specs.Lookups.{apply_on, apply_at, data_from}
use Rattle.pgo_bound.specs.StartNames.{start_names}
use Rattle.pgo_bound.specs.Once.{StandOnce, ids_of_places, first_at}
use Rattle.pgo_bound.specs.Instances.{archetype_among, instance_from, tree_of, target_tree}
use Rattle.pgo_heads.specs.declared.errors.BindError.{BindError}
use Rattle.pgo_heads.specs.Refusals.{is_run, archetypes_run, constants_refused, heads_refused, bind_refusal}
use Rattle.pgo_heads.specs.Answers.{Answers}
use Rattle.pgo_bind.proofs.Passing.{none_next}
use Rattle.pgo_bind.proofs.Unrefused.{Unrefused, unrefused, starts_as, starts_at, global_begins, local_begins, argument_begins}

-- the archetype of a process that runs is among those that are run
pub run_archetype : (s : Spec) (ds : List Defined) (r : Run) → IsAmong r (runs_of s ds) → IsAmong r.archetype (archetypes_run s.archetypes (runs_of s ds))
run_archetype s ds r a =
    let o = from_filter_map (run_of s ds) r s.processes a in
    let m = mapped_some (run_with ds o.0) (archetype_named o.0.archetype.name s.archetypes) r o.2 in
    let there : IsAmong r.archetype s.archetypes = subst (λ q. IsAmong q.archetype s.archetypes) (sym m.2) (archetype_among o.0.archetype.name s.archetypes m.0 m.1) in
    among_filter (is_run (runs_of s ds)) r.archetype s.archetypes there
    (some_any (λ q. same_name r.archetype.name.name q.archetype.name.name) r (runs_of s ds) a (same_name-self r.archetype.name.name))

module _ (s : Spec) (ds : List Defined) (w : WellNamed s) (h : heads_refused s.archetypes ds (runs_of s ds) (globals_of s ds (runs_of s ds)) ≡ None) where
  abbrev rs : List Run
  rs = runs_of s ds

  abbrev gs : List GlobalStart
  gs = globals_of s ds rs

  abbrev start : Vars
  start = start_of ds rs gs

  none : Unrefused s.archetypes ds rs gs
  none = unrefused s.archetypes ds rs gs h

  pub at_name : (x : Name) (v : Data) → IsAmong (x, v) start → find x start ≡ Some v
  at_name x v a = found_among x v start (subst AreDifferent (sym (start_names s ds)) w.variables_differ) a

  pub at_global : (d : Declaration) → IsAmong d s.globals → find d.name.name start ≡ Some (beginning (global_of ds rs d).start)
  at_global d a =
      let g = global_of ds rs d in
      let among = among_map (global_of ds rs) d s.globals a in
      let there = among_left (global_value g) (map global_value gs ++ ((pc, first_places rs) ∷ [])) (flat_map (locals_of ds) rs) (among_left (global_value g) (map global_value gs) ((pc, first_places rs) ∷ []) (among_map global_value g gs among)) in
      at_name d.name.name (beginning g.start) there

  pub of_global : (d : Declaration) → IsAmong d s.globals → (v : Data) × (find d.name.name start ≡ Some v) × StartsAs ds d.initial v
  of_global d a =
      let g = global_of ds rs d in
      let among = among_map (global_of ds rs) d s.globals a in
      let b = global_begins s.archetypes ds rs gs none g among in
      (b.0, at_global d a ∙ ap (λ st. Some (beginning st)) b.1, starts_as ds d.initial b.0 b.1)

  pub at_pc : find pc start ≡ Some (first_places rs)
  at_pc = at_name pc (first_places rs) (among_left (pc, first_places rs) (map global_value gs ++ ((pc, first_places rs) ∷ [])) (flat_map (locals_of ds) rs) (among_right (pc, first_places rs) (map global_value gs) ((pc, first_places rs) ∷ []) (inl refl)))

  pub of_place : (z : Run × Data) → IsAmong z (places_of rs) → value_in start pc z.1 ≡ Some (string (first_label z.0))
  of_place z a =
      ap (option_and_then (λ f. apply f z.1)) at_pc
      ∙ apply_on z.1 (map first_place (places_of rs))
      ∙ first_at (places_of rs) z.0 z.1 (subst StandOnce (sym (ids_of_places rs)) none.once) a

  pub at_own : (r : Run) (x : Name) (v : Data) → IsAmong r rs → IsAmong (x, v) (locals_of ds r) → find x start ≡ Some v
  at_own r x v a l =
      at_name x v (among_right (x, v) (map global_value gs ++ ((pc, first_places rs) ∷ [])) (flat_map (locals_of ds) rs) (among_flat_map (locals_of ds) r (x, v) rs a l))

  of_own : (r : Run) (x : Name) (f : Data → Data) (id : Data) → IsAmong r rs → IsAmong (x, function_at f (run_ids r)) (locals_of ds r) → IsAmong id (run_ids r) → value_in start x id ≡ Some (f id)
  of_own r x f id a l i =
      ap (option_and_then (λ g. apply g id)) (at_own r x (function_at f (run_ids r)) a l) ∙ apply_at f id (run_ids r) i

  pub own_local_there : (r : Run) (d : Declaration) → IsAmong d r.archetype.locals → IsAmong (own_start ds r d) (locals_of ds r)
  own_local_there r d l =
      among_right (own_start ds r d) (filter_map (own_argument ds r) r.handed) (map (own_start ds r) r.archetype.locals) (among_map (own_start ds r) d r.archetype.locals l)

  pub of_local : (r : Run) (d : Declaration) (id : Data) → IsAmong r rs → IsAmong d r.archetype.locals → IsAmong id (run_ids r) → (v : Data) × (value_in start (written r.process.name.name d.name.name) id ≡ Some v) × StartsAt ds d.initial id v
  of_local r d id a l i =
      let b = local_begins s.archetypes ds rs gs none r d id a (run_archetype s ds r a) l i in
      (b.0, of_own r (written r.process.name.name d.name.name) (λ k. beginning (local_start ds d.initial k)) id a (own_local_there r d l) i ∙ ap (λ st. Some (beginning st)) b.1, starts_at ds d.initial id b.0 b.1)

  pub own_argument_there : (r : Run) (k : Handed) (e : Tree) → IsAmong k r.handed → expression_of k.argument ≡ Some e → IsAmong (written r.process.name.name k.parameter.name.name, function_at (λ q. beginning (argument_start ds e q)) (run_ids r)) (locals_of ds r)
  own_argument_there r k e l x =
      let name = written r.process.name.name k.parameter.name.name in
      let f : Data → Data = λ q. beginning (argument_start ds e q) in
      let is : own_argument ds r k ≡ Some (name, function_at f (run_ids r)) = ap (option_map (λ t. (name, function_at (λ q. beginning (argument_start ds t q)) (run_ids r)))) x in
      among_left (name, function_at f (run_ids r)) (filter_map (own_argument ds r) r.handed) (map (own_start ds r) r.archetype.locals) (among_filter_map (own_argument ds r) k (name, function_at f (run_ids r)) r.handed l is)

  pub of_argument : (r : Run) (k : Handed) (e : Tree) (id : Data) → IsAmong r rs → IsAmong k r.handed → expression_of k.argument ≡ Some e → IsAmong id (run_ids r) → (v : Data) × (value_in start (written r.process.name.name k.parameter.name.name) id ≡ Some v) × (value_at ds id e ≡ Some v)
  of_argument r k e id a l x i =
      let b = argument_begins s.archetypes ds rs gs none r k e id a l x i in
      let name = written r.process.name.name k.parameter.name.name in
      (b.0, of_own r name (λ q. beginning (argument_start ds e q)) id a (own_argument_there r k e l x) i ∙ ap (λ o. Some (beginning (start_of_value o))) b.1, b.1)

  pub at_instance : (i : Instance) (n : ℕ) → nth (instances_of s rs) n ≡ Some i → value_in start pc (id_of i) ≡ Some (string (first_label_in i.process i.archetype.body))
  at_instance i n q =
      let o = instance_from s rs i n q in
      let z : Run × Data = (o.0, o.2.0) in
      let P : Instance → Type 0 = λ j. value_in start pc (id_of j) ≡ Some (string (first_label_in j.process j.archetype.body)) in
      subst P (sym o.2.2.1.1) (ap (value_in start pc) (data_from o.2.0) ∙ of_place z o.2.2.0)

  pub local_at_instance : (i : Instance) (n m : ℕ) (d : Declaration) → nth (instances_of s rs) n ≡ Some i → nth i.archetype.locals m ≡ Some d → (v : Data) × (value_in start (written i.process d.name.name) (id_of i) ≡ Some v) × StartsAt ds d.initial (id_of i) v
  local_at_instance i n m d q l =
      let o = instance_from s rs i n q in
      let P : Instance → Type 0 = λ j. nth j.archetype.locals m ≡ Some d → (v : Data) × (value_in start (written j.process d.name.name) (id_of j) ≡ Some v) × StartsAt ds d.initial (id_of j) v in
      let Q : Data → Type 0 = λ k. (v : Data) × (value_in start (written o.0.process.name.name d.name.name) k ≡ Some v) × StartsAt ds d.initial k v in
      subst P (sym o.2.2.1.1) (λ g. subst Q (sym (data_from o.2.0)) (of_local o.0 d o.2.0 o.1 (among_nth d o.0.archetype.locals m g) o.2.1)) l

  binding_at : (r : Run) (x : Binding) (e : Tree) (id : Data) → IsAmong r rs → IsAmong id (run_ids r) → IsAmong x (bindings_of s r) → x.target ≡ targets.Value e → (v : Data) × (value_in start (written r.process.name.name x.parameter) id ≡ Some v) × (value_at ds id e ≡ Some v)
  binding_at r x e id a i b t =
      let o = from_map (binding_of s r.process.clauses) x r.handed b in
      let P : Binding → Type 0 = λ y. y.target ≡ targets.Value e → (v : Data) × (value_in start (written r.process.name.name y.parameter) id ≡ Some v) × (value_at ds id e ≡ Some v) in
      subst P (sym o.2) (λ g. of_argument r o.0 e id a o.1 (target_tree s r.process.clauses o.0.number o.0.argument ∙ ap tree_of g) i) t

  pub argument_at_instance : (i : Instance) (n m : ℕ) (x : Binding) (e : Tree) → nth (instances_of s rs) n ≡ Some i → nth i.bindings m ≡ Some x → x.target ≡ targets.Value e → (v : Data) × (value_in start (written i.process x.parameter) (id_of i) ≡ Some v) × (value_at ds (id_of i) e ≡ Some v)
  argument_at_instance i n m x e q l t =
      let o = instance_from s rs i n q in
      let P : Instance → Type 0 = λ j. nth j.bindings m ≡ Some x → (v : Data) × (value_in start (written j.process x.parameter) (id_of j) ≡ Some v) × (value_at ds (id_of j) e ≡ Some v) in
      let Q : Data → Type 0 = λ k. (v : Data) × (value_in start (written o.0.process.name.name x.parameter) k ≡ Some v) × (value_at ds k e ≡ Some v) in
      subst P (sym o.2.2.1.1) (λ g. subst Q (sym (data_from o.2.0)) (binding_at o.0 x e o.2.0 o.1 o.2.1 (among_nth x (bindings_of s o.0) m g) t)) l

pub declared : (s : Spec) (consts : List (Name × Data)) → WellNamed s → bind_refusal s consts ≡ None → Declares (bound_of s consts) (bound_of s consts).start
declared s consts w h =
    let ds = defs_of s consts in
    let g = none_next (constants_refused s consts) (heads_refused s.archetypes ds (runs_of s ds) (globals_of s ds (runs_of s ds))) h in
    record {
      globals = λ n d q. of_global s ds w g d (among_nth d s.globals n q);
      places = λ n i q. at_instance s ds w g i n q;
      locals = λ n m i d q l. local_at_instance s ds w g i n m d q l;
      arguments = λ n m i x e q l t. argument_at_instance s ds w g i n m x e q l t;
    }

pub declared_answer : (s : Spec) (consts : List (Name × Data)) (r : Result Bound BindError) → Answers (bind_refusal s consts) (bound_of s consts) r → WellNamed s → IfOk r (λ b. Declares b b.start)
declared_answer s consts (Ok b) a w = subst (λ x. Declares x x.start) (sym a.1) (declared s consts w a.0)
declared_answer s consts (Err e) a w = tt
