-- The declared starts, said of processes with their identifiers and not of instances.
use Rattle.std.proofs.Common.{◌≡◌, ◌↔◌, ℕ, zero, suc, List, [], ◌∷◌, Some, None, sym, ap, ◌∙◌, subst}
use Rattle.std.proofs.lemmas.Option.{same_Some}
use Rattle.pgo_base.specs.declared.module.Defined as memory
use Rattle.pgo_base.specs.Data.{Data, string}
use Rattle.pgo_base.specs.Lookup.{Name, Vars, find}
use Rattle.pgo_base.specs.Tree.{Tree}
use Rattle.pgo_model.specs.Machine.{nth}
use Rattle.pgo_model.specs.Written.{pc, written}
use Rattle.pgo_syntax.specs.declared.bound.Binding.{Binding}
use Rattle.pgo_syntax.specs.declared.bound.Instance.{Instance}
use Rattle.pgo_syntax.specs.declared.bound.Target.TheVariants as targets
use Rattle.pgo_syntax.specs.declared.declaration.Declaration.{Declaration}
use Rattle.pgo_syntax.specs.declared.process.Argument.{Argument}
use Rattle.pgo_syntax.specs.declared.process.Argument.TheVariants as arguments
use Rattle.pgo_syntax.specs.declared.process.MappingClause.{MappingClause}
use Rattle.pgo_syntax.specs.declared.spec.Spec.{Spec}
use Rattle.pgo_bound.specs.Values.{defs_of, value_at}
use Rattle.pgo_bound.specs.Runs.{Run, Handed, runs_of, run_ids, target_of, binding_of, bindings_of}
use Rattle.pgo_bound.specs.BoundOf.{numbered, places_of, places_of_run, instance_at, instances_of, first_label, first_label_in, expression_of, globals_of, bound_of}
use Rattle.pgo_heads.specs.Refusals.{heads_refused}
use Rattle.pgo_bound.specs.State.{id_of}
use Rattle.pgo_bound.specs.Declares.{StartsAs, StartsAt, value_in, Declares}
use Rattle.pgo_bound.specs.Sound.{WellNamed}
use Rattle.pgo_bound.specs.Among.{IsAmong}
use Rattle.pgo_bound.specs.Among.{among_map, among_flat_map, among_nth, from_map}
use Rattle.pgo_bound.specs.Lookups.{data_from}
use Rattle.pgo_bound.specs.Among.{nth_among}
use Rattle.pgo_bound.specs.Instances.{instance_from, target_tree, tree_of}

-- each global has its initial value or a member of its set; at each identifier of a process `pc` has its first label, each
-- local its value or a member of its set, and each value parameter its argument's value
pub record ByRuns (s : Spec) (ds : List memory.Defined) (u : Vars) : Type 0 where
  pub globals : (d : Declaration) → IsAmong d s.globals → (v : Data) × (find d.name.name u ≡ Some v) × StartsAs ds d.initial v
  pub places : (r : Run) (id : Data) → IsAmong r (runs_of s ds) → IsAmong id (run_ids r) → value_in u pc id ≡ Some (string (first_label r))
  pub locals : (r : Run) (id : Data) (d : Declaration) → IsAmong r (runs_of s ds) → IsAmong id (run_ids r) → IsAmong d r.archetype.locals
      → (v : Data) × (value_in u (written r.process.name.name d.name.name) id ≡ Some v) × StartsAt ds d.initial id v
  pub arguments : (r : Run) (id : Data) (k : Handed) (e : Tree) → IsAmong r (runs_of s ds) → IsAmong id (run_ids r) → IsAmong k r.handed → expression_of k.argument ≡ Some e
      → (v : Data) × (value_in u (written r.process.name.name k.parameter.name.name) id ≡ Some v) × (value_at ds id e ≡ Some v)

nth_numbered : {A B : Type 0} (f : ℕ → A → B) (k n : ℕ) (xs : List A) (x : A) → nth xs n ≡ Some x → (m : ℕ) × (nth (numbered f k xs) n ≡ Some (f m x))
nth_numbered f k n [] x h = absurd (cc)
nth_numbered f k zero (y ∷ ys) x h = (k, ap (λ z. Some (f k z)) (same_Some y x h))
nth_numbered f k (suc n) (y ∷ ys) x h = nth_numbered f (suc k) n ys x h

target_value : (s : Spec) (cs : List MappingClause) (n : ℕ) (a : Argument) (e : Tree) → expression_of a ≡ Some e → target_of s cs n a ≡ targets.Value e
target_value s cs n (arguments.Value place t) e h = ap targets.Value (same_Some t e h)
target_value s cs n (arguments.Ref g t) e h = absurd (cc)

module _ (s : Spec) (consts : List (Name × Data)) (w : WellNamed s) (h : heads_refused s.archetypes (defs_of s consts) (runs_of s (defs_of s consts)) (globals_of s (defs_of s consts) (runs_of s (defs_of s consts))) ≡ None) (u : Vars) where
  abbrev ds : List memory.Defined
  ds = defs_of s consts

  abbrev rs : List Run
  rs = runs_of s ds

  -- a process at an identifier is an instance
  pub instance_there : (r : Run) (id : Data) → IsAmong r rs → IsAmong id (run_ids r) → (n m : ℕ) × (nth (instances_of s rs) n ≡ Some (instance_at s m (r, id)))
  instance_there r id a i =
      let z : IsAmong (r, id) (places_of rs) = among_flat_map places_of_run r (r, id) rs a (among_map (λ k. (r, k)) id (run_ids r) i) in
      let n = nth_among (r, id) (places_of rs) z in
      let m = nth_numbered (instance_at s) 0 n.0 (places_of rs) (r, id) n.1 in
      (n.0, m.0, m.1)

  to : Declares (bound_of s consts) u → ByRuns s ds u
  to d = record {
    globals = λ g a. let n = nth_among g s.globals a in d.globals n.0 g n.1;
    places = λ r id a i. let t = instance_there r id a i in
        subst (λ k. value_in u pc k ≡ Some (string (first_label r))) (data_from id) (d.places t.0 (instance_at s t.1 (r, id)) t.2);
    locals = λ r id g a i l. let t = instance_there r id a i in let n = nth_among g r.archetype.locals l in
        subst (λ k. (v : Data) × (value_in u (written r.process.name.name g.name.name) k ≡ Some v) × StartsAt ds g.initial k v) (data_from id)
        (d.locals t.0 n.0 (instance_at s t.1 (r, id)) g t.2 n.1);
    arguments = λ r id k e a i l x. let t = instance_there r id a i in let b = binding_of s r.process.clauses k in let n = nth_among b (bindings_of s r) (among_map (binding_of s r.process.clauses) k r.handed l) in
        subst (λ q. (v : Data) × (value_in u (written r.process.name.name k.parameter.name.name) q ≡ Some v) × (value_at ds q e ≡ Some v)) (data_from id)
        (d.arguments t.0 n.0 (instance_at s t.1 (r, id)) b e t.2 n.1 (target_value s r.process.clauses k.number k.argument e x));
  }

  binding_from : ByRuns s ds u → (r : Run) (x : Binding) (e : Tree) (id : Data) → IsAmong r rs → IsAmong id (run_ids r) → IsAmong x (bindings_of s r) → x.target ≡ targets.Value e → (v : Data) × (value_in u (written r.process.name.name x.parameter) id ≡ Some v) × (value_at ds id e ≡ Some v)
  binding_from d r x e id a i b t =
      let o = from_map (binding_of s r.process.clauses) x r.handed b in
      let P : Binding → Type 0 = λ y. y.target ≡ targets.Value e → (v : Data) × (value_in u (written r.process.name.name y.parameter) id ≡ Some v) × (value_at ds id e ≡ Some v) in
      subst P (sym o.2) (λ g. d.arguments r id o.0 e a i o.1 (target_tree s r.process.clauses o.0.number o.0.argument ∙ ap tree_of g)) t

  from : ByRuns s ds u → Declares (bound_of s consts) u
  from d = record {
    globals = λ n g q. d.globals g (among_nth g s.globals n q);
    places = λ n i q. let o = instance_from s rs i n q in
        subst (λ j. value_in u pc (id_of j) ≡ Some (string (first_label_in j.process j.archetype.body))) (sym o.2.2.1.1)
        (ap (value_in u pc) (data_from o.2.0) ∙ d.places o.0 o.2.0 o.1 o.2.1);
    locals = λ n m i g q l. let o = instance_from s rs i n q in
        let P : Instance → Type 0 = λ j. nth j.archetype.locals m ≡ Some g → (v : Data) × (value_in u (written j.process g.name.name) (id_of j) ≡ Some v) × StartsAt ds g.initial (id_of j) v in
        let Q : Data → Type 0 = λ k. (v : Data) × (value_in u (written o.0.process.name.name g.name.name) k ≡ Some v) × StartsAt ds g.initial k v in
        subst P (sym o.2.2.1.1) (λ z. subst Q (sym (data_from o.2.0)) (d.locals o.0 o.2.0 g o.1 o.2.1 (among_nth g o.0.archetype.locals m z))) l;
    arguments = λ n m i x e q l t. let o = instance_from s rs i n q in
        let P : Instance → Type 0 = λ j. nth j.bindings m ≡ Some x → (v : Data) × (value_in u (written j.process x.parameter) (id_of j) ≡ Some v) × (value_at ds (id_of j) e ≡ Some v) in
        let Q : Data → Type 0 = λ k. (v : Data) × (value_in u (written o.0.process.name.name x.parameter) k ≡ Some v) × (value_at ds k e ≡ Some v) in
        subst P (sym o.2.2.1.1) (λ z. subst Q (sym (data_from o.2.0)) (binding_from d o.0 x e o.2.0 o.1 o.2.1 (among_nth x (bindings_of s o.0) m z) t)) l;
  }

  pub declares-runs : Declares (bound_of s consts) u ↔ ByRuns s ds u
  declares-runs = (to, from)
