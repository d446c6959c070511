-- The start of a bound system is a state.
use Rattle.std.proofs.Common.{◌≡◌, ◌⊎◌, ℕ, List, [], ◌∷◌, ◌++◌, map, Some, None, option_map, refl, ap, sym, ◌∙◌, subst, inl, inr}
use Rattle.std.specs.Prelude.{filter}
use Rattle.std.specs.List.{filter_map, flat_map}
use Rattle.pgo_base.specs.Data.{Data, function, Pairs, keys}
use Rattle.pgo_base.specs.Lookup.{Name, Vars, same_name, find}
use Rattle.pgo_base.specs.Sets.{in_order}
use Rattle.pgo_base.specs.Tree.{Tree}
use Rattle.pgo_base.specs.declared.module.Defined.{Defined}
use Rattle.pgo_model.specs.Machine.{nth}
use Rattle.pgo_model.specs.State.{AllValues}
use Rattle.pgo_model.specs.Written.{pc, written}
use Rattle.pgo_syntax.specs.declared.archetype.Archetype.{Archetype}
use Rattle.pgo_syntax.specs.declared.declaration.Declaration.{Declaration}
use Rattle.pgo_syntax.specs.declared.process.Argument.{Argument}
use Rattle.pgo_syntax.specs.declared.process.Argument.TheVariants as arguments
use Rattle.pgo_syntax.specs.declared.process.Process.{Process}
use Rattle.pgo_syntax.specs.declared.spec.Spec.{Spec}
use Rattle.pgo_bound.specs.declared.kinds.Kind.TheVariants.{ByElement}
use Rattle.pgo_bound.specs.Values.{beginning, local_start, argument_start}
use Rattle.pgo_bound.specs.Runs.{Run, handed_from, archetype_named, run_with, run_of, runs_of, run_ids}
use Rattle.pgo_bound.specs.BoundOf.{GlobalStart, global_of, globals_of, places_of, first_place, first_places, function_at, instances_of, expression_of, start_of, bound_by}
use Rattle.pgo_model.specs.Variables.{IsFunctionOn}
use Rattle.pgo_bound.specs.State.{AreDifferent, IsState, value_name, names_with, names_or_none, own_names, id_of, kind_in}
use Rattle.pgo_bound.specs.Sound.{WellNamed}
use Rattle.pgo_bound.specs.Among.{IsAmong, among_append, among_nth, among_map, among_filter_map, from_map, from_filter_map}
use Rattle.pgo_bound.specs.Different.{different_left, runs_different, instances_of_process, ids_of_instances}
use Rattle.pgo_bound.specs.Keyed.{on_keys, at_keys}
use Rattle.pgo_bound.specs.StartNames.{start_names}
use Rattle.pgo_bound.specs.Once.{id_in, ids_of_places}
use Rattle.pgo_heads.specs.Refusals.{heads_refused}
use Rattle.pgo_bind.proofs.Declared.{at_pc, at_global, at_own, own_local_there, own_argument_there}
use Rattle.pgo_bind.proofs.Depths.{start_shallow}
use Rattle.pgo_bind.proofs.ElementStarts.{global_name, element_start}
use Rattle.pgo_bind.proofs.Unrefused.{Unrefused, unrefused}

keys_of_places : (zs : List (Run × Data)) → keys (map first_place zs) ≡ map id_in zs
keys_of_places [] = refl
keys_of_places (z ∷ zs) = ap (λ ks. z.1 ∷ ks) (keys_of_places zs)

value_named : (x y : Name) (a : Argument) → value_name y a ≡ Some x → (e : Tree) × (expression_of a ≡ Some e) × (x ≡ y)
value_named x y (arguments.Ref g f) h = absurd (cc)
value_named x y (arguments.Value place e) h = (e, refl, let q : x ≡ y = cc in q)

pub global_names_are : (ds : List Defined) (rs : List Run) (gs : List Declaration) → map global_name (map (global_of ds rs) gs) ≡ map (λ d. d.name.name) gs
global_names_are ds rs [] = refl
global_names_are ds rs (g ∷ gs) = ap (λ ns. g.name.name ∷ ns) (global_names_are ds rs gs)

pub globals_different : (s : Spec) (ds : List Defined) → WellNamed s → AreDifferent (map global_name (globals_of s ds (runs_of s ds)))
globals_different s ds w =
    let names = map (λ d. d.name.name) s.globals in
    let own = flat_map (λ p. map (written p.name.name) (own_names s p)) s.processes in
    subst AreDifferent (sym (global_names_are ds (runs_of s ds) s.globals))
    (different_left names (pc ∷ []) (different_left (names ++ (pc ∷ [])) own w.variables_differ))

module _ (s : Spec) (ds : List Defined) (w : WellNamed s) (h : heads_refused s.archetypes ds (runs_of s ds) (globals_of s ds (runs_of s ds)) ≡ None) where
  abbrev rs : List Run
  rs = runs_of s ds

  abbrev gs : List GlobalStart
  gs = globals_of s ds rs

  abbrev start : Vars
  start = start_of ds rs gs

  none : Unrefused s.archetypes ds rs gs
  none = unrefused s.archetypes ds rs gs h

  places_on : IsFunctionOn (in_order (map id_of (instances_of s rs))) (find pc start)
  places_on =
      let ids : keys (map first_place (places_of rs)) ≡ map id_of (instances_of s rs) = keys_of_places (places_of rs) ∙ ids_of_places rs ∙ sym (ids_of_instances s rs) in
      subst (IsFunctionOn (in_order (map id_of (instances_of s rs)))) (sym (at_pc s ds w h))
      (subst (λ ks. IsFunctionOn (in_order ks) (Some (first_places rs))) ids (on_keys (map first_place (places_of rs))))

  -- the process that runs
  run_at : (n : ℕ) (p : Process) (a : Archetype) → nth s.processes n ≡ Some p → archetype_named p.archetype.name s.archetypes ≡ Some a → IsAmong (run_with ds p a) rs
  run_at n p a q e = among_filter_map (run_of s ds) p (run_with ds p a) s.processes (among_nth p s.processes n q) (ap (option_map (run_with ds p)) e)

  own_there : (p : Process) (a : Archetype) (x : Name) → IsAmong (run_with ds p a) rs → IsAmong x (names_with p a) → (f : Data → Data) × (find (written p.name.name x) start ≡ Some (function_at f (run_ids (run_with ds p a))))
  own_there p a x r k = go (among_append x (filter_map (λ c. value_name c.parameter.name.name c.argument) (handed_from 1 a.params p.arguments)) (map (λ d. d.name.name) a.locals) k)
    where
      go : IsAmong x (filter_map (λ c. value_name c.parameter.name.name c.argument) (handed_from 1 a.params p.arguments)) ⊎ IsAmong x (map (λ d. d.name.name) a.locals)
          → (f : Data → Data) × (find (written p.name.name x) start ≡ Some (function_at f (run_ids (run_with ds p a))))
      go (inl g) =
          let o = from_filter_map (λ c. value_name c.parameter.name.name c.argument) x (handed_from 1 a.params p.arguments) g in
          let v = value_named x o.0.parameter.name.name o.0.argument o.2 in
          let f : Data → Data = λ id. beginning (argument_start ds v.0 id) in
          let name = written p.name.name o.0.parameter.name.name in (
            f,
            ap (λ y. find (written p.name.name y) start) v.2
                ∙ at_own s ds w h (run_with ds p a) name (function_at f (run_ids (run_with ds p a))) r (own_argument_there s ds w h (run_with ds p a) o.0 v.0 o.1 v.1),
          )
      go (inr g) =
          let o = from_map (λ d. d.name.name) x a.locals g in
          let f : Data → Data = λ id. beginning (local_start ds o.0.initial id) in
          let name = written p.name.name o.0.name.name in (
            f,
            ap (λ y. find (written p.name.name y) start) o.2
                ∙ at_own s ds w h (run_with ds p a) name (function_at f (run_ids (run_with ds p a))) r (own_local_there s ds w h (run_with ds p a) o.0 o.1),
          )

  local_on : (n m : ℕ) (p : Process) (x : Name) → nth s.processes n ≡ Some p → nth (own_names s p) m ≡ Some x → IsFunctionOn (in_order (map id_of (filter (λ i. same_name p.name.name i.process) (instances_of s rs)))) (find (written p.name.name x) start)
  local_on n m p x q k =
      let a = w.archetypes n p q in
      let r = run_with ds p a.0 in
      let there = run_at n p a.0 q a.1 in
      let among = subst (λ o. IsAmong x (names_or_none p o)) a.1 (among_nth x (own_names s p) m k) in
      let o = own_there p a.0 x there among in
      let ids = instances_of_process s rs r (runs_different s ds w.processes_differ) there in
      subst (IsFunctionOn (in_order (map id_of (filter (λ i. same_name p.name.name i.process) (instances_of s rs))))) (sym o.1)
      (subst (λ ks. IsFunctionOn (in_order ks) (Some (function_at o.0 (run_ids r)))) (sym ids) (at_keys o.0 (run_ids r)))

  pub elements_are : (n : ℕ) (d : Declaration) → nth s.globals n ≡ Some d → kind_in (bound_by s ds rs) d.name.name ≡ ByElement → (ps : Pairs) × (find d.name.name start ≡ Some (function ps))
  elements_are n d q k =
      let a = among_nth d s.globals n q in
      let g = global_of ds rs d in
      let o = element_start s rs gs g (globals_different s ds w) none.mappings (among_map (global_of ds rs) d s.globals a) refl k in
      (o.0, at_global s ds w h d a ∙ ap (λ st. Some (beginning st)) o.1)

  pub start_is_state : AllValues start → IsState (bound_by s ds rs) start
  start_is_state v =
      record {
        variables = start_names s ds;
        values = v;
        shallow = start_shallow s.archetypes ds rs gs none;
        places = places_on;
        locals = local_on;
        elements = elements_are;
      }
