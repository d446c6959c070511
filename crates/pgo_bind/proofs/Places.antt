-- The numbers of a bound system, and where its instances start.
use Rattle.std.proofs.Common.{◌≡◌, ℕ, ◌≤◌, List, ◌∷◌, length, map, Option, Some, None, Result, Ok, Err, ap, sym, ◌∙◌, subst, inr, arith}
use Rattle.std.specs.Prelude.{IfOk}
use Rattle.pgo_base.specs.Data.{Data}
use Rattle.pgo_base.specs.Lookup.{Name}
use Rattle.pgo_base.specs.declared.module.Defined.{Defined}
use Rattle.pgo_model.specs.Machine.{nth}
use Rattle.pgo_syntax.specs.Statement.{Statement, labeled}
use Rattle.pgo_syntax.specs.declared.name.PlacedName.{PlacedName}
use Rattle.pgo_syntax.specs.declared.bound.Bound.{Bound}
use Rattle.pgo_syntax.specs.declared.bound.Instance.{Instance}
use Rattle.pgo_syntax.specs.declared.bound.Resource.{Resource}
use Rattle.pgo_syntax.specs.declared.spec.Spec.{Spec}
use Rattle.pgo_bound.specs.Values.{defs_of}
use Rattle.pgo_bound.specs.Runs.{Run, runs_of, run_of, run_with, archetype_named}
use Rattle.pgo_bound.specs.BoundOf.{GlobalStart, globals_of, places_of, instance_at, instances_of, all_parts, resource_at, resources_of, first_label_in, start_of, bound_of}
use Rattle.pgo_bound.specs.State.{id_of}
use Rattle.pgo_bound.specs.Sound.{labels_among, IsLabel, IsAtLabel, IsNumbered, AreAtLabels, WellNamed}
use Rattle.pgo_bound.specs.Among.{from_filter_map, mapped_some, nth_among, nth_map, nth_from}
use Rattle.pgo_bound.specs.Lookups.{data_from}
use Rattle.pgo_bound.specs.Once.{StandOnce, id_in, ids_of_places, once_nth}
use Rattle.pgo_bound.specs.Instances.{instance_from}
use Rattle.pgo_heads.specs.declared.errors.BindError.{BindError}
use Rattle.pgo_heads.specs.Refusals.{constants_refused, heads_refused, bind_refusal}
use Rattle.pgo_heads.specs.Answers.{Answers}
use Rattle.pgo_heads.proofs.Numbered.{length-numbered, length_places}
use Rattle.pgo_bind.proofs.Passing.{none_next}
use Rattle.pgo_bind.proofs.Unrefused.{Unrefused, unrefused}
use Rattle.pgo_bind.proofs.Declared.{at_instance}

module _ (s : Spec) (ds : List Defined) (h : heads_refused s.archetypes ds (runs_of s ds) (globals_of s ds (runs_of s ds)) ≡ None) where
  abbrev rs : List Run
  rs = runs_of s ds

  abbrev gs : List GlobalStart
  gs = globals_of s ds rs

  none : Unrefused s.archetypes ds rs gs
  none = unrefused s.archetypes ds rs gs h

  pub instance_number : (n : ℕ) (i : Instance) → nth (instances_of s rs) n ≡ Some i → i.number ≡ n
  instance_number n i q =
      let r = nth_from (instance_at s) 0 n (places_of rs) i q in
      ap (λ j. j.number) r.2.2 ∙ (let e : r.2.0 ≡ n = omega (arith, r.2.1) in e)

  pub resource_number : (n : ℕ) (x : Resource) → nth (resources_of gs) n ≡ Some x → x.number ≡ n
  resource_number n x q =
      let r = nth_from resource_at 0 n (all_parts gs) x q in
      ap (λ j. j.number) r.2.2 ∙ (let e : r.2.0 ≡ n = omega (arith, r.2.1) in e)

  pub few_of_instances : length (instances_of s rs) ≤ 64
  few_of_instances = subst (λ n. n ≤ 64) (sym (length-numbered (instance_at s) 0 (places_of rs) ∙ length_places rs)) none.few_ids

  pub few_of_resources : length (resources_of gs) ≤ 1024
  few_of_resources = subst (λ n. n ≤ 1024) (sym (length-numbered resource_at 0 (all_parts gs))) none.few_parts

  place_id : (n : ℕ) (i : Instance) → nth (instances_of s rs) n ≡ Some i → nth (map id_in (places_of rs)) n ≡ Some (id_of i)
  place_id n i q =
      let r = nth_from (instance_at s) 0 n (places_of rs) i q in
      nth_map id_in n (places_of rs) r.0 r.1 ∙ ap Some (sym (ap id_of r.2.2 ∙ data_from r.0.1))

  pub ids_differ : (n m : ℕ) (i j : Instance) → nth (instances_of s rs) n ≡ Some i → nth (instances_of s rs) m ≡ Some j → id_of i ≡ id_of j → n ≡ m
  ids_differ n m i j p q e =
      once_nth (map id_in (places_of rs)) n m (id_of i) (id_of j) (subst StandOnce (sym (ids_of_places rs)) none.once) (place_id n i p) (place_id m j q) e

pub numbers : (s : Spec) (consts : List (Name × Data)) → bind_refusal s consts ≡ None → IsNumbered (bound_of s consts)
numbers s consts h =
    let ds = defs_of s consts in
    let g = none_next (constants_refused s consts) (heads_refused s.archetypes ds (runs_of s ds) (globals_of s ds (runs_of s ds))) h in
    record {
      instance_numbers = instance_number s ds g;
      resource_numbers = resource_number s ds g;
      few_instances = few_of_instances s ds g;
      few_resources = few_of_resources s ds g;
      identifiers_differ = ids_differ s ds g;
    }

pub numbered_answer : (s : Spec) (consts : List (Name × Data)) (r : Result Bound BindError) → Answers (bind_refusal s consts) (bound_of s consts) r → IfOk r IsNumbered
numbered_answer s consts (Ok b) a = subst IsNumbered (sym a.1) (numbers s consts a.0)
numbered_answer s consts (Err e) a = tt

-- an instance whose archetype's first statement has a label starts there
label_first : (i : Instance) (l : PlacedName) (t : Statement) (rest : List (Option PlacedName × Statement)) → i.archetype.body ≡ (Some l, t) ∷ rest → IsLabel i (first_label_in i.process i.archetype.body)
label_first i l t rest e =
    (0, l.name, first_there, ap (first_label_in i.process) e)
  where
    first_there : nth (labels_among (labeled i.archetype.body)) 0 ≡ Some l.name
    first_there = ap (λ b. nth (labels_among (labeled b)) 0) e

at_label : (s : Spec) (ds : List Defined) (w : WellNamed s) (h : heads_refused s.archetypes ds (runs_of s ds) (globals_of s ds (runs_of s ds)) ≡ None) (n : ℕ) (i : Instance) → nth (instances_of s (runs_of s ds)) n ≡ Some i → IsAtLabel i (start_of ds (runs_of s ds) (globals_of s ds (runs_of s ds)))
at_label s ds w h n i q =
    let o = instance_from s (runs_of s ds) i n q in
    let p = from_filter_map (run_of s ds) o.0 s.processes o.1 in
    let m = mapped_some (run_with ds p.0) (archetype_named p.0.archetype.name s.archetypes) o.0 p.2 in
    let k = nth_among p.0 s.processes p.1 in
    let l = w.labels k.0 p.0 m.0 k.1 m.1 in
    let body : i.archetype.body ≡ (Some l.0, l.1) ∷ l.2 = ap (λ j. j.archetype.body) o.2.2.1.1 ∙ ap (λ r. r.archetype.body) m.2 ∙ l.3 in
    (first_label_in i.process i.archetype.body, at_instance s ds w h i n q, inr (label_first i l.0 l.1 l.2 body))

pub at_labels : (s : Spec) (consts : List (Name × Data)) → WellNamed s → bind_refusal s consts ≡ None → AreAtLabels (bound_of s consts)
at_labels s consts w h =
    let ds = defs_of s consts in
    let g = none_next (constants_refused s consts) (heads_refused s.archetypes ds (runs_of s ds) (globals_of s ds (runs_of s ds))) h in
    at_label s ds w g

pub at_labels_answer : (s : Spec) (consts : List (Name × Data)) (r : Result Bound BindError) → Answers (bind_refusal s consts) (bound_of s consts) r → WellNamed s → IfOk r AreAtLabels
at_labels_answer s consts (Ok b) a w = subst AreAtLabels (sym a.1) (at_labels s consts w a.0)
at_labels_answer s consts (Err e) a w = tt
