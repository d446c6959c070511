-- What variables start with is within limits, where constants are and so are the literals from which the start is made.
use Rattle.std.proofs.Common.{◌≤◌, length, arith, ◌≡◌, ℕ, suc, Bool, true, false, if◌then◌else◌, List, [], ◌∷◌, ◌++◌, map, Option, Some, None, refl, sym, ap, subst, option_and_then, option_map, inl, inr, ⊎_elim}
use Rattle.std.specs.Prelude.{IsTrue, unwrap_or}
use Rattle.std.specs.List.{AllByRecursion, filter_map, flat_map, cons_option}
use Rattle.std.proofs.lemmas.Option.{same_Some}
use Rattle.std.proofs.lemmas.List.{length-map}
use Rattle.pgo_base.specs.Data.{Data, keys, members, graph-pairs}
use Rattle.pgo_base.specs.Lookup.{Name, Names, Vars, same_name}
use Rattle.pgo_base.specs.Pairs.{pairs_in_order}
use Rattle.pgo_base.specs.Sets.{IsSorted, sorted-in_order}
use Rattle.pgo_base.specs.Tree.{Tree}
use Rattle.pgo_base.specs.ValueCode.{value_from}
use Rattle.pgo_base.specs.declared.module.Defined.{Defined}
use Rattle.pgo_base.specs.declared.module.Defined.TheVariants.{Given}
use Rattle.pgo_model.specs.ModuleView.{defined_view}
use Rattle.pgo_model.specs.Operators.{members_of}
use Rattle.pgo_model.specs.Val.{seen}
use Rattle.pgo_model.specs.Written.{pc, self_name, written}
use Rattle.pgo_syntax.specs.declared.binding.Origin.{Origin}
use Rattle.pgo_syntax.specs.declared.binding.Origin.TheVariants.{Equals, In}
use Rattle.pgo_syntax.specs.declared.declaration.Definition.{Definition}
use Rattle.pgo_syntax.specs.declared.name.PlacedName.{PlacedName}
use Rattle.pgo_syntax.specs.declared.process.Argument.{Argument}
use Rattle.pgo_syntax.specs.declared.process.Argument.TheVariants as arguments
use Rattle.pgo_syntax.specs.declared.spec.Spec.{Spec}
use Rattle.pgo_bound.specs.Among.{IsAmong, all_at, among_append, from_map, from_flat_map, from_filter_map, mapped_some}
use Rattle.pgo_bound.specs.BoundOf.{bound_of, GlobalStart, global_of, globals_of, global_value, function_on, function_at, first_place, first_places, places_of, places_of_run, expression_of, own_argument, own_start, locals_of, start_of}
use Rattle.pgo_bound.specs.Keyed.{keys_ordered}
use Rattle.pgo_bound.specs.Lookups.{data_from}
use Rattle.pgo_bound.specs.Runs.{Handed, Run, handed_from, archetype_named, alone, members_in, ids_of, run_with, run_of, runs_of, run_ids}
use Rattle.pgo_bound.specs.Values.{Start, Missing, Empty, Begins, latest, given_value, given_constant, meant, default_definition, define_of, defs_of, value_with, closed_value, value_at, start_of_value, start_of_members, start_in, global_start, local_start, argument_start, beginning}
use Rattle.pgo_bound.specs.Instances.{archetype_among}
use Rattle.pgo_values.specs.Within.{IsWithin, EachWithin, Within, AllWithin, NamesWithin}
use Rattle.pgo_values.specs.Literals.{LiteralsWithin, DefinedWithin}
use Rattle.pgo_systems.specs.Literals.{OriginWithin, InitialWithin, ArgumentWithin, StartWithin, StartFits}
use Rattle.pgo_values.proofs.Lists.{is_set, ordered_among, ordered_pairs_few}
use Rattle.pgo_values.proofs.Definitions.{no_names, definitions_within}
use Rattle.pgo_values.proofs.Operators.{EachPair, none_within, some_within, members_all, pairs_ordered}
use Rattle.pgo_values.proofs.Trees.{named_more, tree_within}
use Rattle.pgo_values.specs.Limits.{Limits}
use Rattle.pgo_systems.specs.Counted.{AllCounted, IsCounted, counted}
use Rattle.pgo_syntax.specs.declared.archetype.Parameter.{Parameter}

-- ---- arguments

argument_among : (n : ℕ) (ps : List Parameter) (as' : List Argument) (h : Handed) → IsAmong h (handed_from n ps as') → IsAmong h.argument as'
argument_among n [] as' h m = absurd m
argument_among n (p ∷ ps) [] h m = absurd m
argument_among n (p ∷ ps) (a ∷ as') h (inl e) = inl (ap (λ (z : Handed). z.argument) e)
argument_among n (p ∷ ps) (a ∷ as') h (inr m) = inr (argument_among (suc n) ps as' h m)

module _ (limits : Limits) where
  -- ---- definitions

  abbrev DefinitionsWithin : List Defined → Type 0
  DefinitionsWithin ds = AllByRecursion (DefinedWithin limits) (map defined_view ds)

  joined : (ds es : List Defined) → DefinitionsWithin ds → DefinitionsWithin es → DefinitionsWithin (ds ++ es)
  joined [] es h g = g
  joined (d ∷ ds) es h g = (h.0, joined ds es h.1 g)

  latest_within : (x : Name) (o : Option Data) (cs : List (Name × Data)) → AllWithin limits cs → Within limits o → Within limits (latest x o cs)
  latest_within x o [] h f = f
  latest_within x o (c ∷ cs) h f = latest_within x (if same_name x c.0 then Some c.1 else o) cs h.1 (go (same_name x c.0))
    where
      go : (b : Bool) → Within limits (if b then Some c.1 else o)
      go true = some_within limits c.1 h.0
      go false = f

  given : (consts : List (Name × Data)) → AllWithin limits consts → (cs : List PlacedName) → DefinitionsWithin (filter_map (given_constant consts) cs)
  given consts h [] = tt
  given consts h (c ∷ cs) = go (given_value consts c.name) refl (given consts h cs)
    where
      go : (o : Option Data) → given_value consts c.name ≡ o → DefinitionsWithin (filter_map (given_constant consts) cs) → DefinitionsWithin (cons_option (option_map (λ v. Given c.name (value_from v)) o) (filter_map (given_constant consts) cs))
      go None e r = r
      go (Some v) e r = (subst (IsWithin limits) (sym (data_from v)) (latest_within c.name None consts h (none_within limits) v e), r)

  means : (ds : List Definition) → AllByRecursion (λ d. LiteralsWithin limits d.body) ds → DefinitionsWithin (map meant ds)
  means [] h = tt
  means (d ∷ ds) h = (h.0, means ds h.1)

  pub definitions_fit : (s : Spec) (consts : List (Name × Data)) → AllWithin limits consts → StartWithin limits s → DefinitionsWithin (defs_of s consts)
  definitions_fit s consts h f =
      let front = filter_map (given_constant consts) s.constants in
      let one = map meant s.definitions in
      joined (front ++ (default_definition ∷ []) ++ one) (map meant (define_of s.define)) (joined (front ++ (default_definition ∷ [])) one (joined front (default_definition ∷ []) (given consts h s.constants) (limits.default, tt)) (means s.definitions f.definitions)) (means (define_of s.define) f.define)

  -- ---- functions that are made of pairs

  -- so many pairs, and fewer, are within the limits
  abbrev AreFew : ℕ → Type 0
  AreFew n = (m : ℕ) → m ≤ n → IsTrue (limits.pairs m)

  function_on_within : (ps : List (Data × Data)) → AreFew (length ps) → EachPair limits ps → IsWithin limits (function_on ps)
  function_on_within ps few h = (
    pairs_ordered limits (pairs_in_order ps) (λ q m. h q (ordered_among q ps m)),
    subst (λ qs. IsSorted (keys qs)) (sym (graph-pairs (pairs_in_order ps))) (subst IsSorted (sym (keys_ordered ps)) (sorted-in_order (keys ps))),
    subst (λ qs. IsTrue (limits.pairs (length qs))) (sym (graph-pairs (pairs_in_order ps))) (few (length (pairs_in_order ps)) (ordered_pairs_few ps)),
  )

  function_at_within : (f : Data → Data) (ids : List Data) → AreFew (length ids) → EachWithin limits ids → ((id : Data) → IsWithin limits id → IsWithin limits (f id)) → IsWithin limits (function_at f ids)
  function_at_within f ids few h g =
      function_on_within (map (λ id. (id, f id)) ids) (subst AreFew (sym (length-map {B = Data × Data} ids (λ id. (id, f id)))) few) (λ p m.
      let r = from_map (λ id. (id, f id)) p ids m in
      subst (λ (z : Data × Data). IsWithin limits z.0 × IsWithin limits z.1) (sym r.2) (h r.0 r.1, g r.0 (h r.0 r.1)))

  -- ---- what variables begin with

  abbrev BeginningWithin : Start → Type 0
  BeginningWithin Missing = Unit {0}
  BeginningWithin Empty = Unit {0}
  BeginningWithin (Begins v) = IsWithin limits v

  begins_within : (st : Start) → BeginningWithin st → IsWithin limits (beginning st)
  begins_within Missing h = limits.default
  begins_within Empty h = limits.default
  begins_within (Begins v) h = h

  value_start : (o : Option Data) → Within limits o → BeginningWithin (start_of_value o)
  value_start None h = tt
  value_start (Some v) h = h v refl

  members_start : (o : Option (List Data)) → ((ms : List Data) → o ≡ Some ms → EachWithin limits ms) → BeginningWithin (start_of_members o)
  members_start None h = tt
  members_start (Some []) h = tt
  members_start (Some (m ∷ ms)) h = h (m ∷ ms) refl m (inl refl)

  pub all_of : (s : Vars) → ((p : Name × Data) → IsAmong p s → IsWithin limits p.1) → AllWithin limits s
  all_of [] h = tt
  all_of (p ∷ s) h = (h p (inl refl), all_of s (λ q m. h q (inr m)))

  module _ (s : Spec) (consts : List (Name × Data)) (within : AllWithin limits consts) (fit : StartWithin limits s) where
    abbrev ds : List Defined
    ds = defs_of s consts

    value_within : (names : Names) (e : Tree) → NamesWithin limits names → LiteralsWithin limits e → Within limits (value_with ds names e)
    value_within names e n l =
        tree_within limits e (seen (map defined_view ds) names [] None) l (record {
          names = n;
          part = none_within limits;
          now = λ x. none_within limits;
          next = λ x. none_within limits;
          calls = definitions_within limits (map defined_view ds) (definitions_fit s consts within fit);
        })

    in_start : (e : Tree) → LiteralsWithin limits e → BeginningWithin (start_in ds e)
    in_start e l = members_start (option_and_then members_of (closed_value ds e)) (λ ms q. members_all limits (closed_value ds e) ms (value_within [] e (no_names limits) l) q)

    at_within : (id : Data) (e : Tree) → IsWithin limits id → LiteralsWithin limits e → Within limits (value_at ds id e)
    at_within id e h l = value_within ((self_name, Some id) ∷ []) e (named_more limits self_name (Some id) [] (some_within limits id h) (no_names limits)) l

    global_within : (o : Option Origin) → InitialWithin limits o → BeginningWithin (global_start ds o)
    global_within None l = limits.default
    global_within (Some (Equals e)) l = value_start (closed_value ds e) (value_within [] e (no_names limits) l)
    global_within (Some (In e)) l = in_start e l

    local_within : (o : Option Origin) (id : Data) → IsWithin limits id → InitialWithin limits o → BeginningWithin (local_start ds o id)
    local_within None id h l = limits.default
    local_within (Some (Equals e)) id h l = value_start (value_at ds id e) (at_within id e h l)
    local_within (Some (In e)) id h l = in_start e l

    ids_within : (o : Origin) → OriginWithin limits o → EachWithin limits (unwrap_or (ids_of ds o) [])
    ids_within (Equals e) l = go (closed_value ds e) (value_within [] e (no_names limits) l)
      where
        go : (o : Option Data) → Within limits o → EachWithin limits (unwrap_or (alone o) [])
        go None h x m = absurd m
        go (Some v) h x (inl q) = subst (IsWithin limits) (sym q) (h v refl)
        go (Some v) h x (inr m) = absurd m
    ids_within (In e) l = go (members_in (closed_value ds e)) (λ ms q. members_all limits (closed_value ds e) ms (value_within [] e (no_names limits) l) q)
      where
        go : (o : Option (List Data)) → ((ms : List Data) → o ≡ Some ms → EachWithin limits ms) → EachWithin limits (unwrap_or o [])
        go None h x m = absurd m
        go (Some ms) h x m = h ms refl x m

    -- they are few
    few_ids : (o : Origin) → OriginWithin limits o → AreFew (length (unwrap_or (ids_of ds o) []))
    few_ids (Equals e) l = go (closed_value ds e)
      where
        go : (o : Option Data) → AreFew (length (unwrap_or (alone o) []))
        go None m q = limits.few_pairs m (omega (arith, q))
        go (Some v) m q = limits.few_pairs m (omega (arith, q))
    few_ids (In e) l = go (closed_value ds e) (value_within [] e (no_names limits) l)
      where
        members_few : (v : Data) (o : Option (List Data)) → members_of v ≡ o → IsWithin limits v → AreFew (length (unwrap_or o []))
        members_few v None q h m le = limits.few_pairs m (omega (arith, le))
        members_few v (Some ms) q h m le =
            let r = is_set v ms q in
            limits.pairs_over m (length (members r.0)) (let same : length (members r.0) ≡ length ms = ap length r.2 in omega (arith, le, same)) (subst (IsWithin limits) r.1 h).2

        go : (o : Option Data) → Within limits o → AreFew (length (unwrap_or (members_in o) []))
        go None h m le = limits.few_pairs m (omega (arith, le))
        go (Some v) h m le = members_few v (members_of v) refl (h v refl) m le

    -- ---- processes

    pub record RunWithin (r : Run) : Type 0 where
      pub ids : EachWithin limits (run_ids r)
      pub few : AreFew (length (run_ids r))
      pub handed : (h : Handed) → IsAmong h r.handed → ArgumentWithin limits h.argument
      pub locals : AllByRecursion (λ d. InitialWithin limits d.initial) r.archetype.locals

    pub run_fits : (r : Run) → IsAmong r (runs_of s ds) → RunWithin r
    run_fits r m =
        let p = from_filter_map (run_of s ds) r s.processes m in
        let a = mapped_some (run_with ds p.0) (archetype_named p.0.archetype.name s.archetypes) r p.2 in
        subst RunWithin (sym a.2) (record {
          ids = ids_within p.0.ids (all_at (λ p. OriginWithin limits p.ids) p.0 s.processes fit.identifiers p.1);
          few = few_ids p.0.ids (all_at (λ p. OriginWithin limits p.ids) p.0 s.processes fit.identifiers p.1);
          handed = λ h k. all_at (ArgumentWithin limits) h.argument p.0.arguments (all_at (λ p. AllByRecursion (ArgumentWithin limits) p.arguments) p.0 s.processes fit.arguments p.1) (argument_among 1 a.0.params p.0.arguments h k);
          locals = all_at (λ a. AllByRecursion (λ d. InitialWithin limits d.initial) a.locals) a.0 s.archetypes fit.locals (archetype_among p.0.archetype.name s.archetypes a.0 a.1);
        })

    argument_within : (r : Run) → RunWithin r → (h : Handed) → IsAmong h r.handed → (q : Name × Data) → own_argument ds r h ≡ Some q → IsWithin limits q.1
    argument_within r f h m q e = go h.argument (f.handed h m) e
      where
        go : (a : Argument) → ArgumentWithin limits a → option_map (λ e. (written r.process.name.name h.parameter.name.name, function_at (λ id. beginning (argument_start ds e id)) (run_ids r))) (expression_of a) ≡ Some q → IsWithin limits q.1
        go (arguments.Ref g x) l k = absurd (cc)
        go (arguments.Value place e) l k =
            let v = function_at (λ id. beginning (argument_start ds e id)) (run_ids r) in
            subst (λ (z : Name × Data). IsWithin limits z.1) (same_Some (written r.process.name.name h.parameter.name.name, v) q k)
            (function_at_within (λ id. beginning (argument_start ds e id)) (run_ids r) f.few f.ids (λ id c. begins_within (argument_start ds e id) (value_start (value_at ds id e) (at_within id e c l))))

    locals_within : (r : Run) → RunWithin r → (q : Name × Data) → IsAmong q (locals_of ds r) → IsWithin limits q.1
    locals_within r f q m = ⊎_elim one two (among_append q (filter_map (own_argument ds r) r.handed) (map (own_start ds r) r.archetype.locals) m)
      where
        one : IsAmong q (filter_map (own_argument ds r) r.handed) → IsWithin limits q.1
        one k = let h = from_filter_map (own_argument ds r) q r.handed k in argument_within r f h.0 h.1 q h.2

        two : IsAmong q (map (own_start ds r) r.archetype.locals) → IsWithin limits q.1
        two k =
            let d = from_map (own_start ds r) q r.archetype.locals k in
            subst (λ (z : Name × Data). IsWithin limits z.1) (sym d.2)
            (function_at_within (λ id. beginning (local_start ds d.0.initial id)) (run_ids r) f.few f.ids (λ id c. begins_within (local_start ds d.0.initial id) (local_within d.0.initial id c (all_at (λ d. InitialWithin limits d.initial) d.0 r.archetype.locals f.locals d.1))))

    pub start_within : IsWithin limits (first_places (runs_of s ds)) → AllWithin limits (bound_of s consts).start
    start_within places = all_of (start_of ds (runs_of s ds) (globals_of s ds (runs_of s ds))) each
      where
        globals : (q : Name × Data) → IsAmong q (map global_value (globals_of s ds (runs_of s ds))) → IsWithin limits q.1
        globals q m =
            let g = from_map global_value q (globals_of s ds (runs_of s ds)) m in
            let d = from_map (global_of ds (runs_of s ds)) g.0 s.globals g.1 in
            subst (λ (z : Name × Data). IsWithin limits z.1) (sym g.2)
            (subst (λ (z : GlobalStart). IsWithin limits (beginning z.start)) (sym d.2) (begins_within (global_start ds d.0.initial) (global_within d.0.initial (all_at (λ d. InitialWithin limits d.initial) d.0 s.globals fit.globals d.1))))

        place : (q : Name × Data) → IsAmong q ((pc, first_places (runs_of s ds)) ∷ []) → IsWithin limits q.1
        place q (inl e) = subst (λ (z : Name × Data). IsWithin limits z.1) (sym e) places
        place q (inr m) = absurd m

        owns : (q : Name × Data) → IsAmong q (flat_map (locals_of ds) (runs_of s ds)) → IsWithin limits q.1
        owns q m = let r = from_flat_map (locals_of ds) q (runs_of s ds) m in locals_within r.0 (run_fits r.0 r.1) q r.2

        each : (q : Name × Data) → IsAmong q (start_of ds (runs_of s ds) (globals_of s ds (runs_of s ds))) → IsWithin limits q.1
        each q m =
            ⊎_elim (λ k. ⊎_elim (globals q) (place q) (among_append q (map global_value (globals_of s ds (runs_of s ds))) ((pc, first_places (runs_of s ds)) ∷ []) k)) (owns q)
            (among_append q (map global_value (globals_of s ds (runs_of s ds)) ++ ((pc, first_places (runs_of s ds)) ∷ [])) (flat_map (locals_of ds) (runs_of s ds)) m)

-- ---- the start's sets are counted, whatever places are called and however many they are

module _ (s : Spec) (consts : List (Name × Data)) (within : AllCounted consts) (fit : StartFits s) where
  places_counted : IsCounted (first_places (runs_of s (defs_of s consts)))
  places_counted =
      function_on_within counted (map first_place (places_of (runs_of s (defs_of s consts)))) (λ m l. refl) (λ p m.
      let z = from_map first_place p (places_of (runs_of s (defs_of s consts))) m in
      let r = from_flat_map places_of_run z.0 (runs_of s (defs_of s consts)) z.1 in
      let id = from_map (λ id. (r.0, id)) z.0 (run_ids r.0) r.2 in
      subst (λ (q : Data × Data). IsCounted q.0 × IsCounted q.1) (sym z.2) (subst IsCounted (sym (ap (λ (q : Run × Data). q.1) id.2)) ((run_fits counted s consts within fit r.0 r.1).ids id.0 id.1), refl))

  pub start_counted : AllCounted (bound_of s consts).start
  start_counted = start_within counted s consts within fit places_counted
