-- What holds of a specification that is not refused.
use Rattle.std.proofs.Common.{◌≡◌, ℕ, Bool, true, false, if◌then◌else◌, nat_lt, List, [], ◌∷◌, ◌++◌, ◌≤◌, length, arith, Option, Some, None, option_map, option_and_then, refl, ap, sym, ◌∙◌, subst}
use Rattle.std.proofs.lemmas.Bool.Decides.{nat_tests}
use Rattle.std.specs.List.{filter_map, flat_map}
use Rattle.pgo_base.specs.Data.{Data}
use Rattle.pgo_base.specs.Lookup.{Name}
use Rattle.pgo_base.specs.Tree.{Tree}
use Rattle.pgo_base.specs.ValueCode.{value_from}
use Rattle.pgo_base.specs.declared.module.Defined.{Defined}
use Rattle.pgo_model.specs.Operators.{members_of, is_member, contains}
use Rattle.pgo_syntax.proofs.Leasts.{least_empty}
use Rattle.pgo_syntax.specs.declared.archetype.Archetype.{Archetype}
use Rattle.pgo_syntax.specs.declared.binding.Origin.{Origin}
use Rattle.pgo_syntax.specs.declared.binding.Origin.TheVariants.{Equals, In}
use Rattle.pgo_syntax.specs.declared.declaration.Declaration.{Declaration}
use Rattle.pgo_syntax.specs.declared.process.Argument.{Argument}
use Rattle.pgo_syntax.specs.declared.process.Argument.TheVariants as arguments
use Rattle.pgo_bound.specs.Values.{Start, Missing, Empty, Begins, closed_value, value_at, start_of_value, start_of_members, start_in, default_start, global_start, local_start, argument_start, beginning, is_empty, is_unset}
use Rattle.pgo_bound.specs.Runs.{Run, Handed, run_ids, is_some_item, all_ids}
use Rattle.pgo_bound.specs.BoundOf.{GlobalStart, expression_of, all_parts}
use Rattle.pgo_bound.specs.Declares.{StartsAs, StartsAt}
use Rattle.pgo_bound.specs.Among.{IsAmong, none_any, none_filter_map, none_flat_map, none_left, none_right}
use Rattle.pgo_bound.specs.Lookups.{same_equal}
use Rattle.pgo_bound.specs.Once.{StandOnce}
use Rattle.pgo_heads.specs.declared.errors.BindError.TheVariants as errors
use Rattle.pgo_heads.specs.declared.findings.Lack.TheVariants.{NoSet, NoMember}
use Rattle.pgo_heads.specs.Refusals.{first, more_than, first_placed, where_true, at_place, bad_mappings, ids_shared, ids_unknown, instances_past, resources_past, values_unset, sets_empty, ids_refused, starts_refused, heads_refused, or_that, unset_global, empty_global, lacking, archetypes_run, lacking_in, lacking_local, lacks, lacks_in, local_set, unset_in_run, unset_local, unset_handed, unset_argument, is_unset_at, is_value_unset, is_some_unset, is_closed_unset}
use Rattle.pgo_bind.proofs.Passing.{none_first, none_next}
use Rattle.pgo_bind.proofs.UniqueIds.{once_of}

mapped_none : {A B : Type 0} (f : A → B) (o : Option A) → option_map f o ≡ None → o ≡ None
mapped_none f None h = refl
mapped_none f (Some x) h = absurd (cc)

first_empty : {A : Type 0} (xs : List A) → first xs ≡ None → xs ≡ []
first_empty [] h = refl
first_empty (x ∷ xs) h = absurd (cc)

pub where_false : {A : Type 0} (b : Bool) (x : A) → where_true b x ≡ None → b ≡ false
where_false true x h = absurd (cc)
where_false false x h = refl

few_of : (limit n : ℕ) → first (more_than limit n) ≡ None → n ≤ limit
few_of limit n h = go (nat_lt limit n) refl h
  where
    go : (b : Bool) → nat_lt limit n ≡ b → first (if b then n ∷ [] else []) ≡ None → n ≤ limit
    go true e g = absurd (cc)
    go false e g = grind (arith, nat_tests)

-- what nothing refused says of identifiers and starts
pub record Unrefused (as' : List Archetype) (ds : List Defined) (rs : List Run) (gs : List GlobalStart) : Type 0 where
  pub mappings : bad_mappings gs rs ≡ []
  pub once : StandOnce (all_ids rs)
  pub known : ids_unknown rs ≡ []
  pub few_ids : length (all_ids rs) ≤ 64
  pub few_parts : length (all_parts gs) ≤ 1024
  pub unset : values_unset as' ds rs gs ≡ []
  pub empty : sets_empty as' ds rs gs ≡ []

pub unrefused : (as' : List Archetype) (ds : List Defined) (rs : List Run) (gs : List GlobalStart) → heads_refused as' ds rs gs ≡ None → Unrefused as' ds rs gs
unrefused as' ds rs gs h =
    let fitting = none_first (option_map (λ p. errors.BadMapping p.0 p.1) (first (bad_mappings gs rs))) (or_that (ids_refused rs) (starts_refused as' ds rs gs)) h in
    let rest = none_next (option_map (λ p. errors.BadMapping p.0 p.1) (first (bad_mappings gs rs))) (or_that (ids_refused rs) (starts_refused as' ds rs gs)) h in
    let ids = none_first (ids_refused rs) (starts_refused as' ds rs gs) rest in
    let starts = none_next (ids_refused rs) (starts_refused as' ds rs gs) rest in
    let shared = none_first (option_map (λ id. errors.SameId (value_from id)) (first (ids_shared rs))) (or_that (option_map errors.IdsNoValue (first (ids_unknown rs))) (option_map errors.TooManyInstances (first (instances_past rs)))) ids in
    let unknown = none_first (option_map errors.IdsNoValue (first (ids_unknown rs))) (option_map errors.TooManyInstances (first (instances_past rs))) (none_next (option_map (λ id. errors.SameId (value_from id)) (first (ids_shared rs))) (or_that (option_map errors.IdsNoValue (first (ids_unknown rs))) (option_map errors.TooManyInstances (first (instances_past rs)))) ids) in
    let many = none_next (option_map errors.IdsNoValue (first (ids_unknown rs))) (option_map errors.TooManyInstances (first (instances_past rs))) (none_next (option_map (λ id. errors.SameId (value_from id)) (first (ids_shared rs))) (or_that (option_map errors.IdsNoValue (first (ids_unknown rs))) (option_map errors.TooManyInstances (first (instances_past rs)))) ids) in
    let parts = none_first (option_map errors.TooManyResources (first (resources_past gs))) (or_that (option_map (λ p. errors.InitNoValue p.1) (first_placed (values_unset as' ds rs gs))) (option_map (λ p. errors.InitEmpty p.1) (first_placed (sets_empty as' ds rs gs)))) starts in
    let initial = none_next (option_map errors.TooManyResources (first (resources_past gs))) (or_that (option_map (λ p. errors.InitNoValue p.1) (first_placed (values_unset as' ds rs gs))) (option_map (λ p. errors.InitEmpty p.1) (first_placed (sets_empty as' ds rs gs)))) starts in
    let values = none_first (option_map (λ p. errors.InitNoValue p.1) (first_placed (values_unset as' ds rs gs))) (option_map (λ p. errors.InitEmpty p.1) (first_placed (sets_empty as' ds rs gs))) initial in
    let sets = none_next (option_map (λ p. errors.InitNoValue p.1) (first_placed (values_unset as' ds rs gs))) (option_map (λ p. errors.InitEmpty p.1) (first_placed (sets_empty as' ds rs gs))) initial in
    record {
      mappings = first_empty (bad_mappings gs rs) (mapped_none (λ p. errors.BadMapping p.0 p.1) (first (bad_mappings gs rs)) fitting);
      once = once_of (all_ids rs) (first_empty (ids_shared rs) (mapped_none (λ id. errors.SameId (value_from id)) (first (ids_shared rs)) shared));
      known = first_empty (ids_unknown rs) (mapped_none errors.IdsNoValue (first (ids_unknown rs)) unknown);
      few_ids = few_of 64 (length (all_ids rs)) (mapped_none errors.TooManyInstances (first (instances_past rs)) many);
      few_parts = few_of 1024 (length (all_parts gs)) (mapped_none errors.TooManyResources (first (resources_past gs)) parts);
      unset = least_empty (λ p. p.0) (values_unset as' ds rs gs) (mapped_none (λ p. errors.InitNoValue p.1) (first_placed (values_unset as' ds rs gs)) values);
      empty = least_empty (λ p. p.0) (sets_empty as' ds rs gs) (mapped_none (λ p. errors.InitEmpty p.1) (first_placed (sets_empty as' ds rs gs)) sets);
    }

begins : (n : ℕ) (st : Start) → is_unset n st ≡ false → is_empty st ≡ false → (v : Data) × (st ≡ Begins v)
begins n Missing h g = absurd (cc)
begins n Empty h g = absurd (cc)
begins n (Begins v) h g = (v, refl)

set_begins : (n : ℕ) (st : Start) → is_unset n st ≡ false → lacks NoMember st ≡ false → (v : Data) × (st ≡ Begins v)
set_begins n Missing h g = absurd (cc)
set_begins n Empty h g = absurd (cc)
set_begins n (Begins v) h g = (v, refl)

value_begins : (n : ℕ) (o : Option Data) → is_unset n (start_of_value o) ≡ false → (v : Data) × (o ≡ Some v)
value_begins n None h = absurd (cc)
value_begins n (Some v) h = (v, refl)

value_of_start : (o : Option Data) (v : Data) → start_of_value o ≡ Begins v → o ≡ Some v
value_of_start None v h = absurd (cc)
value_of_start (Some w) v h = ap (λ st. Some (beginning st)) h

least_is_member : (o : Option Data) (v : Data) → start_of_members (option_and_then members_of o) ≡ Begins v → is_member v o ≡ Some true
least_is_member None v h = absurd (cc)
least_is_member (Some w) v h = go (members_of w) h
  where
    go : (p : Option (List Data)) → start_of_members p ≡ Begins v → option_map (contains v) p ≡ Some true
    go None g = absurd (cc)
    go (Some []) g = absurd (cc)
    go (Some (m ∷ ms)) g = ap (λ b. Some (if b then true else contains v ms)) (same_equal v m (sym (ap beginning g)))

pub starts_as : (ds : List Defined) (o : Option Origin) (v : Data) → global_start ds o ≡ Begins v → StartsAs ds o v
starts_as ds None v h = sym (ap beginning h)
starts_as ds (Some (Equals e)) v h = value_of_start (closed_value ds e) v h
starts_as ds (Some (In e)) v h = least_is_member (closed_value ds e) v h

pub starts_at : (ds : List Defined) (o : Option Origin) (id v : Data) → local_start ds o id ≡ Begins v → StartsAt ds o id v
starts_at ds None id v h = sym (ap beginning h)
starts_at ds (Some (Equals e)) id v h = value_of_start (value_at ds id e) v h
starts_at ds (Some (In e)) id v h = least_is_member (closed_value ds e) v h

some_item : (id : Data) (ids : List Data) → IsAmong id ids → is_some_item ids ≡ true
some_item id [] h = absurd h
some_item id (x ∷ xs) h = refl

pub set_at : (ds : List Defined) (e : Tree) (id : Data) (ids : List Data) → IsAmong id ids → is_value_unset ds e ids ≡ false → is_unset 255 (argument_start ds e id) ≡ false
set_at ds e id ids a h =
    let some = sym (ap (λ b. if b then is_some_unset ds e ids else is_closed_unset ds e) (some_item id ids a)) ∙ h in
    none_any (λ i. is_unset 255 (argument_start ds e i)) id ids some a

value_set : (ds : List Defined) (e : Tree) (id : Data) (ids : List Data) → IsAmong id ids → is_value_unset ds e ids ≡ false → (v : Data) × (value_at ds id e ≡ Some v)
value_set ds e id ids a h = value_begins 255 (value_at ds id e) (set_at ds e id ids a h)

local_set_begins : (ds : List Defined) (o : Option Origin) (id : Data) (ids : List Data) → IsAmong id ids → is_unset_at ds o ids ≡ false → lacks_in NoMember (local_set ds o) ≡ false → (v : Data) × (local_start ds o id ≡ Begins v)
local_set_begins ds None id ids a h g = (beginning default_start, refl)
local_set_begins ds (Some (Equals e)) id ids a h g = let r = value_set ds e id ids a h in (r.0, ap start_of_value r.1)
local_set_begins ds (Some (In e)) id ids a h g = set_begins 255 (start_in ds e) (none_any (λ i. is_unset 255 (start_in ds e)) id ids h a) g

module _ (as' : List Archetype) (ds : List Defined) (rs : List Run) (gs : List GlobalStart) (u : Unrefused as' ds rs gs) where
  pub global_begins : (g : GlobalStart) → IsAmong g gs → (v : Data) × (g.start ≡ Begins v)
  global_begins g a =
      let unset = none_filter_map unset_global g gs (none_left (filter_map unset_global gs) (lacking as' ds rs NoSet ++ flat_map (unset_in_run ds) rs) u.unset) a in
      let empty = none_filter_map empty_global g gs (none_left (filter_map empty_global gs) (lacking as' ds rs NoMember) u.empty) a in
      begins 256 g.start (where_false (is_unset 256 g.start) (at_place g.declaration.name) unset) (where_false (is_empty g.start) (at_place g.declaration.name) empty)

  pub in_run : (r : Run) → IsAmong r rs → unset_in_run ds r ≡ []
  in_run r a = none_flat_map (unset_in_run ds) r rs (none_right (lacking as' ds rs NoSet) (flat_map (unset_in_run ds) rs) (none_right (filter_map unset_global gs) (lacking as' ds rs NoSet ++ flat_map (unset_in_run ds) rs) u.unset)) a

  pub local_begins : (r : Run) (d : Declaration) (id : Data) → IsAmong r rs → IsAmong r.archetype (archetypes_run as' rs) → IsAmong d r.archetype.locals → IsAmong id (run_ids r) → (v : Data) × (local_start ds d.initial id ≡ Begins v)
  local_begins r d id a b l i =
      let unset = none_filter_map (unset_local ds r) d r.archetype.locals (none_left (filter_map (unset_local ds r) r.archetype.locals) (filter_map (unset_handed ds r) r.handed) (in_run r a)) l in
      let sets = none_right (filter_map empty_global gs) (lacking as' ds rs NoMember) u.empty in
      let empty = none_filter_map (lacking_local ds NoMember) d r.archetype.locals (none_flat_map (lacking_in ds NoMember) r.archetype (archetypes_run as' rs) sets b) l in
      local_set_begins ds d.initial id (run_ids r) i
      (where_false (is_unset_at ds d.initial (run_ids r)) (at_place d.name) unset)
      (where_false (lacks_in NoMember (local_set ds d.initial)) (at_place d.name) empty)

  pub value_unset : (r : Run) (x : Name) (e : Tree) (b : Argument) → expression_of b ≡ Some e → unset_argument ds r x b ≡ None → is_value_unset ds e (run_ids r) ≡ false
  value_unset r x e (arguments.Ref g f) h n = absurd (cc)
  value_unset r x e (arguments.Value place t) h n =
      subst (λ o. is_value_unset ds (some_or e o) (run_ids r) ≡ false) h (where_false (is_value_unset ds t (run_ids r)) (place, x) n)
    where
      some_or : Tree → Option Tree → Tree
      some_or d None = d
      some_or d (Some y) = y

  pub argument_begins : (r : Run) (h : Handed) (e : Tree) (id : Data) → IsAmong r rs → IsAmong h r.handed → expression_of h.argument ≡ Some e → IsAmong id (run_ids r) → (v : Data) × (value_at ds id e ≡ Some v)
  argument_begins r h e id a b x i =
      let unset = none_filter_map (unset_handed ds r) h r.handed (none_right (filter_map (unset_local ds r) r.archetype.locals) (filter_map (unset_handed ds r) r.handed) (in_run r a)) b in
      value_set ds e id (run_ids r) i (value_unset r h.parameter.name.name e h.argument x unset)
