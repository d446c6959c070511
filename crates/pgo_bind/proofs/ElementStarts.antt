-- A global that each binding of the instances has by element starts as a function.
use Rattle.std.proofs.Common.{◌≡◌, ℕ, suc, Bool, true, false, not, ◌&&◌, ◌||◌, if◌then◌else◌, nat_lt, List, [], ◌∷◌, length, map, cond, Some, None, refl, ap, sym, ◌∙◌, subst, inl, inr}
use Rattle.std.specs.Prelude.{filter}
use Rattle.std.specs.List.{filter_map, flat_map, list_all, cons_option}
use Rattle.pgo_base.specs.Data.{Data, boolean, integer, string, model, set, function, Pairs}
use Rattle.pgo_base.specs.Lookup.{Name, same_name}
use Rattle.pgo_model.specs.Names.{same_name-self, same_name-is}
use Rattle.pgo_syntax.specs.declared.archetype.Extent.{Extent}
use Rattle.pgo_syntax.specs.declared.archetype.ParameterKind.{ParameterKind}
use Rattle.pgo_syntax.specs.declared.archetype.ParameterKind.TheVariants as kinds
use Rattle.pgo_syntax.specs.declared.bound.Binding.{Binding}
use Rattle.pgo_syntax.specs.declared.process.Argument.{Argument}
use Rattle.pgo_syntax.specs.declared.process.Argument.TheVariants as arguments
use Rattle.pgo_syntax.specs.declared.process.MappingClause.{MappingClause}
use Rattle.pgo_syntax.specs.declared.spec.Spec.{Spec}
use Rattle.pgo_bound.specs.declared.kinds.Kind.{Kind}
use Rattle.pgo_bound.specs.declared.kinds.Kind.TheVariants.{AsWhole, ByElement}
use Rattle.pgo_bound.specs.Values.{Start, Missing, Empty, Begins}
use Rattle.pgo_bound.specs.Runs.{Run, Handed, run_ids, has_ids, is_some_item, speaking, target_of, binding_of, bindings_of, extent_of, extents_in, extents_of, is_element, kind_of_extents, kind_of}
use Rattle.pgo_bound.specs.BoundOf.{GlobalStart, places_of, places_of_run, numbered, instance_at, instances_of}
use Rattle.pgo_bound.specs.State.{AreDifferent, target_extent}
use Rattle.pgo_bound.specs.Among.{IsAmong, among_map, among_flat_map, among_filter, from_map, from_flat_map, from_filter_map, from_numbered, all_at, turned, none_flat_map, none_left, empty_map}
use Rattle.pgo_heads.specs.Refusals.{is_function, begins_as_function, is_by_element, has_no_elements, names_no_elements, same_extent, differs, is_bad_ref, is_bad_argument, is_bad_handed, bad_arguments, bad_clauses, bad_places, bad_mappings}
use Rattle.pgo_bind.proofs.Depths.{none_filter}

and_left : (a b : Bool) → (a && b) ≡ true → a ≡ true
and_left true b h = refl
and_left false b h = h

and_right : (a b : Bool) → (a && b) ≡ true → b ≡ true
and_right true b h = h
and_right false b h = absurd (cc)

all_elements : (es : List Extent) (e : Extent) → list_all is_element es ≡ true → IsAmong e es → is_element e ≡ true
all_elements [] e h a = absurd a
all_elements (x ∷ xs) e h (inl q) = ap is_element q ∙ and_left (is_element x) (list_all is_element xs) h
all_elements (x ∷ xs) e h (inr a) = all_elements xs e (and_right (is_element x) (list_all is_element xs) h) a

-- a kind by element comes from some binding, and each is by element
by_element : (es : List Extent) → kind_of_extents es ≡ ByElement → (e : Extent) × IsAmong e es × (list_all is_element es ≡ true)
by_element [] h = absurd (cc)
by_element (e ∷ es) h = go (list_all is_element (e ∷ es)) refl h
  where
    go : (b : Bool) → list_all is_element (e ∷ es) ≡ b → (if b then ByElement else AsWhole) ≡ ByElement → (x : Extent) × IsAmong x (e ∷ es) × (list_all is_element (e ∷ es) ≡ true)
    go true q g = (e, inl refl, q)
    go false q g = absurd (cc)

all_of : (es : List Extent) → ((e : Extent) → IsAmong e es → is_element e ≡ true) → list_all is_element es ≡ true
all_of [] f = refl
all_of (e ∷ es) f = ap (λ b. b && list_all is_element es) (f e (inl refl)) ∙ all_of es (λ x h. f x (inr h))

kind_by : (es : List Extent) (e : Extent) → IsAmong e es → ((x : Extent) → IsAmong x es → is_element x ≡ true) → kind_of_extents es ≡ ByElement
kind_by [] e a f = absurd a
kind_by (x ∷ xs) e a f = ap (λ b. if b then ByElement else AsWhole) (all_of (x ∷ xs) f)

abbrev extents_at : Name → List Binding → List Extent
extents_at g bs = filter_map (λ x. target_extent g x.target) bs

target_is : (s : Spec) (cs : List MappingClause) (g : Name) (n : ℕ) (a : Argument) → target_extent g (target_of s cs n a) ≡ extent_of g a
target_is s cs g n (arguments.Value place e) = refl
target_is s cs g n (arguments.Ref x e) = refl

bindings_are : (s : Spec) (cs : List MappingClause) (g : Name) (hs : List Handed) → extents_at g (map (binding_of s cs) hs) ≡ extents_in g hs
bindings_are s cs g [] = refl
bindings_are s cs g (h ∷ hs) = λ i. cons_option (target_is s cs g h.number h.argument i) (bindings_are s cs g hs i)

some_id : (ids : List Data) → is_some_item ids ≡ true → (id : Data) × IsAmong id ids
some_id [] h = absurd (cc)
some_id (x ∷ xs) h = (x, inl refl)

item_there : (id : Data) (ids : List Data) → IsAmong id ids → is_some_item ids ≡ true
item_there id [] h = absurd h
item_there id (x ∷ xs) h = refl

numbered_there : {A B : Type 0} (f : ℕ → A → B) (n : ℕ) (x : A) (xs : List A) → IsAmong x xs → (m : ℕ) × IsAmong (f m x) (numbered f n xs)
numbered_there f n x [] h = absurd h
numbered_there f n x (y ∷ ys) (inl e) = (n, inl (ap (f n) e))
numbered_there f n x (y ∷ ys) (inr h) = let r = numbered_there f (suc n) x ys h in (r.0, inr r.1)

from_filter : {A : Type 0} (p : A → Bool) (x : A) (xs : List A) → IsAmong x (filter p xs) → IsAmong x xs × (p x ≡ true)
from_filter p x [] h = absurd h
from_filter {A = A} p x (y ∷ ys) h = go (p y) refl h (from_filter p x ys)
  where
    go : (b : Bool) → p y ≡ b → IsAmong x (cond b (y ∷ filter p ys) (filter p ys)) → (IsAmong x (filter p ys) → IsAmong x ys × (p x ≡ true)) → IsAmong x (y ∷ ys) × (p x ≡ true)
    go true e (inl q) r = (inl q, ap p q ∙ e)
    go true e (inr g) r = let k = r g in (inr k.0, k.1)
    go false e g r = let k = r g in (inr k.0, k.1)

-- how the instances bind a global
abbrev instance_extents : Spec → List Run → Name → List Extent
instance_extents s rs g = flat_map (λ i. extents_at g i.bindings) (instances_of s rs)

to_instance : (s : Spec) (rs : List Run) (g : Name) (e : Extent) → IsAmong e (extents_of g rs) → IsAmong e (instance_extents s rs g)
to_instance s rs g e a =
    let o = from_flat_map (λ r. extents_in g r.handed) e (filter has_ids rs) a in
    let r = o.0 in
    let there = from_filter has_ids r rs o.1 in
    let k = some_id (run_ids r) there.1 in
    let place = among_flat_map places_of_run r (r, k.0) rs there.0 (among_map (λ id. (r, id)) k.0 (run_ids r) k.1) in
    let n = numbered_there (instance_at s) 0 (r, k.0) (places_of rs) place in
    among_flat_map (λ i. extents_at g i.bindings) (instance_at s n.0 (r, k.0)) e (instances_of s rs) n.1
    (subst (IsAmong e) (sym (bindings_are s r.process.clauses g r.handed)) o.2)

-- a process that has identifiers and binds a global so
record Binds (rs : List Run) (g : Name) (e : Extent) : Type 0 where
  pub run : Run
  pub among : IsAmong run rs
  pub some : has_ids run ≡ true
  pub handed : IsAmong e (extents_in g run.handed)

from_instance : (s : Spec) (rs : List Run) (g : Name) (e : Extent) → IsAmong e (instance_extents s rs g) → Binds rs g e
from_instance s rs g e a =
    let o = from_flat_map (λ i. extents_at g i.bindings) e (instances_of s rs) a in
    let n = from_numbered (instance_at s) 0 o.0 (places_of rs) o.1 in
    let p = from_flat_map places_of_run n.0 rs n.1 in
    let m = from_map (λ id. (p.0, id)) n.0 (run_ids p.0) p.2 in
    let is : o.0.bindings ≡ bindings_of s p.0 = ap (λ i. i.bindings) n.2.1 ∙ ap (λ (z : Run × Data). bindings_of s z.0) m.2 in
    record {
      run = p.0;
      among = p.1;
      some = item_there m.0 (run_ids p.0) m.1;
      handed = subst (IsAmong e) (ap (extents_at g) is ∙ bindings_are s p.0.process.clauses g p.0.handed) o.2;
    }

-- what the instances bind by element the processes bind by element
element_kind : (s : Spec) (rs : List Run) (g : Name) → kind_of_extents (instance_extents s rs g) ≡ ByElement → (e : Extent) × Binds rs g e × (kind_of g rs ≡ ByElement)
element_kind s rs g h =
    let o = by_element (instance_extents s rs g) h in
    let b = from_instance s rs g o.0 o.1 in
    let there = among_flat_map (λ r. extents_in g r.handed) b.run o.0 (filter has_ids rs) (among_filter has_ids b.run rs b.among b.some) b.handed in
    (o.0, b, kind_by (extents_of g rs) o.0 there (λ x k. all_elements (instance_extents s rs g) x o.2 (to_instance s rs g x k)))

-- what the instances bind by element is by element among the resources
pub by_element_there : (s : Spec) (rs : List Run) (g : Name) → kind_of_extents (flat_map (λ i. filter_map (λ x. target_extent g x.target) i.bindings) (instances_of s rs)) ≡ ByElement → kind_of g rs ≡ ByElement
by_element_there s rs g h = (element_kind s rs g h).2

or_left : (a b : Bool) → (a || b) ≡ false → a ≡ false
or_left true b h = absurd (cc)
or_left false b h = refl

or_right : (a b : Bool) → (a || b) ≡ false → b ≡ false
or_right true b h = absurd (cc)
or_right false b h = h

behind_and : (a b : Bool) → a ≡ true → (a && b) ≡ false → b ≡ false
behind_and true b e h = h
behind_and false b e h = absurd (cc)

fits_ref : (gs : List GlobalStart) (r : Run) (n : ℕ) (e : Extent) (g : Name) (f : Extent) → has_ids r ≡ true → is_bad_ref gs r n e g f ≡ false → names_no_elements gs g ≡ false
fits_ref gs r n e g f i h =
    let first = not (same_extent e f) in
    let second = differs f (speaking n g r.process.clauses) in
    let third = nat_lt 1 (length (speaking n g r.process.clauses)) in
    let fourth = has_ids r && names_no_elements gs g in
    behind_and (has_ids r) (names_no_elements gs g) i
    (or_right third fourth (or_right second (third || fourth) (or_right first (second || (third || fourth)) h)))

-- an argument that fits and binds a global of an instance
fits_argument : (gs : List GlobalStart) (r : Run) (n : ℕ) (k : ParameterKind) (a : Argument) (g : Name) (e : Extent) → has_ids r ≡ true → is_bad_argument gs r n k a ≡ false → extent_of g a ≡ Some e → names_no_elements gs g ≡ false
fits_argument gs r n k (arguments.Value place t) g e i h x = absurd (cc)
fits_argument gs r n kinds.Value (arguments.Ref y f) g e i h x = absurd (cc)
fits_argument gs r n (kinds.Ref d) (arguments.Ref y f) g e i h x = go (same_name g y.name) refl x
  where
    go : (b : Bool) → same_name g y.name ≡ b → (if b then Some f else None) ≡ Some e → names_no_elements gs g ≡ false
    go true q z = subst (λ w. names_no_elements gs w ≡ false) (sym (same_name-is g y.name q)) (fits_ref gs r n d y.name f i h)
    go false q z = absurd (cc)

bound_elements : (gs : List GlobalStart) (rs : List Run) (g : Name) (e : Extent) → bad_mappings gs rs ≡ [] → Binds rs g e → names_no_elements gs g ≡ false
bound_elements gs rs g e m b =
    let r = b.run in
    let places = empty_map (λ n. (r.process.name.name, n)) (bad_places gs r) (none_flat_map (λ q. map (λ n. (q.process.name.name, n)) (bad_places gs q)) r rs m b.among) in
    let bad = empty_map (λ h. h.number) (filter (is_bad_handed gs r) r.handed) (none_left (bad_arguments gs r) (bad_clauses r) places) in
    let o = from_filter_map (λ h. extent_of g h.argument) e r.handed b.handed in
    fits_argument gs r o.0.number o.0.parameter.kind o.0.argument g e b.some (none_filter (is_bad_handed gs r) o.0 r.handed bad o.1) o.2

abbrev pub global_name : GlobalStart → Name
global_name g = g.declaration.name.name

named_elements : (gs : List GlobalStart) (g : GlobalStart) → AreDifferent (map global_name gs) → IsAmong g gs → names_no_elements gs (global_name g) ≡ has_no_elements g
named_elements [] g d h = absurd h
named_elements (x ∷ xs) g d (inl e) =
    ap (λ b. if b then has_no_elements x else names_no_elements xs (global_name g)) (ap (same_name (global_name g)) (sym (ap global_name e)) ∙ same_name-self (global_name g))
    ∙ ap has_no_elements (sym e)
named_elements (x ∷ xs) g d (inr h) =
    let apart = all_at (λ y. same_name (global_name x) y ≡ false) (global_name g) (map global_name xs) d.0 (among_map global_name g xs h) in
    ap (λ b. if b then has_no_elements x else names_no_elements xs (global_name g)) (turned (global_name x) (global_name g) apart)
    ∙ named_elements xs g d.1 h

as_function : (v : Data) → is_function v ≡ true → (ps : Pairs) × (v ≡ function ps)
as_function (function ps) h = (ps, refl)
as_function (boolean b) h = absurd (cc)
as_function (integer z) h = absurd (cc)
as_function (string t) h = absurd (cc)
as_function (model t) h = absurd (cc)
as_function (set xs) h = absurd (cc)

begins_so : (st : Start) → begins_as_function st ≡ true → (ps : Pairs) × (st ≡ Begins (function ps))
begins_so Missing h = absurd (cc)
begins_so Empty h = absurd (cc)
begins_so (Begins v) h = let r = as_function v h in (r.0, ap Begins r.1)

has_elements : (k : Kind) (st : Start) → k ≡ ByElement → (is_by_element k && not (begins_as_function st)) ≡ false → begins_as_function st ≡ true
has_elements k st e h = go (begins_as_function st) refl (behind_and (is_by_element k) (not (begins_as_function st)) (ap is_by_element e) h)
  where
    go : (b : Bool) → begins_as_function st ≡ b → not b ≡ false → begins_as_function st ≡ true
    go true q g = q
    go false q g = absurd (cc)

-- a global that the instances bind by element starts as a function
pub element_start : (s : Spec) (rs : List Run) (gs : List GlobalStart) (g : GlobalStart) → AreDifferent (map global_name gs) → bad_mappings gs rs ≡ [] → IsAmong g gs → g.kind ≡ kind_of (global_name g) rs → kind_of_extents (flat_map (λ i. filter_map (λ x. target_extent (global_name g) x.target) i.bindings) (instances_of s rs)) ≡ ByElement → (ps : Pairs) × (g.start ≡ Begins (function ps))
element_start s rs gs g d m a k h =
    let o = element_kind s rs (global_name g) h in
    begins_so g.start (has_elements g.kind g.start (k ∙ o.2) (sym (named_elements gs g d a) ∙ bound_elements gs rs (global_name g) o.0 m o.1))
