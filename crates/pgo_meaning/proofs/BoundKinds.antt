-- What binding gives of globals and resources (`GlobalsBound`): the kind of a global is the same by the instances and by the
-- processes that have identifiers.
use Rattle.std.proofs.Common.{◌≡◌, ℕ, suc, Bool, true, false, ◌&&◌, if◌then◌else◌, List, [], ◌∷◌, map, filter, cond, Option, Some, None, option_map, refl, ap, sym, ◌∙◌, subst, inl, inr, arith}
use Rattle.std.specs.List.{filter_map, flat_map, list_all, cons_option}
use Rattle.std.proofs.lemmas.Option.{same_Some}
use Rattle.pgo_base.specs.Data.{Data}
use Rattle.pgo_base.specs.Lookup.{Name}
use Rattle.pgo_base.specs.declared.module.Defined.{Defined}
use Rattle.pgo_model.specs.Machine.{nth}
use Rattle.pgo_syntax.specs.declared.archetype.Archetype.{Archetype}
use Rattle.pgo_syntax.specs.declared.archetype.Extent.{Extent}
use Rattle.pgo_syntax.specs.declared.archetype.Parameter.{Parameter}
use Rattle.pgo_syntax.specs.declared.bound.Binding.{Binding}
use Rattle.pgo_syntax.specs.declared.bound.Instance.{Instance}
use Rattle.pgo_syntax.specs.declared.bound.Resource.{Resource}
use Rattle.pgo_syntax.specs.declared.declaration.Declaration.{Declaration}
use Rattle.pgo_syntax.specs.declared.name.PlacedName.{PlacedName}
use Rattle.pgo_syntax.specs.declared.process.Argument.{Argument}
use Rattle.pgo_syntax.specs.declared.process.Argument.TheVariants as arguments
use Rattle.pgo_syntax.specs.declared.process.MappingClause.{MappingClause}
use Rattle.pgo_syntax.specs.declared.process.Process.{Process}
use Rattle.pgo_syntax.specs.declared.spec.Spec.{Spec}
use Rattle.pgo_bound.specs.declared.kinds.Kind.{Kind}
use Rattle.pgo_bound.specs.declared.kinds.Kind.TheVariants.{Unbound, AsWhole, ByElement}
use Rattle.pgo_bound.specs.Among.{IsAmong, among_map, among_flat_map, among_filter, from_map, from_flat_map, from_filter_map, from_numbered, among_nth, nth_among}
use Rattle.pgo_bound.specs.BoundOf.{numbered, places_of_run, places_of, instance_at, instances_of, GlobalStart, global_of, globals_of, indices, parts_with, parts_of, all_parts, resource_at, resources_of, bound_of}
use Rattle.pgo_bound.specs.Lookups.{data_from}
use Rattle.pgo_bound.specs.Runs.{Run, Handed, handed_from, archetype_named, run_with, run_of, runs_of, run_ids, has_ids, is_some_item, target_of, binding_of, bindings_of, extent_of, extents_in, extents_of, is_element, kind_of_extents, kind_of}
use Rattle.pgo_bound.specs.Sound.{index_in}
use Rattle.pgo_bound.specs.State.{target_extent, kind_in}
use Rattle.pgo_bound.specs.Values.{Start, beginning, defs_of}
use Rattle.pgo_meaning.specs.System.{global_in, globals_in}
use Rattle.pgo_meaning.specs.SystemStates.{GlobalsBound, RefsDeclared}

-- ---- the kind depends on which extents there are, and not on how often

and_left : (a b : Bool) → (a && b) ≡ true → a ≡ true
and_left true b h = refl
and_left false b h = h

and_right : (a b : Bool) → (a && b) ≡ true → b ≡ true
and_right true b h = h
and_right false b h = absurd (cc)

all_elements : (es : List Extent) (e : Extent) → list_all is_element es ≡ true → IsAmong e es → is_element e ≡ true
all_elements [] e h a = absurd a
all_elements (x ∷ xs) e h (inl q) = ap is_element q ∙ and_left (is_element x) (list_all is_element xs) h
all_elements (x ∷ xs) e h (inr a) = all_elements xs e (and_right (is_element x) (list_all is_element xs) h) a

all_of : (es : List Extent) → ((e : Extent) → IsAmong e es → is_element e ≡ true) → list_all is_element es ≡ true
all_of [] f = refl
all_of (e ∷ es) f = ap (λ b. b && list_all is_element es) (f e (inl refl)) ∙ all_of es (λ x h. f x (inr h))

abbrev Within : List Extent → List Extent → Type 0
Within es fs = (e : Extent) → IsAmong e es → IsAmong e fs

-- where one list has elements alone, so has the other
all_within : (es fs : List Extent) → Within fs es → list_all is_element es ≡ true → list_all is_element fs ≡ true
all_within es fs w h = all_of fs (λ e k. all_elements es e h (w e k))

same_test : (es fs : List Extent) → Within es fs → Within fs es → list_all is_element es ≡ list_all is_element fs
same_test es fs v w = go (list_all is_element es) (list_all is_element fs) refl refl
  where
    go : (a b : Bool) → list_all is_element es ≡ a → list_all is_element fs ≡ b → list_all is_element es ≡ list_all is_element fs
    go true b e f = e ∙ sym (all_within es fs w e)
    go false true e f = absurd (let q = all_within fs es v f in let r : true ≡ false = sym q ∙ e in cc)
    go false false e f = e ∙ sym f

same_kind : (es fs : List Extent) → Within es fs → Within fs es → kind_of_extents es ≡ kind_of_extents fs
same_kind [] [] v w = refl
same_kind [] (f ∷ fs) v w = absurd (w f (inl refl))
same_kind (e ∷ es) [] v w = absurd (v e (inl refl))
same_kind (e ∷ es) (f ∷ fs) v w = ap (λ b. if b then ByElement else AsWhole) (same_test (e ∷ es) (f ∷ fs) v w)

-- ---- the extents of instances and of processes

abbrev extents_at : Name → List Binding → List Extent
extents_at g bs = filter_map (λ x. target_extent g x.target) bs

target_is : (s : Spec) (cs : List MappingClause) (g : Name) (n : ℕ) (a : Argument) → target_extent g (target_of s cs n a) ≡ extent_of g a
target_is s cs g n (arguments.Value place e) = refl
target_is s cs g n (arguments.Ref x e) = refl

bindings_are : (s : Spec) (cs : List MappingClause) (g : Name) (hs : List Handed) → extents_at g (map (binding_of s cs) hs) ≡ extents_in g hs
bindings_are s cs g [] = refl
bindings_are s cs g (h ∷ hs) = λ i. cons_option (target_is s cs g h.number h.argument i) (bindings_are s cs g hs i)

some_id : (ids : List Data) → is_some_item ids ≡ true → (id : Data) × IsAmong id ids
some_id [] h = absurd (cc)
some_id (x ∷ xs) h = (x, inl refl)

item_there : (id : Data) (ids : List Data) → IsAmong id ids → is_some_item ids ≡ true
item_there id [] h = absurd h
item_there id (x ∷ xs) h = refl

numbered_there : {A B : Type 0} (f : ℕ → A → B) (n : ℕ) (x : A) (xs : List A) → IsAmong x xs → (m : ℕ) × IsAmong (f m x) (numbered f n xs)
numbered_there f n x [] h = absurd h
numbered_there f n x (y ∷ ys) (inl e) = (n, inl (ap (f n) e))
numbered_there f n x (y ∷ ys) (inr h) = let r = numbered_there f (suc n) x ys h in (r.0, inr r.1)

from_filter : {A : Type 0} (p : A → Bool) (x : A) (xs : List A) → IsAmong x (filter p xs) → IsAmong x xs × (p x ≡ true)
from_filter p x [] h = absurd h
from_filter {A = A} p x (y ∷ ys) h = go (p y) refl h (from_filter p x ys)
  where
    go : (b : Bool) → p y ≡ b → IsAmong x (cond b (y ∷ filter p ys) (filter p ys)) → (IsAmong x (filter p ys) → IsAmong x ys × (p x ≡ true)) → IsAmong x (y ∷ ys) × (p x ≡ true)
    go true e (inl q) r = (inl q, ap p q ∙ e)
    go true e (inr g) r = let k = r g in (inr k.0, k.1)
    go false e g r = let k = r g in (inr k.0, k.1)

-- the process of an instance, which is at one of its identifiers
instance_run : (s : Spec) (rs : List Run) (i : Instance) → IsAmong i (instances_of s rs) → (r : Run) × IsAmong r rs × (has_ids r ≡ true) × (i.bindings ≡ bindings_of s r)
instance_run s rs i a =
    let n = from_numbered (instance_at s) 0 i (places_of rs) a in
    let p = from_flat_map places_of_run n.0 rs n.1 in
    let m = from_map (λ id. (p.0, id)) n.0 (run_ids p.0) p.2 in (
      p.0,
      p.1,
      item_there m.0 (run_ids p.0) m.1,
      ap (λ (i : Instance). i.bindings) n.2.1 ∙ ap (λ (z : Run × Data). bindings_of s z.0) m.2,
    )

abbrev by_instances : Spec → List Run → Name → List Extent
by_instances s rs g = flat_map (λ i. extents_at g i.bindings) (instances_of s rs)

to_instances : (s : Spec) (rs : List Run) (g : Name) → Within (extents_of g rs) (by_instances s rs g)
to_instances s rs g e a =
    let o = from_flat_map (λ r. extents_in g r.handed) e (filter has_ids rs) a in
    let r = o.0 in
    let there = from_filter has_ids r rs o.1 in
    let k = some_id (run_ids r) there.1 in
    let place = among_flat_map places_of_run r (r, k.0) rs there.0 (among_map (λ id. (r, id)) k.0 (run_ids r) k.1) in
    let n = numbered_there (instance_at s) 0 (r, k.0) (places_of rs) place in
    among_flat_map (λ i. extents_at g i.bindings) (instance_at s n.0 (r, k.0)) e (instances_of s rs) n.1
    (subst (IsAmong e) (sym (bindings_are s r.process.clauses g r.handed)) o.2)

from_instances : (s : Spec) (rs : List Run) (g : Name) → Within (by_instances s rs g) (extents_of g rs)
from_instances s rs g e a =
    let o = from_flat_map (λ i. extents_at g i.bindings) e (instances_of s rs) a in
    let r = instance_run s rs o.0 o.1 in
    let handed = subst (IsAmong e) (ap (extents_at g) r.3 ∙ bindings_are s r.0.process.clauses g r.0.handed) o.2 in
    among_flat_map (λ r. extents_in g r.handed) r.0 e (filter has_ids rs) (among_filter has_ids r.0 rs r.1 r.2) handed

kind_same : (s : Spec) (rs : List Run) (g : Name) → kind_of_extents (by_instances s rs g) ≡ kind_of g rs
kind_same s rs g = same_kind (by_instances s rs g) (extents_of g rs) (from_instances s rs g) (to_instances s rs g)

-- ---- resources

-- the part of a global that a resource is
record PartOf (ds : List Defined) (rs : List Run) (gs : List Declaration) (r : Resource) : Type 0 where
  pub declaration : Declaration
  pub declared : IsAmong declaration gs
  pub named : declaration.name.name ≡ r.global
  pub kind : kind_of r.global rs ≡ Unbound → ⊥
  pub whole : index_in r ≡ None → kind_of r.global rs ≡ AsWhole

index_back : (n : ℕ) (g : Name) (o : Option Data) → index_in (resource_at n (g, o)) ≡ o
index_back n g None = refl
index_back n g (Some v) = ap Some (data_from v)

unbound_not : (k : Kind) (p : Name × Option Data) (g : Name) (st : Start) → IsAmong p (parts_with g k st) → k ≡ Unbound → ⊥
unbound_not Unbound p g st h e = h
unbound_not AsWhole p g st h e = grind (arith, e)
unbound_not ByElement p g st h e = grind (arith, e)

part_named : (k : Kind) (p : Name × Option Data) (g : Name) (st : Start) → IsAmong p (parts_with g k st) → p.0 ≡ g
part_named Unbound p g st h = absurd h
part_named AsWhole p g st (inl e) = ap (λ (q : Name × Option Data). q.0) e
part_named AsWhole p g st (inr h) = absurd h
part_named ByElement p g st h = let o = from_map (λ i. (g, Some i)) p (indices (beginning st)) h in ap (λ (q : Name × Option Data). q.0) o.2

part_whole : (k : Kind) (p : Name × Option Data) (g : Name) (st : Start) → IsAmong p (parts_with g k st) → p.1 ≡ None → k ≡ AsWhole
part_whole Unbound p g st h e = absurd h
part_whole AsWhole p g st h e = refl
part_whole ByElement p g st h e =
    let o = from_map (λ i. (g, Some i)) p (indices (beginning st)) h in
    absurd (let q : Some o.0 ≡ None = sym (ap (λ (q : Name × Option Data). q.1) o.2) ∙ e in cc)

module _ (s : Spec) (ds : List Defined) (rs : List Run) where
  resource_part : (r : Resource) → IsAmong r (resources_of (globals_of s ds rs)) → PartOf ds rs s.globals r
  resource_part r a =
      let n = from_numbered resource_at 0 r (all_parts (globals_of s ds rs)) a in
      let p = from_flat_map parts_of n.0 (globals_of s ds rs) n.1 in
      let d = from_map (global_of ds rs) p.0 s.globals p.1 in
      let x = d.0.name.name in
      let st = (global_of ds rs d.0).start in
      let there : IsAmong n.0 (parts_with x (kind_of x rs) st) = subst (λ (g : GlobalStart). IsAmong n.0 (parts_of g)) d.2 p.2 in
      let global : r.global ≡ n.0.0 = ap (λ (r : Resource). r.global) n.2.1 in
      let same : x ≡ r.global = sym (part_named (kind_of x rs) n.0 x st there) ∙ sym global in
      record {
        declaration = d.0;
        declared = d.1;
        named = same;
        kind = λ e. unbound_not (kind_of x rs) n.0 x st there (ap (λ g. kind_of g rs) same ∙ e);
        whole = λ e.
            ap (λ g. kind_of g rs) (sym same)
            ∙ part_whole (kind_of x rs) n.0 x st there (sym (index_back n.2.0 n.0.0 n.0.1) ∙ sym (ap index_in n.2.1) ∙ e);
      }

  whole_there : (d : Declaration) → IsAmong d s.globals → kind_of d.name.name rs ≡ AsWhole → (r : Resource) × IsAmong r (resources_of (globals_of s ds rs)) × (r.global ≡ d.name.name) × (index_in r ≡ None)
  whole_there d a e =
      let x = d.name.name in
      let part : IsAmong (x, None) (parts_of (global_of ds rs d)) = subst (λ k. IsAmong (x, None) (parts_with x k (global_of ds rs d).start)) (sym e) (inl refl) in
      let all = among_flat_map parts_of (global_of ds rs d) (x, None) (globals_of s ds rs) (among_map (global_of ds rs) d s.globals a) part in
      let n = numbered_there resource_at 0 (x, None) (all_parts (globals_of s ds rs)) all in
      (resource_at n.0 (x, None), n.1, refl, refl)

handed_argument : (n : ℕ) (ps : List Parameter) (as' : List Argument) (h : Handed) → IsAmong h (handed_from n ps as') → IsAmong h.argument as'
handed_argument n [] as' h a = absurd a
handed_argument n (p ∷ ps) [] h a = absurd a
handed_argument n (p ∷ ps) (x ∷ as') h (inl e) = inl (ap (λ (h : Handed). h.argument) e)
handed_argument n (p ∷ ps) (x ∷ as') h (inr a) = inr (handed_argument (suc n) ps as' h a)

-- a process that runs, and what it hands to its archetype
run_process : (s : Spec) (ds : List Defined) (r : Run) → IsAmong r (runs_of s ds) → (p : Process) × IsAmong p s.processes × ((h : Handed) → IsAmong h r.handed → IsAmong h.argument p.arguments)
run_process s ds r a = go o.0 o.1 (archetype_named o.0.archetype.name s.archetypes) o.2
  where
    o : (p : Process) × IsAmong p s.processes × (run_of s ds p ≡ Some r)
    o = from_filter_map (run_of s ds) r s.processes a

    go : (p : Process) → IsAmong p s.processes → (q : Option Archetype) → option_map (run_with ds p) q ≡ Some r → (p : Process) × IsAmong p s.processes × ((h : Handed) → IsAmong h r.handed → IsAmong h.argument p.arguments)
    go p there None e = absurd (cc)
    go p there (Some x) e =
        (p, there, λ h is. handed_argument 1 x.params p.arguments h (subst (λ (r : Run). IsAmong h r.handed) (sym (same_Some (run_with ds p x) r e)) is))

-- a parameter that is bound to a global is handed a `ref`
ref_handed : (s : Spec) (cs : List MappingClause) (n : ℕ) (a : Argument) (g : Name) → global_in (target_of s cs n a) ≡ Some g → (x : PlacedName) × (e : Extent) × (a ≡ arguments.Ref x e) × (x.name ≡ g)
ref_handed s cs n (arguments.Value place e) g h = absurd (cc)
ref_handed s cs n (arguments.Ref x e) g h = (x, e, refl, same_Some x.name g h)

-- a global that a process hands to its archetype
record RefHanded (p : Process) (g : Name) : Type 0 where
  pub argument : PlacedName
  pub extent : Extent
  pub there : IsAmong (arguments.Ref argument extent) p.arguments
  pub named : argument.name ≡ g

binding_ref : (s : Spec) (r : Run) (p : Process) (x : Binding) (g : Name) → ((h : Handed) → IsAmong h r.handed → IsAmong h.argument p.arguments) → IsAmong x (bindings_of s r) → global_in x.target ≡ Some g → RefHanded p g
binding_ref s r p x g from there is =
    let h = from_map (binding_of s r.process.clauses) x r.handed there in
    let a = ref_handed s r.process.clauses h.0.number h.0.argument g (ap (λ (b : Binding). global_in b.target) (sym h.2) ∙ is) in
    record { argument = a.0; extent = a.1; there = subst (λ z. IsAmong z p.arguments) a.2 (from h.0 h.1); named = a.3 }

ref_declared : (s : Spec) (p : Process) (g : Name) → RefsDeclared s → IsAmong p s.processes → RefHanded p g → (j : ℕ) × (d : Declaration) × (nth s.globals j ≡ Some d) × (d.name.name ≡ g)
ref_declared s p g refs there h =
    let at_p = nth_among p s.processes there in
    let at_a = nth_among (arguments.Ref h.argument h.extent) p.arguments h.there in
    let d = refs at_p.0 at_a.0 p h.argument h.extent at_p.1 at_a.1 in
    (d.0, d.1, d.2, d.3 ∙ h.named)

pub globals_bound : (s : Spec) (consts : List (Name × Data)) → RefsDeclared s → GlobalsBound (bound_of s consts)
globals_bound s consts refs = record {
  bound = λ k n i g at_k at_n.
      let r = instance_run s rs i (among_nth i (instances_of s rs) k at_k) in
      let x = from_filter_map (λ x. global_in x.target) g i.bindings (among_nth g (globals_in i.bindings) n at_n) in
      let p = run_process s ds r.0 r.1 in
      ref_declared s p.0 g refs p.1 (binding_ref s r.0 p.0 x.0 g p.2 (subst (IsAmong x.0) r.3 x.1) x.2);
  shared = λ n r at_n.
      let p = part n r at_n in
      let d = nth_among p.declaration s.globals p.declared in
      (d.0, p.declaration, d.1, p.named);
  whole = λ n d at_n e.
      let w = whole_there s ds rs d (among_nth d s.globals n at_n) (sym (kind_same s rs d.name.name) ∙ e) in
      let k = nth_among w.0 (resources_of gs) w.1 in
      (k.0, w.0, k.1, w.2, w.3);
  elements = λ g e w. not_both g (kind_same s rs g) e w.1.global (part w.0 w.1 w.2).whole w.3 w.4;
  unbound = λ n r at_n e. (part n r at_n).kind (sym (kind_same s rs r.global) ∙ e);
}
  where
    ds : List Defined
    ds = defs_of s consts

    rs : List Run
    rs = runs_of s ds

    gs : List GlobalStart
    gs = globals_of s ds rs

    not_both : (g : Name) → kind_in (bound_of s consts) g ≡ kind_of g rs → kind_in (bound_of s consts) g ≡ ByElement → (x : Name) → {A : Type 0} → (A → kind_of x rs ≡ AsWhole) → x ≡ g → A → ⊥
    not_both g same e x whole is a =
        let w = whole a in let k = ap (λ z. kind_of z rs) is in let q : ByElement ≡ AsWhole = sym e ∙ same ∙ sym k ∙ w in cc

    part : (n : ℕ) (r : Resource) → nth (resources_of gs) n ≡ Some r → PartOf ds rs s.globals r
    part n r at_n = resource_part s ds rs r (among_nth r (resources_of gs) n at_n)
