-- Where a run and an instance come from, and what a binding stands for.
use Rattle.std.proofs.Common.{◌≡◌, ℕ, Bool, true, false, if◌then◌else◌, List, [], ◌∷◌, Option, Some, None, refl, ap, sym, ◌∙◌, subst, inl, inr}
use Rattle.std.proofs.lemmas.Option.{same_Some}
use Rattle.pgo_base.specs.Data.{Data}
use Rattle.pgo_base.specs.Lookup.{Name, same_name}
use Rattle.pgo_base.specs.Tree.{Tree}
use Rattle.pgo_model.specs.Machine.{nth}
use Rattle.pgo_syntax.specs.declared.archetype.Archetype.{Archetype}
use Rattle.pgo_syntax.specs.declared.bound.Instance.{Instance}
use Rattle.pgo_syntax.specs.declared.bound.Target.{Target}
use Rattle.pgo_syntax.specs.declared.bound.Target.TheVariants as targets
use Rattle.pgo_syntax.specs.declared.process.Argument.{Argument}
use Rattle.pgo_syntax.specs.declared.process.Argument.TheVariants as arguments
use Rattle.pgo_syntax.specs.declared.process.MappingClause.{MappingClause}
use Rattle.pgo_syntax.specs.declared.spec.Spec.{Spec}
use Rattle.pgo_bound.specs.Runs.{Run, archetype_named, run_ids, target_of}
use Rattle.pgo_bound.specs.BoundOf.{places_of, places_of_run, instance_at, instances_of, expression_of}
use Rattle.pgo_bound.specs.Among.{IsAmong, from_map, from_flat_map, from_numbered, among_nth}

pub archetype_among : (x : Name) (as' : List Archetype) (a : Archetype) → archetype_named x as' ≡ Some a → IsAmong a as'
archetype_among x [] a h = absurd (cc)
archetype_among x (b ∷ bs) a h = go (same_name x b.name.name) h (archetype_among x bs a)
  where
    go : (t : Bool) → (if t then Some b else archetype_named x bs) ≡ Some a → (archetype_named x bs ≡ Some a → IsAmong a bs) → IsAmong a (b ∷ bs)
    go true g r = inl (sym (same_Some b a g))
    go false g r = inr (r g)

-- an identifier of a process that runs
pub place_from : (z : Run × Data) (rs : List Run) → IsAmong z (places_of rs) → (r : Run) × IsAmong r rs × ((id : Data) × IsAmong id (run_ids r) × (z ≡ (r, id)))
place_from z rs h =
    let o = from_flat_map places_of_run z rs h in
    let m = from_map (λ id. (o.0, id)) z (run_ids o.0) o.2 in
    (o.0, o.1, (m.0, m.1, m.2))

-- an instance is at an identifier of a process that runs
pub instance_from : (s : Spec) (rs : List Run) (i : Instance) (n : ℕ) → nth (instances_of s rs) n ≡ Some i → (r : Run) × IsAmong r rs × ((id : Data) × IsAmong id (run_ids r) × (IsAmong (r, id) (places_of rs) × ((m : ℕ) × (i ≡ instance_at s m (r, id)))))
instance_from s rs i n q =
    let o = from_numbered (instance_at s) 0 i (places_of rs) (among_nth i (instances_of s rs) n q) in
    let p = place_from o.0 rs o.1 in
    (p.0, p.1, (p.2.0, p.2.1, (subst (λ z. IsAmong z (places_of rs)) p.2.2 o.1, (o.2.0, o.2.1 ∙ ap (instance_at s o.2.0) p.2.2))))

-- the expression that a parameter stands for, if it is handed one
abbrev pub tree_of : Target → Option Tree
tree_of (targets.Value e) = Some e
tree_of (targets.Global x e m) = None

pub target_tree : (s : Spec) (cs : List MappingClause) (n : ℕ) (a : Argument) → expression_of a ≡ tree_of (target_of s cs n a)
target_tree s cs n (arguments.Value place e) = refl
target_tree s cs n (arguments.Ref g e) = refl
