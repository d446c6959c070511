-- The layout that a board keeps.
use Rattle.std.specs.Prelude.{◌≡◌, List, [], ◌∷◌, ◌++◌, map, filter, refl}
use Rattle.std.proofs.Common.{Bool, true, false, ap, ◌∙◌}
use Rattle.std.specs.Prelude.{if◌then◌else◌}
use Rattle.std.specs.List.{flat_map}
use Rattle.pgo_base.specs.Data.{Data}
use Rattle.pgo_base.specs.Lookup.{Name, same_name}
use Rattle.pgo_bound.specs.State.{id_of, own_names}
use Rattle.pgo_meaning.specs.System.{member_of, owned, owned_by, resource_of, system_of}
use Rattle.pgo_model.specs.System.{Owned}
use Rattle.pgo_model.specs.Written.{written}
use Rattle.pgo_syntax.specs.declared.bound.Bound.{Bound}
use Rattle.pgo_syntax.specs.declared.bound.Instance.{Instance}
use Rattle.pgo_syntax.specs.declared.process.Process.{Process}
use Rattle.pgo_workers.specs.Worlds.{Layout, layout_of}
use Rattle.pgo_resource.specs.Kept.{member_view, member_in, own_view, own_in}
use Rattle.pgo_resource.specs.declared.layout.BoardLayout.{BoardLayout}

-- the identifiers with which a process has instances
abbrev pub ids_at : List (Data × Name) → Name → List Data
ids_at ms p = map (λ m. m.0) (filter (λ m. same_name p m.1) ms)

-- the variables of a process, with its identifiers
abbrev pub owned_at : List (Data × Name) → Name × List Name → List Owned
owned_at ms o = map (λ x. record { variable = written o.0 x; ids = ids_at ms o.0 }) o.1

abbrev pub layout_view : BoardLayout → Layout
layout_view l = record {
  start = l.start;
  resources = map resource_of l.resources;
  ids = map (λ m. m.0) (map member_view l.members);
  own = flat_map (owned_at (map member_view l.members)) (map own_view l.own);
}

identifiers : (is : List Instance) → map (λ m. m.0) (map member_in is) ≡ map (λ i. i.id) (map member_of is)
identifiers [] = refl
identifiers (i ∷ is) = ap (λ l. id_of i ∷ l) (identifiers is)

module _ (b : Bound) where
  ids_same : (p : Name) (is : List Instance) → ids_at (map member_in is) p ≡ map id_of (filter (λ i. same_name p i.process) is)
  ids_same p [] = refl
  ids_same p (i ∷ is) = go (same_name p i.process) (ids_same p is)
    where
      go : (t : Bool) → ids_at (map member_in is) p ≡ map id_of (filter (λ i. same_name p i.process) is)
          → map (λ m. m.0) (if t then member_in i ∷ filter (λ m. same_name p m.1) (map member_in is) else filter (λ m. same_name p m.1) (map member_in is)) ≡ map id_of (if t then i ∷ filter (λ i. same_name p i.process) is else filter (λ i. same_name p i.process) is)
      go true e = ap (λ l. id_of i ∷ l) e
      go false e = e

  names_same : (p : Process) (xs : List Name) → map (λ x. record { variable = written p.name.name x; ids = ids_at (map member_in b.instances) p.name.name }) xs ≡ map (owned b p) xs
  names_same p [] = refl
  names_same p (x ∷ xs) = λ i. record { variable = written p.name.name x; ids = ids_same p.name.name b.instances i } ∷ names_same p xs i

  own_same : (ps : List Process) → flat_map (owned_at (map member_in b.instances)) (map (own_in b.spec) ps) ≡ flat_map (owned_by b) ps
  own_same [] = refl
  own_same (p ∷ ps) = λ i. names_same p (own_names b.spec p) i ++ own_same ps i

  -- what is kept of b is its layout
  pub kept_layout : (l : BoardLayout) → l.start ≡ b.start → map resource_of l.resources ≡ map resource_of b.resources → map member_view l.members ≡ map member_in b.instances → map own_view l.own ≡ map (own_in b.spec) b.spec.processes
      → layout_view l ≡ layout_of (system_of b)
  kept_layout l start resources members own = λ i. record {
    start = start i;
    resources = resources i;
    ids = (ap (map (λ m. m.0)) members ∙ identifiers b.instances) i;
    own = ((λ j. flat_map (owned_at (members j)) (own j)) ∙ own_same b.spec.processes) i;
  }
