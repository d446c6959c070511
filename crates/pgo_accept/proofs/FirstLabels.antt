-- The first statement of an archetype's body has a label.
use Rattle.std.proofs.Common.{◌≡◌, ℕ, Bool, true, false, if◌then◌else◌, List, [], ◌∷◌, ◌++◌, Option, Some, None, refl, subst}
use Rattle.std.specs.Prelude.{flat_map}
use Rattle.pgo_base.specs.Lookup.{Name, same_name}
use Rattle.pgo_syntax.specs.declared.name.PlacedName.{PlacedName}
use Rattle.pgo_syntax.specs.declared.archetype.Archetype.{Archetype}
use Rattle.pgo_syntax.specs.Statement.{Statement, labeled}
use Rattle.pgo_labels.specs.declared.errors.LabelError.TheVariants.{NeedsLabel}
use Rattle.pgo_labels.specs.declared.finding.Finding.{Finding}
use Rattle.pgo_labels.specs.Inside.{Item, with_inside}
use Rattle.pgo_labels.specs.Labels.{labels}
use Rattle.pgo_labels.specs.Findings.{found_at}
use Rattle.pgo_labels.specs.NeedsLabel.{unlabeled_places, behind_jumps, jumps, loop_of, in_block, missing, last_before, needs_label}
use Rattle.pgo_bound.specs.Runs.{archetype_named}
use Rattle.pgo_bound.specs.Among.{none_left, none_right, empty_map}

abbrev pub BeginsLabeled : List Item → Type 0
BeginsLabeled b = (l : PlacedName) × (t : Statement) × (rest : List Item) × (b ≡ (Some l, t) ∷ rest)

-- the first of these has a label, if each has one
first_of : (o : Option PlacedName) (t : Statement) (others rest : List Item) → unlabeled_places ((o, t) ∷ others) ≡ [] → BeginsLabeled ((o, t) ∷ rest)
first_of None t others rest h = absurd (cc)
first_of (Some l) t others rest h = (l, t, rest, refl)

begins_labeled : (n : PlacedName) (b : List Item) → missing n b ≡ [] → BeginsLabeled b
begins_labeled n [] h = absurd (cc)
begins_labeled n (i ∷ is) h =
    first_of i.0 i.1 (behind_jumps (jumps i.1) (labeled is) ++ flat_map (λ k. loop_of k ++ in_block k.1) (with_inside (i ∷ is))) is h

abbrev needed_at : Archetype → ℕ → Finding
needed_at a p = found_at p (NeedsLabel a.name.name (last_before p [] (labels a)))

body_labeled : (a : Archetype) → needs_label a ≡ [] → BeginsLabeled a.body
body_labeled a h = begins_labeled a.name a.body (empty_map (needed_at a) (missing a.name a.body) h)

pub archetype_labeled : (x : Name) (as' : List Archetype) (a : Archetype) → archetype_named x as' ≡ Some a → flat_map needs_label as' ≡ [] → BeginsLabeled a.body
archetype_labeled x [] a h g = absurd (cc)
archetype_labeled x (b ∷ bs) a h g =
    go (same_name x b.name.name) h (λ k. archetype_labeled x bs a k (none_right (needs_label b) (flat_map needs_label bs) g))
  where
    go : (c : Bool) → (if c then Some b else archetype_named x bs) ≡ Some a → (archetype_named x bs ≡ Some a → BeginsLabeled a.body) → BeginsLabeled a.body
    go true k r = let e : b ≡ a = cc in subst (λ d. BeginsLabeled d.body) e (body_labeled b (none_left (needs_label b) (flat_map needs_label bs) g))
    go false k r = r k
