-- What is within a body is what the rules on labels see, and none of its labels is `Done`.
use Rattle.std.proofs.Common.{◌≡◌, ℕ, Bool, true, false, List, [], ◌∷◌, ◌++◌, filter, Some, refl, ap, sym, ◌∙◌, subst}
use Rattle.pgo_base.specs.Lookup.{Name, same_name}
use Rattle.pgo_model.specs.Machine.{nth}
use Rattle.pgo_model.specs.Written.{done}
use Rattle.pgo_syntax.specs.declared.name.PlacedName.{PlacedName}
use Rattle.pgo_syntax.specs.declared.archetype.Archetype.{Archetype}
use Rattle.pgo_syntax.specs.Statement.{labeled}
use Rattle.pgo_labels.specs.declared.errors.LabelError.TheVariants.{ReservedDone}
use Rattle.pgo_labels.specs.Inside.{Item, inside, inside_labeled, with_inside}
use Rattle.pgo_labels.specs.Rules as rules
use Rattle.pgo_labels.specs.Rules.{found_at, reserved_done}
use Rattle.pgo_bound.specs.Among.{IsAmong, empty_map, among_nth, from_map, among_filter, empty_none}
use Rattle.pgo_bound.specs.Sound.{labels_among}
use Rattle.pgo_accept.proofs.Unlabelled.{names_of_body}

abbrev pub placed_name : PlacedName → Name
placed_name l = l.name

pub with_inside_is : (is : List Item) → with_inside is ≡ inside_labeled (labeled is)
with_inside_is [] = refl
with_inside_is (i ∷ is) = ap (λ js. (i.0, i.1) ∷ (inside i.1 ++ js)) (with_inside_is is)

-- ---- no label is `Done`

pub none_is_done : (a : Archetype) → reserved_done a ≡ [] → (n : ℕ) (x : Name) → nth (labels_among (labeled a.body)) n ≡ Some x → same_name x done ≡ false
none_is_done a h n x e = go (same_name x done) refl
  where
    from : (l : PlacedName) × IsAmong l (rules.labels a) × (x ≡ placed_name l)
    from = from_map placed_name x (rules.labels a) (subst (IsAmong x) (sym (names_of_body a.body)) (among_nth x (labels_among (labeled a.body)) n e))

    none : filter (λ l. same_name l.name rules.done) (rules.labels a) ≡ []
    none = empty_map (λ l. found_at l.place (ReservedDone a.name.name)) (filter (λ l. same_name l.name rules.done) (rules.labels a)) h

    go : (b : Bool) → same_name x done ≡ b → same_name x done ≡ false
    go false k = k
    go true k = absurd (empty_none from.0 (filter (λ l. same_name l.name rules.done) (rules.labels a)) none (among_filter (λ l. same_name l.name rules.done) from.0 (rules.labels a) from.1 (ap (λ y. same_name y done) (sym from.2) ∙ k)))
