-- What a rule finds at the label that stands first is what it finds first.
use Rattle.std.proofs.Common.{◌≡◌, ℕ, List, [], map, Option, ap, ◌∙◌, sym, refl}
use Rattle.std.specs.Prelude.{option_map}
use Rattle.pgo_base.specs.Lookup.{Name}
use Rattle.pgo_syntax.specs.declared.name.PlacedName.{PlacedName}
use Rattle.pgo_labels.specs.declared.finding.Finding.{Finding}
use Rattle.pgo_labels.specs.declared.finding.Rule.{Rule}
use Rattle.pgo_labels.specs.declared.errors.LabelError.TheVariants.{NeedsLabel}
use Rattle.pgo_labels.specs.NeedsLabel.{last_before}
use Rattle.pgo_labels.specs.Findings.{error_of, found_at}
use Rattle.pgo_syntax.specs.Least.{least}
use Rattle.pgo_syntax.proofs.Leasts.{least-map}

abbrev pub found_by : Rule → Name → PlacedName → Finding
found_by rule owner n = found_at n.place (error_of rule owner n.name)

pub found_least : (rule : Rule) (owner : Name) (ns : List PlacedName) (o : Option PlacedName) → o ≡ least (λ n. n.place) ns
    → option_map (found_by rule owner) o ≡ least (λ f. f.place) (map (found_by rule owner) ns)
found_least rule owner ns o h = ap (option_map (found_by rule owner)) h ∙ sym (least-map (λ n. n.place) (λ f. f.place) (found_by rule owner) (λ n. refl) ns)

abbrev pub needed_at : Name → List PlacedName → ℕ → Finding
needed_at owner ls p = found_at p (NeedsLabel owner (last_before p [] ls))

pub needed_least : (owner : Name) (ls : List PlacedName) (ps : List ℕ) (o : Option ℕ) → o ≡ least (λ p. p) ps
    → option_map (needed_at owner ls) o ≡ least (λ f. f.place) (map (needed_at owner ls) ps)
needed_least owner ls ps o h = ap (option_map (needed_at owner ls)) h ∙ sym (least-map (λ p. p) (λ f. f.place) (needed_at owner ls) (λ p. refl) ps)
