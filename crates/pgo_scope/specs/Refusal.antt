-- Why a specification's names are refused: the first rule that something breaks, at its first place in the text.
use Rattle.std.specs.Prelude.{◌≡◌, ◌⊎◌, List, [], ◌∷◌, map, Option, Some, None, Result, Ok, Err}
pub use Rattle.pgo_base.specs.Lookup.{or_that}
use Rattle.pgo_syntax.specs.declared.spec.Spec.{Spec}
use Rattle.pgo_scope.specs.declared.errors.ScopeError.{ScopeError}
use Rattle.pgo_scope.specs.declared.errors.ScopeError.TheVariants as errors
use Rattle.pgo_scope.specs.declared.finding.Finding.{Finding}
use Rattle.pgo_scope.specs.Findings.{earliest}
use Rattle.pgo_scope.specs.declared.rules.Rule.{Rule}
use Rattle.pgo_scope.specs.declared.rules.Rule.TheVariants as rules
use Rattle.pgo_scope.specs.Rules.{context_of, found_by}

-- the first of these rules that has a finding
abbrev pub first_broken : List (List Finding) → Option ScopeError
first_broken [] = None
first_broken (fs ∷ rest) = or_that (earliest fs) (first_broken rest)

-- the rules, in the order in which they are checked
abbrev pub all_rules : List Rule
all_rules =
    rules.Unknown ∷ rules.Twice ∷ rules.Arity ∷ rules.Globals ∷ rules.Assigned ∷ rules.Mapped ∷ rules.Clashes ∷ rules.Underscores ∷ rules.Modules ∷ []

abbrev pub scope_refusal : Spec → Option ScopeError
scope_refusal s = first_broken (map (λ r. found_by r (context_of s)) all_rules)

-- Ok where nothing is refused, and else that refusal, or want of memory
abbrev pub Answers : Option ScopeError → Result Unit ScopeError → Type 0
Answers None (Ok _) = Unit {0}
Answers None (Err e) = e ≡ errors.NoMemory
Answers (Some f) (Ok _) = ⊥
Answers (Some f) (Err e) = (e ≡ f) ⊎ (e ≡ errors.NoMemory)
