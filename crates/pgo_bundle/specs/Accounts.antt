-- What the lines of a bundle say of the attempts of its instances.
use Rattle.std.specs.Prelude.{ℕ, suc, List, [], ◌∷◌, ◌++◌, length, codes, decimal, Option}
use Rattle.pgo_base.specs.Data.{Data}
use Rattle.pgo_base.specs.Lookup.{Name}
use Rattle.pgo_model.specs.ValueText.{value_text}
use Rattle.pgo_model.specs.Outcome.{Kind}
use Rattle.pgo_model.specs.Core.{End}
use Rattle.pgo_model.specs.ModuleText.{Line, line}
use Rattle.pgo_model.specs.Bundle.{fields, indexed_text, kind_text, note_word, end_text}

-- what a line says of an attempt: it is entry n; it has a note with so many entries before it; it was refused since an instance
-- held a resource, which is a variable with an optional index, or the journal; since a resource's operation of a number failed;
-- or since the journal was full at n entries
pub data AttemptLine : Type 0 where
  StepLine : (n : ℕ) → AttemptLine
  NoteLine : (kind : Kind) → (position : ℕ) → AttemptLine
  HeldLine : (holder : ℕ) → (variable : Name) → (index : Option Data) → AttemptLine
  HeldLogLine : (holder : ℕ) → AttemptLine
  DownLine : (operation : ℕ) → (variable : Name) → (index : Option Data) → AttemptLine
  FullLine : (n : ℕ) → AttemptLine

abbrev pub attempt_fields : AttemptLine → List (List ℕ)
attempt_fields (StepLine n) = codes "step" ∷ decimal n ∷ []
attempt_fields (NoteLine kind p) = note_word kind ∷ kind_text kind ∷ decimal p ∷ []
attempt_fields (HeldLine h x i) = codes "held" ∷ decimal h ∷ indexed_text x i ∷ []
attempt_fields (HeldLogLine h) = codes "held" ∷ decimal h ∷ codes "$log" ∷ []
attempt_fields (DownLine o x i) = codes "down" ∷ decimal o ∷ indexed_text x i ∷ []
attempt_fields (FullLine n) = codes "full" ∷ decimal n ∷ []

-- the lines of the attempts from number a on
abbrev pub attempt_lines : ℕ → List AttemptLine → List Line
attempt_lines a [] = []
attempt_lines a (x ∷ xs) = line (fields (decimal a ∷ attempt_fields x)) ∷ attempt_lines (suc a) xs

-- the account of an instance: its identifier, how it ended (none: it hasn't), and what is said of its attempts, in order
pub record Account : Type 0 where
  pub id : Data
  pub finish : Option End
  pub attempts : List AttemptLine

-- the lines of the account of instance k
abbrev pub account_lines : ℕ → Account → List Line
account_lines k a =
    line (fields (codes "inst" ∷ decimal k ∷ decimal (length a.attempts) ∷ end_text a.finish ∷ value_text a.id ∷ [])) ∷ attempt_lines 1 a.attempts

-- the lines of the accounts from instance k on
abbrev pub read_accounts_lines : ℕ → List Account → List Line
read_accounts_lines k [] = []
read_accounts_lines k (a ∷ as') = account_lines k a ++ read_accounts_lines (suc k) as'
