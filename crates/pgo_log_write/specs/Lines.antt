-- The lines of accounts as they lie in memory.
use Rattle.std.specs.Prelude.{ℕ, suc, List, [], ◌∷◌, ◌++◌, length, codes, decimal}
use Rattle.pgo_model.specs.Bundle.{fields, end_text, record_lines}
use Rattle.pgo_model.specs.ModuleText.{Line, line}
use Rattle.pgo_model.specs.System.{Resource}
use Rattle.pgo_model.specs.ValueText.{value_text}
use Rattle.pgo_syntax.specs.declared.bound.Instance.{Instance}
use Rattle.pgo_bound.specs.State.{id_of}
use Rattle.pgo_journal.specs.declared.finished.Account.{Account}
pub use Rattle.pgo_bundle.specs.View.{end_view}
use Rattle.pgo_log_write.specs.IsFinished.{records_of}

-- the line and the records of instance k
abbrev pub account_rows : List Resource → ℕ → Instance → Account → List Line
account_rows rs k i a =
    line (fields (codes "inst" ∷ decimal k ∷ decimal (length a.records) ∷ end_text (end_view a.end) ∷ value_text (id_of i) ∷ []))
    ∷ record_lines rs 1 (records_of a)

-- those of the instances from k on that have an account
abbrev pub accounts_rows : List Resource → ℕ → List Instance → List Account → List Line
accounts_rows rs k [] list = []
accounts_rows rs k (i ∷ is) [] = []
accounts_rows rs k (i ∷ is) (a ∷ list) = account_rows rs k i a ++ accounts_rows rs (suc k) is list
