-- The entries of a run as they are written: with what each printed, and the notes behind it.
use Rattle.std.specs.Prelude.{ℕ, suc, List, [], ◌∷◌}
use Rattle.pgo_model.specs.Machine.{Entry}
use Rattle.pgo_model.specs.Log.{Effect}
use Rattle.pgo_bundle.specs.BundleLog.{LoggedNote, LoggedEntry}
use Rattle.pgo_bundle.specs.Noted.{place_of}
use Rattle.pgo_bundle.specs.RunLog.{told_prints}

-- number i, where these are the notes of each place. Whose its components are stands in no line
abbrev pub run_entry : (i : ℕ) → List (List LoggedNote) → Entry Effect → LoggedEntry
run_entry i t e = record { entry = e; prints = told_prints e.change.prints; notes = place_of i t }

-- from number i on
abbrev pub run_entries : (i : ℕ) → List (List LoggedNote) → List (Entry Effect) → List LoggedEntry
run_entries i t [] = []
run_entries i t (e ∷ es) = run_entry i t e ∷ run_entries (suc i) t es
