-- A log with the notes that its records tell, as the code makes it.
use Rattle.std.proofs.Common.{◌≡◌, ◌≤◌, ◌<◌, ◌+◌, ◌^◌, ℕ, zero, suc, List, [], ◌∷◌, length, map, get_or, ap, subst, ◌∙◌, arith}
use Rattle.std.proofs.lemmas.List.{length-map}
use Rattle.pgo_base.specs.Lookup.{Vars}
use Rattle.pgo_model.specs.Machine.{Note}
use Rattle.pgo_bundle.specs.declared.log.Account as accounts
use Rattle.pgo_bundle.specs.Accounts.{Account}
use Rattle.pgo_bundle.specs.BundleLog.{Version, LoggedNote, LoggedEntry, BundleLog}
use Rattle.pgo_bundle.specs.Migrated.{migrated_from, all_told}
use Rattle.pgo_bundle.specs.Noted.{AllFew, noted, place_of, placed_from}
use Rattle.pgo_bundle.specs.Positions.{by_position}
use Rattle.pgo_bundle.specs.RunLog.{notes_at}
use Rattle.pgo_bundle.specs.View.{account_view, attempt_view}
use Rattle.pgo_bundle.proofs.MigratedLaws.{first_is, placed_is}

-- numbers of attempts are below 2 ^ 32
pub few_at : (xs : List accounts.Account) (k : ℕ) (d : accounts.Account) → AllFew (map account_view xs) → k < length xs → length (get_or xs k d).attempts < 2 ^ 32
few_at [] k d h b = absurd (omega (arith, b))
few_at (x ∷ xs) zero d h b = subst (λ n. n < 2 ^ 32) (length-map x.attempts attempt_view) h.0
few_at (x ∷ xs) (suc k) d h b = few_at xs k d h.1 (omega (arith, b))

-- the log with its notes
pub noted_is : (l : BundleLog) (version : Version) (start : Vars) (notes : List LoggedNote) (entries : List LoggedEntry) (accounts : List Account) (status : ℕ) (told : List Note) (count : ℕ) (t t1 t2 : List (List LoggedNote))
    (es : List LoggedEntry) → version ≡ l.version → start ≡ l.start → accounts ≡ l.accounts → status ≡ l.status → es ≡ l.entries → told ≡ all_told 0 l.accounts → count ≡ length es → t ≡ by_position 0 (suc count) told
    → t1 ≡ t → t2 ≡ t → notes ≡ place_of 0 t1 → entries ≡ placed_from 1 t2 es
    → record { version = version; start = start; notes = notes; entries = entries; accounts = accounts; status = status } ≡ noted l
noted_is l version start notes entries accounts status told count t t1 t2 es v s a n same ts size table first second ns rows =
    let fits : 1 + length es ≤ suc count = omega (arith, size) in
    let notes_are : notes ≡ notes_at 0 (all_told 0 l.accounts) = ns ∙ ap (place_of 0) (first ∙ table) ∙ first_is count told ∙ ap (notes_at 0) ts in
    let entries_are : entries ≡ migrated_from 1 (all_told 0 l.accounts) l.entries =
    rows ∙ ap (λ z. placed_from 1 z es) (second ∙ table) ∙ placed_is 1 (suc count) told es fits ∙ (λ i. migrated_from 1 (ts i) (same i))
    in
    λ i. record { version = v i; start = s i; notes = notes_are i; entries = entries_are i; accounts = a i; status = n i }
