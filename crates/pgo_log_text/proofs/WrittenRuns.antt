-- The bundle of a run that can be written is read, of its module, its constants and its log.
use Rattle.std.proofs.Common.{◌≡◌, ◌<◌, ◌^◌, ◌⊎◌, inl, inr, ℕ, suc, Bool, true, false, nat_eq, List, [], ◌∷◌, length, map, Some, None, refl, sym, ap, subst}
use Rattle.std.specs.Prelude.{codes, if◌then◌else◌}
use Rattle.std.proofs.lemmas.Bool.{eq-eqb, ne_eqb}
use Rattle.std.proofs.lemmas.List.{length-map}
use Rattle.pgo_base.specs.Lookup.{Vars}
use Rattle.pgo_model.specs.System.{System, Member, Resource}
use Rattle.pgo_model.specs.Machine.{Entry, Note, Record, Step, Noted, Held, Down, Full, Finished, nth}
use Rattle.pgo_model.specs.Accounts.{journal}
use Rattle.pgo_model.specs.Log.{Change, Effect}
use Rattle.pgo_model.specs.Core.{Settings}
use Rattle.pgo_model.specs.Module.{Module}
use Rattle.pgo_model.specs.ModuleText.{flatten, Text}
use Rattle.pgo_bundle.specs.Lines.{BundleText}
use Rattle.pgo_bundle.specs.RunLog.{unowned, entry_read, notes_at, logged_from, attempt_of, held_by, down_at, accounts_from, run_log}
use Rattle.pgo_log_text.specs.IsBundle.{IsCanonicalValue, HeldLogLine, DownLine, log_lines, IsAttemptLine, AreAttemptLines, AreAccounts, AreChanges, IsEntry, AreNotes, AreLogged}
use Rattle.pgo_log_text.specs.ReadBundle.{IsReadBundle}
use Rattle.pgo_log_text.specs.WrittenRun.{IsWrittenChange, IsWrittenEntry, IsWrittenResource, IsWrittenRecord, IsWrittenRun}

-- ---- entries and notes

changes_are : (cs : List Change) → ((j : ℕ) (c : Change) → nth cs j ≡ Some c → IsWrittenChange c) → AreChanges (map unowned cs)
changes_are [] h = tt
changes_are (c ∷ cs) h =
    let first = h 0 c refl in
    (record { variable = first.variable; index = first.index; owner = refl; value = first.value }, changes_are cs (λ j. h (suc j)))

entry_is : (e : Entry Effect) → IsWrittenEntry e → IsEntry (entry_read e)
entry_is e h = record {
  instance = h.instance;
  attempt = h.attempt;
  label = h.label;
  next = h.next;
  count = subst (λ n. n < 2 ^ 32) (sym (length-map e.change.changes unowned)) h.count;
  changes = changes_are e.change.changes h.changes;
  prints = refl;
}

notes_are : (p : ℕ) (ns : List Note) → ((j : ℕ) (n : Note) → nth ns j ≡ Some n → (n.instance < 2 ^ 32) × (n.attempt < 2 ^ 32)) → AreNotes (notes_at p ns)
notes_are p [] h = tt
notes_are p (n ∷ ns) h = go (notes_are p ns (λ j. h (suc j))) (nat_eq n.position p)
  where
    go : AreNotes (notes_at p ns) → (b : Bool) → AreNotes (if b then record { instance = n.instance; attempt = n.attempt; kind = n.kind } ∷ notes_at p ns else notes_at p ns)
    go rest true = let first = h 0 n refl in (record { instance = first.0; attempt = first.1 }, rest)
    go rest false = rest

entries_are : (i : ℕ) (ns : List Note) (es : List (Entry Effect)) → ((j : ℕ) (n : Note) → nth ns j ≡ Some n → (n.instance < 2 ^ 32) × (n.attempt < 2 ^ 32))
    → ((p : ℕ) (e : Entry Effect) → nth es p ≡ Some e → IsWrittenEntry e) → AreLogged (logged_from i ns es)
entries_are i ns [] g h = tt
entries_are i ns (e ∷ es) g h =
    let first = h 0 e refl in
    (record { entry = entry_is e first; prints = first.prints; notes = notes_are i ns g }, entries_are (suc i) ns es g (λ p. h (suc p)))

many_entries : (i : ℕ) (ns : List Note) (es : List (Entry Effect)) → length (logged_from i ns es) ≡ length es
many_entries i ns [] = refl
many_entries i ns (e ∷ es) = ap suc (many_entries (suc i) ns es)

-- ---- records

held_is : (rs : List Resource) (r h : ℕ) → h < 2 ^ 32 → (b : Bool) → nat_eq r journal ≡ b → (r ≡ journal) ⊎ IsWrittenResource rs r → IsAttemptLine (if b then HeldLogLine h else held_by h (nth rs r))
held_is rs r h few true e g = few
held_is rs r h few false e (inl j) = absurd (let f = eq-eqb r journal j in cc)
held_is rs r h few false e (inr w) = subst (λ q. IsAttemptLine (held_by h q)) (sym w.found) (few, w.variable, w.index)

record_is : (rs : List Resource) (x : Record) → IsWrittenRecord rs x → IsAttemptLine (attempt_of rs x)
record_is rs (Step n) h = h
record_is rs (Noted kind p) h = h
record_is rs (Held r k) h = held_is rs r k h.0 (nat_eq r journal) refl h.1
record_is rs (Down r o) h =
    let other = ne_eqb r journal h.1 in
    subst (λ b. IsAttemptLine (if b then DownLine o (codes "$log") None else down_at o (nth rs r))) (sym other)
    (subst (λ q. IsAttemptLine (down_at o q)) (sym h.2.found) (h.0, h.2.variable, h.2.index))
record_is rs (Full n) h = h

records_are : (rs : List Resource) (xs : List Record) → ((i : ℕ) (x : Record) → nth xs i ≡ Some x → IsWrittenRecord rs x) → AreAttemptLines (map (attempt_of rs) xs)
records_are rs [] h = tt
records_are rs (x ∷ xs) h = (record_is rs x (h 0 x refl), records_are rs xs (λ i. h (suc i)))

-- ---- accounts

module _ (y : System) (settings : Settings) (f : Finished Effect) (few : (k : ℕ) → length (f.records k) < 2 ^ 32)
    (told : (k i : ℕ) (x : Record) → nth (f.records k) i ≡ Some x → IsWrittenRecord y.resources x) where
  accounts_are : (k : ℕ) (is : List Member) → ((j : ℕ) (i : Member) → nth is j ≡ Some i → IsCanonicalValue i.id) → AreAccounts (accounts_from y settings f k is)
  accounts_are k [] h = tt
  accounts_are k (i ∷ is) h = (
    record {
      id = h 0 i refl;
      count = subst (λ n. n < 2 ^ 32) (sym (length-map (f.records k) (attempt_of y.resources))) (few k);
      attempts = records_are y.resources (f.records k) (told k);
    },
    accounts_are (suc k) is (λ j. h (suc j)),
  )

  many_accounts : (k : ℕ) (is : List Member) → length (accounts_from y settings f k is) ≡ length is
  many_accounts k [] = refl
  many_accounts k (i ∷ is) = ap suc (many_accounts (suc k) is)

-- ---- the whole

-- the bytes of a written run are the bundle of its module, its constants and its log
pub written_run_is_read : (m : Module) (consts : Vars) (y : System) (settings : Settings) (f : Finished Effect) (status : ℕ)
    → IsWrittenRun m consts y settings f status → IsReadBundle (BundleText m consts (run_log y settings f status)) m consts (run_log y settings f status)
written_run_is_read m consts y settings f status h = record {
  form = record {
    module_text = Text m;
    log_text = flatten (log_lines (run_log y settings f status));
    text_is = refl;
    module_count = h.module_count;
    spells = h.spells;
    names = h.names;
    constant_count = h.constant_count;
    constants = h.constants;
    log = record {
      text_is = refl;
      variables = h.variables;
      variable_count = h.variable_count;
      entry_count = subst (λ n. n < 2 ^ 32) (sym (many_entries 1 f.notes f.entries)) h.entry_count;
      instance_count = subst (λ n. n < 2 ^ 32) (sym (many_accounts y settings f h.record_count h.records 0 y.members)) h.instance_count;
      start = h.start;
      notes = notes_are 0 f.notes h.notes;
      entries = entries_are 1 f.notes f.entries h.notes h.entries;
      told = tt;
      accounts = accounts_are y settings f h.record_count h.records 0 y.members h.members;
      status_is = h.status_is;
    };
  };
  tied = h.tied;
}
