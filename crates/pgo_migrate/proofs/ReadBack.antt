-- What is written of a log that is brought over is the bundle of that log.
use Rattle.std.proofs.Common.{◌≡◌, ◌≤◌, ◌<◌, ◌+◌, ℕ, suc, Bool, true, false, nat_eq, List, [], ◌∷◌, ◌++◌, length, None, refl, sym, ap, subst, arith}
use Rattle.std.specs.Prelude.{if◌then◌else◌}
use Rattle.pgo_base.specs.Lookup.{Vars}
use Rattle.pgo_model.specs.BundleParts.{count_limit}
use Rattle.pgo_model.specs.Machine.{Note}
use Rattle.pgo_model.specs.Module.{Module}
use Rattle.pgo_model.specs.ModuleText.{flatten, Text}
use Rattle.pgo_module_spells.specs.Spells.{SpellsModule}
use Rattle.pgo_bundle.specs.Accounts.{AttemptLine, StepLine, NoteLine, HeldLine, HeldLogLine, DownLine, FullLine, Account}
use Rattle.pgo_bundle.specs.BundleLog.{LoggedNote, LoggedEntry, BundleLog}
use Rattle.pgo_bundle.specs.Lines.{BundleText, log_lines}
use Rattle.pgo_bundle.specs.Migrated.{note_told, notes_told, all_told, migrated_from, migrated}
use Rattle.pgo_bundle.specs.RunLog.{notes_at}
use Rattle.pgo_bundle.specs.Untied.{untied_at}
use Rattle.pgo_log_text.specs.IsBundle.{AreAccounts, AreLogged, AreNotes, HasForm, IsBundle, IsLogText}

-- numbers of instances and attempts are below 2^32
abbrev AreTold : List Note → Type 0
AreTold [] = Unit {0}
AreTold (n ∷ ns) = (n.instance < count_limit) × (n.attempt < count_limit) × AreTold ns

both_told : (ns ms : List Note) → AreTold ns → AreTold ms → AreTold (ns ++ ms)
both_told [] ms h g = g
both_told (n ∷ ns) ms h g = (h.0, h.1, both_told ns ms h.2 g)

one_told : (k a : ℕ) (x : AttemptLine) → k < count_limit → a < count_limit → AreTold (note_told k a x)
one_told k a (StepLine n) h g = tt
one_told k a (NoteLine kind p) h g = (h, g, tt)
one_told k a (HeldLine o x i) h g = tt
one_told k a (HeldLogLine o) h g = tt
one_told k a (DownLine o x i) h g = tt
one_told k a (FullLine n) h g = tt

notes_few : (k i m : ℕ) (xs : List AttemptLine) → k < count_limit → m < count_limit → i + length xs ≤ m → AreTold (notes_told k (suc i) xs)
notes_few k i m [] h g fits = tt
notes_few k i m (x ∷ xs) h g fits = both_told (note_told k (suc i) x) (notes_told k (suc (suc i)) xs) (one_told k (suc i) x h (omega (arith, g, fits))) (notes_few k (suc i) m xs h g (omega (arith, fits)))

all_few : (k m : ℕ) (cs : List Account) → m < count_limit → k + length cs ≤ m → AreAccounts cs → AreTold (all_told k cs)
all_few k m [] h fits accounts = tt
all_few k m (c ∷ cs) h fits accounts =
    let here : k < count_limit = omega (arith, h, fits) in
    let size : 0 + length c.attempts ≤ length c.attempts = omega arith in
    both_told (notes_told k 1 c.attempts) (all_told (suc k) cs) (notes_few k 0 (length c.attempts) c.attempts here accounts.0.count size) (all_few (suc k) m cs h (omega (arith, fits)) accounts.1)

notes_are : (p : ℕ) (ns : List Note) → AreTold ns → AreNotes (notes_at p ns)
notes_are p [] h = tt
notes_are p (n ∷ ns) h = go (nat_eq n.position p) (record { instance = n.instance; attempt = n.attempt; kind = n.kind }) h.0 h.1 (notes_are p ns h.2)
  where
    go : (b : Bool) (m : LoggedNote) → m.instance < count_limit → m.attempt < count_limit → AreNotes (notes_at p ns) → AreNotes (if b then m ∷ notes_at p ns else notes_at p ns)
    go true m i a h = (record { instance = i; attempt = a }, h)
    go false m i a h = h

entries_are : (i : ℕ) (ns : List Note) (es : List LoggedEntry) → AreTold ns → AreLogged es → AreLogged (migrated_from i ns es)
entries_are i ns [] told h = tt
entries_are i ns (e ∷ es) told h = (record { entry = h.0.entry; prints = tt; notes = notes_are i ns told }, entries_are (suc i) ns es told h.1)

entries_many : (i : ℕ) (ns : List Note) (es : List LoggedEntry) → length (migrated_from i ns es) ≡ length es
entries_many i ns [] = refl
entries_many i ns (e ∷ es) = ap suc (entries_many (suc i) ns es)

pub read_back : (text : List ℕ) (m : Module) (consts : Vars) (l : BundleLog) → IsBundle text m consts l → untied_at (migrated l) ≡ None → length (Text m) ≤ 4294967295
    → SpellsModule (Text m) m
    → IsBundle (BundleText m consts (migrated l)) m consts (migrated l)
read_back text m consts l b tied short spells =
    let log = b.form.log in
    let ns : List Note = all_told 0 l.accounts in
    let most : 0 + length l.accounts ≤ length l.accounts = omega arith in
    let told : AreTold ns = all_few 0 (length l.accounts) l.accounts log.instance_count most log.accounts in
    let text_of : IsLogText (flatten (log_lines (migrated l))) m.variables (migrated l) = record {
      text_is = refl;
      variables = log.variables;
      variable_count = log.variable_count;
      entry_count = subst (λ n. n < count_limit) (sym (entries_many 1 ns l.entries)) log.entry_count;
      instance_count = log.instance_count;
      start = log.start;
      notes = notes_are 0 ns told;
      entries = entries_are 1 ns l.entries told log.entries;
      told = tt;
      accounts = log.accounts;
      status_is = log.status_is;
    } in
    let form : HasForm (BundleText m consts (migrated l)) m consts (migrated l) = record {
      module_text = Text m;
      log_text = flatten (log_lines (migrated l));
      text_is = refl;
      module_count = (let few : length (Text m) < count_limit = omega (arith, short) in few);
      spells = spells;
      names = b.form.names;
      constant_count = b.form.constant_count;
      constants = b.form.constants;
      log = text_of;
    } in
    record { form = form; tied = tied }
