-- A log that was read is brought over, or the line of the place is named where it isn't tied.
use Rattle.std.proofs.Common.{◌≡◌, ◌≤◌, ◌<◌, ◌+◌, ◌-◌, ◌^◌, ℕ, min, List, [], ◌∷◌, ◌++◌, length, map, Option, Some, None, sym, ap, subst, ◌∙◌, append_assoc, Result, Ok, Err}
use Rattle.std.specs.Prelude.{IfOk}
use Rattle.std.proofs.lemmas.List.{length-map}
use Rattle.pgo_base.specs.Lookup.{Vars}
use Rattle.pgo_model.specs.Module.{Module}
use Rattle.pgo_model.specs.ModuleText.{flatten, Text}
use Rattle.pgo_bundle.specs.declared.log.LoggedEntry as entries
use Rattle.pgo_bundle.specs.Accounts.{Account}
use Rattle.pgo_bundle.specs.BundleLog.{One, Two, BundleLog}
use Rattle.pgo_bundle.specs.Lines.{BundleText, head_lines, log_lines}
use Rattle.pgo_bundle.specs.Migrated.{migrated}
use Rattle.pgo_bundle.specs.Noted.{AllFew, AreFew, noted}
use Rattle.pgo_bundle.specs.Places.{lines_before}
use Rattle.pgo_bundle.specs.Untied.{Untied, untied_at}
use Rattle.pgo_bundle.specs.View.{logged_entry_view}
use Rattle.pgo_bundle.proofs.MigratedLaws.{checked_same, lines_same, untied_same}
use Rattle.pgo_bundle.proofs.PlaceLaws.{migrated_line}
use Rattle.pgo_bundle.proofs.Saturated.{sum_behind, sum_one}
use Rattle.pgo_log_text.specs.declared.errors.LogStop.{LogStop}
use Rattle.pgo_log_text.specs.declared.errors.LogStop.TheVariants.{BadLog, NoMemory}
use Rattle.pgo_log_text.specs.IsBundle.{AreAccounts, IsTiedAs}
use Rattle.pgo_log_text.specs.LineNumbers.{newlines, IsLineOf, NamesLineOf}
use Rattle.pgo_log_text.specs.ReadBundle.{IsReadBundle, IsOnlyBundle, IsRefused, HasOnlyForm, NamesUntied, StartsLog, line_of}
use Rattle.pgo_log_text.proofs.LineCounts.{is_line}
use Rattle.pgo_log_write.specs.LogRows.{as_two}
use Rattle.pgo_migrate.specs.Migrates.{Migrates, IsNotMigrated, IsOfTwo, IsUntiedFrom, IsUntiedLine, IsWritten}

-- ---- numbers of what was read

all_few : (xs : List Account) → AreAccounts xs → AllFew xs
all_few [] h = tt
all_few (x ∷ xs) h = (h.0.count, all_few xs h.1)

pub few : (text : List ℕ) (m : Module) (consts : Vars) (l : BundleLog) → IsReadBundle text m consts l → AreFew l.accounts
few text m consts l b = (b.form.log.instance_count, all_few l.accounts b.form.log.accounts)

pub few_entries : (text : List ℕ) (m : Module) (consts : Vars) (l : BundleLog) (es : List entries.LoggedEntry) → l.entries ≡ map logged_entry_view es → IsReadBundle text m consts l → length es < 2 ^ 32
few_entries text m consts l es is b =
    let same = ap length is ∙ length-map es logged_entry_view in
    subst (λ n. n < 2 ^ 32) same b.form.log.entry_count

-- two things of a value, if there is one
pub both_ok : {T E : Type 0} (r : Result T E) (P Q R : T → Type 0) → ((t : T) → P t → Q t → R t) → IfOk r P → IfOk r Q → IfOk r R
both_ok (Ok t) P Q R f h g = f t h g
both_ok (Err e) P Q R f h g = tt

-- ---- a log of version 1

-- its notes told, it is written
pub is_written : (m : Module) (consts : Vars) (l k : BundleLog) (o : Option Untied) (written : List ℕ) → k ≡ noted l → o ≡ untied_at k → o ≡ None → written ≡ BundleText m consts (as_two k) → length (Text m) ≤ 4294967295
    → IsWritten m consts l written
is_written m consts l k o written is at none text short = (sym (untied_same l) ∙ ap untied_at (sym is) ∙ sym at ∙ none, text ∙ ap (λ z. BundleText m consts (as_two z)) is, short)

-- it isn't tied
pub is_untied : (l k : BundleLog) (o : Option Untied) (u : Untied) (first count n : ℕ) → l.version ≡ One → k ≡ noted l → o ≡ untied_at k → o ≡ Some u → count ≡ min (lines_before k u) (2 ^ 64 - 1)
    → n ≡ min (first + count) (2 ^ 64 - 1) → IsUntiedFrom l first (BadLog n)
is_untied l k o u first count n one is at some lines sum =
    let size : lines_before k u ≡ lines_before l u = ap (λ z. lines_before z u) is ∙ lines_same l u one in
    (u, sym (untied_same l) ∙ ap untied_at (sym is) ∙ sym at ∙ some, sum_behind (2 ^ 64 - 1) first (lines_before k u) count n lines sum ∙ ap (λ z. min (first + z) (2 ^ 64 - 1)) size)

-- ---- what is told of a text

module _ (text : List ℕ) (m : Module) (consts : Vars) (l : BundleLog) (bundle : IsReadBundle text m consts l) (only : IsOnlyBundle text m consts l) where
  pub migrates : (written : List ℕ) → l.version ≡ One → (untied_at (migrated l) ≡ None → length (Text m) ≤ 4294967295 → IsReadBundle (BundleText m consts (migrated l)) m consts (migrated l)) → IsWritten m consts l written
      → Migrates text written
  migrates written one back h = record {
    m = m;
    consts = consts;
    log = l;
    bundle = bundle;
    only = only;
    one = one;
    tied = h.0;
    written_is = h.1;
    short = h.2;
    reads = subst (λ t. IsReadBundle t m consts (migrated l)) (sym h.1) (back h.0 h.2);
    checked = checked_same l;
  }

  -- what is brought over of the text is this log
  pub same_log : (written : List ℕ) (h : Migrates text written) → h.log ≡ l
  same_log written h = (only h.m h.consts h.log h.bundle).2

  pub not_untied : (first : ℕ) (stop : LogStop) → IsUntiedFrom l first stop → IsNotMigrated text stop
  not_untied first (BadLog n) h = λ written k.
      let tied = ap (λ z. untied_at (migrated z)) (sym (same_log written k)) ∙ k.tied in
      let both = sym h.1 ∙ tied in
      absurd (cc)
  not_untied first NoMemory h = tt

  pub not_two : (stop : LogStop) → l.version ≡ Two → IsNotMigrated text stop
  not_two (BadLog n) two = λ written k.
      let both = sym k.one ∙ ap (λ z. z.version) (same_log written k) ∙ two in
      absurd (cc)
  not_two NoMemory two = tt

  pub one_not_two : (stop : LogStop) → l.version ≡ One → IsOfTwo text stop
  one_not_two (BadLog n) one = λ k cs other b two.
      let both = sym two ∙ ap (λ z. z.version) (only k cs other b).2 ∙ one in
      absurd (cc)
  one_not_two NoMemory one = tt

  pub two_not_one : (stop : LogStop) → l.version ≡ Two → IsUntiedLine text stop
  two_not_one (BadLog n) two = λ k cs other u before b one at is.
      let both = sym one ∙ ap (λ z. z.version) (only k cs other b).2 ∙ two in
      absurd (cc)
  two_not_one NoMemory two = tt

  pub untied_line : (first : ℕ) (stop : LogStop) → StartsLog text l first → IsUntiedFrom l first stop → IsUntiedLine text stop
  untied_line first (BadLog n) starts h = λ k cs other u before b one at is.
      let same : other ≡ l = (only k cs other b).2 in
      let start = starts before (is ∙ ap (λ z. before ++ flatten (log_lines z)) same) in
      let place : h.0 ≡ u = some_same (sym h.1 ∙ ap (λ z. untied_at (migrated z)) (sym same) ∙ at) in
      let size : lines_before l h.0 ≡ lines_before other u = λ i. lines_before (sym same i) (place i) in
      sum_one (2 ^ 64 - 1) (1 + newlines before) (lines_before l h.0) first n start h.2 ∙ ap (λ z. min (1 + newlines before + z) (2 ^ 64 - 1)) size
    where
      some_same : {u v : Untied} → Some u ≡ Some v → u ≡ v
      some_same e = cc
  untied_line first NoMemory starts h = tt

  -- of no text of this form the records aren't tied
  pub named_untied : HasOnlyForm text m consts l → (stop : LogStop) → NamesUntied text stop
  named_untied alone (BadLog n) = λ k cs other u before form two at is.
      let same : other ≡ l = (alone k cs other form).2 in
      let version : l.version ≡ Two = ap (λ z. z.version) (sym same) ∙ two in
      let tied : untied_at l ≡ None = subst (λ v. IsTiedAs v l) version bundle.tied in
      let both : Some u ≡ None = sym at ∙ ap untied_at same ∙ tied in
      absurd (cc)
  named_untied alone NoMemory = tt

  -- its line is one of the text
  pub untied_there : (first : ℕ) (stop : LogStop) → StartsLog text l first → IsUntiedFrom l first stop → NamesLineOf text stop
  untied_there first (BadLog n) starts h =
      let head : List ℕ = flatten (head_lines l.version consts (length bundle.form.module_text)) in
      let before : List ℕ = head ++ bundle.form.module_text in
      let is : text ≡ before ++ flatten (log_lines l) =
      bundle.form.text_is ∙ ap (λ z. head ++ (bundle.form.module_text ++ z)) bundle.form.log.text_is ∙ sym (append_assoc head bundle.form.module_text (flatten (log_lines l)))
      in
      let line : n ≡ line_of before l h.0 = sum_one (2 ^ 64 - 1) (1 + newlines before) (lines_before l h.0) first n (starts before is) h.2 in
      subst (IsLineOf text) (sym line) (is_line text before l h.0 is (migrated_line l h.0 h.1))
  untied_there first NoMemory starts h = tt

-- ---- a text that isn't read

pub not_read : (text : List ℕ) (stop : LogStop) → IsRefused text stop → IsNotMigrated text stop
not_read text (BadLog n) h = λ written k. h k.m k.consts k.log k.bundle
not_read text NoMemory h = tt

pub not_read_two : (text : List ℕ) (stop : LogStop) → IsRefused text stop → IsOfTwo text stop
not_read_two text (BadLog n) h = λ m consts l b two. absurd (h m consts l b)
not_read_two text NoMemory h = tt

pub not_read_untied : (text : List ℕ) (stop : LogStop) → IsRefused text stop → IsUntiedLine text stop
not_read_untied text (BadLog n) h = λ m consts l u before b one at is. absurd (h m consts l b)
not_read_untied text NoMemory h = tt
