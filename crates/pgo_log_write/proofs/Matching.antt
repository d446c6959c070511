-- The accounts in memory against those of the machine.
use Rattle.std.proofs.Common.{◌≡◌, ◌+◌, ℕ, suc, Bool, true, false, ◌||◌, ◌&&◌, List, [], ◌∷◌, ◌++◌, length, map, Option, Some, None, refl, ap, sym, ◌∙◌, arith}
use Rattle.std.proofs.lemmas.List.{length-map}
use Rattle.std.specs.Prelude.{codes, decimal, option_map, nat_eq, if◌then◌else◌}
use Rattle.pgo_model.specs.Accounts.{journal}
use Rattle.pgo_model.specs.Bundle.{fields, end_text, resource_text, record_fields, record_lines}
use Rattle.pgo_model.specs.Core as core
use Rattle.pgo_model.specs.Log.{Effect}
use Rattle.pgo_model.specs.Machine.{Finished, Record, Step, Noted, Held, Down, Full, nth, state_at}
use Rattle.pgo_model.specs.ModuleText.{line}
use Rattle.pgo_model.specs.System.{System, Member, Resource}
use Rattle.pgo_model.specs.ValueText.{value_text}
use Rattle.pgo_bundle.specs.Accounts.{HeldLogLine, DownLine, attempt_fields, attempt_lines, read_accounts_lines}
use Rattle.pgo_bundle.specs.RunLog.{attempt_of, held_by, down_at, accounts_from}
use Rattle.pgo_meaning.specs.System.{member_of}
use Rattle.pgo_bound.specs.State.{id_of}
use Rattle.pgo_syntax.specs.declared.bound.Instance.{Instance}
use Rattle.pgo_journal.specs.declared.finished.Account.{Account}
use Rattle.pgo_journal.specs.declared.finished.Finished as code
use Rattle.pgo_log_write.specs.IsFinished.{IsFinished, ended, record_of, records_of}
use Rattle.pgo_log_write.specs.Lines.{end_view, accounts_rows}
use Rattle.pgo_log_write.specs.Status.{is_stopped, is_full, is_done, any_stopped, any_full, all_done, status_at}
use Rattle.pgo_log_write.proofs.Ends.{done_is}

end_back : (e : Option core.End) → end_view (option_map ended e) ≡ e
end_back None = refl
end_back (Some core.Done) = refl
end_back (Some core.Stopped) = refl
end_back (Some core.JournalFull) = refl
end_back (Some core.Spent) = refl

-- a record's fields are those of its line
held_same : (b : Bool) (h : ℕ) (o : Option Resource) → codes "held" ∷ decimal h ∷ (if b then codes "$log" else resource_text o) ∷ [] ≡ attempt_fields (if b then HeldLogLine h else held_by h o)
held_same true h o = refl
held_same false h None = refl
held_same false h (Some q) = refl

down_same : (b : Bool) (o : ℕ) (q : Option Resource) → codes "down" ∷ decimal o ∷ (if b then codes "$log" else resource_text q) ∷ [] ≡ attempt_fields (if b then DownLine o (codes "$log") None else down_at o q)
down_same true o q = refl
down_same false o None = refl
down_same false o (Some q) = refl

fields_same : (rs : List Resource) (x : Record) → record_fields rs x ≡ attempt_fields (attempt_of rs x)
fields_same rs (Step n) = refl
fields_same rs (Noted kind p) = refl
fields_same rs (Held r h) = held_same (nat_eq r journal) h (nth rs r)
fields_same rs (Down r o) = down_same (nat_eq r journal) o (nth rs r)
fields_same rs (Full n) = refl

records_are : (rs : List Resource) (a : ℕ) (xs : List Record) → record_lines rs a xs ≡ attempt_lines a (map (attempt_of rs) xs)
records_are rs a [] = refl
records_are rs a (x ∷ xs) =
    let first = fields_same rs x in
    let rest = records_are rs (suc a) xs in
    λ i. line (fields (decimal a ∷ first i)) ∷ rest i

module _ (y : System) (settings : core.Settings) (g : Finished Effect) where
  -- the accounts of the members from k on
  abbrev Match : {M : Type 0} → ℕ → List M → List Account → Type 0
  Match k [] [] = Unit {0}
  Match k [] (a ∷ list) = ⊥
  Match k (i ∷ is) [] = ⊥
  Match k (i ∷ is) (a ∷ list) = (records_of a ≡ g.records k) × (a.end ≡ option_map ended (core.end_of y settings g k)) × Match (suc k) is list

  abbrev Records : ℕ → List Account → Type 0
  Records k list = (j n : ℕ) (a : Account) → n ≡ k + j → nth list j ≡ Some a → records_of a ≡ g.records n

  abbrev Ends : ℕ → List Account → Type 0
  Ends k list = (j n : ℕ) (a : Account) → n ≡ k + j → nth list j ≡ Some a → a.end ≡ option_map ended (core.end_of y settings g n)

  matches : {M : Type 0} (k : ℕ) (is : List M) (list : List Account) → length list ≡ length is → Records k list → Ends k list → Match k is list
  matches k [] [] e r d = tt
  matches k [] (a ∷ list) e r d = omega (arith, e)
  matches k (i ∷ is) [] e r d = omega (arith, e)
  matches k (i ∷ is) (a ∷ list) e r d =
      let here : k ≡ k + 0 = omega arith in
      let rest : length list ≡ length is = omega (arith, e) in (
        r 0 k a here refl,
        d 0 k a here refl,
        matches (suc k) is list rest
            (λ j n b h q. r (suc j) n b (let s : n ≡ k + suc j = omega (arith, h) in s) q)
            (λ j n b h q. d (suc j) n b (let s : n ≡ k + suc j = omega (arith, h) in s) q),
      )

  pub all_match : {M : Type 0} (f : code.Finished) (is : List M) → IsFinished y settings g f → length f.accounts ≡ length is → Match 0 is f.accounts
  all_match f is h e =
      matches 0 is f.accounts e
      (λ j n a s q. h.records j a q ∙ ap g.records (let t : j ≡ n = omega (arith, s) in t))
      (λ j n a s q. h.ends j a q ∙ ap (λ m. option_map ended (core.end_of y settings g m)) (let t : j ≡ n = omega (arith, s) in t))

  -- ---- the lines

  pub accounts_are : (k : ℕ) (is : List Instance) (list : List Account) → Match k is list → accounts_rows y.resources k is list ≡ read_accounts_lines k (accounts_from y settings g k (map member_of is))
  accounts_are k [] [] m = refl
  accounts_are k [] (a ∷ list) m = absurd m
  accounts_are k (i ∷ is) [] m = absurd m
  accounts_are k (i ∷ is) (a ∷ list) m =
      let size : length a.records ≡ length (map (attempt_of y.resources) (g.records k))
      = sym (length-map a.records record_of) ∙ ap length m.0 ∙ sym (length-map (g.records k) (attempt_of y.resources))
      in
      let end : end_view a.end ≡ core.end_of y settings g k = ap end_view m.1 ∙ end_back (core.end_of y settings g k) in
      let records : record_lines y.resources 1 (records_of a) ≡ attempt_lines 1 (map (attempt_of y.resources) (g.records k)) = ap (record_lines y.resources 1) m.0 ∙ records_are y.resources 1 (g.records k) in
      λ j.
      (line (fields (codes "inst" ∷ decimal k ∷ decimal (size j) ∷ end_text (end j) ∷ value_text (id_of i) ∷ []))
      ∷ records j)
      ++ accounts_are (suc k) is list m.2 j

  -- ---- the status

  stopped_first : (e : Option core.End) (es : List (Option core.End)) → is_stopped (option_map ended e) || core.has_stopped es ≡ core.has_stopped (e ∷ es)
  stopped_first None es = refl
  stopped_first (Some core.Done) es = refl
  stopped_first (Some core.Stopped) es = refl
  stopped_first (Some core.JournalFull) es = refl
  stopped_first (Some core.Spent) es = refl

  full_first : (e : Option core.End) (es : List (Option core.End)) → is_full (option_map ended e) || core.has_full es ≡ core.has_full (e ∷ es)
  full_first None es = refl
  full_first (Some core.Done) es = refl
  full_first (Some core.Stopped) es = refl
  full_first (Some core.JournalFull) es = refl
  full_first (Some core.Spent) es = refl

  stopped_are : (k : ℕ) (is : List Member) (list : List Account) → Match k is list → any_stopped list ≡ core.has_stopped (core.last_ends_from g k is)
  stopped_are k [] [] m = refl
  stopped_are k [] (a ∷ list) m = absurd m
  stopped_are k (i ∷ is) [] m = absurd m
  stopped_are k (i ∷ is) (a ∷ list) m =
      (λ j. is_stopped (option_map ended (core.end_by (m.0 j))) || stopped_are (suc k) is list m.2 j)
      ∙ stopped_first (core.end_by (g.records k)) (core.last_ends_from g (suc k) is)

  full_are : (k : ℕ) (is : List Member) (list : List Account) → Match k is list → any_full list ≡ core.has_full (core.last_ends_from g k is)
  full_are k [] [] m = refl
  full_are k [] (a ∷ list) m = absurd m
  full_are k (i ∷ is) [] m = absurd m
  full_are k (i ∷ is) (a ∷ list) m =
      (λ j. is_full (option_map ended (core.end_by (m.0 j))) || full_are (suc k) is list m.2 j)
      ∙ full_first (core.end_by (g.records k)) (core.last_ends_from g (suc k) is)

  done_are : (k : ℕ) (is : List Member) (list : List Account) → Match k is list
      → all_done list ≡ core.are_at_done y (state_at (core.rules_of y settings) y.start g.entries (length g.entries)) k is
  done_are k [] [] m = refl
  done_are k [] (a ∷ list) m = absurd m
  done_are k (i ∷ is) [] m = absurd m
  done_are k (i ∷ is) (a ∷ list) m =
      let last = state_at (core.rules_of y settings) y.start g.entries (length g.entries) in
      let here : is_done a.end ≡ core.is_at_done y k last
      = ap is_done m.1 ∙ done_is (core.is_at_done y k last) (g.records k) (nat_eq (length (g.records k)) settings.attempts)
      in
      λ j. here j && done_are (suc k) is list m.2 j

  pub status_is : (f : code.Finished) → IsFinished y settings g f → status_at f.accounts ≡ core.status_where false y settings g
  status_is f h =
      let m = all_match f y.members h h.count in
      let stopped = stopped_are 0 y.members f.accounts m in
      let full = full_are 0 y.members f.accounts m in
      let done = done_are 0 y.members f.accounts m in
      λ j. if stopped j then 20 else if full j then 23 else if done j then 0 else 21
