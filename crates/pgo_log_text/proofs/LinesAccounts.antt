-- The accounts of a log.
use Rattle.std.proofs.Common.{◌≡◌, ◌<◌, ◌≤◌, ◌^◌, ◌+◌, ℕ, suc, true, false, List, [], ◌∷◌, ◌++◌, length, map, decimal, Option, Some, None, refl, sym, ap, subst, ◌∙◌, append_assoc, arith}
use Rattle.std.specs.Prelude.{codes}
use Rattle.pgo_model.specs.ValueText.{value_text}
use Rattle.pgo_model.specs.ModuleText.{line, flatten}
use Rattle.pgo_model.specs.Core.{End, Done, Stopped, JournalFull, Spent}
use Rattle.pgo_model.specs.Bundle.{fields, end_text}
use Rattle.pgo_value_text.proofs.Steps.{if_some, bind_then, then_at, some_pair}
use Rattle.pgo_value_text.proofs.Runs.{expected}
use Rattle.pgo_log_text.specs.IsBundle.{attempt_lines, Account, account_lines, read_accounts_lines, AreAttemptLines, IsAccount, AreAccounts}
use Rattle.pgo_log_text.specs.Bytes.{begins}
use Rattle.pgo_log_text.specs.Lines.{end_word, account, accounts}
use Rattle.pgo_log_text.proofs.LinesFields.{this_field_some, this_field_finds, number_field_some, number_field_finds, last_value_some, last_value_finds}
use Rattle.pgo_log_text.proofs.LinesEntries.{flatten_append}
use Rattle.pgo_log_text.proofs.LinesTold.{word_some, word_finds}
use Rattle.pgo_log_text.proofs.LinesAttempts.{attempts_some, attempts_finds}
use Rattle.pgo_log_text.proofs.LinesParts.{texts, Each, PartText, parts_some, parts_finds}

-- ---- how an instance ended

end_word_some : (bs : List ℕ) (o : Option End) (r : List ℕ) → end_word bs ≡ Some (o, r) → bs ≡ end_text o ++ 32 ∷ r
unfolding end_word
end_word_some bs o r e =
    let G : Option End → Type 0 = λ o. bs ≡ end_text o ++ 32 ∷ r in
    if_some (begins (codes "done ") bs) _ _ (o, r) (G o) e (λ _ e. let w = word_some {A = Option End} (codes "done ") (Some Done) o bs r e in subst G w.1 w.0)
    (λ _ e. if_some (begins (codes "stopped ") bs) _ _ (o, r) (G o) e (λ _ e. let w = word_some {A = Option End} (codes "stopped ") (Some Stopped) o bs r e in subst G w.1 w.0)
    (λ _ e. if_some (begins (codes "full ") bs) _ _ (o, r) (G o) e (λ _ e. let w = word_some {A = Option End} (codes "full ") (Some JournalFull) o bs r e in subst G w.1 w.0)
    (λ _ e. if_some (begins (codes "spent ") bs) _ _ (o, r) (G o) e (λ _ e. let w = word_some {A = Option End} (codes "spent ") (Some Spent) o bs r e in subst G w.1 w.0)
    (λ _ e. let w = word_some {A = Option End} (codes "paused ") None o bs r e in subst G w.1 w.0))))

end_word_finds : (o : Option End) (r : List ℕ) → end_word (end_text o ++ 32 ∷ r) ≡ Some (o, r)
unfolding end_word
end_word_finds (Some Done) r = word_finds {A = Option End} (codes "done ") (Some Done) r
end_word_finds (Some Stopped) r = word_finds {A = Option End} (codes "stopped ") (Some Stopped) r
end_word_finds (Some JournalFull) r = word_finds {A = Option End} (codes "full ") (Some JournalFull) r
end_word_finds (Some Spent) r = word_finds {A = Option End} (codes "spent ") (Some Spent) r
end_word_finds None r = word_finds {A = Option End} (codes "paused ") None r

-- ---- an account

abbrev account_text : ℕ → Account → List ℕ
account_text k a = flatten (account_lines k a)

abbrev itself : Account → Account
itself a = a

account_nest : (k n w v f r : List ℕ) → (line (fields (codes "inst" ∷ k ∷ n ∷ w ∷ v ∷ [])) ++ f) ++ r ≡ codes "inst " ++ (k ++ 32 ∷ (n ++ 32 ∷ (w ++ 32 ∷ (v ++ 10 ∷ (f ++ r)))))
account_nest k n w v f r = simp append_assoc

account_joined : (b0 b1 b2 b3 b4 b5 k n w v f r : List ℕ) → b0 ≡ codes "inst " ++ b1 → b1 ≡ k ++ 32 ∷ b2 → b2 ≡ n ++ 32 ∷ b3 → b3 ≡ w ++ 32 ∷ b4 → b4 ≡ v ++ 10 ∷ b5 → b5 ≡ f ++ r
    → b0 ≡ (line (fields (codes "inst" ∷ k ∷ n ∷ w ∷ v ∷ [])) ++ f) ++ r
account_joined b0 b1 b2 b3 b4 b5 k n w v f r e0 e1 e2 e3 e4 e5 =
    e0 ∙ ap (λ z. codes "inst " ++ z) (e1 ∙ ap (λ z. k ++ 32 ∷ z) (e2 ∙ ap (λ z. n ++ 32 ∷ z) (e3 ∙ ap (λ z. w ++ 32 ∷ z) (e4 ∙ ap (λ z. v ++ 10 ∷ z) e5)))) ∙ sym (account_nest k n w v f r)

account_some : (k : ℕ) (bs : List ℕ) (c : Account) (r : List ℕ) → account k bs ≡ Some (c, r) → PartText itself account_text IsAccount k bs c r
unfolding account
account_some k bs c r h =
    let G : Account → Type 0 = λ c. PartText itself account_text IsAccount k bs c r in
    bind_then _ _ _ (G c) h (λ t b1 h0 h. bind_then _ _ _ (G c) h (λ u b2 h1 h. bind_then _ _ _ (G c) h (λ n b3 h2 h. bind_then _ _ _ (G c) h (λ o b4 h3 h.
    bind_then _ _ _ (G c) h (λ w b5 h4 h. bind_then _ _ _ (G c) h (λ xs b6 h5 h.
    let e1 = this_field_some k b1 u b2 h1 in
    let e2 = number_field_some b2 n b3 h2 in
    let e3 = end_word_some b3 o b4 h3 in
    let e4 = last_value_some b4 w b5 h4 in
    let e5 = attempts_some n 1 [] b5 xs b6 h5 in
    let many : length xs ≡ n = ap length e5.is_all ∙ e5.count in
    let made : Account = record { id = w; finish = o; attempts = xs } in
    let same = some_pair {A = Account} made c b6 r h in
    subst G same.0 (record {
      part = made;
      seen = refl;
      text_is = account_joined bs b1 b2 b3 b4 b5 (decimal k) (decimal (length xs)) (end_text o) (value_text w) (flatten (attempt_lines 1 xs)) r
          (expected (codes "inst ") bs t b1 h0) e1.0 (e2.0 ∙ ap (λ x. decimal x ++ 32 ∷ b3) (sym many)) e3 e4.0
          (e5.text_is ∙ (λ j. flatten (attempt_lines 1 (sym e5.is_all j)) ++ same.1 j));
      valid = record { id = e4.1; count = subst (λ x. x < 2 ^ 32) (sym many) e2.1; attempts = subst AreAttemptLines (sym e5.is_all) e5.read };
    })))))))

account_finds : (k : ℕ) (a : Account) (r : List ℕ) → k < 2 ^ 32 → IsAccount a → account k (account_text k a ++ r) ≡ Some (a, r)
unfolding account
account_finds k a r below h =
    let f : List ℕ = flatten (attempt_lines 1 a.attempts) in
    let b5 : List ℕ = f ++ r in
    let b4 : List ℕ = value_text a.id ++ 10 ∷ b5 in
    let b3 : List ℕ = end_text a.finish ++ 32 ∷ b4 in
    let b2 : List ℕ = decimal (length a.attempts) ++ 32 ∷ b3 in
    let count = h.count in
    let room : 1 + length a.attempts ≤ 2 ^ 32 = omega arith in
    ap (account k) (account_nest (decimal k) (decimal (length a.attempts)) (end_text a.finish) (value_text a.id) f r)
    ∙ then_at _ _ _ tt b2 (this_field_finds k b2 below)
    (then_at _ _ _ (length a.attempts) b3 (number_field_finds (length a.attempts) b3 h.count)
    (then_at _ _ _ a.finish b4 (end_word_finds a.finish b4)
    (then_at _ _ _ a.id b5 (last_value_finds a.id b5 h.id)
    (then_at _ _ _ a.attempts r (attempts_finds a.attempts (length a.attempts) 1 [] r refl room h.attempts) refl))))

-- ---- accounts

account_starts : (k : ℕ) (a : Account) (r : List ℕ) → begins (codes "inst ") (account_text k a ++ r) ≡ true
account_starts k a r = refl

accounts_texts : (k : ℕ) (as' : List Account) → flatten (read_accounts_lines k as') ≡ texts account_text k as'
accounts_texts k [] = refl
accounts_texts k (a ∷ as') = flatten_append (account_lines k a) (read_accounts_lines (suc k) as') ∙ ap (λ z. account_text k a ++ z) (accounts_texts (suc k) as')

map_itself : (cs : List Account) → map itself cs ≡ cs
map_itself [] = refl
map_itself (c ∷ cs) = ap (λ z. c ∷ z) (map_itself cs)

are_read : (as' : List Account) → Each IsAccount as' → AreAccounts as'
are_read [] h = tt
are_read (a ∷ as') h = (h.0, are_read as' h.1)

each_read : (as' : List Account) → AreAccounts as' → Each IsAccount as'
each_read [] h = tt
each_read (a ∷ as') h = (h.0, each_read as' h.1)

pub record AccountsText (left k : ℕ) (cs : List Account) (bs r : List ℕ) : Type 0 where
  pub text_is : bs ≡ flatten (read_accounts_lines k cs) ++ r
  pub few : length cs ≤ left
  pub read : AreAccounts cs

pub accounts_some : (left k : ℕ) (bs : List ℕ) (cs : List Account) (r : List ℕ) → accounts left k [] bs ≡ Some (cs, r) → AccountsText left k cs bs r
accounts_some left k bs cs r h =
    let p = parts_some (codes "inst ") account itself account_text IsAccount account_some left k [] bs cs r h in
    let same : cs ≡ p.behind = p.is_all ∙ map_itself p.behind in
    subst (λ cs. AccountsText left k cs bs r) (sym same)
    (record { text_is = p.text_is ∙ ap (λ z. z ++ r) (sym (accounts_texts k p.behind)); few = p.few; read = are_read p.behind p.each })

pub accounts_finds : (left k : ℕ) (as' : List Account) (r : List ℕ) → length as' ≤ left → k + length as' ≤ 2 ^ 32 → AreAccounts as' → begins (codes "inst ") r ≡ false
    → accounts left k [] (flatten (read_accounts_lines k as') ++ r) ≡ Some (as', r)
accounts_finds left k as' r few room h b =
    ap (λ z. accounts left k [] (z ++ r)) (accounts_texts k as')
    ∙ parts_finds (codes "inst ") account itself account_text IsAccount (2 ^ 32) account_starts account_finds left k [] as' r few room (each_read as' h) b
    ∙ ap (λ z. Some (z, r)) (map_itself as')
