-- The lines from `init` to `end`: what is read is a log's text, and a log's text is read.
use Rattle.std.proofs.Common.{◌≡◌, ◌<◌, ◌≤◌, ◌^◌, ◌+◌, ℕ, true, false, IsTrue, List, [], ◌∷◌, ◌++◌, length, map, decimal, Some, None, refl, sym, ap, subst, ◌∙◌, append_assoc, arith}
use Rattle.std.specs.Prelude.{codes}
use Rattle.std.proofs.lemmas.List.{append-nil, length-map}
use Rattle.std.proofs.lemmas.Bool.Decides.{nat_tests}
use Rattle.pgo_base.specs.Data.{Data}
use Rattle.pgo_base.specs.Lookup.{Name, Vars}
use Rattle.pgo_model.specs.Machine.{is_empty}
use Rattle.pgo_model.specs.ModuleText.{Line, line, flatten}
use Rattle.pgo_model.specs.Bundle.{value_line}
use Rattle.pgo_model.specs.BundleParts.{is_run_status}
use Rattle.pgo_bundle.specs.Lines.{steps_lines}
use Rattle.pgo_value_text.proofs.Steps.{if_some, cond_true, bind_then, then_at, some_pair}
use Rattle.pgo_value_text.proofs.Runs.{expected, is_apart}
use Rattle.pgo_log_text.specs.Bytes.{begins}
use Rattle.pgo_log_text.specs.Lines.{most_parts, run_status, nothing_behind, finish, heading, log_and_end}
use Rattle.pgo_log_text.specs.IsBundle.{Version, BundleLog, AreCanonical, Account, read_accounts_lines, log_lines, IsLogText}
use Rattle.pgo_log_text.proofs.BytesNumbers.{number_some, number_finds}
use Rattle.pgo_log_text.proofs.LinesFields.{this_number_some, this_number_finds, this_field_some, this_field_finds}
use Rattle.pgo_log_text.proofs.LinesStart.{start_some, start_finds}
use Rattle.pgo_log_text.proofs.LinesEntries.{flatten_append}
use Rattle.pgo_log_text.proofs.LinesVersions.{steps_some, steps_finds}
use Rattle.pgo_log_text.proofs.LinesAccounts.{accounts_some, accounts_finds}

-- ---- the first line

heading_some : (n : ℕ) (bs : List ℕ) (u : Unit {0}) (r : List ℕ) → heading n bs ≡ Some (u, r) → (bs ≡ codes "init " ++ (decimal n ++ 10 ∷ r)) × (n < 2 ^ 32)
unfolding heading
heading_some n bs u r e =
    let G : Type 0 = (bs ≡ codes "init " ++ (decimal n ++ 10 ∷ r)) × (n < 2 ^ 32) in
    bind_then _ _ _ G e (λ t i a e. bind_then _ _ _ G e (λ v j b e.
    let number = this_number_some n i v j b in
    (expected (codes "init ") bs t i a ∙ ap (λ z. codes "init " ++ z) (number.0 ∙ ap (λ z. decimal n ++ z) (expected (codes "\n") j u r e)), number.1)))

heading_finds : (n : ℕ) (r : List ℕ) → n < 2 ^ 32 → heading n (codes "init " ++ (decimal n ++ 10 ∷ r)) ≡ Some (tt, r)
unfolding heading
heading_finds n r h = then_at _ _ _ tt (10 ∷ r) (this_number_finds n (10 ∷ r) h refl) refl

-- ---- the last line

abbrev last_line : ℕ → ℕ → List ℕ
last_line n s = codes "end " ++ (decimal n ++ 32 ∷ (decimal s ++ 10 ∷ []))

ends : (bs : List ℕ) → is_empty bs ≡ true → bs ≡ []
ends [] h = refl
ends (b ∷ bs) h = absurd (cc)

record LastText (n s : ℕ) (bs r : List ℕ) : Type 0 where
  text_is : bs ≡ last_line n s
  status : IsTrue (is_run_status s)
  none : r ≡ []

status_some : (bs : List ℕ) (s : ℕ) (r : List ℕ) → run_status bs ≡ Some (s, r) → (bs ≡ decimal s ++ r) × IsTrue (is_run_status s)
unfolding run_status
status_some bs s r e =
    let G : Type 0 = (bs ≡ decimal s ++ r) × IsTrue (is_run_status s) in
    bind_then _ _ _ G e (λ n i a e.
    if_some (is_run_status n) _ _ (s, r) G e
    (λ t e.
    let read = number_some bs n i a in
    let same = some_pair n s i r e in
    (read.0 ∙ (λ j. decimal (same.0 j) ++ same.1 j), subst (λ n. IsTrue (is_run_status n)) same.0 t))
    (λ _ e. absurd (cc)))

behind_some : (n : ℕ) (bs : List ℕ) (s : ℕ) (r : List ℕ) → nothing_behind n bs ≡ Some (s, r) → (n ≡ s) × (bs ≡ []) × (r ≡ [])
unfolding nothing_behind
behind_some n bs s r e =
    if_some (is_empty bs) _ _ (s, r) ((n ≡ s) × (bs ≡ []) × (r ≡ [])) e
    (λ t e. let same = some_pair n s bs r e in let all = ends bs t in (same.0, all, sym same.1 ∙ all))
    (λ _ e. absurd (cc))

finish_some : (n : ℕ) (bs : List ℕ) (s : ℕ) (r : List ℕ) → finish n bs ≡ Some (s, r) → LastText n s bs r
unfolding finish
finish_some n bs s r e =
    let G : Type 0 = LastText n s bs r in
    bind_then _ _ _ G e (λ t i a e. bind_then _ _ _ G e (λ u j b e. bind_then _ _ _ G e (λ m k c e. bind_then _ _ _ G e (λ v l d e.
    let steps = this_field_some n i u j b in
    let status = status_some j m k c in
    let end = behind_some m l s r e in
    record {
      text_is = expected (codes "end ") bs t i a ∙ ap (λ z. codes "end " ++ z) (steps.0 ∙ ap (λ z. decimal n ++ 32 ∷ z)
          (status.0 ∙ ap (λ z. decimal m ++ z) (expected (codes "\n") k v l d) ∙ (λ z. decimal (end.0 z) ++ 10 ∷ end.1 z)));
      status = subst (λ m. IsTrue (is_run_status m)) end.0 status.1;
      none = end.2;
    }))))

status_small : (s : ℕ) → IsTrue (is_run_status s) → s < 2 ^ 32
status_small s h = grind (arith, nat_tests)

status_finds : (s : ℕ) (r : List ℕ) → IsTrue (is_run_status s) → is_apart r ≡ true → run_status (decimal s ++ r) ≡ Some (s, r)
unfolding run_status
status_finds s r k a = then_at _ _ _ s r (number_finds s r (status_small s k) a) (cond_true (is_run_status s) (Some (s, r)) None k)

finish_finds : (n s : ℕ) → n < 2 ^ 32 → IsTrue (is_run_status s) → finish n (last_line n s) ≡ Some (s, [])
unfolding finish nothing_behind
finish_finds n s h k =
    then_at _ _ _ tt (decimal s ++ 10 ∷ []) (this_field_finds n (decimal s ++ 10 ∷ []) h)
    (then_at _ _ _ s (10 ∷ []) (status_finds s (10 ∷ []) k refl) refl)

-- ---- the whole

lines_nest : (a b c e : List Line) → flatten (a ++ b ++ c ++ e) ≡ flatten a ++ (flatten b ++ (flatten c ++ flatten e))
lines_nest a b c e = simp (flatten_append, append_assoc)

first_nest : (n r : List ℕ) → line (codes "init " ++ n) ++ r ≡ codes "init " ++ (n ++ 10 ∷ r)
first_nest n r = simp append_assoc

last_nest : (n s : List ℕ) → line (codes "end " ++ n ++ codes " " ++ s) ++ [] ≡ codes "end " ++ (n ++ 32 ∷ (s ++ 10 ∷ []))
last_nest n s =
    ap (λ z. codes "end " ++ z) (append-nil (n ++ codes " " ++ s ++ 10 ∷ []) ∙ append_assoc (n ++ codes " ") s (10 ∷ []) ∙ append_assoc n (codes " ") (s ++ 10 ∷ []))

abbrev steps_text : BundleLog → List ℕ
steps_text l = flatten (steps_lines l.version l.notes l.entries)

abbrev log_text : BundleLog → List ℕ
log_text l =
    codes "init " ++ (decimal (length l.start) ++ 10 ∷ (flatten (map value_line l.start) ++ (steps_text l ++ (flatten (read_accounts_lines 0 l.accounts) ++ last_line (length l.entries) l.status))))

log_nest : (l : BundleLog) → flatten (log_lines l) ≡ log_text l
log_nest l =
    let s : Vars = l.start in
    let es : List Line = steps_lines l.version l.notes l.entries in
    let cs : List Line = read_accounts_lines 0 l.accounts in
    let end : Line = line (codes "end " ++ decimal (length l.entries) ++ codes " " ++ decimal l.status) in
    let behind : List ℕ = flatten (map value_line s ++ es ++ cs ++ end ∷ []) in
    first_nest (decimal (length s)) behind
    ∙ ap (λ z. codes "init " ++ (decimal (length s) ++ 10 ∷ z)) (lines_nest (map value_line s) es cs (end ∷ []))
    ∙ ap (λ z. codes "init " ++ (decimal (length s) ++ 10 ∷ (flatten (map value_line s) ++ (flatten es ++ (flatten cs ++ z))))) (last_nest (decimal (length l.entries)) (decimal l.status))

log_joined : (b0 b1 b2 b3 b4 n v e a l : List ℕ) → b0 ≡ codes "init " ++ (n ++ 10 ∷ b1) → b1 ≡ v ++ b2 → b2 ≡ e ++ b3 → b3 ≡ a ++ b4 → b4 ≡ l
    → b0 ≡ codes "init " ++ (n ++ 10 ∷ (v ++ (e ++ (a ++ l))))
log_joined b0 b1 b2 b3 b4 n v e a l e0 e1 e2 e3 e4 = e0 ∙ ap (λ z. codes "init " ++ (n ++ 10 ∷ z)) (e1 ∙ ap (λ z. v ++ z) (e2 ∙ ap (λ z. e ++ z) (e3 ∙ ap (λ z. a ++ z) e4)))

below_most : (n : ℕ) → n ≤ most_parts → n < 2 ^ 32
below_most n h = omega arith

most_below : (n : ℕ) → n < 2 ^ 32 → n ≤ most_parts
most_below n h = omega arith

abbrev name_of : Name × Data → Name
name_of p = p.0

-- what is read is the text of a log of this version
pub log_some : (v : Version) (names : List Name) (bs : List ℕ) (l : BundleLog) (r : List ℕ) → log_and_end v names bs ≡ Some (l, r) → IsLogText bs names l × (r ≡ []) × (l.version ≡ v)
unfolding log_and_end
log_some v names bs l r h =
    let G : BundleLog → Type 0 = λ l. IsLogText bs names l × (r ≡ []) × (l.version ≡ v) in
    bind_then _ _ _ (G l) h (λ t b1 h0 h. bind_then _ _ _ (G l) h (λ s b2 h1 h. bind_then _ _ _ (G l) h (λ ns b3 h2 h. bind_then _ _ _ (G l) h (λ es b4 h3 h.
    bind_then _ _ _ (G l) h (λ cs b5 h4 h. bind_then _ _ _ (G l) h (λ n b6 h5 h.
    let made : BundleLog = record { version = v; start = s; notes = ns; entries = es; accounts = cs; status = n } in
    let e0 = heading_some (length names) bs t b1 h0 in
    let e1 = start_some names [] b1 s b2 h1 in
    let e2 = steps_some v most_parts b2 ns b3 es b4 h2 h3 in
    let e3 = accounts_some most_parts 0 b4 cs b5 h4 in
    let e4 = finish_some (length es) b5 n b6 h5 in
    let same = some_pair {A = BundleLog} made l b6 r h in
    let vars : map name_of s ≡ names = ap (map name_of) e1.is_all ∙ e1.names_are in
    let many : length s ≡ length names = sym (length-map s name_of) ∙ ap length vars in
    subst G same.0 (
      record {
        text_is =
            log_joined bs b1 b2 b4 b5 (decimal (length s)) (flatten (map value_line s)) (steps_text made) (flatten (read_accounts_lines 0 cs)) (last_line (length es) n)
            (e0.0 ∙ ap (λ k. codes "init " ++ (decimal k ++ 10 ∷ b1)) (sym many))
            (e1.text_is ∙ ap (λ z. flatten (map value_line z) ++ b2) (sym e1.is_all)) e2.text_is e3.text_is e4.text_is
            ∙ sym (log_nest made);
        variables = vars;
        variable_count = subst (λ k. k < 2 ^ 32) (sym many) e0.1;
        entry_count = below_most (length es) e2.few;
        instance_count = below_most (length cs) e3.few;
        start = subst AreCanonical (sym e1.is_all) e1.read;
        notes = e2.notes;
        entries = e2.entries;
        told = e2.told;
        accounts = e3.read;
        status_is = e4.status;
      },
      sym same.1 ∙ e4.none,
      refl,
    )))))))

no_step : (as' : List Account) (r : List ℕ) → begins (codes "step ") (flatten (read_accounts_lines 0 as') ++ (codes "end " ++ r)) ≡ false
no_step [] r = refl
no_step (a ∷ as') r = refl

no_note : (as' : List Account) (r : List ℕ) → begins (codes "note ") (flatten (read_accounts_lines 0 as') ++ (codes "end " ++ r)) ≡ false
no_note [] r = refl
no_note (a ∷ as') r = refl

text_finds : (names : List Name) (bs : List ℕ) (l : BundleLog) → IsLogText bs names l → log_and_end l.version (map name_of l.start) (log_text l) ≡ Some (l, [])
unfolding log_and_end
text_finds names bs l h =
    let s : Vars = l.start in
    let n : ℕ = l.status in
    let count : ℕ = length l.entries in
    let b5 : List ℕ = last_line count n in
    let b4 : List ℕ = flatten (read_accounts_lines 0 l.accounts) ++ b5 in
    let b2 : List ℕ = steps_text l ++ b4 in
    let b1 : List ℕ = flatten (map value_line s) ++ b2 in
    let few_e = h.entry_count in
    let few_a = h.instance_count in
    let room_e : 1 + count ≤ 2 ^ 32 = omega (arith, few_e) in
    let room_a : 0 + length l.accounts ≤ 2 ^ 32 = omega (arith, few_a) in
    let end : List ℕ = decimal count ++ 32 ∷ (decimal n ++ 10 ∷ []) in
    let steps = steps_finds l.version most_parts l.notes l.entries b4 (most_below count few_e) room_e h.notes h.entries h.told (no_step l.accounts end) (no_note l.accounts end) in
    then_at _ _ _ tt b1 (ap (λ k. heading k (codes "init " ++ (decimal (length s) ++ 10 ∷ b1))) (length-map s name_of) ∙ heading_finds (length s) b1 h.variable_count)
    (then_at _ _ _ s b2 (start_finds s [] b2 h.start)
    (then_at _ _ _ l.notes steps.behind steps.notes
    (then_at _ _ _ l.entries b4 steps.entries
    (then_at _ _ _ l.accounts b5 (accounts_finds most_parts 0 l.accounts b5 (most_below (length l.accounts) few_a) room_a h.accounts refl)
    (then_at _ _ _ n [] (finish_finds count n few_e h.status_is) refl)))))

-- the text of a log is read
pub log_finds : (names : List Name) (bs : List ℕ) (l : BundleLog) → IsLogText bs names l → log_and_end l.version names bs ≡ Some (l, [])
log_finds names bs l h =
    ap (λ ns. log_and_end l.version ns bs) (sym h.variables) ∙ ap (log_and_end l.version (map name_of l.start)) (h.text_is ∙ log_nest l) ∙ text_finds names bs l h
