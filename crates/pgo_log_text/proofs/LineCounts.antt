-- A log's text ends a line for each of its lines, so a place in it is at a line of the text.
use Rattle.std.proofs.Common.{◌≡◌, ◌≤◌, ◌<◌, ◌+◌, ◌-◌, ◌^◌, min, ℕ, suc, Bool, true, false, nat_eq, List, [], ◌∷◌, ◌++◌, length, map, codes, decimal, Option, Some, None, ap, ◌∙◌, arith}
use Rattle.std.specs.Prelude.{if◌then◌else◌}
use Rattle.pgo_base.specs.Data.{Data}
use Rattle.pgo_base.specs.Lookup.{Name}
use Rattle.pgo_model.specs.Bundle.{fields, value_line, component_text, change_line, entries_lines, end_text}
use Rattle.pgo_model.specs.Log.{Change, Effect}
use Rattle.pgo_model.specs.Machine.{Entry}
use Rattle.pgo_model.specs.ModuleText.{Line, line, flatten}
use Rattle.pgo_model.specs.ValueText.{value_text}
use Rattle.pgo_bundle.specs.Accounts.{AttemptLine, Account, attempt_fields, attempt_lines, read_accounts_lines}
use Rattle.pgo_bundle.specs.BundleLog.{Version, One, Two, LoggedNote, LoggedEntry, BundleLog}
use Rattle.pgo_bundle.specs.Lines.{found_text, note_line, prints_count, print_line, prints_lines, all_logged_lines, steps_lines, log_lines}
use Rattle.pgo_bundle.specs.Places.{lines_before}
use Rattle.pgo_bundle.specs.Untied.{Untied}
use Rattle.pgo_log_text.specs.LineNumbers.{newlines, IsLineOf}
use Rattle.pgo_log_text.specs.ReadBundle.{line_of}

-- ---- newlines of a text

newlines_append : (xs ys : List ℕ) → newlines (xs ++ ys) ≡ newlines xs + newlines ys
newlines_append [] ys = let same : newlines ys ≡ 0 + newlines ys = omega arith in same
newlines_append (x ∷ xs) ys = go (nat_eq x 10) (newlines_append xs ys)
  where
    go : (b : Bool) → newlines (xs ++ ys) ≡ newlines xs + newlines ys → (if b then suc (newlines (xs ++ ys)) else newlines (xs ++ ys)) ≡ (if b then suc (newlines xs) else newlines xs) + newlines ys
    go true e = omega (arith, e)
    go false e = e

line_ends : (t : List ℕ) → 1 ≤ newlines (line t)
line_ends t = let e : newlines (t ++ (10 ∷ [])) ≡ newlines t + 1 = newlines_append t (10 ∷ []) in omega (arith, e)

abbrev AllEnd : List Line → Type 0
AllEnd [] = Unit {0}
AllEnd (x ∷ xs) = (1 ≤ newlines x) × AllEnd xs

count : (ls : List Line) → AllEnd ls → length ls ≤ newlines (flatten ls)
count [] h = omega arith
count (x ∷ ls) h =
    let both : newlines (x ++ flatten ls) ≡ newlines x + newlines (flatten ls) = newlines_append x (flatten ls) in
    let one = h.0 in
    let rest = count ls h.1 in
    omega (arith, both, one, rest)

-- ---- the lines of a log

both_end : (xs ys : List Line) → AllEnd xs → AllEnd ys → AllEnd (xs ++ ys)
both_end [] ys h g = g
both_end (x ∷ xs) ys h g = (h.0, both_end xs ys h.1 g)

map_end : {A : Type 0} (f : A → Line) (xs : List A) → ((x : A) → 1 ≤ newlines (f x)) → AllEnd (map f xs)
map_end f [] h = tt
map_end f (x ∷ xs) h = (h x, map_end f xs h)

value_ends : (p : Name × Data) → 1 ≤ newlines (value_line p)
value_ends p = line_ends (p.0 ++ codes " = " ++ value_text p.1)

change_ends : (c : Change) → 1 ≤ newlines (change_line c)
change_ends c = line_ends (codes "set " ++ component_text c.component ++ codes " = " ++ value_text c.value)

note_ends : (n : LoggedNote) → 1 ≤ newlines (note_line n)
note_ends n = line_ends (fields (codes "note" ∷ decimal n.instance ∷ decimal n.attempt ∷ found_text n.kind ∷ []))

print_ends : (v : Data) → 1 ≤ newlines (print_line v)
print_ends v = line_ends (codes "print " ++ value_text v)

prints_end : (o : Option (List Data)) → AllEnd (prints_lines o)
prints_end None = tt
prints_end (Some vs) = map_end print_line vs print_ends

one_end : (n : ℕ) (es : List (Entry Effect)) → AllEnd (entries_lines n es)
one_end n [] = tt
one_end n (e ∷ es) = (
  line_ends (fields (codes "step" ∷ decimal n ∷ decimal e.instance ∷ decimal e.attempt ∷ e.change.label ∷ e.change.next ∷ decimal (length e.change.changes) ∷ [])),
  both_end (map change_line e.change.changes) (entries_lines (suc n) es) (map_end change_line e.change.changes change_ends) (one_end (suc n) es),
)

two_end : (n : ℕ) (es : List LoggedEntry) → AllEnd (all_logged_lines n es)
two_end n [] = tt
two_end n (e ∷ es) =
    let changes : List Line = map change_line e.entry.change.changes in
    let prints : List Line = prints_lines e.prints in
    let notes : List Line = map note_line e.notes in (
      line_ends (fields (codes "step" ∷ decimal n ∷ decimal e.entry.instance ∷ decimal e.entry.attempt ∷ e.entry.change.label ∷ e.entry.change.next ∷ decimal (length e.entry.change.changes) ∷ prints_count e.prints ∷ [])),
      both_end (changes ++ (prints ++ notes)) (all_logged_lines (suc n) es)
          (both_end changes (prints ++ notes) (map_end change_line e.entry.change.changes change_ends) (both_end prints notes (prints_end e.prints) (map_end note_line e.notes note_ends)))
          (two_end (suc n) es),
    )

steps_end : (v : Version) (ns : List LoggedNote) (es : List LoggedEntry) → AllEnd (steps_lines v ns es)
steps_end One ns es = one_end 1 (map (λ e. e.entry) es)
steps_end Two ns es = both_end (map note_line ns) (all_logged_lines 1 es) (map_end note_line ns note_ends) (two_end 1 es)

attempts_end : (a : ℕ) (xs : List AttemptLine) → AllEnd (attempt_lines a xs)
attempts_end a [] = tt
attempts_end a (x ∷ xs) = (line_ends (fields (decimal a ∷ attempt_fields x)), attempts_end (suc a) xs)

accounts_end : (k : ℕ) (cs : List Account) → AllEnd (read_accounts_lines k cs)
accounts_end k [] = tt
accounts_end k (c ∷ cs) = (
  line_ends (fields (codes "inst" ∷ decimal k ∷ decimal (length c.attempts) ∷ end_text c.finish ∷ value_text c.id ∷ [])),
  both_end (attempt_lines 1 c.attempts) (read_accounts_lines (suc k) cs) (attempts_end 1 c.attempts) (accounts_end (suc k) cs),
)

log_end : (l : BundleLog) → AllEnd (log_lines l)
log_end l =
    let start : List Line = (line (codes "init " ++ decimal (length l.start)) ∷ []) ++ map value_line l.start in
    let steps : List Line = steps_lines l.version l.notes l.entries in
    let accounts : List Line = read_accounts_lines 0 l.accounts in
    let last : List Line = line (codes "end " ++ decimal (length l.entries) ++ codes " " ++ decimal l.status) ∷ [] in
    both_end (start ++ steps ++ accounts) last
    (both_end (start ++ steps) accounts
    (both_end start steps (line_ends (codes "init " ++ decimal (length l.start)), map_end value_line l.start value_ends) (steps_end l.version l.notes l.entries))
    (accounts_end 0 l.accounts))
    (line_ends (codes "end " ++ decimal (length l.entries) ++ codes " " ++ decimal l.status), tt)

-- ---- places

-- a place that has a line in the log's text is at a line of the text that ends in it
pub is_line : (text before : List ℕ) (l : BundleLog) (u : Untied) → text ≡ before ++ flatten (log_lines l) → lines_before l u < length (log_lines l) → IsLineOf text (line_of before l u)
is_line text before l u is below =
    let whole : newlines text ≡ newlines before + newlines (flatten (log_lines l)) = ap newlines is ∙ newlines_append before (flatten (log_lines l)) in
    go (2 ^ 64 - 1) (newlines text) (newlines before) (newlines (flatten (log_lines l))) (length (log_lines l)) (lines_before l u) (omega arith) whole (count (log_lines l) (log_end l)) below
  where
    go : (m all front behind size place : ℕ) → 1 ≤ m → all ≡ front + behind → size ≤ behind → place < size → (1 ≤ min (1 + front + place) m) × (min (1 + front + place) m ≤ suc all)
    go m all front behind size place some whole few below = (omega (arith, some), omega (arith, whole, few, below))
