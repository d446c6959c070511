-- What a walk of `clap` makes of the words of one option.
use Rattle.std.proofs.Common.{◌≡◌, ◌∙◌, ℕ, Bool, true, false, not, refl, sym, ap, List, [], ◌∷◌, Option, Some, None, true≢false}
use Rattle.std.specs.Str.{bytes_eq}
use Rattle.std.proofs.lemmas.Slice.Eq.{bytes_eq-Decides}
use Rattle.clap.specs.Lexer.{long_of, short_of}
use Rattle.clap.specs.Walk.{Row, Rule, Text, Walk, arg_by_id, arg_by_long, idle, option, walked, settled_rows, after_step, long_or_other}
use Rattle.clap.specs.Faults.{settle_fault, turn_fault, flag_word_fault, step_fault}
use Rattle.pgo_words.specs.Parts.{is_plain}
use Rattle.clap.specs.Kinds.{Kinds, or_else}
use Rattle.clap.specs.Simple.{Shape, new_rule}
use Rattle.clap.specs.declared.builder.action.ArgAction.TheVariants.{Set}
use Rattle.clap.specs.declared.builder.value_parser.ValueParser.TheVariants as vp
use Rattle.clap.specs.declared.error.kind.ErrorKind.TheVariants as kind

-- an option of a built command: its name is its id, and it takes one value
abbrev pub option_rule : Bool → Text → Rule
option_rule required n = record (new_rule n) {
  long = Some n;
  action = Some Set;
  range = Some (record { start_inclusive = 1; end_inclusive = 1 });
  parser = Some vp.String;
  required = required;
}

abbrev pub dashed : Text → Text
dashed n = 45 ∷ (45 ∷ n)

-- where a walk stands between two options
abbrev pub at : List Row → Option (Text × List Text) → Walk
at rows pending = record { held = record { rows = rows; pending = pending; skip = 0 }; waiting = idle; position = 1; is_trailing = false; stopped = None }

-- and between the name and the value of one
abbrev pub inside : List Row → Text → Walk
inside rows n = record { held = record { rows = rows; pending = Some (n, []); skip = 0 }; waiting = option n; position = 1; is_trailing = false; stopped = None }

is_not : (b : Bool) → not b ≡ true → b ≡ false
is_not true e = absurd (true≢false (sym e))
is_not false e = refl

no_long : (v : Text) → is_plain v ≡ true → long_of v ≡ None
no_long [] e = refl
no_long (b ∷ bs) e = rw (is_not _ e) refl

no_short : (v : Text) → is_plain v ≡ true → short_of v ≡ None
no_short [] e = refl
no_short (b ∷ bs) e = rw (is_not _ e) refl

no_stop : (v : Text) → is_plain v ≡ true → bytes_eq v (45 ∷ (45 ∷ [])) ≡ false
no_stop [] e = refl
no_stop (b ∷ bs) e = rw (is_not _ e) refl

pub self_same : (n : Text) → bytes_eq n n ≡ true
self_same n = (bytes_eq-Decides n n).1 refl

-- the parts of a word of this form
pub name_walked : (c : List Rule) (rows : List Row) (p : Option (Text × List Text)) (x : ℕ) (xs : Text) (r : Bool)
    → long_of (dashed (x ∷ xs)) ≡ Some (x ∷ xs, None) → arg_by_long c (x ∷ xs) ≡ Some (option_rule r (x ∷ xs))
    → walked c [] (at rows p) (dashed (x ∷ xs)) ≡ inside (settled_rows c p rows) (x ∷ xs)
unfolding walked
name_walked c rows p x xs r long found =
    let word = dashed (x ∷ xs) in
    let h = (at rows p).held in
    ap (λ o. after_step c word (at rows p) (long_or_other c idle word o h).0 (long_or_other c idle word o h).1) long ∙ rw found refl

pub value_walked : (c : List Rule) (rows : List Row) (n v : Text) (r : Bool) → is_plain v ≡ true → arg_by_id c n ≡ Some (option_rule r n)
    → walked c [] (inside rows n) v ≡ at rows (Some (n, v ∷ []))
unfolding walked
value_walked c rows n v r plain found = rw (no_stop v plain, no_long v plain, no_short v plain, found) (rw (self_same n) refl)

pub or_nothing : (ks : Kinds) → or_else ks [] ≡ ks
or_nothing [] = refl
or_nothing (k ∷ ks) = refl

pub name_fault : (s : Shape) (rows : List Row) (p : Option (Text × List Text)) (x : ℕ) (xs : Text) (r : Bool)
    → long_of (dashed (x ∷ xs)) ≡ Some (x ∷ xs, None) → arg_by_long s.rules (x ∷ xs) ≡ Some (option_rule r (x ∷ xs))
    → turn_fault s [] (at rows p) (dashed (x ∷ xs)) ≡ settle_fault s.rules s.args_override_self (at rows p).held
name_fault s rows p x xs r long found =
    let word = dashed (x ∷ xs) in
    let h = (at rows p).held in
    ap (λ o. or_else (flag_word_fault s.rules s.args_override_self o word h) (step_fault s 1 (long_or_other s.rules idle word o h).0 (long_or_other s.rules idle word o h).1)) long
    ∙ rw found (or_nothing _)

pub unknown_fault : (s : Shape) (rows : List Row) (p : Option (Text × List Text)) (x : ℕ) (xs : Text)
    → long_of (dashed (x ∷ xs)) ≡ Some (x ∷ xs, None) → arg_by_long s.rules (x ∷ xs) ≡ None
    → turn_fault s [] (at rows p) (dashed (x ∷ xs)) ≡ kind.UnknownArgument ∷ []
unknown_fault s rows p x xs long none =
    let word = dashed (x ∷ xs) in
    let h = (at rows p).held in
    ap (λ o. or_else (flag_word_fault s.rules s.args_override_self o word h) (step_fault s 1 (long_or_other s.rules idle word o h).0 (long_or_other s.rules idle word o h).1)) long
    ∙ rw none refl

pub value_fault : (s : Shape) (rows : List Row) (n v : Text) (r : Bool) → is_plain v ≡ true → arg_by_id s.rules n ≡ Some (option_rule r n)
    → turn_fault s [] (inside rows n) v ≡ []
value_fault s rows n v r plain found = rw (no_stop v plain, no_long v plain, no_short v plain) refl
