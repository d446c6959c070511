-- The tokens that the function gives for a text are those of the module in it.
use Rattle.std.proofs.Common.{◌≡◌, ◌≤◌, ◌+◌, ◌-◌, ℕ, true, List, [], ◌++◌, length, drop, Option, Some, None, refl, sym, ◌∙◌, ap, subst, arith}
use Rattle.std.proofs.lemmas.List.{length-append}
use Rattle.pgo_lexer.specs.declared.token.Lexeme.{Lexeme}
use Rattle.pgo_lexer.specs.Layout.{Marks}
use Rattle.pgo_lexer.specs.Lexing.{and_then}
use Rattle.pgo_lexer.specs.Marking.{marked}
use Rattle.pgo_lexer.proofs.MarksComplete.{marks_only}
use Rattle.pgo_lexer.proofs.MarksSound.{marks_found}
use Rattle.pgo_lexer.proofs.Runs.{no_some}
use Rattle.pgo_expr_read.specs.Texts.{most_tokens}
use Rattle.pgo_spec_text.specs.Cutting.{column_at}
use Rattle.pgo_spec_text.specs.Searching.{module_from, is_line_at, is_fresh}
use Rattle.pgo_spec_text.specs.SpecText.{Cut, Anything, IsFirst, IsModuleLine}
use Rattle.pgo_spec_text.proofs.Adding.{column_of}
use Rattle.pgo_spec_text.proofs.Exact.{column_there, rest_there, length_there, line_given}
use Rattle.pgo_spec_text.proofs.Firsts.{found_first}
use Rattle.pgo_spec_text.proofs.Words.{fresh, fresh_first, tells_module}
use Rattle.pgo_module_spells.specs.Spells.{EndsWithRow}
use Rattle.pgo_module_read.specs.Cutting.{module_tokens, from_module, cut}
use Rattle.pgo_module_read.proofs.CutExact.{ends_row, row_ends, tokens_sound, tokens_complete}

-- a text's module has these tokens
pub record IsCut (text : List ℕ) (tokens : List Lexeme) : Type 0 where
  pub before : List ℕ
  pub part : List ℕ
  pub behind : List ℕ
  pub unmarked : List Lexeme
  pub both : text ≡ before ++ (part ++ behind)
  pub line : IsFirst IsModuleLine before (part ++ behind)
  pub cut : Cut Anything before part behind unmarked
  pub ends : EndsWithRow unmarked
  pub few : length unmarked ≤ most_tokens
  pub marks : Marks unmarked tokens

then_some : {A B : Type 0} (o : Option A) (f : A → Option B) (b : B) (Goal : Type 0) → and_then o f ≡ Some b → ((a : A) → o ≡ Some a → f a ≡ Some b → Goal) → Goal
then_some None f b Goal e k = no_some b Goal e
then_some (Some a) f b Goal e k = k a refl e

then_step : {A B : Type 0} (o : Option A) (f : A → Option B) (a : A) → o ≡ Some a → and_then o f ≡ f a
then_step o f a e = ap (λ t. and_then t f) e

nothing_more : (n : ℕ) → length {A = Lexeme} [] ≤ n
nothing_more n = omega arith

nothing_before : (n m : ℕ) → n ≤ m → length {A = Lexeme} [] + n ≤ m
nothing_before n m h = omega arith

-- the function at the line of MODULE
abbrev TokensAt : (n column at : ℕ) → List ℕ → Option (List Lexeme)
TokensAt n column at bs = module_tokens most_tokens n None column at [] bs

tokens_there : (text before rest : List ℕ) → text ≡ before ++ rest → TokensAt (length text) (column_at text (length before)) (length before) (drop (length before) text) ≡ TokensAt (length text) (column_of before) (length before) rest
tokens_there text before rest e = λ j. TokensAt (length text) (column_there text before rest e j) (length before) (rest_there text before rest e j)

from_sound : (text before rest : List ℕ) (tokens : List Lexeme) → text ≡ before ++ rest → IsFirst IsModuleLine before rest → from_module text (length before) ≡ Some tokens → IsCut text tokens
unfolding from_module
from_sound text before rest tokens e line h =
    then_some _ _ tokens _ h (λ all got h.
    let r = tokens_sound most_tokens (length text) all None before rest [] (nothing_more most_tokens) (sym (tokens_there text before rest e) ∙ got) in
    record {
      before = before;
      part = r.part;
      behind = r.rest;
      unmarked = r.more;
      both = e ∙ (λ j. before ++ r.split j);
      line = subst (λ x. IsFirst IsModuleLine before x) r.split line;
      cut = r.cut;
      ends = ends_row None r.more refl r.ends;
      few = subst (λ x. length x ≤ most_tokens) r.tokens r.few;
      marks = subst (λ x. Marks x tokens) r.tokens (marks_found all tokens h);
    })

pub cut_sound : (text : List ℕ) (tokens : List Lexeme) → cut text ≡ Some tokens → IsCut text tokens
cut_sound text tokens e = then_some _ _ tokens _ e (λ rest got h.
    let f = found_first IsModuleLine is_line_at is_fresh fresh tells_module [] text rest (ap (λ s. module_from s text) fresh_first ∙ got) in
    from_sound text f.middle rest tokens f.split (record { here = f.has; first = λ l r q k. f.first l r (q ∙ sym f.split) k })
    (subst (λ n. from_module text n ≡ Some tokens) (length_there text f.middle rest f.split) h))

from_given : (text before part behind : List ℕ) (unmarked tokens : List Lexeme) → text ≡ before ++ (part ++ behind) → Cut Anything before part behind unmarked → EndsWithRow unmarked → length unmarked ≤ most_tokens → Marks unmarked tokens
    → from_module text (length before) ≡ Some tokens
unfolding from_module
from_given text before part behind unmarked tokens e cut ends few marks =
    let short : length part ≤ length text = (let a = ap length e in let b = length-append before (part ++ behind) in let c = length-append part behind in omega (arith, a, b, c)) in
    then_step _ marked unmarked (tokens_there text before (part ++ behind) e ∙ tokens_complete cut most_tokens (length text) None [] (row_ends unmarked ends) short (nothing_before (length unmarked) most_tokens few))
    ∙ marks_only unmarked tokens marks

pub cut_complete : (text : List ℕ) (tokens : List Lexeme) → IsCut text tokens → cut text ≡ Some tokens
cut_complete text tokens h =
    ap (λ o. and_then o (λ r. from_module text (length text - length r))) (ap (module_from true) h.both ∙ line_given h.before (h.part ++ h.behind) h.line)
    ∙ ap (from_module text) (length_there text h.before (h.part ++ h.behind) h.both)
    ∙ from_given text h.before h.part h.behind h.unmarked tokens h.both h.cut h.ends h.few h.marks
