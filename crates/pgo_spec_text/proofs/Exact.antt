-- The lists that the function gives are those that the text of a specification has.
use Rattle.std.proofs.Common.{◌≡◌, ◌≤◌, ◌<◌, ◌+◌, ◌-◌, ℕ, true, nat_lt, List, [], ◌∷◌, ◌++◌, length, take, drop, Option, Some, None, Result, Ok, Err, IfOk, is_some, refl, sym, ◌∙◌, ap, subst, arith}
use Rattle.std.specs.Prelude.{codes}
use Rattle.std.proofs.Math.Seq.{take-append_seam, drop-append_seam}
use Rattle.std.proofs.lemmas.Bool.{ltb-true, lt-ltb}
use Rattle.std.proofs.lemmas.List.{append_assoc, length-append}
use Rattle.pgo_lexer.specs.declared.token.Lexeme.{Lexeme}
use Rattle.pgo_lexer.specs.declared.errors.TextStop.{TextStop}
use Rattle.pgo_lexer.specs.declared.errors.TextStop.TheVariants.{Syntax, NoMemory}
use Rattle.pgo_lexer.specs.Answers.{Gives}
use Rattle.pgo_lexer.specs.Lexing.{and_then}
use Rattle.pgo_lexer.specs.Layout.{Marks}
use Rattle.pgo_lexer.specs.Marking.{marked}
use Rattle.pgo_lexer.proofs.Runs.{if_some, no_some, cond_true}
use Rattle.pgo_lexer.proofs.MarksComplete.{marks_only}
use Rattle.pgo_lexer.proofs.MarksSound.{marks_found}
use Rattle.pgo_spec_text.specs.declared.cut.Head.{Head}
use Rattle.pgo_spec_text.specs.declared.parts.SpecTokens.{SpecTokens}
use Rattle.pgo_spec_text.specs.SpecText.{IsSpecText, IsAlgorithm, IsModuleLine, IsAlgorithmComment, IsFirst, Cut, HasNoAlgorithm, EndsWithBrace, AllAllowed, ClosingRow, mpcal, most_tokens, IsOrNoMemory}
use Rattle.pgo_spec_text.specs.Searching.{module_from, is_line_at, is_fresh, is_row_at, stays, row_from, inside}
use Rattle.pgo_spec_text.specs.Cutting.{header, algorithm, column_at, body_start, algorithm_in, closed_by, closed, with_body, with_comment, from_module, cut}
use Rattle.pgo_spec_text.proofs.Firsts.{found_first, first_found, none_first}
use Rattle.pgo_spec_text.proofs.Words.{fresh, fresh_first, tells_module, AtRow, tells_row}
use Rattle.pgo_spec_text.proofs.Bodies.{inside_sound, inside_found}
use Rattle.pgo_spec_text.proofs.Adding.{column_of}
use Rattle.pgo_spec_text.proofs.HeaderExact.{HeaderRead, header_sound, header_complete}
use Rattle.pgo_spec_text.proofs.AlgorithmExact.{Ends, outside, algorithm_sound, algorithm_complete}

then_some : {A B : Type 0} (o : Option A) (f : A → Option B) (b : B) (Goal : Type 0) → and_then o f ≡ Some b → ((a : A) → o ≡ Some a → f a ≡ Some b → Goal) → Goal
then_some None f b Goal e k = no_some b Goal e
then_some (Some a) f b Goal e k = k a refl e

-- ---- places

pub column_there : (text before rest : List ℕ) → text ≡ before ++ rest → column_at text (length before) ≡ column_of before
column_there text before rest e = ap column_of ((λ i. take (length before) (e i)) ∙ take-append_seam before rest)

pub rest_there : (text before rest : List ℕ) → text ≡ before ++ rest → drop (length before) text ≡ rest
rest_there text before rest e = (λ i. drop (length before) (e i)) ∙ drop-append_seam before rest

pub length_there : (text before rest : List ℕ) → text ≡ before ++ rest → length text - length rest ≡ length before
length_there text before rest e = let q = ap length e ∙ length-append before rest in omega (arith, q)

-- ---- the closing row

row_is : (bs row : List ℕ) → row_from bs ≡ Some row → ClosingRow bs
row_is bs row e =
    let f = found_first AtRow is_row_at stays (λ _. true) tells_row [] bs row e in
    record { before = f.middle; behind = f.has.behind; both = f.split ∙ (λ i. f.middle ++ f.has.both i) }

-- what is given where the row stands behind the lists
pub record Closed (room count : ℕ) (rest : List ℕ) (header algorithm : List Lexeme) (p : SpecTokens) : Type 0 where
  pub row : ClosingRow rest
  pub few : count < room
  pub header_is : header ≡ p.header
  pub algorithm_is : algorithm ≡ p.algorithm

closed_sound : (room count : ℕ) (rest : List ℕ) (header algorithm : List Lexeme) (p : SpecTokens) → closed room count rest header algorithm ≡ Some p → Closed room count rest header algorithm p
unfolding closed
closed_sound room count rest header algorithm p e = go (row_from rest) refl e
  where
    go : (o : Option (List ℕ)) → row_from rest ≡ o → closed_by room count o header algorithm ≡ Some p → Closed room count rest header algorithm p
    go None got e = no_some p _ e
    go (Some row) got e =
        if_some (nat_lt count room) _ _ p (Closed room count rest header algorithm p) e
        (λ t e. let same : record { header = header; algorithm = algorithm } ≡ p = cc in
        record { row = row_is rest row got; few = ltb-true count room t; header_is = ap (λ x. x.header) same; algorithm_is = ap (λ x. x.algorithm) same })
        (λ _ e. no_some p _ e)

closed_complete : (room count : ℕ) (rest : List ℕ) (header algorithm : List Lexeme) → ClosingRow rest → count < room → closed room count rest header algorithm ≡ Some (record { header = header; algorithm = algorithm })
unfolding closed
closed_complete room count rest header algorithm h few = go (row_from rest) refl
  where
    go : (o : Option (List ℕ)) → row_from rest ≡ o → closed_by room count o header algorithm ≡ Some (record { header = header; algorithm = algorithm })
    go None got = absurd (none_first AtRow is_row_at stays (λ _. true) tells_row [] rest got h.before (codes "====" ++ h.behind) (sym h.both) (record { behind = h.behind; both = refl }))
    go (Some row) got = cond_true (nat_lt count room) _ _ (lt-ltb count room few)

-- ---- what is given is right

pub outside_ends : (ls : List Lexeme) → Ends 0 ls → EndsWithBrace ls
outside_ends ls (outside h) = h

-- the tokens of an algorithm, whose body stands behind `before`
pub record AlgorithmPart (before content behind : List ℕ) (used : ℕ) (header : List Lexeme) (p : SpecTokens) : Type 0 where
  pub part : List ℕ
  pub passed : List ℕ
  pub unmarked : List Lexeme
  pub split : content ≡ part ++ passed
  pub is : IsAlgorithm before part passed unmarked p.algorithm
  pub row : ClosingRow behind
  pub few : used + length unmarked + 1 ≤ most_tokens
  pub header_is : header ≡ p.header

pub body_place : (text before content behind : List ℕ) → text ≡ before ++ (content ++ ((42 ∷ 41 ∷ []) ++ behind)) → body_start text (content, behind) ≡ length before
body_place text before content behind e =
    let q = ap length e ∙ length-append before (content ++ ((42 ∷ 41 ∷ []) ++ behind)) in
    let r = length-append content ((42 ∷ 41 ∷ []) ++ behind) in
    omega (arith, q, r)

pub algorithm_there : (text before content behind : List ℕ) (used : ℕ) → text ≡ before ++ (content ++ ((42 ∷ 41 ∷ []) ++ behind))
    → algorithm_in text used (content, behind) ≡ algorithm (most_tokens - used) (length content) 0 (column_of before) (length before) [] content
algorithm_there text before content behind used e =
    (λ i. algorithm (most_tokens - used) (length content) 0 (column_at text (body_place text before content behind e i)) (body_place text before content behind e i) [] content)
    ∙ (λ i. algorithm (most_tokens - used) (length content) 0 (column_there text before (content ++ ((42 ∷ 41 ∷ []) ++ behind)) e i) (length before) [] content)

algorithm_part : (text before content behind : List ℕ) (used : ℕ) (header : List Lexeme) (p : SpecTokens) → text ≡ before ++ (content ++ ((42 ∷ 41 ∷ []) ++ behind)) → with_body text used header (content, behind) ≡ Some p
    → AlgorithmPart before content behind used header p
algorithm_part text before content behind used header p e h =
    then_some _ _ p _ h (λ all got h. then_some _ _ p _ h (λ marks is h.
    let a = algorithm_sound (most_tokens - used) (length content) all 0 before content [] (omega arith) (sym (algorithm_there text before content behind used e) ∙ got) in
    let c = closed_sound (most_tokens - used) (length all) behind header marks p h in
    record {
      part = a.part;
      passed = a.rest;
      unmarked = a.more;
      split = a.split;
      is = record {
        cut = a.cut;
        ends = outside_ends a.more a.ends;
        allowed = a.allowed;
        marks = subst (λ x. Marks a.more x) c.algorithm_is (subst (λ x. Marks x marks) a.tokens (marks_found all marks is));
      };
      row = c.row;
      few = (let long = ap length a.tokens in omega (arith, long, c.few));
      header_is = c.header_is;
    }))

-- the place behind `--mpcal`
pub body_behind : (text before head opening content behind : List ℕ) → text ≡ before ++ (head ++ ((opening ++ (mpcal ++ (content ++ (42 ∷ 41 ∷ [])))) ++ behind))
    → text ≡ (before ++ (head ++ (opening ++ mpcal))) ++ (content ++ ((42 ∷ 41 ∷ []) ++ behind))
body_behind text before head opening content behind e = e ∙ joined before head opening mpcal content (42 ∷ 41 ∷ []) behind
  where
    joined : (a b c d e f g : List ℕ) → a ++ (b ++ ((c ++ (d ++ (e ++ f))) ++ g)) ≡ (a ++ (b ++ (c ++ d))) ++ (e ++ (f ++ g))
    joined a b c d e f g = simp append_assoc

-- the whole, where the header is read and the comment found
whole_by : (text before rest : List ℕ) (head : Head) (header : List Lexeme) (i : List ℕ × List ℕ) (p : SpecTokens) → text ≡ before ++ rest → IsFirst IsModuleLine before rest → HeaderRead most_tokens before [] rest head
    → marked head.tokens ≡ Some header → inside (drop head.at text) ≡ Some i → with_body text (length head.tokens) header i ≡ Some p → IsSpecText text p.header p.algorithm
whole_by text before rest head header i p e line r is there h =
    let split : text ≡ (before ++ r.part) ++ r.rest = e ∙ (λ j. before ++ r.split j) ∙ sym (append_assoc before r.part r.rest) in
    let at_rest : drop head.at text ≡ r.rest = (λ j. drop (r.at j) text) ∙ rest_there text (before ++ r.part) r.rest split in
    let k = inside_sound r.rest i.0 i.1 (ap inside (sym at_rest) ∙ there) in
    let full : text ≡ before ++ (r.part ++ (k.comment ++ i.1)) = e ∙ (λ j. before ++ r.split j) ∙ (λ j. before ++ (r.part ++ k.both j)) in
    let a = algorithm_part text (before ++ (r.part ++ (k.opening ++ mpcal))) i.0 i.1 (length head.tokens) header p
    (body_behind text before r.part k.opening i.0 i.1 (full ∙ (λ j. before ++ (r.part ++ (k.is.both j ++ i.1))))) h in
    record {
      before = before;
      head = r.part;
      opening = k.opening;
      part = a.part;
      passed = a.passed;
      comment = k.comment;
      behind = i.1;
      unmarked_header = r.more;
      unmarked_algorithm = a.unmarked;
      both = full;
      is_header = record {
        line = subst (λ x. IsFirst IsModuleLine before x) (r.split ∙ (λ j. r.part ++ k.both j)) line;
        cut = subst (λ x. Cut HasNoAlgorithm before r.part x r.more) k.both r.cut;
        allowed = r.allowed;
        marks = subst (λ x. Marks r.more x) a.header_is (subst (λ x. Marks x header) r.tokens (marks_found head.tokens header is));
      };
      is_comment = subst (λ x. IsAlgorithmComment k.comment k.opening x) {y = a.part ++ a.passed} a.split k.is;
      is_algorithm = a.is;
      closing = a.row;
      few = (let long = ap length r.tokens in omega (arith, long, a.few));
    }

-- the whole, where the line of MODULE is found
whole : (text before rest : List ℕ) (p : SpecTokens) → text ≡ before ++ rest → IsFirst IsModuleLine before rest → from_module text (length before) ≡ Some p → IsSpecText text p.header p.algorithm
unfolding from_module with_comment
whole text before rest p e line h =
    then_some _ _ p _ h (λ head got h. then_some _ _ p _ h (λ header is h. then_some _ _ p _ h (λ i there h.
    let at_start : header_at text (column_at text (length before)) (length before) (drop (length before) text) ≡ header_at text (column_of before) (length before) rest =
    (λ j. header_at text (column_there text before rest e j) (length before) (rest_there text before rest e j)) in
    let r = header_sound most_tokens (length text) head before rest [] (omega arith) (sym at_start ∙ got) in
    whole_by text before rest head header i p e line r is there h)))
  where
    header_at : (text : List ℕ) (column at : ℕ) → List ℕ → Option Head
    header_at text column at bs = header most_tokens (length text) column at [] bs

pub cut_sound : (text : List ℕ) (p : SpecTokens) → cut text ≡ Some p → IsSpecText text p.header p.algorithm
cut_sound text p e = then_some _ _ p _ e (λ rest got h.
    let f = found_first IsModuleLine is_line_at is_fresh fresh tells_module [] text rest (ap (λ s. module_from s text) fresh_first ∙ got) in
    whole text f.middle rest p f.split (record { here = f.has; first = λ l r q k. f.first l r (q ∙ sym f.split) k })
    (subst (λ n. from_module text n ≡ Some p) (length_there text f.middle rest f.split) h))

-- ---- what is right is given

pub line_given : (before rest : List ℕ) → IsFirst IsModuleLine before rest → module_from true (before ++ rest) ≡ Some rest
line_given before rest h = ap (λ s. module_from s (before ++ rest)) (sym fresh_first) ∙ first_found IsModuleLine is_line_at is_fresh fresh tells_module [] before rest h.here (λ l r e k. h.first l r e k)

-- a step of a chain
step : {A B : Type 0} (o : Option A) (f : A → Option B) (a : A) → o ≡ Some a → and_then o f ≡ f a
step o f a e = ap (λ t. and_then t f) e

algorithm_given : (text before part passed behind : List ℕ) (used : ℕ) (header unmarked algorithm : List Lexeme) → text ≡ before ++ ((part ++ passed) ++ ((42 ∷ 41 ∷ []) ++ behind)) → IsAlgorithm before part passed unmarked algorithm
    → ClosingRow behind → used + length unmarked + 1 ≤ most_tokens → with_body text used header (part ++ passed, behind) ≡ Some (record { header = header; algorithm = algorithm })
algorithm_given text before part passed behind used header unmarked algorithm e h row few =
    let long = length-append part passed in
    let cut = algorithm_complete h.cut (most_tokens - used) (length (part ++ passed)) 0 [] (outside h.ends) h.allowed (omega (arith, long)) (omega (arith, few)) in
    step (algorithm_in text used (part ++ passed, behind)) _ unmarked (algorithm_there text before (part ++ passed) behind used e ∙ cut)
    ∙ step (marked unmarked) _ algorithm (marks_only unmarked algorithm h.marks)
    ∙ closed_complete (most_tokens - used) (length unmarked) behind header algorithm row (omega (arith, few))

comment_given : (text before rest part passed behind : List ℕ) (place : List ℕ) (header unmarked algorithm : List Lexeme) (used : ℕ) → text ≡ before ++ rest → inside rest ≡ Some (part ++ passed, behind)
    → text ≡ place ++ ((part ++ passed) ++ ((42 ∷ 41 ∷ []) ++ behind)) → IsAlgorithm place part passed unmarked algorithm → ClosingRow behind → used + length unmarked + 1 ≤ most_tokens
    → with_comment text used header (length before) ≡ Some (record { header = header; algorithm = algorithm })
unfolding with_comment
comment_given text before rest part passed behind place header unmarked algorithm used e there f h row few =
    step (inside (drop (length before) text)) _ (part ++ passed, behind) (ap inside (rest_there text before rest e) ∙ there)
    ∙ algorithm_given text place part passed behind used header unmarked algorithm f h row few

module_given : (text before head rest : List ℕ) (header_tokens unmarked : List Lexeme) (p : SpecTokens) → text ≡ before ++ (head ++ rest) → Cut HasNoAlgorithm before head rest unmarked → AllAllowed unmarked → Marks unmarked header_tokens
    → is_some (inside rest) ≡ true → length head < length text → length unmarked ≤ most_tokens → with_comment text (length unmarked) header_tokens (length (before ++ head)) ≡ Some p → from_module text (length before) ≡ Some p
unfolding from_module
module_given text before head rest header_tokens unmarked p e d ok marks there inside_text few h =
    let at_start : header most_tokens (length text) (column_at text (length before)) (length before) [] (drop (length before) text) ≡ header most_tokens (length text) (column_of before) (length before) [] (head ++ rest) =
    (λ j. header most_tokens (length text) (column_there text before (head ++ rest) e j) (length before) [] (rest_there text before (head ++ rest) e j)) in
    step _ _ (record { tokens = unmarked; at = length (before ++ head) }) (at_start ∙ header_complete d most_tokens (length text) [] there ok inside_text (omega (arith, few)))
    ∙ step (marked unmarked) _ header_tokens (marks_only unmarked header_tokens marks)
    ∙ h

pub cut_complete : (text : List ℕ) (header algorithm : List Lexeme) → IsSpecText text header algorithm → cut text ≡ Some (record { header = header; algorithm = algorithm })
cut_complete text header algorithm h =
    let rest = h.comment ++ h.behind in
    let content = h.part ++ h.passed in
    let place = h.before ++ (h.head ++ (h.opening ++ mpcal)) in
    let there : inside rest ≡ Some (content, h.behind) = inside_found h.comment h.opening content h.behind h.is_comment in
    let split : text ≡ (h.before ++ h.head) ++ rest = h.both ∙ sym (append_assoc h.before h.head rest) in
    let at_body = body_behind text h.before h.head h.opening content h.behind (h.both ∙ (λ j. h.before ++ (h.head ++ (h.is_comment.both j ++ h.behind)))) in
    let shorter : length h.head < length text = (
    let a = ap length h.both in let b = length-append h.before (h.head ++ rest) in let c = length-append h.head rest in let d = length-append h.comment h.behind in
    let e = ap length h.is_comment.is_comment.both in omega (arith, a, b, c, d, e)) in
    ap (λ o. and_then o (λ r. from_module text (length text - length r))) (ap (module_from true) h.both ∙ line_given h.before (h.head ++ rest) h.is_header.line)
    ∙ ap (from_module text) (length_there text h.before (h.head ++ rest) h.both)
    ∙ module_given text h.before h.head rest header h.unmarked_header (record { header = header; algorithm = algorithm }) h.both h.is_header.cut h.is_header.allowed h.is_header.marks (ap is_some there) shorter (omega (arith, h.few))
    (comment_given text (h.before ++ h.head) rest h.part h.passed h.behind place header h.unmarked_algorithm algorithm (length h.unmarked_header) split there at_body h.is_algorithm h.closing h.few)

-- ---- the clauses of the public calls

pub result_found : (text : List ℕ) (r : Result SpecTokens TextStop) → Gives (cut text) r → IfOk r (λ p. IsSpecText text p.header p.algorithm)
result_found text (Ok p) e = cut_sound text p e
result_found text (Err (Syntax n)) e = tt
result_found text (Err NoMemory) e = tt

pub result_only : (text : List ℕ) (r : Result SpecTokens TextStop) → Gives (cut text) r → (header algorithm : List Lexeme) → IsSpecText text header algorithm → IsOrNoMemory r header algorithm
result_only text (Ok p) e header algorithm h =
    let q = sym e ∙ cut_complete text header algorithm h in
    let same : p ≡ record { header = header; algorithm = algorithm } = cc in
    (ap (λ x. x.header) same, ap (λ x. x.algorithm) same)
result_only text (Err (Syntax n)) e header algorithm h = absurd (let q = sym e ∙ cut_complete text header algorithm h in cc)
result_only text (Err NoMemory) e header algorithm h = tt

pub one_pair : (text : List ℕ) (h a k b : List Lexeme) → IsSpecText text h a → IsSpecText text k b → (h ≡ k) × (a ≡ b)
one_pair text h a k b d e =
    let q : Some (pair h a) ≡ Some (pair k b) = sym (cut_complete text h a d) ∙ cut_complete text k b e in
    let same : pair h a ≡ pair k b = cc in
    (ap (λ x. x.header) same, ap (λ x. x.algorithm) same)
  where
    pair : List Lexeme → List Lexeme → SpecTokens
    pair h a = record { header = h; algorithm = a }
