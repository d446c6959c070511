-- The tokens before a fault are those of the header and of the algorithm before it.
use Rattle.std.proofs.Common.{◌≡◌, ◌≤◌, ◌<◌, ◌+◌, ◌-◌, ◌*◌, ◌%◌, ℕ, Bool, true, false, cond, nat_eq, List, [], ◌∷◌, ◌++◌, length, take, drop, Option, Some, None, Result, Ok, Err, IfOk, is_some, sym, ◌∙◌, ap, subst, arith}
use Rattle.std.proofs.Math.Seq.{take-append_seam, drop-append_seam}
use Rattle.std.proofs.lemmas.List.{append_assoc, take-append-drop, length-append, length-take-le}
use Rattle.std.proofs.lemmas.List.Elements.{All-nil, All-cons}
use Rattle.pgo_lexer.specs.declared.token.Lexeme.{Lexeme}
use Rattle.pgo_lexer.specs.declared.before.Before.{Before}
use Rattle.pgo_lexer.specs.declared.errors.TextStop.{TextStop}
use Rattle.pgo_lexer.specs.Lexemes.{column_behind, columns_behind}
use Rattle.pgo_lexer.specs.Prefixes.{AreCounted, IsMarkedTo}
use Rattle.pgo_spec_text.specs.declared.cut.Head.{Head}
use Rattle.pgo_spec_text.specs.declared.before.SpecBefore.{SpecBefore}
use Rattle.pgo_spec_text.specs.SpecText.{Cut, Anything, mpcal, most_tokens, IsModuleLine}
use Rattle.pgo_spec_text.specs.SpecText as s
use Rattle.pgo_spec_text.specs.Searching.{inside, module_from, is_line_at, is_fresh}
use Rattle.pgo_spec_text.specs.Cutting.{algorithm, algorithm_in, body_start, column_at, header}
use Rattle.pgo_spec_text.specs.Prefixes.{IsPartBefore, IsWholeAlgorithm, IsAlgorithmBefore, IsWholeHeader, ArePartsBefore, IsSpecBefore}
use Rattle.pgo_spec_text.specs.Prefixes as p
use Rattle.pgo_spec_text.proofs.Adding.{column_of}
use Rattle.pgo_spec_text.proofs.Bodies.{inside_sound, inside_found}
use Rattle.pgo_spec_text.proofs.HeaderExact.{HeaderRead, header_sound, header_complete}
use Rattle.pgo_spec_text.proofs.AlgorithmExact.{outside, algorithm_sound, algorithm_complete}
use Rattle.pgo_spec_text.proofs.Firsts.{found_first, none_first}
use Rattle.pgo_spec_text.proofs.Words.{fresh, fresh_first, tells_module}
use Rattle.pgo_spec_text.proofs.Exact.{rest_there, length_there, algorithm_there, body_place, body_behind, outside_ends}

-- ---- columns

column_near : (c b : ℕ) → column_behind c b ≤ c + 8
unfolding column_behind
column_near c b = go (nat_eq b 10) (nat_eq b 9)
  where
    go : (x y : Bool) → cond x 0 (cond y (c + (8 - c % 8)) (c + 1)) ≤ c + 8
    go true y = omega arith
    go false true = omega arith
    go false false = omega arith

columns_near : (c : ℕ) (bs : List ℕ) → columns_behind c bs ≤ c + 8 * length bs
columns_near c [] = omega arith
columns_near c (b ∷ bs) = let here = column_near c b in let rest = columns_near (column_behind c b) bs in omega (arith, here, rest)

-- columns of tokens in a text that memory holds are counted
pub cut_counted : {Allowed : List ℕ → Type 0} {before part rest : List ℕ} {ls : List Lexeme} → Cut Allowed before part rest ls → length before + length part ≤ 1152921504606846976 → AreCounted ls
cut_counted (s.end {before} {rest}) small = All-nil (λ (t : Lexeme). t.column < 18446744073709551615)
cut_counted (s.pass {before} piece {part} {rest} {ls} is allowed d) small =
    cut_counted d (let long = length-append piece part in let longer = length-append before piece in omega (arith, small, long, longer))
cut_counted (s.token {before} piece {part} {rest} {ls} {token} is d) small =
    let near = columns_near 0 before in
    All-cons (λ (t : Lexeme). t.column < 18446744073709551615) (s.lexeme token before piece) ls (omega (arith, near, small))
    (cut_counted d (let long = length-append piece part in let longer = length-append before piece in omega (arith, small, long, longer)))

-- ---- the algorithm

-- the function gives an algorithm that is whole
whole_given : (before body part passed : List ℕ) (room : ℕ) (ls : List Lexeme) → body ≡ part ++ passed → IsWholeAlgorithm before part passed room ls → algorithm room (length body) 0 (column_of before) (length before) [] body ≡ Some ls
whole_given before body part passed room ls e h =
    let long = ap length e ∙ length-append part passed in
    ap (algorithm room (length body) 0 (column_of before) (length before) []) e
    ∙ algorithm_complete h.cut room (length body) 0 [] (outside h.ends) h.allowed (omega (arith, long)) (omega (arith, h.few))

-- what the function gives is whole
pub algorithm_whole : (text before body behind : List ℕ) (used fault : ℕ) (ls : List Lexeme) (r : Result Before TextStop) → text ≡ before ++ (body ++ ((42 ∷ 41 ∷ []) ++ behind)) → length text ≤ 1152921504606846976
    → algorithm_in text used (body, behind) ≡ Some ls → (AreCounted ls → IfOk r (IsMarkedTo fault ls)) → IfOk r (IsAlgorithmBefore before body (most_tokens - used) fault)
algorithm_whole text before body behind used fault ls r e small got marked =
    let a = algorithm_sound (most_tokens - used) (length body) ls 0 before body [] (omega arith) (sym (algorithm_there text before body behind used e) ∙ got) in
    let same : ls ≡ a.more = a.tokens in
    let q = ap length e ∙ length-append before (body ++ ((42 ∷ 41 ∷ []) ++ behind)) in
    let k = length-append body ((42 ∷ 41 ∷ []) ++ behind) in
    let l = ap length a.split ∙ length-append a.part a.rest in
    let counted : AreCounted ls = subst AreCounted (sym same) (cut_counted a.cut (omega (arith, q, k, l, small))) in
    let w : IsWholeAlgorithm before a.part a.rest (most_tokens - used) ls = record {
      cut = subst (λ x. Cut Anything before a.part a.rest x) (sym same) a.cut;
      ends = subst s.EndsWithBrace (sym same) (outside_ends a.more a.ends);
      allowed = subst s.AllAllowed (sym same) a.allowed;
      few = a.few;
    } in
    go r a.part a.rest a.split w (marked counted)
  where
    go : (r : Result Before TextStop) (part passed : List ℕ) → body ≡ part ++ passed → IsWholeAlgorithm before part passed (most_tokens - used) ls → IfOk r (IsMarkedTo fault ls) → IfOk r (IsAlgorithmBefore before body (most_tokens - used) fault)
    go (Ok b) part passed split w m = p.IsAlgorithmBefore.whole part passed ls split w m
    go (Err stop) part passed split w m = tt

-- where the function gives none, it isn't whole
pub algorithm_not_whole : (text before body behind : List ℕ) (used fault : ℕ) (r : Result Before TextStop) → text ≡ before ++ (body ++ ((42 ∷ 41 ∷ []) ++ behind))
    → algorithm_in text used (body, behind) ≡ None
    → IfOk r (IsPartBefore (take (body_start text (body, behind)) (take (body_start text (body, behind) + length body) text)) (drop (body_start text (body, behind)) (take (body_start text (body, behind) + length body) text)) fault)
    → IfOk r (IsAlgorithmBefore before body (most_tokens - used) fault)
algorithm_not_whole text before body behind used fault r e none h = go r h
  where
    place : body_start text (body, behind) ≡ length before
    place = body_place text before body behind e

    seam : text ≡ (before ++ body) ++ ((42 ∷ 41 ∷ []) ++ behind)
    seam = e ∙ sym (append_assoc before body ((42 ∷ 41 ∷ []) ++ behind))

    upto : take (body_start text (body, behind) + length body) text ≡ before ++ body
    upto = (λ i. take (place i + length body) (seam i)) ∙ ap (λ n. take n ((before ++ body) ++ ((42 ∷ 41 ∷ []) ++ behind))) (sym (length-append before body)) ∙ take-append_seam (before ++ body) ((42 ∷ 41 ∷ []) ++ behind)

    left : take (body_start text (body, behind)) (take (body_start text (body, behind) + length body) text) ≡ before
    left = (λ i. take (place i) (upto i)) ∙ take-append_seam before body

    right : drop (body_start text (body, behind)) (take (body_start text (body, behind) + length body) text) ≡ body
    right = (λ i. drop (place i) (upto i)) ∙ drop-append_seam before body

    no_whole : (part passed : List ℕ) (ls : List Lexeme) → body ≡ part ++ passed → IsWholeAlgorithm before part passed (most_tokens - used) ls → ⊥
    no_whole part passed ls split w =
        let q = sym none ∙ algorithm_there text before body behind used e ∙ whole_given before body part passed (most_tokens - used) ls split w in cc

    go : (r : Result Before TextStop) → IfOk r (IsPartBefore (take (body_start text (body, behind)) (take (body_start text (body, behind) + length body) text)) (drop (body_start text (body, behind)) (take (body_start text (body, behind) + length body) text)) fault) → IfOk r (IsAlgorithmBefore before body (most_tokens - used) fault)
    go (Ok b) h = p.IsAlgorithmBefore.not_whole no_whole (subst (λ x. IsPartBefore before x fault b) right (subst (λ x. IsPartBefore x (drop (body_start text (body, behind)) (take (body_start text (body, behind) + length body) text)) fault b) left h))
    go (Err stop) h = tt

-- ---- the header

abbrev pub HeaderIs : (text : List ℕ) (start : ℕ) → Option Head → Type 0
HeaderIs text start o = header most_tokens (length text) (column_at text start) start [] (drop start text) ≡ o

-- the function gives a header that is whole
pub header_given : (text part rest : List ℕ) (start : ℕ) (ls : List Lexeme) → start ≤ length text → drop start text ≡ part ++ rest → IsWholeHeader (take start text) part rest ls
    → HeaderIs text start (Some (record { tokens = ls; at = start + length part }))
header_given text part rest start ls within split h =
    let before = take start text in
    let long = length-take-le start text within in
    let same = sym long in
    let all = ap length (sym (take-append-drop start text)) ∙ length-append before (drop start text) in
    let parts = ap length split ∙ length-append part rest in
    let behind = ap length h.both ∙ length-append h.comment h.behind in
    let some = ap length h.is_comment.is_comment.both in
    let end = length-append before part in
    let shorter : length part < length text = omega (arith, all, long, parts, behind, some) in
    let there : is_some (inside rest) ≡ true = ap (λ x. is_some (inside x)) h.both ∙ ap is_some (inside_found h.comment h.opening h.body h.behind h.is_comment) in
    let at : length (before ++ part) ≡ start + length part = omega (arith, end, long) in
    (λ i. header most_tokens (length text) (column_of before) (same i) [] (split i))
    ∙ header_complete h.cut most_tokens (length text) [] there h.allowed shorter (omega (arith, h.few))
    ∙ (λ i. Some (record { tokens = ls; at = at i }))

-- what the function gives is whole
pub header_read : (text : List ℕ) (start : ℕ) (h : Head) → start ≤ length text → HeaderIs text start (Some h) → HeaderRead most_tokens (take start text) [] (drop start text) h
header_read text start h within e =
    header_sound most_tokens (length text) h (take start text) (drop start text) [] (omega arith)
    (ap (λ n. header most_tokens (length text) (column_of (take start text)) n [] (drop start text)) (length-take-le start text within) ∙ e)

pub header_counted : (text : List ℕ) (start : ℕ) (h : Head) → start ≤ length text → length text ≤ 1152921504606846976 → HeaderIs text start (Some h) → AreCounted h.tokens
header_counted text start h within small e =
    let r = header_read text start h within e in
    let long = length-append (take start text) (drop start text) in
    let all = ap length (take-append-drop start text) in
    let parts = ap length r.split ∙ length-append r.part r.rest in
    subst AreCounted (sym r.tokens) (cut_counted r.cut (omega (arith, small, long, all, parts)))

-- the header doesn't end before the fault
abbrev pub EndsBehind : (text : List ℕ) (start fault : ℕ) → Type 0
EndsBehind text start fault = (part rest : List ℕ) (unmarked : List Lexeme) → drop start text ≡ part ++ rest → IsWholeHeader (take start text) part rest unmarked → fault ≤ start + length part

pub ends_behind : (text : List ℕ) (start fault : ℕ) (h : Head) → start ≤ length text → HeaderIs text start (Some h) → fault ≤ h.at → EndsBehind text start fault
ends_behind text start fault h within e behind = λ part rest ls split w.
    let q = sym e ∙ header_given text part rest start ls within split w in
    let same : h ≡ record { tokens = ls; at = start + length part } = cc in
    let at : h.at ≡ start + length part = ap (λ x. x.at) same in
    omega (arith, at, behind)

pub never_ends : (text : List ℕ) (start fault : ℕ) → start ≤ length text → HeaderIs text start None → EndsBehind text start fault
never_ends text start fault within e = λ part rest ls split w.
    absurd (let q = sym e ∙ header_given text part rest start ls within split w in cc)

pub alone_by : (text : List ℕ) (start fault : ℕ) (s : SpecBefore) → start ≤ length text → EndsBehind text start fault → IsPartBefore (take start text) (drop start text) fault s.header → s.algorithm ≡ None
    → ArePartsBefore (take start text) (drop start text) fault s
alone_by text start fault s within ends h none =
    p.ArePartsBefore.not_whole (λ part rest ls split w. let long = length-take-le start text within in let e = ends part rest ls split w in omega (arith, long, e)) h none

-- the comment with the algorithm stands where the function ends the header
pub comment_there : (text : List ℕ) (start : ℕ) (h : Head) → start ≤ length text → HeaderIs text start (Some h) → is_some (inside (drop h.at text)) ≡ true
comment_there text start h within e =
    let before = take start text in
    let r = header_read text start h within e in
    let split : text ≡ (before ++ r.part) ++ r.rest = sym (take-append-drop start text) ∙ (λ j. before ++ r.split j) ∙ sym (append_assoc before r.part r.rest) in
    let there : drop h.at text ≡ r.rest = (λ j. drop (r.at j) text) ∙ rest_there text (before ++ r.part) r.rest split in
    ap (λ x. is_some (inside x)) there ∙ r.comment

pub both_by : (text body behind : List ℕ) (start fault : ℕ) (h : Head) (t : SpecBefore) (a : Before) → start ≤ length text → HeaderIs text start (Some h) → inside (drop h.at text) ≡ Some (body, behind) → h.at < fault
    → IsMarkedTo h.at h.tokens t.header → t.algorithm ≡ Some a
    → ((before : List ℕ) → text ≡ before ++ (body ++ ((42 ∷ 41 ∷ []) ++ behind)) → IsAlgorithmBefore before body (most_tokens - length h.tokens) fault a)
    → ArePartsBefore (take start text) (drop start text) fault t
both_by text body behind start fault h t a within e there less marked some inner =
    let before = take start text in
    let r = header_read text start h within e in
    let split : text ≡ (before ++ r.part) ++ r.rest = sym (take-append-drop start text) ∙ (λ j. before ++ r.split j) ∙ sym (append_assoc before r.part r.rest) in
    let at_rest : drop h.at text ≡ r.rest = (λ j. drop (r.at j) text) ∙ rest_there text (before ++ r.part) r.rest split in
    let k = inside_sound r.rest body behind (ap inside (sym at_rest) ∙ there) in
    let full : text ≡ before ++ (r.part ++ (k.comment ++ behind)) = sym (take-append-drop start text) ∙ (λ j. before ++ r.split j) ∙ (λ j. before ++ (r.part ++ k.both j)) in
    let at : h.at ≡ length before + length r.part = r.at ∙ length-append before r.part in
    let w : IsWholeHeader before r.part r.rest h.tokens = record {
      opening = k.opening;
      body = body;
      comment = k.comment;
      behind = behind;
      cut = subst (λ x. Cut s.HasNoAlgorithm before r.part r.rest x) (sym r.tokens) r.cut;
      allowed = subst s.AllAllowed (sym r.tokens) r.allowed;
      few = r.few;
      both = k.both;
      is_comment = k.is;
    } in
    p.ArePartsBefore.whole r.part r.rest h.tokens r.split w (omega (arith, less, at)) (subst (λ n. IsMarkedTo n h.tokens t.header) at marked) a some
    (inner (before ++ (r.part ++ (k.opening ++ mpcal))) (body_behind text before r.part k.opening body behind (full ∙ (λ j. before ++ (r.part ++ (k.is.both j ++ behind))))))

-- ---- the whole

pub no_line_by : (text : List ℕ) (fault : ℕ) (s : SpecBefore) → module_from true text ≡ None → IsMarkedTo fault [] s.header → s.algorithm ≡ None → IsSpecBefore text fault s
no_line_by text fault s none h e =
    p.IsSpecBefore.no_line (λ before rest split line. none_first IsModuleLine is_line_at is_fresh fresh tells_module [] text (ap (λ t. module_from t text) fresh_first ∙ none) before rest (sym split) line) h e

pub line_by : (text rest : List ℕ) (fault : ℕ) (s : SpecBefore) → module_from true text ≡ Some rest
    → ArePartsBefore (take (length text - length rest) text) (drop (length text - length rest) text) fault s → IsSpecBefore text fault s
line_by text rest fault s got h =
    let f = found_first IsModuleLine is_line_at is_fresh fresh tells_module [] text rest (ap (λ t. module_from t text) fresh_first ∙ got) in
    let n = length_there text f.middle rest f.split in
    let left : take (length text - length rest) text ≡ f.middle = (λ i. take (n i) (f.split i)) ∙ take-append_seam f.middle rest in
    let right : drop (length text - length rest) text ≡ rest = (λ i. drop (n i) (f.split i)) ∙ drop-append_seam f.middle rest in
    p.IsSpecBefore.line f.middle rest f.split (record { here = f.has; first = λ l r q k. f.first l r (q ∙ sym f.split) k })
    (subst (λ x. ArePartsBefore f.middle x fault s) right (subst (λ x. ArePartsBefore x (drop (length text - length rest) text) fault s) left h))

pub line_of : (text rest : List ℕ) (start fault : ℕ) (r : Result SpecBefore TextStop) → module_from true text ≡ Some rest → length text - length rest ≡ start
    → IfOk r (ArePartsBefore (take start text) (drop start text) fault) → IfOk r (IsSpecBefore text fault)
line_of text rest start fault (Ok s) got at h = line_by text rest fault s got (subst (λ n. ArePartsBefore (take n text) (drop n text) fault s) (sym at) h)
line_of text rest start fault (Err stop) got at h = tt
