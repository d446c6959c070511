-- What is read of a statement or a part of one is spelled by a front of the tokens.
use Rattle.std.proofs.Common.{◌≡◌, ℕ, zero, suc, ◌+◌, ◌-◌, ◌<◌, ◌≤◌, Bool, true, false, List, [], ◌∷◌, ◌++◌, length, take, Some, None, refl, ap, sym, ◌∙◌, subst, arith, cond, nat_lt}
use Rattle.std.proofs.lemmas.Bool.{ltb-true}
use Rattle.std.proofs.lemmas.List.{length-append}
use Rattle.pgo_lexer.specs.declared.token.Lexeme.{Lexeme}
use Rattle.pgo_syntax.specs.Statement.{Statement}
use Rattle.pgo_mpcal_read.specs.declared.with_depth.WithDepth.{WithDepth}
use Rattle.pgo_mpcal_read.specs.declared.depths.MacroDepth.{MacroDepth}
use Rattle.pgo_lexer.specs.declared.symbol.Symbol.{Symbol}
use Rattle.pgo_lexer.specs.declared.symbol.Keyword.TheVariants as keyword
use Rattle.pgo_lexer.specs.declared.symbol.Symbol.TheVariants as symbol
use Rattle.pgo_mpcal_read.specs.Depths.{depth}
use Rattle.pgo_mpcal_read.specs.Signs.{sees}
use Rattle.pgo_mpcal_read.specs.Elements.{at, Ended, closes}
use Rattle.pgo_mpcal_read.specs.Elements as elements
use Rattle.pgo_expr_read.specs.Steps.{and_then, skip, folded}
use Rattle.pgo_mpcal_read.specs.Reading.{Outcome, Parser, front_of, ended}
use Rattle.pgo_mpcal_read.specs.ReadingStatements.{with_depth, node}
use Rattle.pgo_mpcal_read.specs.Statements.{Spelled}
use Rattle.pgo_expr_read.proofs.Steps.{some_pair, bind_then}
use Rattle.pgo_mpcal_read.proofs.Parts.{seen}

-- what follows no statement that ends so
pub record Stays (u v : Bool) (rest : List Lexeme) : Type 0 where
  pub no_else : u ≡ true → sees (symbol.Keyword keyword.Else) rest ≡ false
  pub no_or : v ≡ true → sees (symbol.Keyword keyword.Or) rest ≡ false

pub stays_closed : (rest : List Lexeme) → Stays false false rest
stays_closed rest = record { no_else = λ h. cc; no_or = λ h. cc }

pub record Good (ms : List MacroDepth) (limit : ℕ) (i : List Lexeme) (r : WithDepth Statement) (rest : List Lexeme) : Type 0 where
  pub opens_if : Bool
  pub opens_either : Bool
  pub front : List Lexeme
  pub split : i ≡ front ++ rest
  pub spelled : Spelled opens_if opens_either front r.part
  pub depth : r.depth ≡ depth ms r.part
  pub within : r.depth ≤ limit
  pub stays : Stays opens_if opens_either rest

abbrev pub SoundInner : List MacroDepth → ℕ → Parser (WithDepth Statement) → Type 0
SoundInner ms limit inner = (i : List Lexeme) (r : WithDepth Statement) (rest : List Lexeme) → inner i ≡ Some (r, rest) → Good ms limit i r rest

pub inner_then : {B : Type 0} (ms : List MacroDepth) (limit : ℕ) (inner : Parser (WithDepth Statement)) → SoundInner ms limit inner → (i : List Lexeme) (f : WithDepth Statement → Parser B) (y : B × List Lexeme) (C : Type 0) → and_then (inner i) f ≡ Some y
    → ((r : WithDepth Statement) (j : List Lexeme) → Good ms limit i r j → f r j ≡ Some y → C) → C
inner_then ms limit inner s i f y C e k = bind_then (inner i) f y C e (λ r j got e. k r j (s i r j got) e)

node_by : (b : Bool) (h : ℕ) (s : Statement) (j : List Lexeme) (r : WithDepth Statement) (rest : List Lexeme) → cond {A = Outcome (WithDepth Statement)} b (Some (with_depth (h + 1) s, j)) None ≡ Some (r, rest) → (b ≡ true) × ((with_depth (h + 1) s ≡ r) × (j ≡ rest))
node_by true h s j r rest e = (refl, some_pair _ _ _ _ e)
node_by false h s j r rest e = cc

-- a node that was made
pub good_node : (ms : List MacroDepth) (limit : ℕ) (inner : Parser (WithDepth Statement)) (u v : Bool) (h : ℕ) (s : Statement) (r : WithDepth Statement) (front i j rest : List Lexeme) → node ms limit inner h s j ≡ Some (r, rest) → i ≡ front ++ j → Spelled u v front s → h + 1 ≡ depth ms s → Stays u v j
    → Good ms limit i r rest
unfolding node
good_node ms limit inner u v h s r front i j rest got split spelled same stays =
    let q = node_by (nat_lt h limit) h s j r rest got in
    let low : h < limit = ltb-true h limit q.0 in
    let P : WithDepth Statement → Type 0 = λ x. Good ms limit i x rest in
    let Q : List Lexeme → Type 0 = λ x. Stays u v x in
    subst P q.1.0 (record { opens_if = u; opens_either = v; front = front; split = split ∙ ap (λ k. front ++ k) q.1.1; spelled = spelled; depth = same; within = omega (arith, low); stays = subst Q q.1.1 stays })

-- ---- loops

over_by : {A : Type 0} (goes : List Lexeme → Bool) (more : A → Parser A) (b : Bool) (n : ℕ) (acc res : A) (i rest : List Lexeme) → goes i ≡ b
    → ((next : A) (j : List Lexeme) → goes i ≡ true → more acc i ≡ Some (next, j) → folded goes more n next j ≡ Some (res, rest) → goes rest ≡ false)
    → cond b (and_then (more acc i) (folded goes more n)) (Some (acc, i)) ≡ Some (res, rest) → goes rest ≡ false
over_by goes more true n acc res i rest is go got = bind_then (more acc i) _ _ _ got (λ next j e got. go next j is e got)
over_by goes more false n acc res i rest is go got = ap goes (sym (some_pair _ _ _ _ got).1) ∙ is

-- a loop that goes past tokens in each turn ends where it doesn't go on
pub folded_over : {A : Type 0} (goes : List Lexeme → Bool) (more : A → Parser A) → goes [] ≡ false → ((acc next : A) (i j : List Lexeme) → goes i ≡ true → more acc i ≡ Some (next, j) → length j < length i)
    → (n : ℕ) (acc res : A) (i rest : List Lexeme) → length i ≤ n → folded goes more n acc i ≡ Some (res, rest) → goes rest ≡ false
unfolding folded
folded_over goes more none falls zero acc res [] rest h got = ap goes (sym (some_pair _ _ _ _ got).1) ∙ none
folded_over goes more none falls zero acc res (l ∷ i) rest h got = absurd (omega (arith, h))
folded_over goes more none falls (suc n) acc res i rest h got =
    over_by goes more (goes i) n acc res i rest refl (λ next j is e got. folded_over goes more none falls n next res j rest (let l = falls acc next i j is e in omega (arith, l, h)) got) got

pub shorter : (i xs j : List Lexeme) (p : Lexeme) → i ≡ p ∷ (xs ++ j) → length j < length i
shorter i xs j p e = let a : length i ≡ length (p ∷ (xs ++ j)) = ap length e in let b = length-append xs j in omega (arith, a, b)

pub sees_front : (v : Symbol) (xs j : List Lexeme) → sees v (xs ++ j) ≡ false → sees v xs ≡ false
sees_front v [] j h = refl
sees_front v (x ∷ xs) j h = h

-- ---- what ends a statement or a declaration

take_front : (xs ys : List Lexeme) → take (length xs) (xs ++ ys) ≡ xs
take_front [] ys = refl
take_front (x ∷ xs) ys = ap (λ z. x ∷ z) (take_front xs ys)

pub front_is : (i xs rest : List Lexeme) → i ≡ xs ++ rest → front_of i rest ≡ xs
front_is i xs rest e =
    let a : length i ≡ length (xs ++ rest) = ap length e in
    let b = length-append xs rest in
    let same : length i - length rest ≡ length xs = omega (arith, a, b) in
    ap (λ n. take n i) same ∙ ap (take (length xs)) e ∙ take_front xs rest

pub record GoodEnd (xs rest j : List Lexeme) : Type 0 where
  pub front : List Lexeme
  pub split : rest ≡ front ++ j
  pub holds : Ended xs front

end_by : (b c : Bool) (xs rest j : List Lexeme) → sees symbol.Semicolon rest ≡ b → closes xs ≡ c → cond b (Some (skip rest)) (cond c (Some rest) None) ≡ Some j → GoodEnd xs rest j
end_by true c xs rest j is close got =
    let s = seen symbol.Semicolon rest is in
    let q : skip rest ≡ j = cc in
    record { front = at s.0 symbol.Semicolon ∷ []; split = s.1 ∙ ap (λ z. at s.0 symbol.Semicolon ∷ z) q; holds = elements.semicolon }
end_by false true xs rest j is close got = let q : rest ≡ j = cc in record { front = []; split = q; holds = elements.brace close }
end_by false false xs rest j is close got = cc

pub sound_ended : (i xs rest j : List Lexeme) → i ≡ xs ++ rest → ended i rest ≡ Some j → GoodEnd xs rest j
unfolding ended
sound_ended i xs rest j split got =
    let P : List Lexeme → Type 0 = λ z. cond (sees symbol.Semicolon rest) (Some (skip rest)) (cond (closes z) (Some rest) None) ≡ Some j in
    end_by (sees symbol.Semicolon rest) (closes xs) xs rest j refl refl (subst P (front_is i xs rest split) got)
