-- Headers and specifications: what is read is so, and what is so is read.
use Rattle.std.proofs.Common.{◌≡◌, ℕ, zero, suc, ◌+◌, ◌≤◌, Bool, true, false, ◌&&◌, nat_le, nat_eq, List, [], ◌∷◌, ◌++◌, length, Some, None, refl, ap, sym, ◌∙◌, arith, cond}
use Rattle.std.proofs.lemmas.Bool.{eqb-true, eq-eqb, leb-true, le-leb, and_parts}
use Rattle.std.proofs.lemmas.List.{length-append}
use Rattle.pgo_lexer.specs.declared.token.Lexeme.{Lexeme}
use Rattle.pgo_base.specs.declared.expr.Infix.TheVariants as operator
use Rattle.pgo_lexer.specs.declared.symbol.Symbol.TheVariants as symbol
use Rattle.pgo_expr_read.specs.Signs.{is_sign}
use Rattle.pgo_mpcal_read.specs.Signs.{sees}
use Rattle.pgo_mpcal_read.specs.Elements.{Spot, at}
use Rattle.pgo_mpcal_read.specs.Elements as elements
use Rattle.pgo_mpcal_read.specs.Spells.{IsRow, IsDashes}
use Rattle.pgo_mpcal_read.specs.Spells as h
use Rattle.pgo_expr_read.specs.Steps.{and_then, skip}
use Rattle.pgo_mpcal_read.specs.Reading.{Outcome}
use Rattle.pgo_mpcal_read.specs.ReadingSpec.{sees_minus, stop_of, more_dashes, dashes}
use Rattle.pgo_expr_read.proofs.Signs.{token_of_sign}
use Rattle.pgo_expr_read.proofs.Steps.{some_pair, bind_then, next_step}
use Rattle.pgo_mpcal_read.proofs.Parts.{Front, Sound, Reach, spot}

pub and_false : (b : Bool) → (b && false) ≡ false
and_false true = refl
and_false false = refl

enough_by : (b : Bool) (j rest : List Lexeme) (a : Unit {0}) → cond {A = Outcome (Unit {0})} b (Some (tt, j)) None ≡ Some (a, rest) → (b ≡ true) × (j ≡ rest)
enough_by true j rest a got = (refl, (some_pair _ _ _ _ got).1)
enough_by false j rest a got = cc

-- ---- dashes

record GoodDashes (count stop : ℕ) (i : List Lexeme) (c : ℕ) (rest : List Lexeme) : Type 0 where
  front : List Lexeme
  split : i ≡ front ++ rest
  long : c ≡ count + length front
  row : (p : Spot) → p.stop ≡ stop → IsRow (at p (symbol.Infix operator.Subtract) ∷ front)

dashes_by : (b : Bool) (n count stop : ℕ) (l : Lexeme) (i : List Lexeme) (c : ℕ) (rest : List Lexeme) → (is_sign (symbol.Infix operator.Subtract) l.token && nat_eq l.start stop) ≡ b → (more_dashes n (count + 1) l.stop i ≡ Some (c, rest) → GoodDashes (count + 1) l.stop i c rest)
    → cond b (more_dashes n (count + 1) l.stop i) (Some (count, l ∷ i)) ≡ Some (c, rest) → GoodDashes count stop (l ∷ i) c rest
dashes_by true n count stop l i c rest is go got =
    let k = and_parts _ _ is in
    let g = go got in
    let long = g.long in
    let starts = eqb-true l.start stop k.1 in
    let token : l ∷ i ≡ at (spot l) (symbol.Infix operator.Subtract) ∷ i = ap (λ z. elements.lexeme (spot l) z ∷ i) (token_of_sign (symbol.Infix operator.Subtract) l.token k.0) in
    record { front = at (spot l) (symbol.Infix operator.Subtract) ∷ g.front; split = token ∙ ap (λ z. at (spot l) (symbol.Infix operator.Subtract) ∷ z) g.split; long = omega (arith, long); row = λ p e. h.dashes (starts ∙ sym e) (g.row (spot l) refl) }
dashes_by false n count stop l i c rest is go got =
    let q = some_pair _ _ _ _ got in
    let same = q.0 in
    record { front = []; split = q.1; long = omega (arith, same); row = λ p e. h.dash }

sound_more_dashes : (n count stop : ℕ) (i : List Lexeme) (c : ℕ) (rest : List Lexeme) → more_dashes n count stop i ≡ Some (c, rest) → GoodDashes count stop i c rest
unfolding more_dashes
sound_more_dashes zero count stop i c rest got = let q = some_pair _ _ _ _ got in let same = q.0 in record { front = []; split = q.1; long = omega (arith, same); row = λ p e. h.dash }
sound_more_dashes (suc n) count stop [] c rest got = let q = some_pair _ _ _ _ got in let same = q.0 in record { front = []; split = q.1; long = omega (arith, same); row = λ p e. h.dash }
sound_more_dashes (suc n) count stop (l ∷ i) c rest got = dashes_by (is_sign (symbol.Infix operator.Subtract) l.token && nat_eq l.start stop) n count stop l i c rest refl (λ got. sound_more_dashes n (count + 1) l.stop i c rest got) got

abbrev pub IsDashesUnit : List Lexeme → Unit {0} → Type 0
IsDashesUnit ts v = IsDashes ts

all_dashes : (b d : Bool) (l : Lexeme) (i : List Lexeme) (a : Unit {0}) (rest : List Lexeme) → is_sign (symbol.Infix operator.Subtract) l.token ≡ b
    → cond b (and_then (more_dashes (length i) 0 l.stop i) (λ count rest. cond (nat_le 3 count) (Some (tt, rest)) None)) None ≡ Some (a, rest) → Front IsDashesUnit (l ∷ i) a rest
all_dashes true d l i a rest is got =
    bind_then (more_dashes (length i) 0 l.stop i) _ _ _ got (λ c j h got.
    let g = sound_more_dashes (length i) 0 l.stop i c j h in
    let k = enough_by (nat_le 3 c) j rest a got in
    let four = leb-true 3 c k.0 in
    let long = g.long in
    let token : l ∷ i ≡ at (spot l) (symbol.Infix operator.Subtract) ∷ i = ap (λ z. elements.lexeme (spot l) z ∷ i) (token_of_sign (symbol.Infix operator.Subtract) l.token is) in
    record { front = at (spot l) (symbol.Infix operator.Subtract) ∷ g.front; split = token ∙ ap (λ z. at (spot l) (symbol.Infix operator.Subtract) ∷ z) (g.split ∙ ap (λ z. g.front ++ z) k.1); holds = record { row = g.row (spot l) refl; long = omega (arith, four, long) } })
all_dashes false d l i a rest is got = cc

pub sound_dashes : Sound IsDashesUnit dashes
unfolding dashes
sound_dashes [] a rest got = cc
sound_dashes (l ∷ i) a rest got = all_dashes (is_sign (symbol.Infix operator.Subtract) l.token) true l i a rest refl got

no_minus : (stop : ℕ) (rest : List Lexeme) → sees (symbol.Infix operator.Subtract) rest ≡ false → sees_minus stop rest ≡ false
no_minus stop [] e = refl
no_minus stop (l ∷ rest) e = ap (λ b. b && nat_eq l.start stop) e

row_ends : (n count stop : ℕ) (rest : List Lexeme) → sees (symbol.Infix operator.Subtract) rest ≡ false → more_dashes n count stop rest ≡ Some (count + 0, rest)
unfolding more_dashes
row_ends zero count stop rest e = ap (λ z. Some (z, rest)) (omega arith)
row_ends (suc n) count stop rest e = ap (λ b. cond b (more_dashes n (count + 1) (stop_of rest) (skip rest)) (Some (count, rest))) (no_minus stop rest e) ∙ ap (λ z. Some (z, rest)) (omega arith)

row_gives : {ts : List Lexeme} → IsRow ts → (n count : ℕ) (rest : List Lexeme) → length (skip ts) ≤ n → sees (symbol.Infix operator.Subtract) rest ≡ false → more_dashes n count (stop_of ts) (skip ts ++ rest) ≡ Some (count + length (skip ts), rest)
unfolding more_dashes
row_gives (h.dash {p = p}) n count rest short e = row_ends n count p.stop rest e
row_gives (h.dashes {p = p} {q = q} {xs = xs} same r) zero count rest short e = absurd (omega (arith, short))
row_gives (h.dashes {p = p} {q = q} {xs = xs} same r) (suc n) count rest short e =
    ap (λ b. cond b (more_dashes n (count + 1) q.stop (xs ++ rest)) (Some (count, at q (symbol.Infix operator.Subtract) ∷ (xs ++ rest)))) (eq-eqb q.start p.stop same)
    ∙ row_gives r n (count + 1) rest (omega (arith, short)) e
    ∙ ap (λ z. Some (z, rest)) (omega arith)

row_first : {ts : List Lexeme} → IsRow ts → (j : List Lexeme) → (sees (symbol.Infix operator.Subtract) (ts ++ j) ≡ true) × (ts ++ j ≡ ts ++ j) × (stop_of (ts ++ j) ≡ stop_of ts) × (skip (ts ++ j) ≡ skip ts ++ j) × (length ts ≡ suc (length (skip ts)))
row_first h.dash j = (refl, refl, refl, refl, omega arith)
row_first (h.dashes same r) j = (refl, refl, refl, refl, omega arith)

pub reach_dashes : Reach IsDashesUnit dashes (λ rest. sees (symbol.Infix operator.Subtract) rest ≡ false)
unfolding dashes
reach_dashes ts a d rest e =
    let f = row_first d.row rest in
    let long = d.long in
    let whole = f.4 in
    let l = length-append (skip ts) rest in
    ap (λ b. cond b (and_then (more_dashes (length (skip (ts ++ rest))) 0 (stop_of (ts ++ rest)) (skip (ts ++ rest))) (λ count rest. cond (nat_le 3 count) (Some (tt, rest)) None)) None) f.0
    ∙ ap (λ z. and_then (more_dashes (length (skip (ts ++ rest))) 0 z (skip (ts ++ rest))) (λ count rest. cond (nat_le 3 count) (Some (tt, rest)) None)) f.2
    ∙ ap (λ z. and_then (more_dashes (length z) 0 (stop_of ts) z) (λ count rest. cond (nat_le 3 count) (Some (tt, rest)) None)) f.3
    ∙ next_step _ _ _ _ _ (row_gives d.row (length (skip ts ++ rest)) 0 rest (omega (arith, l)) e) (ap (λ b. cond b (Some (tt, rest)) None) (le-leb 3 (0 + length (skip ts)) (omega (arith, long, whole))))
