-- Units: what is read is so, and what is so is read.
use Rattle.std.proofs.Common.{◌≡◌, ℕ, zero, suc, ◌≤◌, Bool, true, false, ◌||◌, List, [], ◌∷◌, ◌++◌, length, Option, Some, None, refl, ap, sym, ◌∙◌, subst, arith, cond}
use Rattle.std.proofs.lemmas.List.{append_assoc, length-append}
use Rattle.pgo_lexer.specs.declared.token.Lexeme.{Lexeme}
use Rattle.pgo_expr_read.specs.Kinds.{Name}
use Rattle.pgo_syntax.specs.declared.name.PlacedName.{PlacedName}
use Rattle.pgo_syntax.specs.declared.process.Process.{Process}
use Rattle.pgo_syntax.specs.Statement.{labeled}
use Rattle.pgo_lexer.specs.declared.symbol.Bracket.TheVariants as bracket
use Rattle.pgo_lexer.specs.declared.symbol.Keyword.TheVariants as keyword
use Rattle.pgo_lexer.specs.declared.symbol.Symbol.TheVariants as symbol
use Rattle.pgo_mpcal_read.specs.declared.allowed.Context.{Context}
use Rattle.pgo_mpcal_read.specs.declared.allowed.Context.TheVariants as context
use Rattle.pgo_mpcal_read.specs.declared.units.Units.{Units}
use Rattle.pgo_mpcal_read.specs.Depths.{labeled_depth}
use Rattle.pgo_mpcal_read.specs.Signs.{sees}
use Rattle.pgo_mpcal_read.specs.Elements.{Spot, at, word, placed}
use Rattle.pgo_mpcal_read.specs.Units.{IsDefine, IsVariables, IsProcess, is_plain, all_are, IsUnit, no_units, AreUnits}
use Rattle.pgo_mpcal_read.specs.Units as u
use Rattle.pgo_expr_read.specs.Steps.{and_then, pure, folded}
use Rattle.pgo_mpcal_read.specs.Reading.{Outcome, Parser, front_of}
use Rattle.pgo_mpcal_read.specs.ReadingStatements.{with_depth, goes_on}
use Rattle.pgo_mpcal_read.specs.ReadingUnits.{define, variables, macro_definition, mapping_macro, archetype, process, sees_clause}
use Rattle.pgo_mpcal_read.specs.ReadingSpec.{is_allowed, if_allowed, if_absent, define_unit, macro_unit, mapping_unit, archetype_unit, globals_unit, process_unit, unit, algorithm}
use Rattle.pgo_expr_read.proofs.Steps.{some_pair, if_some, bind_then, next_step}
use Rattle.pgo_mpcal_read.proofs.Parts.{Front, Sound, Reach, expect_then, name_then, expect_gives}
use Rattle.pgo_mpcal_read.proofs.Good.{front_is}
use Rattle.pgo_mpcal_read.proofs.Declared.{sound_variables, reach_variables, Behind}
use Rattle.pgo_mpcal_read.proofs.Blocks.{sound_define, reach_define, sound_macro, reach_macro, sound_mapping, reach_mapping, sound_archetype, reach_archetype, sound_process, reach_process}

-- ---- tokens that may stand there

if_allowed_some : {A : Type 0} (w : Context) (i : List Lexeme) (o : Outcome A) (a : A) (rest : List Lexeme) → if_allowed w i o ≡ Some (a, rest) → (o ≡ Some (a, rest)) × (all_are (is_allowed w) (front_of i rest) ≡ true)
if_allowed_some {A} w i (Some p) a rest got =
    let q = if_some (all_are (is_allowed w) (front_of i p.1)) p (a, rest) got in
    (ap Some q.1, ap (λ (z : A × List Lexeme). all_are (is_allowed w) (front_of i z.1)) (sym q.1) ∙ q.0)
if_allowed_some w i None a rest got = cc

-- what was read, and that its tokens are allowed there
record IfAllowed {A : Type 0} (w : Context) (R : List Lexeme → A → Type 0) (i : List Lexeme) (a : A) (rest : List Lexeme) : Type 0 where
  front : List Lexeme
  split : i ≡ front ++ rest
  holds : R front a
  stand : all_are (is_allowed w) front ≡ true

sound_if_allowed : {A : Type 0} (w : Context) (R : List Lexeme → A → Type 0) (p : Parser A) → Sound R p → (i : List Lexeme) (a : A) (rest : List Lexeme) → if_allowed w i (p i) ≡ Some (a, rest) → IfAllowed w R i a rest
sound_if_allowed w R p s i a rest got =
    let k = if_allowed_some w i (p i) a rest got in
    let g = s i a rest k.0 in
    record { front = g.front; split = g.split; holds = g.holds; stand = ap (all_are (is_allowed w)) (sym (front_is i g.front rest g.split)) ∙ k.1 }

if_allowed_gives : {A : Type 0} (w : Context) (ts : List Lexeme) (o : Outcome A) (a : A) (rest : List Lexeme) → o ≡ Some (a, rest) → all_are (is_allowed w) ts ≡ true → if_allowed w (ts ++ rest) o ≡ Some (a, rest)
if_allowed_gives w ts o a rest got stand =
    ap (if_allowed w (ts ++ rest)) got ∙ ap (λ b. cond b (Some (a, rest)) None) (ap (all_are (is_allowed w)) (front_is (ts ++ rest) ts rest refl) ∙ stand)

-- ---- units

pub record FrontUnit (b : Units) (i : List Lexeme) (a : Units) (rest : List Lexeme) : Type 0 where
  pub front : List Lexeme
  pub split : i ≡ front ++ rest
  pub holds : IsUnit b front a

absent_some : {A B : Type 0} (x : Option A) (o : Outcome B) (y : B × List Lexeme) → if_absent x o ≡ Some y → (x ≡ None) × (o ≡ Some y)
absent_some None o y e = (refl, e)
absent_some (Some a) o y e = cc

abbrev SoundUnit : (Units → Parser Units) → Type 0
SoundUnit p = (b : Units) (i : List Lexeme) (a : Units) (rest : List Lexeme) → p b i ≡ Some (a, rest) → FrontUnit b i a rest

made : (b a made' : Units) (i front j rest : List Lexeme) → i ≡ front ++ j → IsUnit b front made' → made' ≡ a → j ≡ rest → FrontUnit b i a rest
made b a made' i front j rest split d e f = let P : Units → Type 0 = λ z. IsUnit b front z in record { front = front; split = split ∙ ap (λ z. front ++ z) f; holds = subst P e d }

sound_define_unit : SoundUnit define_unit
unfolding define_unit
sound_define_unit b i a rest got =
    let k = absent_some b.define _ _ got in
    bind_then (if_allowed context.Plain i (define i)) _ _ _ k.1 (λ ds j h got.
    let g = sound_if_allowed context.Plain IsDefine define sound_define i ds j h in
    let q = some_pair _ _ _ _ got in
    made b a _ i g.front j rest g.split (u.define k.0 g.holds g.stand) q.0 q.1)

sound_macro_unit : SoundUnit macro_unit
unfolding macro_unit
sound_macro_unit b i a rest got =
    bind_then (if_allowed context.Macro i (macro_definition b.depths i)) _ _ _ got (λ m j h got.
    let g = sound_if_allowed context.Macro _ (macro_definition b.depths) (sound_macro b.depths) i m j h in
    let q = some_pair _ _ _ _ got in
    let D : ℕ → Type 0 = λ z. IsUnit b g.front (record b { macros = b.macros ++ m.part ∷ []; depths = b.depths ++ record { name = m.part.name.name; depth = z } ∷ [] }) in
    made b a _ i g.front j rest g.split (subst D (sym g.holds.depth) (u.macro_definition g.holds.holds g.stand g.holds.within)) q.0 q.1)

sound_mapping_unit : SoundUnit mapping_unit
unfolding mapping_unit
sound_mapping_unit b i a rest got =
    bind_then (mapping_macro b.depths i) _ _ _ got (λ m j h got.
    let g = sound_mapping b.depths i m j h in
    let q = some_pair _ _ _ _ got in
    made b a _ i g.front j rest g.split (u.mapping g.holds.holds g.holds.read g.holds.write) q.0 q.1)

sound_archetype_unit : SoundUnit archetype_unit
unfolding archetype_unit
sound_archetype_unit b i a rest got =
    bind_then (if_allowed context.Plain i (archetype b.depths i)) _ _ _ got (λ m j h got.
    let g = sound_if_allowed context.Plain _ (archetype b.depths) (sound_archetype b.depths) i m j h in
    let q = some_pair _ _ _ _ got in
    made b a _ i g.front j rest g.split (u.archetype g.holds.holds g.stand g.holds.within) q.0 q.1)

sound_globals_unit : SoundUnit globals_unit
unfolding globals_unit
sound_globals_unit b i a rest got =
    let k = absent_some b.globals _ _ got in
    bind_then (if_allowed context.Plain i (variables i)) _ _ _ k.1 (λ ds j h got.
    let g = sound_if_allowed context.Plain IsVariables variables sound_variables i ds j h in
    let q = some_pair _ _ _ _ got in
    made b a _ i g.front j rest g.split (u.globals k.0 g.holds g.stand) q.0 q.1)

sound_process_unit : SoundUnit process_unit
unfolding process_unit
sound_process_unit b i a rest got =
    bind_then (if_allowed context.Plain i (process i)) _ _ _ got (λ m j h got.
    let g = sound_if_allowed context.Plain IsProcess process sound_process i m j h in
    let q = some_pair _ _ _ _ got in
    made b a _ i g.front j rest g.split (u.process g.holds g.stand) q.0 q.1)

unit_by : (c d e f g h : Bool) (b : Units) (i : List Lexeme) (a : Units) (rest : List Lexeme)
    → cond c (define_unit b i) (cond d (macro_unit b i) (cond e (mapping_unit b i) (cond f (archetype_unit b i) (cond g (globals_unit b i) (cond h (process_unit b i) None))))) ≡ Some (a, rest) → FrontUnit b i a rest
unit_by true d e f g h b i a rest got = sound_define_unit b i a rest got
unit_by false true e f g h b i a rest got = sound_macro_unit b i a rest got
unit_by false false true f g h b i a rest got = sound_mapping_unit b i a rest got
unit_by false false false true g h b i a rest got = sound_archetype_unit b i a rest got
unit_by false false false false true h b i a rest got = sound_globals_unit b i a rest got
unit_by false false false false false true b i a rest got = sound_process_unit b i a rest got
unit_by false false false false false false b i a rest got = cc

sound_unit : SoundUnit unit
unfolding unit
sound_unit b i a rest got = unit_by (sees (symbol.Keyword keyword.Define) i) (sees (symbol.Keyword keyword.Macro) i) (sees (symbol.Keyword keyword.Mapping) i) (sees (symbol.Keyword keyword.Archetype) i) (sees (symbol.Keyword keyword.Variables) i) (sees (symbol.Keyword keyword.Fair) i || sees (symbol.Keyword keyword.Process) i) b i a rest got

units_end : (acc res : Units) (all before i rest : List Lexeme) → all ≡ before ++ i → AreUnits before acc → ◌≡◌ {A = Outcome Units} (Some (acc, i)) (Some (res, rest)) → Front AreUnits all res rest
units_end acc res all before i rest split d got =
    let q = some_pair _ _ _ _ got in
    let P : Units → Type 0 = λ z. AreUnits before z in
    record { front = before; split = split ∙ ap (λ z. before ++ z) q.1; holds = subst P q.0 d }

units_by : (c : Bool) (n : ℕ) (acc res : Units) (all before i rest : List Lexeme) → all ≡ before ++ i → AreUnits before acc
    → ((next : Units) (more j : List Lexeme) → all ≡ more ++ j → AreUnits more next → folded goes_on unit n next j ≡ Some (res, rest) → Front AreUnits all res rest)
    → cond c (and_then (unit acc i) (folded goes_on unit n)) (Some (acc, i)) ≡ Some (res, rest) → Front AreUnits all res rest
units_by true n acc res all before i rest split d go got =
    bind_then (unit acc i) _ _ _ got (λ next j h got.
    let g = sound_unit acc i next j h in
    go next (before ++ g.front) j (split ∙ ap (λ z. before ++ z) g.split ∙ sym (append_assoc before g.front j)) (u.unit d g.holds) got)
units_by false n acc res all before i rest split d go got = units_end acc res all before i rest split d got

sound_units : (n : ℕ) (acc res : Units) (all before i rest : List Lexeme) → all ≡ before ++ i → AreUnits before acc → folded goes_on unit n acc i ≡ Some (res, rest) → Front AreUnits all res rest
unfolding folded
sound_units zero acc res all before i rest split d got = units_end acc res all before i rest split d got
sound_units (suc n) acc res all before i rest split d got =
    units_by (goes_on i) n acc res all before i rest split d (λ next more j split d got. sound_units n next res all more j rest split d got) got

-- `name { units }`
pub data IsAlgorithm : List Lexeme → PlacedName × Units → Type 0 where
  algorithm_of : {n o : Spot} (c : Spot) {x : Name} {xs : List Lexeme} {us : Units} → AreUnits xs us → IsAlgorithm (word n x ∷ (at o (symbol.Open bracket.Curly) ∷ (xs ++ (at c (symbol.Close bracket.Curly) ∷ [])))) (placed n x, us)

pub sound_algorithm : Sound IsAlgorithm algorithm
unfolding algorithm
sound_algorithm i a rest got =
    name_then i _ _ _ got (λ n x i1 e1 got.
    expect_then (symbol.Open bracket.Curly) i1 _ _ _ got (λ o i2 e2 got.
    bind_then (folded goes_on unit (length i2) no_units i2) _ _ _ got (λ us i3 h got.
    let g = sound_units (length i2) no_units us i2 [] i2 i3 refl u.no_unit h in
    expect_then (symbol.Close bracket.Curly) i3 _ _ _ got (λ c i4 e4 got.
    let q = some_pair _ _ _ _ got in
    let P : PlacedName × Units → Type 0 = λ z. IsAlgorithm (word n x ∷ (at o (symbol.Open bracket.Curly) ∷ (g.front ++ (at c (symbol.Close bracket.Curly) ∷ [])))) z in
    record {
      front = word n x ∷ (at o (symbol.Open bracket.Curly) ∷ (g.front ++ (at c (symbol.Close bracket.Curly) ∷ [])));
      split = e1 ∙ ap (λ z. word n x ∷ z) (e2 ∙ ap (λ z. at o (symbol.Open bracket.Curly) ∷ z) (g.split ∙ ap (λ z. g.front ++ z) (e4 ∙ ap (λ z. at c (symbol.Close bracket.Curly) ∷ z) q.1) ∙ sym (append_assoc g.front (at c (symbol.Close bracket.Curly) ∷ []) rest)));
      holds = subst P q.0 (algorithm_of c g.holds);
    }))))

-- ---- what is so is read

-- what may follow units
record Follows (rest : List Lexeme) : Type 0 where
  behind : Behind rest
  no_clause : sees_clause rest ≡ false

record Begins (ts : List Lexeme) : Type 0 where
  full : 1 ≤ length ts
  follows : (j : List Lexeme) → Follows (ts ++ j)
  goes : (j : List Lexeme) → goes_on (ts ++ j) ≡ true

unit_begins : {b a : Units} {ts : List Lexeme} → IsUnit b ts a → Begins ts
unit_begins (u.define n (u.definitions c d) p) = record { full = omega arith; follows = λ j. record { behind = record { quiet = refl; no_name = refl; no_comma = refl; no_semicolon = refl }; no_clause = refl }; goes = λ j. refl }
unit_begins (u.macro_definition (u.macro_of d b) p l) = record { full = omega arith; follows = λ j. record { behind = record { quiet = refl; no_name = refl; no_comma = refl; no_semicolon = refl }; no_clause = refl }; goes = λ j. refl }
unit_begins (u.mapping (u.mapping_macro_of w c b d) l l') = record { full = omega arith; follows = λ j. record { behind = record { quiet = refl; no_name = refl; no_comma = refl; no_semicolon = refl }; no_clause = refl }; goes = λ j. refl }
unit_begins (u.archetype (u.archetype_of d m b) p l) = record { full = omega arith; follows = λ j. record { behind = record { quiet = refl; no_name = refl; no_comma = refl; no_semicolon = refl }; no_clause = refl }; goes = λ j. refl }
unit_begins (u.globals n (u.variables d) p) = record { full = omega arith; follows = λ j. record { behind = record { quiet = refl; no_name = refl; no_comma = refl; no_semicolon = refl }; no_clause = refl }; goes = λ j. refl }
unit_begins (u.process (u.instance_of p a n b k l m u.unfair d4 d9 d10 c) h) = record { full = omega arith; follows = λ j. record { behind = record { quiet = refl; no_name = refl; no_comma = refl; no_semicolon = refl }; no_clause = refl }; goes = λ j. refl }
unit_begins (u.process (u.instance_of p a n b k l m u.weakly d4 d9 d10 c) h) = record { full = omega arith; follows = λ j. record { behind = record { quiet = refl; no_name = refl; no_comma = refl; no_semicolon = refl }; no_clause = refl }; goes = λ j. refl }
unit_begins (u.process (u.instance_of p a n b k l m u.strongly d4 d9 d10 c) h) = record { full = omega arith; follows = λ j. record { behind = record { quiet = refl; no_name = refl; no_comma = refl; no_semicolon = refl }; no_clause = refl }; goes = λ j. refl }

reach_process_unit : (b : Units) {ts : List Lexeme} {q : Process} → IsProcess ts q → all_are is_plain ts ≡ true → (rest : List Lexeme) → Follows rest → process_unit b (ts ++ rest) ≡ Some (record b { processes = b.processes ++ q ∷ [] }, rest)
unfolding process_unit
reach_process_unit b {ts} {q} d p rest f =
    next_step _ _ _ _ _ (if_allowed_gives context.Plain ts (process (ts ++ rest)) q rest (reach_process ts q d rest (record { no_semicolon = f.behind.no_semicolon; no_clause = f.no_clause })) p) refl

reach_unit : {b a : Units} {ts : List Lexeme} → IsUnit b ts a → (rest : List Lexeme) → Follows rest → unit b (ts ++ rest) ≡ Some (a, rest)
unfolding unit define_unit macro_unit mapping_unit archetype_unit globals_unit
reach_unit {b} (u.define {xs = xs} {ds = ds} n (u.definitions {p = p} {o = o} c d) h) rest f =
    ap (λ z. if_absent z (and_then (if_allowed context.Plain (xs ++ rest) (define (xs ++ rest))) (λ ds. pure (record b { define = Some ds })))) n
    ∙ next_step _ _ _ _ _ (if_allowed_gives context.Plain xs (define (xs ++ rest)) ds rest (reach_define xs ds (u.definitions c d) rest tt) h) refl
reach_unit {b} (u.macro_definition {xs = xs} {m = m} (u.macro_of d k) h low) rest f =
    next_step _ _ _ _ _ (if_allowed_gives context.Macro xs (macro_definition b.depths (xs ++ rest)) (with_depth (labeled_depth b.depths (labeled m.body)) m) rest (reach_macro b.depths (u.macro_of d k) low rest) h) refl
reach_unit {b} (u.mapping {xs = xs} {m = m} (u.mapping_macro_of w c k d) low low') rest f = next_step _ _ _ _ _ (reach_mapping b.depths (u.mapping_macro_of w c k d) low low' rest) refl
reach_unit {b} (u.archetype {xs = xs} {a = a} (u.archetype_of d m k) h low) rest f =
    next_step _ _ _ _ _ (if_allowed_gives context.Plain xs (archetype b.depths (xs ++ rest)) a rest (reach_archetype b.depths (u.archetype_of d m k) low rest) h) refl
reach_unit {b} (u.globals {xs = xs} {ds = ds} n (u.variables d) h) rest f =
    ap (λ z. if_absent z (and_then (if_allowed context.Plain (xs ++ rest) (variables (xs ++ rest))) (λ ds. pure (record b { globals = Some ds })))) n
    ∙ next_step _ _ _ _ _ (if_allowed_gives context.Plain xs (variables (xs ++ rest)) ds rest (reach_variables xs ds (u.variables d) rest f.behind) h) refl
reach_unit {b} (u.process (u.instance_of p a n k l i m u.unfair d4 d9 d10 c) h) rest f = reach_process_unit b (u.instance_of p a n k l i m u.unfair d4 d9 d10 c) h rest f
reach_unit {b} (u.process (u.instance_of p a n k l i m u.weakly d4 d9 d10 c) h) rest f = reach_process_unit b (u.instance_of p a n k l i m u.weakly d4 d9 d10 c) h rest f
reach_unit {b} (u.process (u.instance_of p a n k l i m u.strongly d4 d9 d10 c) h) rest f = reach_process_unit b (u.instance_of p a n k l i m u.strongly d4 d9 d10 c) h rest f

-- reading comes to the end of the units, with them before it
record Comes (ts : List Lexeme) (us : Units) (rest : List Lexeme) : Type 0 where
  turns : ℕ
  enough : length rest ≤ turns
  comes : folded goes_on unit (length (ts ++ rest)) no_units (ts ++ rest) ≡ folded goes_on unit turns us rest

record Taken (b a : Units) (turns : ℕ) (i rest : List Lexeme) : Type 0 where
  left : ℕ
  enough : length rest ≤ left
  same : folded goes_on unit turns b i ≡ folded goes_on unit left a rest

taken : (turns : ℕ) (b a : Units) (ts rest : List Lexeme) → Begins ts → length (ts ++ rest) ≤ turns → unit b (ts ++ rest) ≡ Some (a, rest) → Taken b a turns (ts ++ rest) rest
unfolding folded
taken zero b a ts rest g h got = absurd (let l = length-append ts rest in let f = g.full in omega (arith, h, l, f))
taken (suc n) b a ts rest g h got = record {
  left = n;
  enough = let l = length-append ts rest in let f = g.full in omega (arith, h, l, f);
  same = ap (λ c. cond c (and_then (unit b (ts ++ rest)) (folded goes_on unit n)) (Some (b, ts ++ rest))) (g.goes rest) ∙ next_step _ _ _ _ _ got refl;
}

comes_to : {ts : List Lexeme} {us : Units} → AreUnits ts us → (rest : List Lexeme) → Follows rest → Comes ts us rest
comes_to u.no_unit rest f = record { turns = length rest; enough = omega arith; comes = refl }
comes_to (u.unit {xs = xs} {ys = ys} {a = a} {b = b} d e) rest f =
    let g = unit_begins e in
    let k = comes_to d (ys ++ rest) (g.follows rest) in
    let t = taken k.turns b a ys rest g k.enough (reach_unit e rest f) in
    record {
      turns = t.left;
      enough = t.enough;
      comes = ap (λ i. folded goes_on unit (length i) no_units i) (append_assoc xs ys rest) ∙ k.comes ∙ t.same;
    }

brace_follows : (c : Spot) (j : List Lexeme) → Follows (at c (symbol.Close bracket.Curly) ∷ j)
brace_follows c j = record { behind = record { quiet = refl; no_name = refl; no_comma = refl; no_semicolon = refl }; no_clause = refl }

stops_at : (n : ℕ) (us : Units) (c : Spot) (rest : List Lexeme) → folded goes_on unit n us (at c (symbol.Close bracket.Curly) ∷ rest) ≡ Some (us, at c (symbol.Close bracket.Curly) ∷ rest)
unfolding folded
stops_at zero us c rest = refl
stops_at (suc n) us c rest = refl

pub reach_algorithm : Reach IsAlgorithm algorithm (λ rest. Unit {0})
unfolding algorithm
reach_algorithm front a (algorithm_of {n = n} {o = o} c {x = x} {xs = xs} {us = us} d) rest q =
    let k = comes_to d (at c (symbol.Close bracket.Curly) ∷ rest) (brace_follows c rest) in
    ap (λ i. algorithm (word n x ∷ (at o (symbol.Open bracket.Curly) ∷ i))) (append_assoc xs (at c (symbol.Close bracket.Curly) ∷ []) rest)
    ∙ next_step _ _ _ _ _ (expect_gives (symbol.Open bracket.Curly) o (xs ++ (at c (symbol.Close bracket.Curly) ∷ rest)))
    (next_step _ _ _ _ _ (k.comes ∙ stops_at k.turns us c rest)
    (next_step _ _ _ _ _ (expect_gives (symbol.Close bracket.Curly) c rest) refl))
