-- Macros, mapping macros, archetypes and processes: what is read is so, and what is so is read.
use Rattle.std.proofs.Common.{◌≡◌, ◌≤◌, Bool, true, false, List, [], ◌∷◌, ◌++◌, Option, Some, refl, ap, sym, ◌∙◌, subst, arith, cond}
use Rattle.std.proofs.lemmas.List.{append_assoc}
use Rattle.pgo_lexer.specs.declared.token.Lexeme.{Lexeme}
use Rattle.pgo_syntax.specs.declared.name.PlacedName.{PlacedName}
use Rattle.pgo_syntax.specs.declared.archetype.Archetype.{Archetype}
use Rattle.pgo_syntax.specs.declared.binding.Origin.{Origin}
use Rattle.pgo_syntax.specs.declared.declaration.Definition.{Definition}
use Rattle.pgo_syntax.specs.declared.macros.Macro.{Macro}
use Rattle.pgo_syntax.specs.declared.macros.MappingMacro.{MappingMacro}
use Rattle.pgo_syntax.specs.declared.process.Process.{Process}
use Rattle.pgo_syntax.specs.Statement.{Statement, labeled}
use Rattle.pgo_mpcal_read.specs.declared.with_depth.WithDepth.{WithDepth}
use Rattle.pgo_mpcal_read.specs.declared.depths.MacroDepth.{MacroDepth}
use Rattle.pgo_base.specs.declared.expr.Infix.TheVariants as operator
use Rattle.pgo_lexer.specs.declared.symbol.Bracket.TheVariants as bracket
use Rattle.pgo_lexer.specs.declared.symbol.Keyword.TheVariants as keyword
use Rattle.pgo_lexer.specs.declared.symbol.Symbol.TheVariants as symbol
use Rattle.pgo_mpcal_read.specs.Depths.{labeled_depth}
use Rattle.pgo_mpcal_read.specs.Signs.{sees}
use Rattle.pgo_mpcal_read.specs.Elements.{Spot, at, word, placed, IsName, most_depth, InBrackets, Row}
use Rattle.pgo_mpcal_read.specs.Statements.{IsOrigin, IsBody}
use Rattle.pgo_mpcal_read.specs.Statements as s
use Rattle.pgo_mpcal_read.specs.Units.{IsDefinition, IsParameter, IsArgument, IsClause, IsMacro, IsMappingMacro, IsLocals, IsArchetype, IsFair, IsClosing, IsProcess, IsDefine}
use Rattle.pgo_mpcal_read.specs.Units as u
use Rattle.pgo_expr_read.specs.Steps.{and_then, skip}
use Rattle.pgo_mpcal_read.specs.Reading.{past, name, sees_name, in_brackets, row}
use Rattle.pgo_mpcal_read.specs.ReadingStatements.{with_depth, origin_of, statement}
use Rattle.pgo_mpcal_read.specs.ReadingUnits.{define, macro_definition, mapping_macro, archetype, fair, process_head, process_tail, process, sees_clause, definition, locals, clause, argument, parameter}
use Rattle.pgo_mpcal_read.specs.ReadingUnits as reading
use Rattle.pgo_expr_read.proofs.Steps.{some_pair, bind_then, next_step}
use Rattle.pgo_mpcal_read.proofs.Parts.{Sound, Reach, front_then, expect_then, name_then, seen, expect_gives}
use Rattle.pgo_mpcal_read.proofs.Lists.{sound_row}
use Rattle.pgo_mpcal_read.proofs.Lefts.{sound_origin, reach_origin}
use Rattle.pgo_mpcal_read.proofs.SoundBlocks.{sound_body}
use Rattle.pgo_mpcal_read.proofs.SoundStatements.{sound_statement}
use Rattle.pgo_mpcal_read.proofs.ReachStatements.{reach_body}
use Rattle.pgo_mpcal_read.proofs.Declared.{sound_definition, reach_definitions, sound_locals, reach_locals, Behind}
use Rattle.pgo_mpcal_read.proofs.Arguments.{sound_names, reach_names, sound_parameters, reach_parameters, sound_arguments, reach_arguments, sound_clauses, reach_clauses}

-- the block of a unit, with its depth
pub record DeepBody (ms : List MacroDepth) (ts : List Lexeme) (r : WithDepth (List (Option PlacedName × Statement))) : Type 0 where
  pub holds : IsBody ts r.part
  pub depth : r.depth ≡ labeled_depth ms (labeled r.part)
  pub within : labeled_depth ms (labeled r.part) ≤ most_depth

sound_block : (ms : List MacroDepth) → Sound (DeepBody ms) (reading.block ms)
unfolding reading.block
sound_block ms i r rest got =
    let g = sound_body ms most_depth most_depth (statement ms most_depth) (sound_statement ms most_depth) i r rest got in
    record { front = g.front; split = g.split; holds = record { holds = g.holds; depth = g.depth; within = let x = g.depth in let y = g.within in omega (arith, x, y) } }

reach_block : (ms : List MacroDepth) → Reach (DeepBody ms) (reading.block ms) (λ rest. Unit {0})
unfolding reading.block
reach_block ms ts r d rest q = reach_body d.holds ms most_depth most_depth rest d.within ∙ ap (λ z. Some (with_depth z r.part, rest)) (sym d.depth)

pub sound_define : Sound IsDefine define
unfolding define
sound_define i a rest got =
    expect_then (symbol.Keyword keyword.Define) i _ _ _ got (λ p i1 e1 got.
    expect_then (symbol.Open bracket.Curly) i1 _ _ _ got (λ o i2 e2 got.
    front_then (Row IsDefinition) (row sees_name definition) (sound_row IsDefinition sees_name definition sound_definition) i2 _ _ _ got (λ xs ds i3 e3 d got.
    expect_then (symbol.Close bracket.Curly) i3 _ _ _ got (λ c i4 e4 got.
    let q = some_pair _ _ _ _ got in
    let P : List Definition → Type 0 = λ z. IsDefine (at p (symbol.Keyword keyword.Define) ∷ (at o (symbol.Open bracket.Curly) ∷ (xs ++ (at c (symbol.Close bracket.Curly) ∷ [])))) z in
    record { front = at p (symbol.Keyword keyword.Define) ∷ (at o (symbol.Open bracket.Curly) ∷ (xs ++ (at c (symbol.Close bracket.Curly) ∷ []))); split = e1 ∙ ap (λ z. at p (symbol.Keyword keyword.Define) ∷ z) (e2 ∙ ap (λ z. at o (symbol.Open bracket.Curly) ∷ z) (e3 ∙ ap (λ z. xs ++ z) (e4 ∙ ap (λ z. at c (symbol.Close bracket.Curly) ∷ z) q.1) ∙ sym (append_assoc xs (at c (symbol.Close bracket.Curly) ∷ []) rest))); holds = subst P q.0 (u.definitions c d) }))))

pub reach_define : Reach IsDefine define (λ rest. Unit {0})
unfolding define
reach_define front a (u.definitions {p = p} {o = o} c {xs = xs} {ds = ds} d) rest q =
    ap define (ap (λ z. at p (symbol.Keyword keyword.Define) ∷ z) (ap (λ z. at o (symbol.Open bracket.Curly) ∷ z) (append_assoc xs (at c (symbol.Close bracket.Curly) ∷ []) rest)))
    ∙ next_step _ _ _ _ _ (expect_gives (symbol.Keyword keyword.Define) p (at o (symbol.Open bracket.Curly) ∷ (xs ++ (at c (symbol.Close bracket.Curly) ∷ rest)))) (next_step _ _ _ _ _ (expect_gives (symbol.Open bracket.Curly) o (xs ++ (at c (symbol.Close bracket.Curly) ∷ rest))) (next_step _ _ _ _ _ (reach_definitions xs ds d (at c (symbol.Close bracket.Curly) ∷ rest) (refl, refl)) (next_step _ _ _ _ _ (expect_gives (symbol.Close bracket.Curly) c rest) refl)))

-- ---- macros

pub record DeepMacro (ms : List MacroDepth) (ts : List Lexeme) (m : WithDepth Macro) : Type 0 where
  pub holds : IsMacro ts m.part
  pub depth : m.depth ≡ labeled_depth ms (labeled m.part.body)
  pub within : labeled_depth ms (labeled m.part.body) ≤ most_depth

pub sound_macro : (ms : List MacroDepth) → Sound (DeepMacro ms) (macro_definition ms)
unfolding macro_definition
sound_macro ms i a rest got =
    expect_then (symbol.Keyword keyword.Macro) i _ _ _ got (λ p i1 e1 got.
    name_then i1 _ _ _ got (λ n x i2 e2 got.
    front_then (InBrackets IsName) (in_brackets name) sound_names i2 _ _ _ got (λ xs ps i3 e3 d got.
    front_then (DeepBody ms) (reading.block ms) (sound_block ms) i3 _ _ _ got (λ ys r i4 e4 b got.
    let q = some_pair _ _ _ _ got in
    let P : WithDepth Macro → Type 0 = λ z. DeepMacro ms (at p (symbol.Keyword keyword.Macro) ∷ (word n x ∷ (xs ++ ys))) z in
    record { front = at p (symbol.Keyword keyword.Macro) ∷ (word n x ∷ (xs ++ ys)); split = e1 ∙ ap (λ z. at p (symbol.Keyword keyword.Macro) ∷ z) (e2 ∙ ap (λ z. word n x ∷ z) (e3 ∙ ap (λ z. xs ++ z) (e4 ∙ ap (λ z. ys ++ z) q.1) ∙ sym (append_assoc xs (ys) rest))); holds = subst P q.0 (record { holds = u.macro_of d b.holds; depth = b.depth; within = b.within }) }))))

pub reach_macro : (ms : List MacroDepth) {ts : List Lexeme} {m : Macro} → IsMacro ts m → labeled_depth ms (labeled m.body) ≤ most_depth → (rest : List Lexeme) → macro_definition ms (ts ++ rest) ≡ Some (with_depth (labeled_depth ms (labeled m.body)) m, rest)
unfolding macro_definition
reach_macro ms (u.macro_of {p = p} {n = n} {x = x} {xs = xs} {ys = ys} {ps = ps} {rs = rs} d b) low rest =
    let r : WithDepth (List (Option PlacedName × Statement)) = with_depth (labeled_depth ms (labeled rs)) rs in
    let k : DeepBody ms ys r = record { holds = b; depth = refl; within = low } in
    ap (macro_definition ms) (ap (λ z. at p (symbol.Keyword keyword.Macro) ∷ z) (ap (λ z. word n x ∷ z) (append_assoc xs (ys) rest)))
    ∙ next_step _ _ _ _ _ (expect_gives (symbol.Keyword keyword.Macro) p (word n x ∷ (xs ++ (ys ++ rest)))) (next_step _ _ _ _ _ (reach_names xs ps d (ys ++ rest) tt) (next_step _ _ _ _ _ (reach_block ms ys r k rest tt) refl))

pub record ShallowMapping (ms : List MacroDepth) (ts : List Lexeme) (m : MappingMacro) : Type 0 where
  pub holds : IsMappingMacro ts m
  pub read : labeled_depth ms (labeled m.read) ≤ most_depth
  pub write : labeled_depth ms (labeled m.write) ≤ most_depth

pub sound_mapping : (ms : List MacroDepth) → Sound (ShallowMapping ms) (mapping_macro ms)
unfolding mapping_macro
sound_mapping ms i a rest got =
    expect_then (symbol.Keyword keyword.Mapping) i _ _ _ got (λ p i1 e1 got.
    expect_then (symbol.Keyword keyword.Macro) i1 _ _ _ got (λ k i2 e2 got.
    name_then i2 _ _ _ got (λ n x i3 e3 got.
    expect_then (symbol.Open bracket.Curly) i3 _ _ _ got (λ o i4 e4 got.
    expect_then (symbol.Keyword keyword.Read) i4 _ _ _ got (λ r i5 e5 got.
    front_then (DeepBody ms) (reading.block ms) (sound_block ms) i5 _ _ _ got (λ xs rs i6 e6 b got.
    expect_then (symbol.Keyword keyword.Write) i6 _ _ _ got (λ w i7 e7 got.
    front_then (DeepBody ms) (reading.block ms) (sound_block ms) i7 _ _ _ got (λ ys ws i8 e8 d got.
    expect_then (symbol.Close bracket.Curly) i8 _ _ _ got (λ c i9 e9 got.
    let q = some_pair _ _ _ _ got in
    let P : MappingMacro → Type 0 = λ z. ShallowMapping ms (at p (symbol.Keyword keyword.Mapping) ∷ (at k (symbol.Keyword keyword.Macro) ∷ (word n x ∷ (at o (symbol.Open bracket.Curly) ∷ (at r (symbol.Keyword keyword.Read) ∷ (xs ++ (at w (symbol.Keyword keyword.Write) ∷ (ys ++ (at c (symbol.Close bracket.Curly) ∷ []))))))))) z in
    record { front = at p (symbol.Keyword keyword.Mapping) ∷ (at k (symbol.Keyword keyword.Macro) ∷ (word n x ∷ (at o (symbol.Open bracket.Curly) ∷ (at r (symbol.Keyword keyword.Read) ∷ (xs ++ (at w (symbol.Keyword keyword.Write) ∷ (ys ++ (at c (symbol.Close bracket.Curly) ∷ [])))))))); split = e1 ∙ ap (λ z. at p (symbol.Keyword keyword.Mapping) ∷ z) (e2 ∙ ap (λ z. at k (symbol.Keyword keyword.Macro) ∷ z) (e3 ∙ ap (λ z. word n x ∷ z) (e4 ∙ ap (λ z. at o (symbol.Open bracket.Curly) ∷ z) (e5 ∙ ap (λ z. at r (symbol.Keyword keyword.Read) ∷ z) (e6 ∙ ap (λ z. xs ++ z) (e7 ∙ ap (λ z. at w (symbol.Keyword keyword.Write) ∷ z) (e8 ∙ ap (λ z. ys ++ z) (e9 ∙ ap (λ z. at c (symbol.Close bracket.Curly) ∷ z) q.1) ∙ sym (append_assoc ys (at c (symbol.Close bracket.Curly) ∷ []) rest))) ∙ sym (append_assoc xs (at w (symbol.Keyword keyword.Write) ∷ (ys ++ (at c (symbol.Close bracket.Curly) ∷ []))) rest)))))); holds = subst P q.0 (record { holds = u.mapping_macro_of w c b.holds d.holds; read = b.within; write = d.within }) })))))))))

pub reach_mapping : (ms : List MacroDepth) {ts : List Lexeme} {m : MappingMacro} → IsMappingMacro ts m → labeled_depth ms (labeled m.read) ≤ most_depth → labeled_depth ms (labeled m.write) ≤ most_depth → (rest : List Lexeme) → mapping_macro ms (ts ++ rest) ≡ Some (m, rest)
unfolding mapping_macro
reach_mapping ms (u.mapping_macro_of {p = p} {q = k} {n = n} {o = o} {r = r} w c {x = x} {xs = xs} {ys = ys} {rs = rs} {ws = ws} b d) low low' rest =
    let r1 : WithDepth (List (Option PlacedName × Statement)) = with_depth (labeled_depth ms (labeled rs)) rs in
    let k1 : DeepBody ms xs r1 = record { holds = b; depth = refl; within = low } in
    let r2 : WithDepth (List (Option PlacedName × Statement)) = with_depth (labeled_depth ms (labeled ws)) ws in
    let k2 : DeepBody ms ys r2 = record { holds = d; depth = refl; within = low' } in
    ap (mapping_macro ms) (ap (λ z. at p (symbol.Keyword keyword.Mapping) ∷ z) (ap (λ z. at k (symbol.Keyword keyword.Macro) ∷ z) (ap (λ z. word n x ∷ z) (ap (λ z. at o (symbol.Open bracket.Curly) ∷ z) (ap (λ z. at r (symbol.Keyword keyword.Read) ∷ z) (append_assoc xs (at w (symbol.Keyword keyword.Write) ∷ (ys ++ (at c (symbol.Close bracket.Curly) ∷ []))) rest ∙ ap (λ z. xs ++ z) (ap (λ z. at w (symbol.Keyword keyword.Write) ∷ z) (append_assoc ys (at c (symbol.Close bracket.Curly) ∷ []) rest))))))))
    ∙ next_step _ _ _ _ _ (expect_gives (symbol.Keyword keyword.Mapping) p (at k (symbol.Keyword keyword.Macro) ∷ (word n x ∷ (at o (symbol.Open bracket.Curly) ∷ (at r (symbol.Keyword keyword.Read) ∷ (xs ++ (at w (symbol.Keyword keyword.Write) ∷ (ys ++ (at c (symbol.Close bracket.Curly) ∷ rest))))))))) (next_step _ _ _ _ _ (expect_gives (symbol.Keyword keyword.Macro) k (word n x ∷ (at o (symbol.Open bracket.Curly) ∷ (at r (symbol.Keyword keyword.Read) ∷ (xs ++ (at w (symbol.Keyword keyword.Write) ∷ (ys ++ (at c (symbol.Close bracket.Curly) ∷ rest)))))))) (next_step _ _ _ _ _ (expect_gives (symbol.Open bracket.Curly) o (at r (symbol.Keyword keyword.Read) ∷ (xs ++ (at w (symbol.Keyword keyword.Write) ∷ (ys ++ (at c (symbol.Close bracket.Curly) ∷ rest)))))) (next_step _ _ _ _ _ (expect_gives (symbol.Keyword keyword.Read) r (xs ++ (at w (symbol.Keyword keyword.Write) ∷ (ys ++ (at c (symbol.Close bracket.Curly) ∷ rest))))) (next_step _ _ _ _ _ (reach_block ms xs r1 k1 (at w (symbol.Keyword keyword.Write) ∷ (ys ++ (at c (symbol.Close bracket.Curly) ∷ rest))) tt) (next_step _ _ _ _ _ (expect_gives (symbol.Keyword keyword.Write) w (ys ++ (at c (symbol.Close bracket.Curly) ∷ rest))) (next_step _ _ _ _ _ (reach_block ms ys r2 k2 (at c (symbol.Close bracket.Curly) ∷ rest) tt) (next_step _ _ _ _ _ (expect_gives (symbol.Close bracket.Curly) c rest) refl)))))))

-- ---- archetypes

pub record ShallowArchetype (ms : List MacroDepth) (ts : List Lexeme) (a : Archetype) : Type 0 where
  pub holds : IsArchetype ts a
  pub within : labeled_depth ms (labeled a.body) ≤ most_depth

pub sound_archetype : (ms : List MacroDepth) → Sound (ShallowArchetype ms) (archetype ms)
unfolding archetype
sound_archetype ms i a rest got =
    expect_then (symbol.Keyword keyword.Archetype) i _ _ _ got (λ p i1 e1 got.
    name_then i1 _ _ _ got (λ n x i2 e2 got.
    front_then (InBrackets IsParameter) (in_brackets parameter) sound_parameters i2 _ _ _ got (λ xs ps i3 e3 d got.
    front_then IsLocals locals sound_locals i3 _ _ _ got (λ ys ds i4 e4 m got.
    front_then (DeepBody ms) (reading.block ms) (sound_block ms) i4 _ _ _ got (λ zs r i5 e5 b got.
    let q = some_pair _ _ _ _ got in
    let P : Archetype → Type 0 = λ z. ShallowArchetype ms (at p (symbol.Keyword keyword.Archetype) ∷ (word n x ∷ (xs ++ (ys ++ zs)))) z in
    record { front = at p (symbol.Keyword keyword.Archetype) ∷ (word n x ∷ (xs ++ (ys ++ zs))); split = e1 ∙ ap (λ z. at p (symbol.Keyword keyword.Archetype) ∷ z) (e2 ∙ ap (λ z. word n x ∷ z) (e3 ∙ ap (λ z. xs ++ z) (e4 ∙ ap (λ z. ys ++ z) (e5 ∙ ap (λ z. zs ++ z) q.1) ∙ sym (append_assoc ys (zs) rest)) ∙ sym (append_assoc xs (ys ++ zs) rest))); holds = subst P q.0 (record { holds = u.archetype_of d m b.holds; within = b.within }) })))))

body_behind : {ts : List Lexeme} {rs : List (Option PlacedName × Statement)} → IsBody ts rs → (j : List Lexeme) → Behind (ts ++ j) × (sees (symbol.Keyword keyword.Variables) (ts ++ j) ≡ false)
body_behind (s.body c d) j = (record { quiet = refl; no_name = refl; no_comma = refl; no_semicolon = refl }, refl)

pub reach_archetype : (ms : List MacroDepth) {ts : List Lexeme} {a : Archetype} → IsArchetype ts a → labeled_depth ms (labeled a.body) ≤ most_depth → (rest : List Lexeme) → archetype ms (ts ++ rest) ≡ Some (a, rest)
unfolding archetype
reach_archetype ms (u.archetype_of {p = p} {n = n} {x = x} {xs = xs} {ys = ys} {zs = zs} {ps = ps} {ds = ds} {rs = rs} d m b) low rest =
    let r : WithDepth (List (Option PlacedName × Statement)) = with_depth (labeled_depth ms (labeled rs)) rs in
    let k : DeepBody ms zs r = record { holds = b; depth = refl; within = low } in
    ap (archetype ms) (ap (λ z. at p (symbol.Keyword keyword.Archetype) ∷ z) (ap (λ z. word n x ∷ z) (append_assoc xs (ys ++ zs) rest ∙ ap (λ z. xs ++ z) (append_assoc ys (zs) rest))))
    ∙ next_step _ _ _ _ _ (expect_gives (symbol.Keyword keyword.Archetype) p (word n x ∷ (xs ++ (ys ++ (zs ++ rest))))) (next_step _ _ _ _ _ (reach_parameters xs ps d (ys ++ (zs ++ rest)) tt) (next_step _ _ _ _ _ (reach_locals ys ds m (zs ++ rest) (body_behind b rest)) (next_step _ _ _ _ _ (reach_block ms zs r k rest tt) refl)))

-- ---- processes

record GoodFair (i : List Lexeme) : Type 0 where
  front : List Lexeme
  split : i ≡ front ++ fair i
  holds : IsFair front

strong_by : (b : Bool) (p : Spot) (j : List Lexeme) → sees (symbol.Infix operator.Add) j ≡ b → (zs : List Lexeme) × (j ≡ zs ++ cond b (skip j) j) × IsFair (at p (symbol.Keyword keyword.Fair) ∷ zs)
strong_by true p j is = let k = seen (symbol.Infix operator.Add) j is in (at k.0 (symbol.Infix operator.Add) ∷ [], k.1, u.strongly)
strong_by false p j is = ([], refl, u.weakly)

fair_by : (b : Bool) (i : List Lexeme) → sees (symbol.Keyword keyword.Fair) i ≡ b → fair i ≡ cond b (past (symbol.Infix operator.Add) (skip i)) i → GoodFair i
unfolding past
fair_by true i is e =
    let k = seen (symbol.Keyword keyword.Fair) i is in
    let z = strong_by (sees (symbol.Infix operator.Add) (skip i)) k.0 (skip i) refl in
    record { front = at k.0 (symbol.Keyword keyword.Fair) ∷ z.0; split = k.1 ∙ ap (λ x. at k.0 (symbol.Keyword keyword.Fair) ∷ x) (z.1 ∙ ap (λ x. z.0 ++ x) (sym e)); holds = z.2 }
fair_by false i is e = record { front = []; split = sym e; holds = u.unfair }

sound_fair : (i : List Lexeme) → GoodFair i
unfolding fair
sound_fair i = fair_by (sees (symbol.Keyword keyword.Fair) i) i refl refl

record GoodClosing (i : List Lexeme) : Type 0 where
  front : List Lexeme
  split : i ≡ front ++ past symbol.Semicolon i
  holds : IsClosing front

closing_by : (b : Bool) (i : List Lexeme) → sees symbol.Semicolon i ≡ b → past symbol.Semicolon i ≡ cond b (skip i) i → GoodClosing i
closing_by true i is e = let k = seen symbol.Semicolon i is in record { front = at k.0 symbol.Semicolon ∷ []; split = k.1 ∙ ap (λ z. at k.0 symbol.Semicolon ∷ z) (sym e); holds = u.semicolon }
closing_by false i is e = record { front = []; split = sym e; holds = u.left_out }

sound_closing : (i : List Lexeme) → GoodClosing i
unfolding past
sound_closing i = closing_by (sees symbol.Semicolon i) i refl refl

pub sound_process : Sound IsProcess process
unfolding process process_head process_tail
sound_process i q rest got =
    let f = sound_fair i in
    bind_then (process_head (fair i)) _ _ _ got (λ head i0 hh got.
    expect_then (symbol.Keyword keyword.Process) (fair i) _ _ _ hh (λ p i1 e1 hh.
    expect_then (symbol.Open bracket.Round) i1 _ _ _ hh (λ a i2 e2 hh.
    name_then i2 _ _ _ hh (λ n x i3 e3 hh.
    front_then IsOrigin origin_of sound_origin i3 _ _ _ hh (λ os o i4 e4 d4 hh.
    expect_then (symbol.Close bracket.Round) i4 _ _ _ hh (λ b i5 e5 hh.
    let q0 = some_pair _ _ _ _ hh in
    let T : PlacedName × Origin → Type 0 = λ z. process_tail z i0 ≡ Some (q, rest) in
    let got : process_tail (placed n x, o) i0 ≡ Some (q, rest) = subst T (sym q0.0) got in
    expect_then symbol.Defines i0 _ _ _ got (λ k i6 e6 got.
    expect_then (symbol.Keyword keyword.Instance) i6 _ _ _ got (λ l i7 e7 got.
    name_then i7 _ _ _ got (λ m y i8 e8 got.
    front_then (InBrackets IsArgument) (in_brackets argument) sound_arguments i8 _ _ _ got (λ vs as' i9 e9 d9 got.
    front_then (Row IsClause) (row sees_clause clause) sound_clauses i9 _ _ _ got (λ cs ms i10 e10 d10 got.
    let cl = sound_closing i10 in
    let q1 = some_pair _ _ _ _ got in
    let P : Process → Type 0 = λ z. IsProcess (f.front ++ (at p (symbol.Keyword keyword.Process) ∷ (at a (symbol.Open bracket.Round) ∷ (word n x ∷ (os ++ (at b (symbol.Close bracket.Round) ∷ (at k symbol.Defines ∷ (at l (symbol.Keyword keyword.Instance) ∷ (word m y ∷ (vs ++ (cs ++ cl.front))))))))))) z in
    record { front = f.front ++ (at p (symbol.Keyword keyword.Process) ∷ (at a (symbol.Open bracket.Round) ∷ (word n x ∷ (os ++ (at b (symbol.Close bracket.Round) ∷ (at k symbol.Defines ∷ (at l (symbol.Keyword keyword.Instance) ∷ (word m y ∷ (vs ++ (cs ++ cl.front)))))))))); split = f.split ∙ ap (λ z. f.front ++ z) (e1 ∙ ap (λ z. at p (symbol.Keyword keyword.Process) ∷ z) (e2 ∙ ap (λ z. at a (symbol.Open bracket.Round) ∷ z) (e3 ∙ ap (λ z. word n x ∷ z) (e4 ∙ ap (λ z. os ++ z) ((e5 ∙ ap (λ z. at b (symbol.Close bracket.Round) ∷ z) q0.1) ∙ ap (λ z. at b (symbol.Close bracket.Round) ∷ z) (e6 ∙ ap (λ z. at k symbol.Defines ∷ z) (e7 ∙ ap (λ z. at l (symbol.Keyword keyword.Instance) ∷ z) (e8 ∙ ap (λ z. word m y ∷ z) (e9 ∙ ap (λ z. vs ++ z) (e10 ∙ ap (λ z. cs ++ z) (cl.split ∙ ap (λ z. cl.front ++ z) q1.1) ∙ sym (append_assoc cs (cl.front) rest)) ∙ sym (append_assoc vs (cs ++ cl.front) rest)))))) ∙ sym (append_assoc os (at b (symbol.Close bracket.Round) ∷ (at k symbol.Defines ∷ (at l (symbol.Keyword keyword.Instance) ∷ (word m y ∷ (vs ++ (cs ++ cl.front)))))) rest))))) ∙ sym (append_assoc f.front (at p (symbol.Keyword keyword.Process) ∷ (at a (symbol.Open bracket.Round) ∷ (word n x ∷ (os ++ (at b (symbol.Close bracket.Round) ∷ (at k symbol.Defines ∷ (at l (symbol.Keyword keyword.Instance) ∷ (word m y ∷ (vs ++ (cs ++ cl.front)))))))))) rest); holds = subst P q1.0 (u.instance_of p a n b k l m f.holds d4 d9 d10 cl.holds) })))))))))))

-- what may follow a process
pub record BehindProcess (rest : List Lexeme) : Type 0 where
  pub no_semicolon : sees symbol.Semicolon rest ≡ false
  pub no_clause : sees_clause rest ≡ false

fair_gives : {fs : List Lexeme} → IsFair fs → (p : Spot) (j : List Lexeme) → fair (fs ++ (at p (symbol.Keyword keyword.Process) ∷ j)) ≡ at p (symbol.Keyword keyword.Process) ∷ j
unfolding fair past
fair_gives u.unfair p j = refl
fair_gives u.weakly p j = refl
fair_gives u.strongly p j = refl

closing_gives : {zs : List Lexeme} → IsClosing zs → (rest : List Lexeme) → sees symbol.Semicolon rest ≡ false → past symbol.Semicolon (zs ++ rest) ≡ rest
unfolding past
closing_gives u.left_out rest h = ap (λ b. cond b (skip rest) rest) h
closing_gives u.semicolon rest h = refl

closing_clause : {zs : List Lexeme} → IsClosing zs → (rest : List Lexeme) → sees_clause rest ≡ false → sees_clause (zs ++ rest) ≡ false
closing_clause u.left_out rest h = h
closing_clause u.semicolon rest h = refl

pub reach_process : Reach IsProcess process BehindProcess
unfolding process process_head process_tail
reach_process front q (u.instance_of p a n b k l m {x = x} {y = y} {fs = fs} {os = os} {vs = vs} {cs = cs} {zs = zs} {o = o} {as' = as'} {ms = ms} f d4 d9 d10 c) rest h =
    ap process (append_assoc fs (at p (symbol.Keyword keyword.Process) ∷ (at a (symbol.Open bracket.Round) ∷ (word n x ∷ (os ++ (at b (symbol.Close bracket.Round) ∷ (at k symbol.Defines ∷ (at l (symbol.Keyword keyword.Instance) ∷ (word m y ∷ (vs ++ (cs ++ zs)))))))))) rest ∙ ap (λ z. fs ++ z) (ap (λ z. at p (symbol.Keyword keyword.Process) ∷ z) (ap (λ z. at a (symbol.Open bracket.Round) ∷ z) (ap (λ z. word n x ∷ z) (append_assoc os (at b (symbol.Close bracket.Round) ∷ (at k symbol.Defines ∷ (at l (symbol.Keyword keyword.Instance) ∷ (word m y ∷ (vs ++ (cs ++ zs)))))) rest ∙ ap (λ z. os ++ z) (ap (λ z. at b (symbol.Close bracket.Round) ∷ z) (ap (λ z. at k symbol.Defines ∷ z) (ap (λ z. at l (symbol.Keyword keyword.Instance) ∷ z) (ap (λ z. word m y ∷ z) (append_assoc vs (cs ++ zs) rest ∙ ap (λ z. vs ++ z) (append_assoc cs (zs) rest)))))))))))
    ∙ ap (λ i. and_then (process_head i) process_tail) (fair_gives f p (at a (symbol.Open bracket.Round) ∷ (word n x ∷ (os ++ (at b (symbol.Close bracket.Round) ∷ (at k symbol.Defines ∷ (at l (symbol.Keyword keyword.Instance) ∷ (word m y ∷ (vs ++ (cs ++ (zs ++ rest)))))))))))
    ∙ next_step _ _ _ _ _ (next_step _ _ _ _ _ (expect_gives (symbol.Keyword keyword.Process) p (at a (symbol.Open bracket.Round) ∷ (word n x ∷ (os ++ (at b (symbol.Close bracket.Round) ∷ (at k symbol.Defines ∷ (at l (symbol.Keyword keyword.Instance) ∷ (word m y ∷ (vs ++ (cs ++ (zs ++ rest))))))))))) (next_step _ _ _ _ _ (expect_gives (symbol.Open bracket.Round) a (word n x ∷ (os ++ (at b (symbol.Close bracket.Round) ∷ (at k symbol.Defines ∷ (at l (symbol.Keyword keyword.Instance) ∷ (word m y ∷ (vs ++ (cs ++ (zs ++ rest)))))))))) (next_step _ _ _ _ _ (reach_origin os o d4 (at b (symbol.Close bracket.Round) ∷ (at k symbol.Defines ∷ (at l (symbol.Keyword keyword.Instance) ∷ (word m y ∷ (vs ++ (cs ++ (zs ++ rest))))))) refl) (next_step _ _ _ _ _ (expect_gives (symbol.Close bracket.Round) b (at k symbol.Defines ∷ (at l (symbol.Keyword keyword.Instance) ∷ (word m y ∷ (vs ++ (cs ++ (zs ++ rest))))))) refl))))
    (next_step _ _ _ _ _ (expect_gives symbol.Defines k (at l (symbol.Keyword keyword.Instance) ∷ (word m y ∷ (vs ++ (cs ++ (zs ++ rest)))))) (next_step _ _ _ _ _ (expect_gives (symbol.Keyword keyword.Instance) l (word m y ∷ (vs ++ (cs ++ (zs ++ rest))))) (next_step _ _ _ _ _ (reach_arguments vs as' d9 (cs ++ (zs ++ rest)) tt) (next_step _ _ _ _ _ (reach_clauses cs ms d10 (zs ++ rest) (tt, closing_clause c rest h.no_clause)) ((ap (λ i. Some (record { name = placed n x; ids = o; archetype = placed m y; arguments = as'; clauses = ms }, i)) (closing_gives c rest h.no_semicolon)))))))
