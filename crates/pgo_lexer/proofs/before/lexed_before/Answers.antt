use Rattle.std.proofs.Common.{◌≡◌, ◌<◌, ◌≤◌, ◌++◌, Some, None, List, [], drop, length, sym, ◌∙◌, ap, subst, arith}
use Rattle.std.specs.List.{All}
use Rattle.std.proofs.lemmas.List.{length-take-le}
use Rattle.pgo_lexer.specs.declared.token.Lexeme.{Lexeme}
use Rattle.pgo_lexer.specs.Pieces.{first_piece}
use Rattle.pgo_lexer.specs.Prefixes.{LexesTo, token_of}
use Rattle.pgo_lexer.specs.Prefixes as p
use Rattle.pgo_lexer.proofs.PrefixLexed.{no_piece, no_bytes, at_end, piece_some, turn_to, turn_all}
use Rattle.pgo_lexer.proofs.before.lexed_before.Goals as goal

pub returns-then-end-at-clause-tokens : goal.returns-then-end-at-clause-tokens
returns-then-end-at-clause-tokens c =
    at_end (LexesTo c.args.end c.args.column c.args.start (drop c.args.start c.args.text.now)) c.loop-turn.tokens (c.loop-turn.invariant.tokens [] (p.reached (omega arith)))

pub returns-in-None-clause-tokens : goal.returns-in-None-clause-tokens
returns-in-None-clause-tokens c =
    let v = c.in_ok-first_piece.ensures.value in
    let w = c.in-None.is in
    let none : first_piece c.loop-turn.rest.now ≡ None = cc in
    at_end (LexesTo c.args.end c.args.column c.args.start (drop c.args.start c.args.text.now)) c.loop-turn.tokens (c.loop-turn.invariant.tokens [] (p.stopped (no_piece c.loop-turn.rest.now none)))

pub returns-clause-tokens : goal.returns-clause-tokens
returns-clause-tokens c =
    at_end (LexesTo c.args.end c.args.column c.args.start (drop c.args.start c.args.text.now)) c.loop-turn.tokens (c.loop-turn.invariant.tokens [] (p.stopped (no_bytes c.loop-turn.rest.now (omega arith))))

pub loop-turn-preserved : goal.loop-turn-preserved
loop-turn-preserved c =
    let P : List Lexeme → Type 0 = LexesTo c.args.end c.args.column c.args.start (drop c.args.start c.args.text.now) in
    let Early : Lexeme → Type 0 = λ t. t.start < c.args.end in
    let Counted : Lexeme → Type 0 = λ t. t.column < 18446744073709551615 in
    let piece = c.in-Some.piece in
    let v = c.in_ok-first_piece.ensures.value in
    let w = c.in-Some.is in
    let is : first_piece c.loop-turn.rest.now ≡ Some piece = cc in
    let fits : piece.length ≤ length c.loop-turn.rest.now = rw c.in-Some.is at c.in_ok-first_piece.ensures.within in
    let some = piece_some c.loop-turn.rest.now piece is in
    let less : c.loop-turn.at < c.args.end = omega arith in
    let long : length c.first.result.now ≡ piece.length = ap length c.first.ensures ∙ length-take-le piece.length c.loop-turn.rest.now fits in
    let all : c.add.new.tokens ≡ c.loop-turn.tokens ++ token_of c.loop-turn.column c.loop-turn.at piece.length piece.token = c.in_ok-add-in-Some.ensures in
    let inv = c.loop-turn.invariant in
    record {
      tokens = λ more d.
          subst (λ ts. P (ts ++ more)) (sym all)
          (turn_to P c.args.end c.loop-turn.column c.loop-turn.at c.columns_behind-column.result c.loop-turn.rest.now c.first.result.now c.skip-rest-in-Some.result.now piece c.loop-turn.tokens more
          inv.tokens is less c.first.ensures c.columns_behind-column.ensures.value c.skip-rest-in-Some.ensures.value d);
      early = subst (All Early) (sym all) (turn_all Early c.loop-turn.column c.loop-turn.at piece.length piece.token c.loop-turn.tokens inv.early (λ token. less));
      counted = subst (All Counted) (sym all)
          (turn_all Counted c.loop-turn.column c.loop-turn.at piece.length piece.token c.loop-turn.tokens inv.counted (λ token. omega (arith, inv.near, inv.small, inv.few)));
      small = omega (arith, c.skip-rest-in-Some.ensures.left, fits, inv.small);
      turns = omega (arith, c.skip-rest-in-Some.ensures.left, fits, some, inv.turns);
      near = omega (arith, c.columns_behind-column.ensures.within, long, inv.near);
      few = inv.few;
    }
