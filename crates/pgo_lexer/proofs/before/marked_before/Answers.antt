use Rattle.std.proofs.Common.{rules, ◌≡◌, ◌<◌, ◌≤◌, List, ◌∷◌, subst, arith}
use Rattle.std.proofs.lemmas.Grind.{common_steps}
use Rattle.pgo_lexer.specs.declared.token.Lexeme.{Lexeme}
use Rattle.pgo_lexer.specs.Marking.{step}
use Rattle.pgo_lexer.proofs.PrefixMarks.{Taken, taken_init, taken_more, none_left, ended_earlier, all_marked_by, to_fault_by, refused_by, syntax_none, syntax_kept}
use Rattle.pgo_lexer.proofs.before.marked_before.Goals as goal

pub loop-lexeme-init : goal.loop-lexeme-init
loop-lexeme-init c =
    let same : c.into_iter-lexeme-iterator.result.rest.items ≡ c.args.tokens = first_of (search rules, grind (arith, common_steps)) in
    taken_init c.args.fault c.args.tokens c.into_iter-lexeme-iterator.result.rest.items c.new-marker.result same c.new-marker.ensures

pub loop-lexeme-preserved : goal.loop-lexeme-preserved
loop-lexeme-preserved c =
    let rest = c.next.new.self.rest.items in
    let next : c.loop-lexeme.lexeme-iterator.rest.items ≡ c.in-Some.lexeme ∷ rest = c.in-Some.ensures.steps.0 in
    let less : c.in-Some.lexeme.start < c.args.fault = omega arith in
    taken_more c.args.fault c.args.tokens rest c.in-Some.lexeme c.loop-lexeme.marker c.push.new.self
    (subst (λ (xs : List Lexeme). Taken c.args.fault c.args.tokens xs c.loop-lexeme.marker) next c.loop-lexeme.invariant) less c.in-Ok.ensures.value

pub returns-then-fault-start-clause-earlier : goal.returns-then-fault-start-clause-earlier
returns-then-fault-start-clause-earlier c = ended_earlier c.ended.result c.args.fault c.args.fault c.loop-lexeme.marker (omega arith) c.ended.ensures.value

pub returns-then-fault-start-clause-marked : goal.returns-then-fault-start-clause-marked
returns-then-fault-start-clause-marked c = λ counted.
    let rest = c.next.new.self.rest.items in
    let next : c.loop-lexeme.lexeme-iterator.rest.items ≡ c.in-Some.lexeme ∷ rest = c.in-Some.ensures.steps.0 in
    let behind : c.args.fault ≤ c.in-Some.lexeme.start = omega arith in
    to_fault_by c.ended.result c.args.fault c.args.tokens c.loop-lexeme.lexeme-iterator.rest.items rest c.in-Some.lexeme c.loop-lexeme.marker next c.loop-lexeme.invariant behind counted c.ended.ensures.value

pub returns-in-Err-Syntax-clause-earlier : goal.returns-in-Err-Syntax-clause-earlier
returns-in-Err-Syntax-clause-earlier c =
    ended_earlier c.ended-in-Err-Syntax.result c.in-Some.lexeme.start c.args.fault c.push.new.self (omega arith) c.ended-in-Err-Syntax.ensures.value

pub returns-in-Err-Syntax-clause-marked : goal.returns-in-Err-Syntax-clause-marked
returns-in-Err-Syntax-clause-marked c = λ counted.
    let rest = c.next.new.self.rest.items in
    let next : c.loop-lexeme.lexeme-iterator.rest.items ≡ c.in-Some.lexeme ∷ rest = c.in-Some.ensures.steps.0 in
    let less : c.in-Some.lexeme.start < c.args.fault = omega arith in
    refused_by c.ended-in-Err-Syntax.result c.args.fault c.args.tokens c.loop-lexeme.lexeme-iterator.rest.items rest c.in-Some.lexeme c.loop-lexeme.marker c.push.new.self next c.loop-lexeme.invariant less
    (syntax_none (step c.loop-lexeme.marker c.in-Some.lexeme) c.in-Err-Syntax.field-0 c.in-Err-Syntax.field-0-0 c.in-Err-Syntax.field-0-is c.in-Err-Syntax.ensures.value)
    (syntax_kept c.in-Some.lexeme.start c.loop-lexeme.marker c.push.new.self c.in-Err-Syntax.field-0 c.in-Err-Syntax.field-0-0 c.in-Err-Syntax.field-0-is c.in-Err-Syntax.ensures.refused c.in-Some.lexeme.start)
    counted c.ended-in-Err-Syntax.ensures.value

pub returns-clause-earlier : goal.returns-clause-earlier
returns-clause-earlier c = ended_earlier c.ended-2.result c.args.fault c.args.fault c.loop-lexeme.marker (omega arith) c.ended-2.ensures.value

pub returns-clause-marked : goal.returns-clause-marked
returns-clause-marked c = λ counted.
    let items = c.loop-lexeme.lexeme-iterator.rest in
    all_marked_by c.ended-2.result c.args.fault c.args.tokens items.items c.loop-lexeme.marker (none_left items.items items.len items.ok.0 c.in-None.ensures.steps.0) c.loop-lexeme.invariant counted c.ended-2.ensures.value
