use Rattle.std.proofs.Common.{◌≡◌, false}
use Rattle.pgo_lexer.specs.Marking.{settle}
use Rattle.pgo_lexer.proofs.PrefixMarks.{refusal_from, settled_same}
use Rattle.pgo_lexer.proofs.marker.Marker.push.Goals as goal

pub returns-then-lexeme-bound-clause-refused : goal.returns-then-lexeme-bound-clause-refused
returns-then-lexeme-bound-clause-refused c =
    let ok = c.in_ok-settle.ensures.ok in
    let q = ok.2 in
    let f = c.if-branch.false in
    let none : (settle c.args.lexeme c.args.self.now.frames).is_next ≡ false = cc in
    (c.at.ensures.at, λ _. settled_same c.args.self.now c.settle.new.self c.args.lexeme ok.0 ok.1 none)

pub returns-clause-refused : goal.returns-clause-refused
returns-clause-refused c =
    let ok = c.in_ok-settle.ensures.ok in
    let q = ok.2 in
    let f = c.if-branch.false in
    let none : (settle c.args.lexeme c.args.self.now.frames).is_next ≡ false = cc in
    refusal_from c.args.lexeme.start c.args.self.now c.settle.new.self c.place.new.self c.place.result (settled_same c.args.self.now c.settle.new.self c.args.lexeme ok.0 ok.1 none) c.place.ensures.refused
