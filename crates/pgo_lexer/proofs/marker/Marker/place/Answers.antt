use Rattle.pgo_lexer.proofs.PrefixMarks.{refusal_from, unlisted_same}
use Rattle.pgo_lexer.proofs.marker.Marker.place.Goals as goal

pub returns-in_ok-end_lists-in-Close-clause-refused : goal.returns-in_ok-end_lists-in-Close-clause-refused
returns-in_ok-end_lists-in-Close-clause-refused c =
    let ok = c.in_ok-end_lists-in-Close.ensures.ok in
    refusal_from c.args.lexeme.start c.args.self.now c.end_lists.new.self c.close.new.self c.close.result (unlisted_same c.args.self.now c.end_lists.new.self ok.0 ok.1) c.close.ensures.refused
