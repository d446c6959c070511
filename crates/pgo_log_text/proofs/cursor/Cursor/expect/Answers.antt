-- What the library strips is what the function takes.
use Rattle.std.proofs.Common.{◌≡◌, sym, ap, ◌∙◌}
use Rattle.pgo_log_text.specs.Bytes.{expect}
use Rattle.pgo_value_text.proofs.Runs.{stripped, not_stripped}
use Rattle.pgo_log_text.proofs.cursor.Cursor.expect.Goals as goal

pub returns-in-Some : goal.returns-in-Some
returns-in-Some c =
    let same : c.self.inside.rest.now ≡ c.args.self.now = c.self.view_is in
    ap (expect c.args.wanted.now) (sym same)
    ∙ stripped c.args.wanted.now c.self.inside.rest.now c.in-Some.rest.now c.in-Some.ensures.cases.0 c.in-Some.ensures.cases.1

pub returns-in-None : goal.returns-in-None
returns-in-None c =
    let same : c.self.inside.rest.now ≡ c.args.self.now = c.self.view_is in
    ap (expect c.args.wanted.now) (sym same) ∙ not_stripped c.args.wanted.now c.self.inside.rest.now c.in-None.ensures.cases
