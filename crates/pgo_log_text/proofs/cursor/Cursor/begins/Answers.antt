-- The library's test is the function.
use Rattle.std.proofs.Common.{◌≡◌, ap, ◌∙◌}
use Rattle.pgo_log_text.specs.Bytes.{begins}
use Rattle.pgo_value_text.proofs.Runs.{starts_so}
use Rattle.pgo_log_text.proofs.cursor.Cursor.begins.Goals as goal

pub returns : goal.returns
returns c =
    let same : c.self.inside.rest.now ≡ c.args.self.now = c.self.view_is in
    c.starts_with.ensures.value ∙ starts_so c.args.wanted.now c.self.inside.rest.now ∙ ap (begins c.args.wanted.now) same
