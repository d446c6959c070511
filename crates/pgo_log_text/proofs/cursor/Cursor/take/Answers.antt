-- The bytes are there, or they are too few.
use Rattle.std.proofs.Common.{◌≡◌, ℕ, List, take, Some, arith, sym, ◌∙◌, ap}
use Rattle.std.proofs.lemmas.List.{take_rest}
use Rattle.pgo_log_text.specs.Parsers.{Outcome}
use Rattle.pgo_log_text.specs.Bytes.{taken}
use Rattle.pgo_log_text.proofs.BytesTaken.{taken_all, taken_none}
use Rattle.pgo_log_text.proofs.cursor.Cursor.take.Goals as goal

pub returns-then-count-self : goal.returns-then-count-self
returns-then-count-self c =
    let same : c.self.inside.rest.now ≡ c.args.self.now = c.self.view_is in
    ap (taken c.args.count) (sym same) ∙ taken_none c.args.count c.self.inside.rest.now (omega (arith, c.if-count-self.true))

pub returns : goal.returns
returns c =
    let same : c.self.inside.rest.now ≡ c.args.self.now = c.self.view_is in
    ap (taken c.args.count) (sym same)
    ∙ taken_all c.args.count c.self.inside.rest.now (omega (arith, c.if-count-self.false))
    ∙ ap (λ (l : List ℕ). let o : Outcome (List ℕ) = Some (take c.args.count c.self.inside.rest.now, l) in o) (sym (take_rest c.self.inside.rest.now c.args.count))
