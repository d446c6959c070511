use Rattle.pgo_expr_write.proofs.ReadBack.{well_formed, operand_back, body_back}
use Rattle.pgo_expr_write.proofs.laws.canonical_text_is_read_back.Goals as goal

pub returns-clause-well_formed : goal.returns-clause-well_formed
returns-clause-well_formed c = well_formed

pub returns-clause-operand : goal.returns-clause-operand
returns-clause-operand c = operand_back c.signs_end.ensures

pub returns-clause-body : goal.returns-clause-body
returns-clause-body c = body_back c.signs_end.ensures

pub returns-clause-again : goal.returns-clause-again
returns-clause-again c = λ limit text a h short. operand_back c.signs_end.ensures limit a (well_formed limit text a h) h.spells.3 short
