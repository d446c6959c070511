use Rattle.pgo_front.proofs.Translating.{module_text_is}
use Rattle.pgo_front.proofs.translate.module_text.Goals as goal

pub returns : goal.returns
returns c = module_text_is c.within_tokens.result _ _ _ c.within_tokens.ensures.same c.within_tokens.ensures.short c.in_ok-text.ensures c.in_ok-made.ensures
