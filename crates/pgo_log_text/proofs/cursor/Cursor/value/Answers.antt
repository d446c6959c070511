use Rattle.pgo_base.specs.View.{data_of}
use Rattle.pgo_log_text.proofs.BytesValues.{value_given}
use Rattle.pgo_log_text.proofs.cursor.Cursor.value.Goals as goal

pub returns : goal.returns
returns c = value_given data_of c.args.self.now c.value_part-text.result.now c.value_part-text.new.self c.canonical.result c.value_part-text.ensures.front c.value_part-text.ensures.behind c.canonical.ensures
