-- A text is read as the value that it spells, where it is the canonical one.
use Rattle.pgo_base.specs.View.{data_of}
use Rattle.pgo_log_text.proofs.BytesValues.{made_of, none_spelled}
use Rattle.pgo_log_text.proofs.value.canonical.Goals as goal

pub returns-in-Ok : goal.returns-in-Ok
returns-in-Ok c = made_of data_of c.args.text.now (data_of c.in-Ok.value) c.if_canonical.result c.in-Ok.ensures.found c.if_canonical.ensures

pub returns-in-Err-Bad : goal.returns-in-Err-Bad
returns-in-Err-Bad c = let none = rw c.in-Err-Bad.field-0-is at c.in-Err-Bad.ensures.only in none_spelled c.args.text.now none
