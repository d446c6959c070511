-- What the names of statements are, as it lies in memory.
use Rattle.pgo_meaning.specs.Statements.{Setting}
use Rattle.pgo_meaning.specs.Parameters.{setting_of, block_setting}
use Rattle.pgo_effects.specs.declared.setting.Setting.{Setting as Lent}
use Rattle.pgo_effects.specs.declared.setting.Setting.TheVariants.{Process, Block}

abbrev pub setting_view : Lent → Setting
setting_view (Process p a bs) = setting_of p.now a.now bs.now
setting_view Block = block_setting
