-- What the names of statements stand for.
use Rattle.std.specs.Prelude.{List}
use Rattle.pgo_base.specs.Lookup.{Name}
use Rattle.pgo_effects.specs.SettingView.{setting_view}
use Rattle.pgo_effects.specs.declared.setting.Setting.{Setting}
use Rattle.pgo_sections.specs.Code.{Place}

abbrev pub places_in : Setting → List (Name × Place)
places_in s = (setting_view s).places
