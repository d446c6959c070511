-- Constants that are read back are spellable.
use Rattle.std.proofs.Common.{ℕ, List, [], ◌∷◌}
use Rattle.pgo_base.specs.Data.{Data}
use Rattle.pgo_base.specs.Lookup.{Name}
use Rattle.pgo_model.specs.ValueText.{value_text}
use Rattle.pgo_value_text.specs.IsValueText.{IsValueText}
use Rattle.pgo_log_text.specs.IsBundle.{AreCanonical}
use Rattle.pgo_run_values.specs.Spellable.{AllSpellable, IsSpellable}

pub all_spellable : ((text : List ℕ) (v : Data) → IsValueText text v → IsSpellable v) → (consts : List (Name × Data)) → AreCanonical consts → AllSpellable consts
all_spellable f [] h = tt
all_spellable f (c ∷ cs) h = (f (value_text c.1) c.1 h.0, all_spellable f cs h.1)
