-- Texts spell the constants of a load.
use Rattle.std.proofs.Common.{◌<◌, ◌^◌, ℕ, pos, refl, arith}
use Rattle.std.proofs.lemmas.Bool.{lt-ltb}
use Rattle.pgo_base.specs.Data.{Data, integer}
use Rattle.pgo_model.specs.ValueText.{value_text}
use Rattle.pgo_value_text.specs.IsValueText.{IsValueText}
use Rattle.pgo_value_text.specs.Writable.{IsWritable}
use Rattle.pgo_log_text.specs.IsBundle.{AreCanonical}
use Rattle.pgo_load.specs.Load.{load_consts}

number_writable : (n : ℕ) → n < 2 ^ 32 → IsWritable (integer (pos n))
number_writable n h = record { value = lt-ltb n (2 ^ 63) (omega arith); shallow = omega arith; spellable = refl; small = refl }

pub constants_canonical : (size : ℕ) → size < 2 ^ 32 → ((d : Data) → IsWritable d → IsValueText (value_text d) d) → AreCanonical (load_consts size)
constants_canonical size h law =
    (law (integer (pos size)) (number_writable size h), (law (integer (pos 1)) (number_writable 1 (omega arith)), tt))
