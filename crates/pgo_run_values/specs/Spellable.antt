-- Values that can be written and read back, but for their depth: integers have 64 bits, strings have only newlines, tabs and bytes 32 to
-- 126, model values are identifiers of at most 512 bytes, and sets and functions are in order and have at most 65,536 members.
use Rattle.std.specs.Prelude.{◌≤◌, ℕ, nat_le, IsTrue, refl}
use Rattle.std.proofs.Common.{arith}
use Rattle.std.proofs.lemmas.Bool.{le-leb, leb-true}
use Rattle.pgo_base.specs.Data.{Data, Pairs}
use Rattle.pgo_base.specs.Lookup.{Vars}
use Rattle.pgo_model.specs.BundleParts.{all_string_bytes}
use Rattle.pgo_model.specs.Operators.{fits_i64, most_members}
use Rattle.pgo_syntax.specs.declared.spec.Spec.{Spec}
use Rattle.pgo_value_text.specs.IsValueText.{is_name}
use Rattle.pgo_values.specs.Limits.{Limits}
use Rattle.pgo_values.proofs.Fitting.{between, divided, remainder}
use Rattle.pgo_systems.specs.Counted.{few_fit}
use Rattle.pgo_systems.specs.StatementLiterals.{SpecificationWithin}
use Rattle.pgo_values.specs.Within.{IsWithin, PairsWithin, AllWithin}

abbrev pub IsFew : ℕ → Type 0
IsFew n = IsTrue (nat_le n most_members)

pub fewer : (m n : ℕ) → m ≤ n → IsFew n → IsFew m
fewer m n le h = le-leb m most_members (let l = leb-true n most_members h in omega (arith, le, l))

abbrev pub spellable : Limits
spellable = record {
  number = fits_i64;
  text = all_string_bytes;
  model = is_name;
  members = λ n. nat_le n most_members;
  pairs = λ n. nat_le n most_members;
  numbers_fit = λ z h. h;
  between = between;
  quotients = divided;
  remainders = remainder;
  few_members = λ n l. le-leb n most_members l;
  few_pairs = λ n l. le-leb n most_members l;
  members_fit = λ n h. few_fit n (leb-true n most_members h);
  pairs_over = fewer;
  default = refl;
}

abbrev pub IsSpellable : Data → Type 0
IsSpellable = IsWithin spellable

abbrev pub PairsSpellable : Pairs → Type 0
PairsSpellable = PairsWithin spellable

-- each variable has such a value
abbrev pub AllSpellable : Vars → Type 0
AllSpellable = AllWithin spellable

-- each literal of the specification can be written: those from which the start is made, and those in statements
abbrev pub AllLiteralsWritten : Spec → Type 0
AllLiteralsWritten = SpecificationWithin spellable
