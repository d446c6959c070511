-- Values whose sets have as many members as an integer of 64 bits tells, so that Cardinality is one. A set that an expression
-- builds has at most 65,536 members, but a value by itself may have any number.
use Rattle.std.specs.Prelude.{◌≤◌, ◌^◌, ℕ, pos, true, IsTrue, refl}
use Rattle.std.proofs.Common.{arith}
use Rattle.std.proofs.lemmas.Bool.{lt-ltb}
use Rattle.pgo_base.specs.Data.{Data}
use Rattle.pgo_base.specs.Lookup.{Vars}
use Rattle.pgo_model.specs.Operators.{fits_i64, most_members}
use Rattle.pgo_model.specs.Val.{Scope}
use Rattle.pgo_sections.specs.Context.{Context}
use Rattle.pgo_values.specs.Limits.{Limits}
use Rattle.pgo_values.proofs.Fitting.{between, divided, remainder}
use Rattle.pgo_values.specs.Within.{IsWithin, AllWithin, ScopeWithin, ContextWithin}

pub few_fit : (n : ℕ) → n ≤ most_members → IsTrue (fits_i64 (pos n))
few_fit n l = lt-ltb n (2 ^ 63) (let m : n ≤ 65536 = l in omega (arith, m))

-- integers have 64 bits; nothing is asked of strings, of model values and of how many pairs a function has
abbrev pub counted : Limits
counted = record {
  number = fits_i64;
  text = λ s. true;
  model = λ s. true;
  members = λ n. fits_i64 (pos n);
  pairs = λ n. true;
  numbers_fit = λ z h. h;
  between = between;
  quotients = divided;
  remainders = remainder;
  few_members = few_fit;
  few_pairs = λ n l. refl;
  members_fit = λ n h. h;
  pairs_over = λ m n l h. refl;
  default = refl;
}

abbrev pub IsCounted : Data → Type 0
IsCounted = IsWithin counted

abbrev pub AllCounted : Vars → Type 0
AllCounted = AllWithin counted

abbrev pub ScopeCounted : Scope → Type 0
ScopeCounted = ScopeWithin counted

abbrev pub ContextCounted : Context → Type 0
ContextCounted = ContextWithin counted
