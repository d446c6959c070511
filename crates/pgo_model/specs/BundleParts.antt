-- What the counts, the strings, the names and the status of a bundle's text may be.
use Rattle.std.specs.Prelude.{◌^◌, ℕ, Bool, true, ◌&&◌, ◌||◌, nat_eq, List, [], ◌∷◌}
use Rattle.pgo_model.specs.ValueText.{is_printed}
pub use Rattle.pgo_model.specs.ValueText.{is_read_name}

-- numbers of a bundle are below 2^32
abbrev pub count_limit : ℕ
count_limit = 2 ^ 32

-- a byte of a string: a tab, a newline, or a printable one
abbrev pub is_string_byte : ℕ → Bool
is_string_byte b = nat_eq b 9 || nat_eq b 10 || is_printed b

abbrev pub all_string_bytes : List ℕ → Bool
all_string_bytes [] = true
all_string_bytes (b ∷ bs) = is_string_byte b && all_string_bytes bs

-- the statuses of a run
abbrev pub is_run_status : ℕ → Bool
is_run_status n = nat_eq n 0 || nat_eq n 20 || nat_eq n 21 || nat_eq n 22 || nat_eq n 23
