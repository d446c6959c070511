-- The words of a command line, as the program's arguments give them.
use Rattle.std.specs.Prelude.{◌≡◌, ℕ, List, [], drop, map, string_bytes, String, Result, Ok, Err}
use Rattle.std.specs.Vec.Iter.{into_iter_items}
use Rattle.std.specs.IoError.{error_kind}
use Rattle.std.specs.declared.alloc.Global.{Global}
use Rattle.std.specs.declared.io.Error.{Error}
use Rattle.std.specs.declared.io.ErrorKind.TheVariants.{OutOfMemory, InvalidData}
use Rattle.std.specs.declared.vec.IntoIter.{IntoIter}

-- a program's arguments, each of which is a text; the first is the program's name
abbrev pub Arguments : Type 0
Arguments = IntoIter (String Global) Global

-- the texts behind the first
abbrev pub words_behind_name : Arguments → List (List ℕ)
words_behind_name arguments = drop 1 (map string_bytes (into_iter_items arguments))

-- the words of what the system answered: none where it gave no arguments
abbrev pub words_of : Result Arguments Error → List (List ℕ)
words_of (Ok arguments) = words_behind_name arguments
words_of (Err _) = []

-- there was no memory for the arguments
abbrev pub LacksMemory : Result Arguments Error → Type 0
LacksMemory (Ok _) = ⊥
LacksMemory (Err e) = error_kind e ≡ OutOfMemory

-- some argument is no text
abbrev pub LacksText : Result Arguments Error → Type 0
LacksText (Ok _) = ⊥
LacksText (Err e) = error_kind e ≡ InvalidData
