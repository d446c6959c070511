-- The numbers of the statuses, and the lines that go to the error output.
use Rattle.std.specs.Prelude.{ℕ, List, codes, Option, Some, None}
use Rattle.pgo_front.specs.declared.status.Status.{Status}
use Rattle.pgo_front.specs.declared.status.Status.TheVariants as status

abbrev pub number_of : Status → ℕ
number_of status.Fine = 0
number_of status.Usage = 10
number_of status.SpecRefused = 11
number_of status.ReadFault = 12
number_of status.WriteFault = 13
number_of status.TooLong = 14
number_of status.Stopped = 20
number_of status.Spent = 21
number_of status.Quiet = 22
number_of status.Full = 23
number_of status.NotARun = 30
number_of status.BadBundle = 31
number_of status.NoMemory = 40

-- the line of the error output, where the status alone says it: that of a refused specification says what refused it, and that of a
-- text that is no bundle names a line
abbrev pub line_of : Status → Option (List ℕ)
line_of status.Fine = None
line_of status.Usage = Some (codes "pgo: usage\n")
line_of status.SpecRefused = None
line_of status.ReadFault = Some (codes "pgo: read fault\n")
line_of status.WriteFault = Some (codes "pgo: write fault\n")
line_of status.TooLong = Some (codes "pgo: too long\n")
line_of status.Stopped = None
line_of status.Spent = None
line_of status.Quiet = None
line_of status.Full = None
line_of status.NotARun = None
line_of status.BadBundle = None
line_of status.NoMemory = Some (codes "pgo: no memory\n")

-- the command did its work
abbrev pub IsSilent : Status → Type 0
IsSilent status.Fine = Unit {0}
IsSilent status.Stopped = Unit {0}
IsSilent status.Spent = Unit {0}
IsSilent status.Quiet = Unit {0}
IsSilent status.Full = Unit {0}
IsSilent status.NotARun = Unit {0}
IsSilent status.Usage = ⊥
IsSilent status.SpecRefused = ⊥
IsSilent status.BadBundle = ⊥
IsSilent status.ReadFault = ⊥
IsSilent status.WriteFault = ⊥
IsSilent status.TooLong = ⊥
IsSilent status.NoMemory = ⊥
