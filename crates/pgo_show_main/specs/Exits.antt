-- With which exit status the program ends.
use Rattle.std.specs.Prelude.{◌≡◌, ℕ, List}
use Rattle.pgo_show.specs.declared.status.Status.{Status}
use Rattle.pgo_show.specs.Promise.{Promise}
use Rattle.pgo_show.specs.Statuses.{number_of}
use Rattle.pgo_show.specs.Streams.{Stream}

-- the promise holds with these words, on these streams, with some status, whose number is the exit status
pub record Exits {S O E : Type 0} (words : List (List ℕ)) (input : Stream S) (out : Stream O) (err : Stream E) (code : ℕ) : Type 0 where
  pub status : Status
  pub promise : Promise words input out err status
  pub code_is : code ≡ number_of status
