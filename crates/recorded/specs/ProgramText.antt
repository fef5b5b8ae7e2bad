-- Document 02, E5: what the program prints.
use Rattle.std.specs.Prelude.{ℕ, List}
use Rattle.recorded.specs.Replay.{replay_text}

-- "The run stops after a stated number of records (here 10,000)": the program's.
abbrev pub program_limit : ℕ
program_limit = 10000

-- what the program prints
unfoldable pub program_text : List ℕ → List ℕ
program_text t = replay_text t program_limit
