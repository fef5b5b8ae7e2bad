-- What the program `replay` decides beside the replay, and the words that it says.
use Rattle.std.specs.Prelude.{ℕ, Bool, false, List, [], ◌∷◌, Option, Some, None, Result, Ok, Err, eqb, leb, ℤ, pos, negsuc, if◌then◌else◌}
use Prim.Native.Char.{code}
use Prim.Native.String as Text
use Rattle.processor.specs.Rows.{same_bytes}
use Rattle.command.specs.declared.Asked.{Asked}
use Rattle.command.specs.declared.Asked.TheVariants.{StandardInput, File, Help, Wrong}
use Rattle.command.specs.declared.Unread.{Unread}
use Rattle.command.specs.declared.Unread.TheVariants.{Interrupted, Failed}
use Rattle.command.specs.declared.Deed.{Deed}
use Rattle.command.specs.declared.Deed.TheVariants.{Opening, Reading, Writing}

-- a text's characters, each a byte
abbrev pub bytes : Text.String → List ℕ
bytes Text.[] = []
bytes (Text.◌∷◌ c s) = code c ∷ bytes s

-- No argument: the trace is standard input. One: it is that file, or "--help" asks for the usage. More is wrong use.
unfoldable pub asked_of : ℕ → List ℕ → Asked
asked_of count first =
    if leb count 1 then StandardInput
    else if leb 3 count then Wrong
    else if same_bytes first (bytes "--help") then Help
    else File

-- errno's number for a call that a signal interrupted
abbrev pub interrupted : ℤ → Bool
interrupted (pos n) = eqb n 4
interrupted (negsuc n) = false

-- A read answers how many bytes it moved, none at the end of the input; below 0 it has failed, and errno says why.
unfoldable pub piece_of : ℤ → ℤ → Result (Option ℕ) Unread
piece_of (negsuc n) error = if interrupted error then Err Interrupted else Err Failed
piece_of (pos n) error = if eqb n 0 then Ok None else Ok (Some n)

-- what stands before the name of what could not be opened, read or written
unfoldable pub words_of : Deed → List ℕ
words_of Opening = bytes "replay: error opening "
words_of Reading = bytes "replay: error reading "
words_of Writing = bytes "replay: error writing "

unfoldable pub usage_text : List ℕ
usage_text = bytes "usage: replay [FILE]\nReplays the trace in FILE, or on standard input where no file is named, and prints a line for each record.\n"
