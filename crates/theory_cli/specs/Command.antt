-- What a run is given: its command, and the bytes of the file that the command names.
use Rattle.std.specs.Prelude.{◌≡◌, ℕ, List}
use Rattle.theory_edge.specs.Files.{Texts, FilesTold, IsRead, ReadOnce}
use Rattle.theory_words.specs.Commands.{Command, check, derive, IsCommand, IsNoCommand}

-- the name of the file of a command
abbrev pub file_of : Command → List ℕ
file_of (check file kind on) = file
file_of (derive file) = file

-- what a run is given: words for which memory was wanting, no command, or a command whose file wasn't asked for, gave no
-- bytes, or gave these
pub data Given : Type 0 where
  no_words : Given
  no_command : Given
  not_asked : Command → Given
  no_bytes : Command → Given
  gave : Command → List ℕ → Given

-- the words are what was given
abbrev pub AreWords : List (List ℕ) → Given → Type 0
AreWords words no_words = Unit {0}
AreWords words no_command = IsNoCommand words
AreWords words (not_asked c) = IsCommand words c
AreWords words (no_bytes c) = IsCommand words c
AreWords words (gave c bytes) = IsCommand words c

-- the greatest number of bytes of a text
abbrev pub text_limit : ℕ
text_limit = 65536

-- the bytes that were given are those of the file, where its text is told
abbrev pub IsGiven : Texts → Given → Type 0
IsGiven texts no_words = Unit {0}
IsGiven texts no_command = Unit {0}
IsGiven texts (not_asked c) = Unit {0}
IsGiven texts (no_bytes c) = Unit {0}
IsGiven texts (gave c bytes) = IsRead texts (file_of c) text_limit bytes

-- the files were asked once for the file, or are as they were
abbrev pub IsAsked : Given → FilesTold → FilesTold → Type 0
IsAsked no_words before now = now ≡ before
IsAsked no_command before now = now ≡ before
IsAsked (not_asked c) before now = now ≡ before
IsAsked (no_bytes c) before now = ReadOnce (file_of c) before now
IsAsked (gave c bytes) before now = ReadOnce (file_of c) before now
