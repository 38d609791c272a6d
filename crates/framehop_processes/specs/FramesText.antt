-- What is said of a file whose `.debug_frame` is not read.
use Rattle.std.specs.Prelude.{◌≡◌, ℕ, List, [], ◌++◌, codes, decimal, Option, Some, None}
use Rattle.framehop_object.specs.Elf.ErrorText.{contents_error_text}
use Rattle.framehop_object.specs.declared.elf.decompressed.ContentsError.{ContentsError}
use Rattle.framehop_object.specs.declared.elf.decompressed.ContentsError.TheVariants.{Elf, NoHeader, Zstandard, OlderForm, UnknownType, TooLarge, Inflate, OutOfMemory}

-- a reader's reason, as it prints itself
abbrev pub IsReason : ContentsError → List ℕ → Type 0
IsReason problem text = text ≡ codes ": its .debug_frame can't be read: " ++ contents_error_text problem

-- by why it is not read: the program that undoes a compression that is not known here, how large it is, or else a reason
abbrev pub IsProblemText : ContentsError → List ℕ → Type 0
IsProblemText Zstandard text =
    text ≡ codes ": its .debug_frame is compressed by zstandard; objcopy --decompress-debug-sections makes a file of which it can be read"
IsProblemText OlderForm text =
    text ≡ codes ": its .debug_frame is compressed in an older form; objcopy --decompress-debug-sections makes a file of which it can be read"
IsProblemText (TooLarge size) text =
    text ≡ codes ": its .debug_frame has " ++ decimal size ++ codes " bytes when decompressed, and no more than 64 MiB are read"
IsProblemText (Elf error) text = IsReason (Elf error) text
IsProblemText (Inflate error) text = IsReason (Inflate error) text
IsProblemText NoHeader text = IsReason NoHeader text
IsProblemText (UnknownType kind) text = IsReason (UnknownType kind) text
IsProblemText OutOfMemory text = IsReason OutOfMemory text

-- nothing where there is no problem
abbrev pub IsFramesText : Option ContentsError → List ℕ → Type 0
IsFramesText None text = text ≡ []
IsFramesText (Some problem) text = IsProblemText problem text
