-- Paths of files, as bytes.
use Rattle.std.specs.Prelude.{ℕ, ◌/◌, ◌%◌, ◌==◌, Bool, true, false, not, ◌&&◌, ◌||◌, nat_eq, List, [], ◌∷◌, ◌++◌, length, drop, map, flat_map, codes, if◌then◌else◌}
use Rattle.std.specs.List.{after_last, before_last, ends_with, list_any, position_or_len, starts_with}
use Rattle.std.specs.Cmp.Lexicographic.{pointwise}
use Rattle.std.specs.Fmt.{digits}

-- `/`
abbrev pub SLASH : ℕ
SLASH = 47

abbrev pub is_empty : List ℕ → Bool
is_empty [] = true
is_empty (byte ∷ bytes) = false

-- what comes after the path of a folder leads into it, or is nothing
abbrev pub leads_into : List ℕ → List ℕ → Bool
leads_into folder rest =
    is_empty rest || starts_with nat_eq rest (SLASH ∷ []) || ends_with nat_eq folder (SLASH ∷ [])

-- a path is that of a folder, or lies below it
abbrev pub is_below : List ℕ → List ℕ → Bool
is_below path folder = starts_with nat_eq path folder && leads_into folder (drop (length folder) path)

-- ---- names and folders

-- the folder of a path, without the `/` after it
abbrev pub folder : List ℕ → List ℕ
folder path = before_last (λ byte. byte == SLASH) path

-- `/`, or `\` of Windows
abbrev pub is_backslash : ℕ → Bool
is_backslash byte = byte == 92

abbrev pub is_separator : ℕ → Bool
is_separator byte = byte == SLASH || is_backslash byte

-- the name of a file without its folders
abbrev pub file_name : List ℕ → List ℕ
file_name path = after_last is_separator path

abbrev pub windows_name : List ℕ → List ℕ
windows_name path = after_last is_backslash path

-- each `\` is a `/`
abbrev pub with_slashes : List ℕ → List ℕ
with_slashes path = map (λ byte. if is_backslash byte then SLASH else byte) path

-- what comes after the drive of a path of Windows (Microsoft, "Naming Files, Paths, and Namespaces")
abbrev pub after_drive : List ℕ → List ℕ
after_drive path = with_slashes (drop (position_or_len is_backslash path) path)

-- the name of a file in the same folder
abbrev pub is_file_name : List ℕ → Bool
is_file_name link =
    not (is_empty link) && not (pointwise nat_eq link (codes ".")) && not (pointwise nat_eq link (codes ".."))
    && not (list_any (λ byte. nat_eq byte SLASH) link)

-- a byte in hexadecimal
abbrev pub byte_digits : ℕ → List ℕ
byte_digits byte = digits 16 false (byte / 16) ++ digits 16 false (byte % 16)

-- ---- build ids

-- where systems keep the file of a build id below a folder: `.build-id/xx/yyyy`
-- (GDB, "Debugging Information in Separate Files")
abbrev pub id_digits : List ℕ → List ℕ
id_digits [] = []
id_digits (first ∷ others) = byte_digits first ++ SLASH ∷ flat_map byte_digits others

unfoldable pub build_id_path : List ℕ → List ℕ → List ℕ
build_id_path folder build_id = (folder ++ codes "/.build-id/") ++ id_digits build_id
