-- The names of files, and the addresses of modules.
use Rattle.std.proofs.Common.{◌≡◌, ◌≢◌, ℕ, List, [], ◌∷◌, map, length, ◌-◌, ◌<◌, ◌≤◌, drop, take, ◌+◌, ◌^◌, min, max, get_or, true, false, ap, ◌∙◌, arith}
use Rattle.std.specs.Prelude.{not, ◌==◌}
use Rattle.std.specs.List.{suffix_len}
use Rattle.std.proofs.lemmas.Grind.{common_steps}
use Rattle.std.proofs.lemmas.List.{map-append, take_more}
use Rattle.std.proofs.lemmas.List.Sums.{fold-append, suffix_len_is}
use Rattle.framehop_dumps.specs.Minidump.{file_name, loaded_view, last_address}
use Rattle.framehop_dumps.specs.declared.minidump.LoadedModule.{LoadedModule}

no_separator : (x separator : ℕ) → x ≢ separator → not (x == separator) ≡ true
no_separator x separator ne = grind (arith, common_steps)

is_separator : (x separator : ℕ) → x ≡ separator → not (x == separator) ≡ false
is_separator x separator e = grind (arith, common_steps)

-- the part of a path after its last separator
pub file_name_from : (separator : ℕ) (path : List ℕ) (start : ℕ) → start ≤ length path
    → ((k : ℕ) → start ≤ k → k < length path → get_or path k 0 ≢ separator)
    → (0 < start → get_or path (start - 1) 0 ≡ separator)
    → file_name separator path ≡ drop start path
file_name_from separator path start fits none one =
    let size : suffix_len (λ byte. not (byte == separator)) path ≡ length path - start =
    suffix_len_is (λ byte. not (byte == separator)) path start 0 fits (λ k from below. no_separator (get_or path k 0) separator (none k from below))
    (λ above. is_separator (get_or path (start - 1) 0) separator (one above)) in
    ap (λ n. drop (length path - n) path) size ∙ ap (λ n. drop n path) (omega arith)

-- the last address of one more module
pub last-next : (modules : List LoadedModule) (i : ℕ) (d : LoadedModule) → i < length modules
    → last_address (map loaded_view (take (i + 1) modules))
    ≡ max (last_address (map loaded_view (take i modules))) (min ((get_or modules i d).base + (get_or modules i d).size) (2 ^ 64 - 1))
last-next modules i d within =
    ap (λ some. last_address (map loaded_view some)) (take_more modules i d within)
    ∙ ap last_address (map-append loaded_view (take i modules) (get_or modules i d ∷ []))
    ∙ fold-append (λ last m. max last (min (m.base + m.size) (2 ^ 64 - 1))) 0 (map loaded_view (take i modules)) (map loaded_view (get_or modules i d ∷ []))
