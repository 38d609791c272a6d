-- The call chain of a sample: addresses, and marks that say of which side those after them are (`enum perf_callchain_context`
-- of perf_event.h).
use Rattle.std.specs.Prelude.{ℕ, zero, suc, ◌+◌, ◌/◌, List, [], ◌∷◌, length, take, drop, nat_le, ◌==◌}
use Rattle.std.specs.List.{position_or_len}
use Rattle.framehop_bytes.specs.Bytes.{le8}
use Rattle.framehop_recording.specs.Numbers.{PERF_CONTEXT_KERNEL, PERF_CONTEXT_USER, PERF_CONTEXT_MAX}

-- so many numbers of eight bytes from an offset on, and all of a chain
abbrev pub words_from : List ℕ → ℕ → ℕ → List ℕ
words_from bytes at zero = []
words_from bytes at (suc count) = le8 bytes at ∷ words_from bytes (at + 8) count

abbrev pub words_of : List ℕ → List ℕ
words_of bytes = words_from bytes 0 (length bytes / 8)

-- the addresses after a mark, up to the next one: none where the mark is not there
abbrev pub before_mark : List ℕ → List ℕ
before_mark words = take (position_or_len (λ word. nat_le PERF_CONTEXT_MAX word) words) words

abbrev pub part_after : ℕ → List ℕ → List ℕ
part_after mark words = before_mark (drop (position_or_len (λ word. word == mark) words + 1) words)

-- the addresses of the kernel, and those of the user's side, from the innermost on
abbrev pub kernel_part : List ℕ → List ℕ
kernel_part bytes = part_after PERF_CONTEXT_KERNEL (words_of bytes)

abbrev pub user_part : List ℕ → List ℕ
user_part bytes = part_after PERF_CONTEXT_USER (words_of bytes)
