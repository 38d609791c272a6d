-- The machine's steps, told by the words by which the analysis reads an instruction. Encodings shows that they are the
-- machine's.
use Rattle.std.specs.Prelude.{◌≡◌, ℕ, zero, suc, ◌+◌, pos, ◌-ℤ◌, true, false, ◌||◌, ◌==◌, if◌then◌else◌, List, [], ◌∷◌, Option, Some}
use Rattle.framehop_analysis.specs.Aarch64.Machine.{State, Signs, offset_by, with_sp_moved}
use Rattle.framehop_analysis.specs.Aarch64.Words.{word_at, is_branch, is_store, is_load, is_add_sp, is_sub_sp, is_signing, is_other, addressing, pair_offset, first_register, second_register, immediate}

-- ---- pair accesses

-- where a pair access begins: a post-indexed one at sp as it is
abbrev pub access_address : ℕ → ℕ → ℕ
access_address word sp = if addressing word == 1 then sp else offset_by sp (pair_offset word)

-- sp after it: only the form with a plain offset keeps it
abbrev pub sp_after_access : ℕ → ℕ → ℕ
sp_after_access word sp = if addressing word == 2 then sp else offset_by sp (pair_offset word)

-- a register's value after a load of a pair: the second register is loaded last
abbrev pub loaded : ℕ → ℕ → Option ℕ → Option ℕ → Option ℕ → Option ℕ
loaded word register first second old =
    if second_register word == register then second
    else (if first_register word == register then first else old)

-- the state after a load: a register whose word is absent is unknown
abbrev pub after_load : ℕ → State → State
after_load word s =
    let address = access_address word s.sp in
    let first = s.memory address in
    let second = s.memory (offset_by address (pos 8)) in
    record {
      sp = sp_after_access word s.sp;
      fp = loaded word 29 first second s.fp;
      lr = loaded word 30 first second s.lr;
      memory = s.memory;
    }

-- ---- steps

-- One instruction, by its shape: a store may change memory in any way; signing and authentication change lr in
-- authentication bits; branches, and what is before them in an authenticated call, change nothing of the state.
pub record Step (mask word : ℕ) (s t : State) : Type 0 where
  pub known : (is_store word || is_load word || is_sub_sp word || is_add_sp word || is_signing word || is_other word)
      ≡ true
  pub stores : is_store word ≡ true → t ≡ record s { sp = sp_after_access word s.sp; memory = t.memory }
  pub loads : is_load word ≡ true → t ≡ after_load word s
  pub subs : is_sub_sp word ≡ true → t ≡ with_sp_moved s (pos 0 -ℤ pos (immediate word))
  pub adds : is_add_sp word ≡ true → t ≡ with_sp_moved s (pos (immediate word))
  pub signs : is_signing word ≡ true → Signs mask s t
  pub others : is_other word ≡ true → t ≡ s

-- instructions one after another
abbrev pub Run : ℕ → List ℕ → State → State → Type 0
Run mask [] s t = s ≡ t
Run mask (word ∷ words) s t = (next : State) × Step mask word s next × Run mask words next t

-- Instructions one after another from an offset of the code on, up to and with the first unconditional branch: a call
-- of the function has then returned, or has become a call of another one. The check before a tail call jumps over its
-- `brk` where it succeeds, and neither changes the state.
abbrev pub RunOut : ℕ → List ℕ → ℕ → ℕ → State → State → Type 0
RunOut mask bytes zero at s t =
    (word : ℕ) × (word_at bytes at ≡ Some word) × (is_branch word ≡ true) × Step mask word s t
RunOut mask bytes (suc count) at s t =
    (word : ℕ) × (word_at bytes at ≡ Some word) × (is_branch word ≡ false)
    × (next : State) × Step mask word s next × RunOut mask bytes count (at + 4) next t
