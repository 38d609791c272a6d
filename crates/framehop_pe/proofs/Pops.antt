-- Pops read one by one, and what is left of an epilog.
use Rattle.std.proofs.Common.{◌≡◌, Bool, true, false, cond, ℤ, pos, negsuc, ℕ, zero, suc, ◌-◌, ◌<◌, ◌≤◌, List, [], ◌∷◌, length, drop, Option, Some, None, refl, ap, sym, ◌∙◌, arith}
use lib.Signed.{lt_z, le_z}
use Rattle.framehop_core.specs.declared.x86_64.unwindregs.Reg.{Reg}
use Rattle.framehop_pe.specs.Epilog.{release_at, is_end, is_outside, epilog_of, pop_at, pops_in, and_pops, instructions_of}
use Rattle.framehop_pe.specs.declared.unwind_info.epilog.FunctionEpilogInstruction.{FunctionEpilogInstruction}
use Rattle.framehop_pe.specs.declared.unwind_info.epilog.FunctionEpilogInstruction.TheVariants.{Pop}

-- bytes that belong to a pop are passed over
pops_in-skip : (n : ℕ) (bytes : List ℕ) → pops_in n bytes ≡ pops_in 0 (drop n bytes)
unfolding pops_in
pops_in-skip zero bytes = refl
pops_in-skip (suc n) [] = refl
pops_in-skip (suc n) (b ∷ bytes) = pops_in-skip n bytes

one-less : (n : ℕ) → suc n - 1 ≡ n
one-less n = omega arith

-- what a pop of n + 1 bytes gives
more : (b : ℕ) (bytes : List ℕ) (register : Reg) (n : ℕ) → pop_at (b ∷ bytes) ≡ Some (register, suc n) → pops_in 0 (b ∷ bytes) ≡ and_pops (b ∷ bytes) (Some (register, suc n)) (λ size. pops_in 0 (drop n bytes))
unfolding pops_in
more b bytes register n e =
    ap (λ found. and_pops (b ∷ bytes) found (λ size. pops_in (size - 1) bytes)) e
    ∙ ap (λ m. and_pops (b ∷ bytes) (Some (register, suc n)) (λ size. pops_in m bytes)) (one-less n)
    ∙ ap (λ next. and_pops (b ∷ bytes) (Some (register, suc n)) (λ size. next)) (pops_in-skip n bytes)

one : (bytes : List ℕ) (register : Reg) (size : ℕ) → pop_at bytes ≡ Some (register, size) → 0 < size → size ≤ length bytes → pops_in 0 bytes ≡ (register ∷ (pops_in 0 (drop size bytes)).0, (pops_in 0 (drop size bytes)).1)
one [] register zero e some within = absurd (omega arith)
one [] register (suc n) e some within = absurd (omega arith)
one (b ∷ bytes) register zero e some within = absurd (omega arith)
one (b ∷ bytes) register (suc n) e some within = more b bytes register n e

-- a pop, and the pops after it
pub pops_in-more : (bytes rest : List ℕ) (register : Reg) (size : ℕ) → Some (register, size) ≡ pop_at bytes → (0 < size) × (size ≤ length bytes) → rest ≡ drop size bytes → (pops_in 0 bytes).0 ≡ register ∷ (pops_in 0 rest).0
pops_in-more bytes rest register size e within is =
    ap (λ p. p.0) (one bytes register size (sym e) within.0 within.1) ∙ ap (λ r. register ∷ (pops_in 0 r).0) (sym is)

pub pops_in-behind : (bytes rest : List ℕ) (register : Reg) (size : ℕ) → Some (register, size) ≡ pop_at bytes → (0 < size) × (size ≤ length bytes) → rest ≡ drop size bytes → (pops_in 0 bytes).1 ≡ (pops_in 0 rest).1
pops_in-behind bytes rest register size e within is =
    ap (λ p. p.1) (one bytes register size (sym e) within.0 within.1) ∙ ap (λ r. (pops_in 0 r).1) (sym is)

-- no pop
last : (bytes : List ℕ) → None ≡ pop_at bytes → pops_in 0 bytes ≡ ([], bytes)
unfolding pops_in
last [] e = refl
last (b ∷ bytes) e = ap (λ found. and_pops (b ∷ bytes) found (λ size. pops_in (size - 1) bytes)) (sym e)

pub pops_in-none : (bytes : List ℕ) → None ≡ pop_at bytes → (pops_in 0 bytes).0 ≡ []
pops_in-none bytes e = ap (λ p. p.0) (last bytes e)

pub pops_in-end : (bytes : List ℕ) → None ≡ pop_at bytes → (pops_in 0 bytes).1 ≡ bytes
pops_in-end bytes e = ap (λ p. p.1) (last bytes e)

-- instructions without a release: none, or a pop first
pub left-none : (release : Option FunctionEpilogInstruction) (pops : List Reg) → release ≡ None → pops ≡ [] → instructions_of release pops ≡ []
left-none release pops is none = rw (is, none) refl

pub left-more : (release next : Option FunctionEpilogInstruction) (pops rest : List Reg) (register : Reg) → release ≡ None → next ≡ None → pops ≡ register ∷ rest → instructions_of release pops ≡ Pop register ∷ instructions_of next rest
left-more release next pops rest register is next_is more = rw (is, next_is, more) refl

-- ---- whole epilogs

decided : (frame : Option Reg) (size : ℕ) (bytes : List ℕ) (release : Option FunctionEpilogInstruction) (rest : List ℕ) (b : Bool) → (release, rest) ≡ release_at frame bytes → b ≡ is_end size (pops_in 0 rest).1 → epilog_of frame size bytes ≡ cond b (Some (instructions_of release (pops_in 0 rest).0)) None
unfolding epilog_of
decided frame size bytes release rest b e ends =
    ap (λ p. cond (is_end size (pops_in 0 p.1).1) (Some (instructions_of p.0 (pops_in 0 p.1).0)) None) (sym e)
    ∙ ap (λ t. cond t (Some (instructions_of release (pops_in 0 rest).0)) None) (sym ends)

pub epilog_of-some : (frame : Option Reg) (size : ℕ) (bytes : List ℕ) (release : Option FunctionEpilogInstruction) (rest behind : List ℕ) → (release, rest) ≡ release_at frame bytes → behind ≡ (pops_in 0 rest).1 → true ≡ is_end size behind → epilog_of frame size bytes ≡ Some (instructions_of release (pops_in 0 rest).0)
epilog_of-some frame size bytes release rest behind e is ends = decided frame size bytes release rest true e (ends ∙ ap (is_end size) is)

pub epilog_of-none : (frame : Option Reg) (size : ℕ) (bytes : List ℕ) (release : Option FunctionEpilogInstruction) (rest behind : List ℕ) → (release, rest) ≡ release_at frame bytes → behind ≡ (pops_in 0 rest).1 → false ≡ is_end size behind → epilog_of frame size bytes ≡ None
epilog_of-none frame size bytes release rest behind e is ends = decided frame size bytes release rest false e (ends ∙ ap (is_end size) is)

-- ---- targets

pub is_outside-at_least : (size : ℕ) (z : ℤ) → lt_z z (pos 0) ≡ false → le_z (pos size) z ≡ is_outside size z
is_outside-at_least size (pos n) h = refl
is_outside-at_least size (negsuc n) h = cc
