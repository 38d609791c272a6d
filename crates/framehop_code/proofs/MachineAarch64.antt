-- The instructions of the machine, read by the encodings.
use Rattle.std.proofs.Common.{◌≡◌, ◌≢◌, ◌⊎◌, ℕ, zero, suc, ◌+◌, ◌*◌, ◌/◌, ◌%◌, ◌^◌, ◌<◌, ◌≤◌, ◌==◌, eq-eqb, ℤ, pos, negsuc, ◌+ℤ◌, ◌-ℤ◌, ◌*ℤ◌, Bool, true, false, not, ◌&&◌, ◌||◌, nat_lt, if◌then◌else◌, List, [], ◌∷◌, length, take, drop, Option, Some, None, Ok, refl, sym, ap, subst, ◌∙◌, arith, inl, inr, bit_and}
use Rattle.std.specs.Prelude.{slice_index}
use Rattle.std.specs.List.{list_all}
use Rattle.std.proofs.lemmas.Int.{ints}
use Rattle.std.proofs.lemmas.Nat.{and_le_r}
use Rattle.std.proofs.lemmas.Bool.{le-leb, cases_Bool, eqb-true, ltb-true, and_parts}
use Rattle.std.proofs.lemmas.Option.{slice_get_within, get_or_from_slice_get}
use Rattle.framehop_analysis.specs.Laws.Aarch64.Masks.{kept, dropped}
use Rattle.framehop_analysis.specs.Aarch64.Machine.{field, IsPair, IsAddSub, IsSigning, IsOther, IsBranch, IsInstructionAt}
use Rattle.framehop_analysis.specs.Aarch64.Machine as machine
use Rattle.framehop_core.specs.AddSigned.{fitting, modulo}
use Rattle.framehop_core.specs.Bits.{bits_at}
use Rattle.framehop_code.specs.declared.effect.Base.TheVariants.{Sp, Fp}
use Rattle.framehop_code.specs.declared.effect.Change.{Change}
use Rattle.framehop_code.specs.declared.effect.Change.TheVariants.{Sum, Unknown}
use Rattle.framehop_code.specs.declared.effect.Effect.{Effect}
use Rattle.framehop_code.specs.declared.effect.Flow.TheVariants.{Next}
use Rattle.framehop_code.specs.declared.effect.Flow.TheVariants as flow
use Rattle.framehop_cfi.specs.Numbers.{u32_at}
use Rattle.framehop_bytes.specs.Bytes.{le4}
use Rattle.framehop_code.specs.declared.effect.Base.{Base}
use Rattle.framehop_code.specs.Effect.{Becomes, Does, plain, with_register, is_away}
use Rattle.framehop_code.specs.Effect.{kept as kept_value}
use Rattle.framehop_code.specs.Aarch64.Instruction.{numbered, rd, rn, rt2, rs, imm9, moved, moving_base, moving, added, exclusive, compare_pair, memory_copy, effect_in, instruction_at, signed_imm12, scale_of, pair_offset, setting, writing, writing_pair, moving_by_pair, effect_of_class, effect_of}
use Rattle.framehop_code.specs.declared.aarch64.encoding.Class.{Class}
use Rattle.framehop_code.specs.declared.aarch64.encoding.Class.TheVariants as class
use Rattle.framehop_code.specs.declared.aarch64.encoding.Encoding.{Encoding}
use Rattle.framehop_code.specs.Aarch64.Machine.{as_numbers, DoesNotWrap, DoesAs, AreAsMachine}
use Rattle.framehop_code.specs.Aarch64.Encodings.{encoding, encodings, encoding_in, class_in, class_of}

-- ---- bits

unfoldable pub bit : ℕ → ℕ → ℕ
bit word place = word / 2 ^ place % 2 ^ 1

-- some bits of a word
unfoldable pub Bits : ℕ → List (ℕ × ℕ) → Type 0
Bits word [] = Unit {0}
Bits word (known ∷ rest) = (bit word known.0 ≡ known.1) × Bits word rest

-- an encoding that wants another bit
conflicts : List (ℕ × ℕ) → Encoding → Bool
conflicts [] e = false
conflicts (known ∷ rest) e = ((bit e.0 known.0 == 1) && not (bit e.1 known.0 == known.1)) || conflicts rest e

pub other-word : (word mask value place known : ℕ) → bit word place ≡ known → ((bit mask place == 1) && not (bit value place == known)) ≡ true
    → (bit_and word mask == value) ≡ false
unfolding bit
other-word word mask value place known is differs =
    let parts = and_parts (bit mask place == 1) (not (bit value place == known)) differs in
    let all = eqb-true (bit mask place) 1 parts.0 in
    let same = kept word mask place 1 all in
    elim (cases_Bool (bit_and word mask == value)) [
      | inr no_match ↦ no_match
      | inl matches ↦
          (let e = eqb-true (bit_and word mask) value matches in
          let has : bit value place ≡ known = subst (λ (n : ℕ). n / 2 ^ place % 2 ^ 1 ≡ known) e (same ∙ is) in
          let yes = eq-eqb (bit value place) known has in
          let wrong = rw yes at parts.1 in cc)
    ]

no-match : (word : ℕ) (known : List (ℕ × ℕ)) (e : Encoding) → Bits word known → conflicts known e ≡ true
    → (bit_and word e.0 == e.1) ≡ false
unfolding Bits conflicts
no-match word [] e has conflict = cc
no-match word (first ∷ rest) e has conflict =
    elim (cases_Bool ((bit e.0 first.0 == 1) && not (bit e.1 first.0 == first.1))) [
      | inl here ↦ other-word word e.0 e.1 first.0 first.1 has.0 here
      | inr there ↦ no-match word rest e has.1 (rw there at conflict)
    ]

-- the first of encodings after those that want other bits
skipped : (word : ℕ) (known : List (ℕ × ℕ)) (count : ℕ) (table : List Encoding) → Bits word known
    → list_all (conflicts known) (take count table) ≡ true → encoding_in table word ≡ encoding_in (drop count table) word
unfolding encoding_in
skipped word known zero table has all = refl
skipped word known (suc count) [] has all = refl
skipped word known (suc count) (e ∷ table) has all =
    let parts = and_parts (conflicts known e) (list_all (conflicts known) (take count table)) all in
    rw (no-match word known e has parts.0) (skipped word known count table has parts.1)

found-first : (word : ℕ) (e : Encoding) (table : List Encoding) → bit_and word e.0 ≡ e.1 → encoding_in (e ∷ table) word ≡ Some e
unfolding encoding_in
found-first word e table is = rw (eq-eqb (bit_and word e.0) e.1 is) refl

class-from : (word : ℕ) (known : List (ℕ × ℕ)) (count : ℕ) (e : Encoding) (table : List Encoding) → Bits word known
    → list_all (conflicts known) (take count encodings) ≡ true → drop count encodings ≡ e ∷ table → bit_and word e.0 ≡ e.1
    → class_of word ≡ e.2
unfolding class_of
class-from word known count e table has all rest is =
    ap class_in (skipped word known count encodings has all ∙ (ap (λ (x : List Encoding). encoding_in x word) rest ∙ found-first word e table is))

-- ---- sums

pub scaled : (units : ℕ) (large : Bool) → pos units *ℤ (if large then pos 4096 else pos 1) ≡ pos (units * (if large then 2 ^ 12 else 1))
scaled units true = omega (arith, ints)
scaled units false = omega (arith, ints)

-- sp does not wrap
unwrapped : (z : ℤ) (sum : ℕ) → fitting 64 z ≡ Some sum → pos (modulo 64 z) ≡ z
unwrapped (pos n) sum is =
    elim (cases_Bool (nat_lt n (2 ^ 64))) [
      | inl below ↦ (let fits = ltb-true n (2 ^ 64) below in let e : modulo 64 (pos n) ≡ n = omega arith in ap pos e)
      | inr above ↦ (let e = rw above at is in cc)
    ]
unwrapped (negsuc n) sum is = cc

summed : ℤ → Effect
summed bytes = record { size = 4; sp = Sum Sp bytes; fp = kept_value Fp; flow = Next }

sum-bits : ℕ → List (ℕ × ℕ)
sum-bits op = (31, 1) ∷ (30, op) ∷ (29, 0) ∷ (28, 1) ∷ (27, 0) ∷ (26, 0) ∷ (25, 0) ∷ (24, 1) ∷ (23, 0) ∷ []

has-sum-bits : (op word bytes : ℕ) → op < 2 → IsAddSub op word bytes → Bits word (sum-bits op)
unfolding Bits bit sum-bits
has-sum-bits op word bytes fits a =
    let o = a.opcode in
    (omega arith, (omega arith, (omega arith, (omega arith, (omega arith, (omega arith, (omega arith, (omega arith, (omega arith, tt)))))))))

sum-masked : (op word bytes : ℕ) → op < 2 → IsAddSub op word bytes → bit_and word 0xBF800000 ≡ 0x91000000
sum-masked op word bytes fits a =
    let o = a.opcode in
    let n = bit_and word 0xBF800000 in
    let most : n ≤ 0xBF800000 = and_le_r word 0xBF800000 in
    let top : n / 2 ^ 31 % 2 ^ 1 ≡ 1 = kept word 0xBF800000 31 1 refl ∙ (let e : word / 2 ^ 31 % 2 ^ 1 ≡ 1 = omega arith in e) in
    let free : n / 2 ^ 30 % 2 ^ 1 ≡ 0 = dropped word 0xBF800000 30 1 refl in
    let middle : n / 2 ^ 23 % 2 ^ 7 ≡ 0x22 = kept word 0xBF800000 23 7 refl ∙ (let e : word / 2 ^ 23 % 2 ^ 7 ≡ 0x22 = omega arith in e) in
    let low : n / 2 ^ 0 % 2 ^ 23 ≡ 0 = dropped word 0xBF800000 0 23 refl in
    omega arith

sum-class : (op word bytes : ℕ) → op < 2 → IsAddSub op word bytes → class_of word ≡ class.AddImmediate
unfolding conflicts sum-bits bit
sum-class zero word bytes fits a =
    class-from word (sum-bits 0) 2 (encoding 0xBF800000 0x91000000 class.AddImmediate) (drop 3 encodings) (has-sum-bits 0 word bytes fits a) refl refl
    (sum-masked 0 word bytes fits a)
sum-class (suc zero) word bytes fits a =
    class-from word (sum-bits 1) 2 (encoding 0xBF800000 0x91000000 class.AddImmediate) (drop 3 encodings) (has-sum-bits 1 word bytes fits a) refl refl
    (sum-masked 1 word bytes fits a)
sum-class (suc (suc op)) word bytes fits a = absurd (omega (arith, fits))

sum-effect : (op word bytes : ℕ) → op < 2 → IsAddSub op word bytes → effect_of word ≡ summed (signed_imm12 word)
unfolding effect_of summed
sum-effect op word bytes fits a =
    let to_sp : rd word ≡ 31 = a.rd in
    let from_sp : rn word ≡ 31 = a.rn in
    rw (sum-class op word bytes fits a) (rw to_sp (rw from_sp refl))

sum-does : (op word bytes : ℕ) → op < 2 → IsAddSub op word bytes
    → signed_imm12 word ≡ (if op == 1 then pos 0 -ℤ pos bytes else pos bytes)
sum-does zero word bytes fits a =
    let size = a.imm12 in
    let o = a.opcode in
    let plus : bits_at word 30 1 ≡ 0 = omega arith in
    rw plus (rw size (scaled (bits_at word 10 12) (bits_at word 22 1 == 1)))
sum-does (suc zero) word bytes fits a =
    let size = a.imm12 in
    let o = a.opcode in
    let minus : bits_at word 30 1 ≡ 1 = omega arith in
    rw minus (rw size (ap (λ (x : ℤ). pos 0 -ℤ x) (scaled (bits_at word 10 12) (bits_at word 22 1 == 1))))
sum-does (suc (suc op)) word bytes fits a = absurd (omega (arith, fits))

-- ---- pairs

pair-bits : ℕ → ℕ → List (ℕ × ℕ)
pair-bits mode load =
    (31, 1) ∷ (29, 1) ∷ (28, 0) ∷ (27, 1) ∷ (26, 0) ∷ (25, 0) ∷ (24, mode / 2) ∷ (23, mode % 2) ∷ (22, load) ∷ []

has-pair-bits : (load word : ℕ) (a : machine.Access) → load < 2 → IsPair load word a → Bits word (pair-bits a.mode load)
unfolding Bits bit pair-bits
has-pair-bits load word a fits p =
    let top = p.opc in
    let c = p.class in
    let m = p.mode_is in
    let l = p.l in
    (omega arith, (omega arith, (omega arith, (omega arith, (omega arith, (omega arith, (omega arith, (omega arith, (omega arith, tt)))))))))

pub mode-fits : (load word : ℕ) (a : machine.Access) → IsPair load word a → a.mode < 4
mode-fits load word a p = let m = p.mode_is in omega arith

-- the mask of pairs of general registers, by bits 23 and 22
pair-masked : (load word : ℕ) (a : machine.Access) → load < 2 → IsPair load word a
    → bit_and word 0x3EC00000 ≡ 0x28000000 + 2 ^ 23 * (a.mode % 2) + 2 ^ 22 * load
pair-masked load word a fits p =
    let c = p.class in
    let m = p.mode_is in
    let l = p.l in
    let n = bit_and word 0x3EC00000 in
    let most : n ≤ 0x3EC00000 = and_le_r word 0x3EC00000 in
    let top : n / 2 ^ 25 % 2 ^ 5 ≡ 0x14 = kept word 0x3EC00000 25 5 refl ∙ c in
    let free : n / 2 ^ 24 % 2 ^ 1 ≡ 0 = dropped word 0x3EC00000 24 1 refl in
    let back : n / 2 ^ 23 % 2 ^ 1 ≡ a.mode % 2 = kept word 0x3EC00000 23 1 refl ∙ (let e : word / 2 ^ 23 % 2 ^ 1 ≡ a.mode % 2 = omega arith in e) in
    let loads : n / 2 ^ 22 % 2 ^ 1 ≡ load = kept word 0x3EC00000 22 1 refl ∙ l in
    let low : n / 2 ^ 0 % 2 ^ 22 ≡ 0 = dropped word 0x3EC00000 0 22 refl in
    omega arith

pair-found : (mode load word : ℕ) (a : machine.Access) → a.mode ≡ mode → load < 2 → IsPair load word a → (count : ℕ) (e : Encoding)
    → list_all (conflicts (pair-bits mode load)) (take count encodings) ≡ true → drop count encodings ≡ e ∷ drop (suc count) encodings
    → e.0 ≡ 0x3EC00000 → e.1 ≡ 0x28000000 + 2 ^ 23 * (mode % 2) + 2 ^ 22 * load → class_of word ≡ e.2
pair-found mode load word a is fits p count e has rest mask value =
    class-from word (pair-bits mode load) count e (drop (suc count) encodings)
    (subst (λ (m : ℕ). Bits word (pair-bits m load)) is (has-pair-bits load word a fits p)) has rest
    (ap (bit_and word) mask ∙ (pair-masked load word a fits p ∙ (ap (λ (m : ℕ). 0x28000000 + 2 ^ 23 * (m % 2) + 2 ^ 22 * load) is ∙ sym value)))

pair-encoding : ℕ → Class → Encoding
pair-encoding value c = encoding 0x3EC00000 value c

store-offset : (word : ℕ) (a : machine.Access) → a.mode ≡ 2 → IsPair 0 word a → class_of word ≡ class.Keep
unfolding conflicts pair-bits bit pair-encoding
store-offset word a is p = pair-found 2 0 word a is (omega arith) p 24 (pair-encoding 0x28000000 class.Keep) refl refl refl refl

store-after : (word : ℕ) (a : machine.Access) → a.mode ≡ 1 → IsPair 0 word a → class_of word ≡ class.PairIndexed
unfolding conflicts pair-bits bit pair-encoding
store-after word a is p = pair-found 1 0 word a is (omega arith) p 26 (pair-encoding 0x28800000 class.PairIndexed) refl refl refl refl

store-before : (word : ℕ) (a : machine.Access) → a.mode ≡ 3 → IsPair 0 word a → class_of word ≡ class.PairIndexed
unfolding conflicts pair-bits bit pair-encoding
store-before word a is p = pair-found 3 0 word a is (omega arith) p 26 (pair-encoding 0x28800000 class.PairIndexed) refl refl refl refl

load-offset : (word : ℕ) (a : machine.Access) → a.mode ≡ 2 → IsPair 1 word a → class_of word ≡ class.WriteRt2
unfolding conflicts pair-bits bit pair-encoding
load-offset word a is p = pair-found 2 1 word a is (omega arith) p 25 (pair-encoding 0x28400000 class.WriteRt2) refl refl refl refl

load-after : (word : ℕ) (a : machine.Access) → a.mode ≡ 1 → IsPair 1 word a → class_of word ≡ class.LoadPairIndexed
unfolding conflicts pair-bits bit pair-encoding
load-after word a is p = pair-found 1 1 word a is (omega arith) p 27 (pair-encoding 0x28C00000 class.LoadPairIndexed) refl refl refl refl

load-before : (word : ℕ) (a : machine.Access) → a.mode ≡ 3 → IsPair 1 word a → class_of word ≡ class.LoadPairIndexed
unfolding conflicts pair-bits bit pair-encoding
load-before word a is p = pair-found 3 1 word a is (omega arith) p 27 (pair-encoding 0x28C00000 class.LoadPairIndexed) refl refl refl refl

-- the unit of 64-bit registers is 8 bytes
not-small : (opc : ℕ) → 2 ≤ opc → ((opc == 0) ≡ false) × ((opc == 1) ≡ false)
not-small (suc (suc opc)) big = (eq-no (suc (suc opc)) 0 (λ e. omega (arith, e)), eq-no (suc (suc opc)) 1 (λ e. omega (arith, e)))
  where
    eq-no : (n m : ℕ) → n ≢ m → (n == m) ≡ false
    eq-no n m other =
        elim (cases_Bool (n == m)) [
          | inl same ↦ absurd (other (eqb-true n m same))
          | inr apart ↦ apart
        ]
not-small (suc zero) big = absurd (omega (arith, big))
not-small zero big = absurd (omega (arith, big))

store-scale : (load word : ℕ) (a : machine.Access) → IsPair load word a → scale_of class.PairIndexed (bits_at word 30 2) ≡ pos 8
store-scale load word a p =
    let top = p.opc in
    let big = not-small (bits_at word 30 2) (omega arith) in
    rw big.0 (rw big.1 refl)

load-scale : (load word : ℕ) (a : machine.Access) → IsPair load word a → scale_of class.LoadPairIndexed (bits_at word 30 2) ≡ pos 8
load-scale load word a p =
    let top = p.opc in
    let big = not-small (bits_at word 30 2) (omega arith) in
    rw big.0 (rw big.1 refl)

-- x29 overwritten, or not
writing-if : Bool → Effect → Effect
writing-if written e = if written then setting e 29 Unknown else e

by-mode : ℕ → ℤ → Change
by-mode mode bytes = if mode == 2 then kept_value Sp else Sum Sp bytes

stored : ℕ → ℤ → Effect
stored mode bytes = record { size = 4; sp = by-mode mode bytes; fp = kept_value Fp; flow = Next }

loaded : ℕ → ℤ → ℕ → ℕ → Effect
loaded mode bytes first second = record {
  size = 4;
  sp = by-mode mode bytes;
  fp = if second == 29 then Unknown else (if first == 29 then Unknown else kept_value Fp);
  flow = Next;
}

store-by : (word : ℕ) (a : machine.Access) (mode : ℕ) → a.mode ≡ mode → IsPair 0 word a → class_of word ≡ class.PairIndexed → (mode == 2) ≡ false
    → effect_of word ≡ stored a.mode a.offset
unfolding effect_of stored by-mode
store-by word a mode is p found other =
    let from_sp : rn word ≡ 31 = p.rn in
    rw (found, is, other) (rw from_sp (rw (store-scale 0 word a p) (rw (p.imm7) refl)))

store-effect : (word : ℕ) (a : machine.Access) (mode : ℕ) → a.mode ≡ mode → mode ≢ 0 → mode < 4 → IsPair 0 word a
    → effect_of word ≡ stored a.mode a.offset
unfolding effect_of stored by-mode
store-effect word a zero is some fits p = absurd (some refl)
store-effect word a (suc zero) is some fits p = store-by word a 1 is p (store-after word a is p) refl
store-effect word a (suc (suc zero)) is some fits p = rw (store-offset word a is p, is) refl
store-effect word a (suc (suc (suc zero))) is some fits p = store-by word a 3 is p (store-before word a is p) refl
store-effect word a (suc (suc (suc (suc mode)))) is some fits p = absurd (omega (arith, fits))

load-by : (word : ℕ) (a : machine.Access) (mode : ℕ) → a.mode ≡ mode → IsPair 1 word a → class_of word ≡ class.LoadPairIndexed
    → (mode == 2) ≡ false → effect_of word ≡ loaded a.mode a.offset a.first a.second
unfolding effect_of loaded by-mode writing-if
load-by word a mode is p found other =
    let from_sp : rn word ≡ 31 = p.rn in
    let first : rd word ≡ a.first = sym p.rt in
    let second : rt2 word ≡ a.second = sym p.rt2 in
    rw (found, is, other)
    (rw from_sp (rw (load-scale 1 word a p) (rw (p.imm7) (rw first (rw second (both (a.first == 29) (a.second == 29) (machine.sign_extended 7 (field word 21 15) *ℤ pos 8)))))))
  where
    both : (one two : Bool) (bytes : ℤ)
        → writing-if two (writing-if one (setting (plain 4) 31 (Sum Sp bytes)))
        ≡ record { size = 4; sp = Sum Sp bytes; fp = if two then Unknown else (if one then Unknown else kept_value Fp); flow = Next }
    both true true bytes = refl
    both true false bytes = refl
    both false true bytes = refl
    both false false bytes = refl

load-plain : (word : ℕ) (a : machine.Access) → a.mode ≡ 2 → IsPair 1 word a
    → effect_of word ≡ loaded a.mode a.offset a.first a.second
unfolding effect_of loaded by-mode writing-if
load-plain word a is p =
    let first : rd word ≡ a.first = sym p.rt in
    let second : rt2 word ≡ a.second = sym p.rt2 in
    rw (load-offset word a is p, is) (rw first (rw second (both (a.first == 29) (a.second == 29))))
  where
    both : (one two : Bool)
        → writing-if two (writing-if one (plain 4))
        ≡ record { size = 4; sp = kept_value Sp; fp = if two then Unknown else (if one then Unknown else kept_value Fp); flow = Next }
    both true true = refl
    both true false = refl
    both false true = refl
    both false false = refl

load-effect : (word : ℕ) (a : machine.Access) (mode : ℕ) → a.mode ≡ mode → mode ≢ 0 → mode < 4 → IsPair 1 word a
    → effect_of word ≡ loaded a.mode a.offset a.first a.second
load-effect word a zero is some fits p = absurd (some refl)
load-effect word a (suc zero) is some fits p = load-by word a 1 is p (load-after word a is p) refl
load-effect word a (suc (suc zero)) is some fits p = load-plain word a is p
load-effect word a (suc (suc (suc zero))) is some fits p = load-by word a 3 is p (load-before word a is p) refl
load-effect word a (suc (suc (suc (suc mode)))) is some fits p = absurd (omega (arith, fits))

-- ---- what the machine does

same : (one other : ℕ) → one ≡ other → pos one ≡ pos other +ℤ pos 0
same one other is = omega (arith, ints, is)

some-number : (m n : ℕ) → ◌≡◌ {A = Option ℕ} (Some m) (Some n) → m ≡ n
some-number m n is = cc

kept-fp : (s t : machine.State) (fp next : ℕ) → t.fp ≡ s.fp → s.fp ≡ Some fp → t.fp ≡ Some next → pos next ≡ pos fp +ℤ pos 0
kept-fp s t fp next held is then_is = same next fp (some-number next fp (sym then_is ∙ (held ∙ is)))

moved-sp : (e : Effect) (s : machine.State) (bytes : ℤ) (value : ℕ) → DoesNotWrap e s → e.sp ≡ Sum Sp bytes
    → value ≡ machine.offset_by s.sp bytes → pos value ≡ pos s.sp +ℤ bytes
moved-sp e s bytes value fits is moved =
    let sum = fits bytes is in
    ap pos moved ∙ unwrapped (pos s.sp +ℤ bytes) sum.0 sum.1

-- nothing is changed
unchanged : (e : Effect) (s t : machine.State) → e.sp ≡ kept_value Sp → e.fp ≡ kept_value Fp → t.sp ≡ s.sp → t.fp ≡ s.fp → DoesAs e s t
unchanged e s t sp_is fp_is sp fp_same fp next is then_is fits = record {
  sp = subst (λ (c : Change). Becomes c (as_numbers s fp) (pos t.sp)) (sym sp_is) (same t.sp s.sp sp);
  fp = subst (λ (c : Change). Becomes c (as_numbers s fp) (pos next)) (sym fp_is) (kept-fp s t fp next fp_same is then_is);
}

sum-as : (e : Effect) (s t : machine.State) (bytes : ℤ) → e ≡ summed bytes → t ≡ machine.with_sp_moved s bytes → DoesAs e s t
unfolding summed
sum-as e s t bytes is to fp next known then_known fits =
    subst (λ (x : Effect). Does x (as_numbers s fp) (as_numbers t next)) (sym is) (record {
      sp = moved-sp e s bytes t.sp fits (ap (λ (x : Effect). x.sp) is) (ap (λ (x : machine.State). x.sp) to);
      fp = kept-fp s t fp next (ap (λ (x : machine.State). x.fp) to) known then_known;
    })

-- sp after a pair access
accessed : (e : Effect) (s : machine.State) (fp value : ℕ) (a : machine.Access) → DoesNotWrap e s → e.sp ≡ by-mode a.mode a.offset
    → value ≡ machine.sp_after_access a s.sp → Becomes (by-mode a.mode a.offset) (as_numbers s fp) (pos value)
unfolding by-mode
accessed e s fp value a fits is moved =
    elim (cases_Bool (a.mode == 2)) [
      | inl two ↦ (let to = rw two at moved in rw two (same value s.sp to))
      | inr other ↦ (let to = rw other at moved in let sp_is = rw other at is in rw other (moved-sp e s a.offset value fits sp_is to))
    ]

store-as : (e : Effect) (s t : machine.State) (a : machine.Access) → e ≡ stored a.mode a.offset
    → t ≡ record s { sp = machine.sp_after_access a s.sp; memory = t.memory } → DoesAs e s t
unfolding stored
store-as e s t a is to fp next known then_known fits =
    subst (λ (x : Effect). Does x (as_numbers s fp) (as_numbers t next)) (sym is) (record {
      sp = accessed e s fp t.sp a fits (ap (λ (x : Effect). x.sp) is) (ap (λ (x : machine.State). x.sp) to);
      fp = kept-fp s t fp next (ap (λ (x : machine.State). x.fp) to) known then_known;
    })

load-as : (e : Effect) (s t : machine.State) (a : machine.Access) → e ≡ loaded a.mode a.offset a.first a.second
    → t ≡ machine.after_load a s → DoesAs e s t
unfolding loaded
load-as e s t a is to fp next known then_known fits =
    subst (λ (x : Effect). Does x (as_numbers s fp) (as_numbers t next)) (sym is) (record {
      sp = accessed e s fp t.sp a fits (ap (λ (x : Effect). x.sp) is) (ap (λ (x : machine.State). x.sp) to);
      fp = elim (cases_Bool (a.second == 29)) [
        | inl second ↦ rw second tt
        | inr not_second ↦
            elim (cases_Bool (a.first == 29)) [
              | inl first ↦ rw (not_second, first) tt
              | inr not_first ↦
                  (let held : t.fp ≡ machine.loaded a 29 (s.memory (machine.access_address a s.sp)) (s.memory (machine.offset_by (machine.access_address a s.sp) (pos 8))) s.fp =
                  ap (λ (x : machine.State). x.fp) to in
                  let plain_fp = rw (not_second, not_first) at held in
                  rw (not_second, not_first) (kept-fp s t fp next plain_fp known then_known))
            ]
      ];
    })

-- ---- the others

harmless : Class → Bool
harmless class.Keep = true
harmless class.Padding = true
harmless class.Stop = true
harmless class.Jump = true
harmless class.Call = true
harmless class.Branch = true
harmless class.TestBranch = true
harmless class.BranchRegister = true
harmless class.WriteRd = true
harmless class.SetRd = true
harmless class.AddImmediate = true
harmless class.WriteRt2 = false
harmless class.Indexed = false
harmless class.LoadIndexed = false
harmless class.TagIndexed = false
harmless class.PairIndexed = false
harmless class.LoadPairIndexed = false
harmless class.VectorPairIndexed = false
harmless class.WriteBack = false
harmless class.WriteRtAndBack = false
harmless class.Exclusive = false
harmless class.ComparePair = false
harmless class.MemoryCopy = false

found-harmless : (word : ℕ) (known : List (ℕ × ℕ)) (table : List Encoding) → Bits word known
    → list_all (λ e. conflicts known e || harmless e.2) table ≡ true → harmless (class_in (encoding_in table word)) ≡ true
unfolding encoding_in harmless
found-harmless word known [] has all = refl
found-harmless word known (e ∷ table) has all =
    let parts = and_parts (conflicts known e || harmless e.2) (list_all (λ x. conflicts known x || harmless x.2) table) all in
    elim (cases_Bool (bit_and word e.0 == e.1)) [
      | inr other ↦ rw other (found-harmless word known table has parts.1)
      | inl matches ↦
          rw matches
          (elim (cases_Bool (conflicts known e)) [
            | inl conflict ↦ (let no_way = sym (no-match word known e has conflict) ∙ matches in cc)
            | inr none ↦ rw none at parts.0
          ])
    ]

record Keeps (e : Effect) : Type 0 where
  sp : e.sp ≡ kept_value Sp
  fp : e.fp ≡ kept_value Fp

-- a class that writes Rd at most, where that is x16
keeps-by : (word : ℕ) (c : Class) → harmless c ≡ true → rd word ≡ 16 → Keeps (effect_of_class word c)
unfolding harmless
keeps-by word class.Keep is to = record { sp = refl; fp = refl }
keeps-by word class.Padding is to = record { sp = refl; fp = refl }
keeps-by word class.Stop is to = record { sp = refl; fp = refl }
keeps-by word class.Jump is to = record { sp = refl; fp = refl }
keeps-by word class.Call is to = record { sp = refl; fp = refl }
keeps-by word class.Branch is to = record { sp = refl; fp = refl }
keeps-by word class.TestBranch is to = record { sp = refl; fp = refl }
keeps-by word class.BranchRegister is to = record { sp = refl; fp = refl }
keeps-by word class.WriteRd is to = record { sp = rw to refl; fp = rw to refl }
keeps-by word class.SetRd is to = record { sp = rw to refl; fp = rw to refl }
keeps-by word class.AddImmediate is to = record { sp = rw to refl; fp = rw to refl }
keeps-by word class.WriteRt2 is to = cc
keeps-by word class.Indexed is to = cc
keeps-by word class.LoadIndexed is to = cc
keeps-by word class.TagIndexed is to = cc
keeps-by word class.PairIndexed is to = cc
keeps-by word class.LoadPairIndexed is to = cc
keeps-by word class.VectorPairIndexed is to = cc
keeps-by word class.WriteBack is to = cc
keeps-by word class.WriteRtAndBack is to = cc
keeps-by word class.Exclusive is to = cc
keeps-by word class.ComparePair is to = cc
keeps-by word class.MemoryCopy is to = cc

mov-bits : List (ℕ × ℕ)
mov-bits = (31, 1) ∷ (30, 1) ∷ (29, 0) ∷ (25, 1) ∷ (24, 0) ∷ (23, 1) ∷ []

has-mov-bits : (word : ℕ) → field word 31 29 ≡ 6 → field word 25 23 ≡ 5 → Bits word mov-bits
unfolding Bits bit mov-bits
has-mov-bits word high middle = (omega arith, (omega arith, (omega arith, (omega arith, (omega arith, (omega arith, tt))))))

mov-keeps : (word : ℕ) → field word 31 29 ≡ 6 → field word 25 23 ≡ 5 → field word 4 0 ≡ 16 → Keeps (effect_of word)
unfolding effect_of class_of conflicts mov-bits bit harmless
mov-keeps word high middle to =
    keeps-by word (class_of word) (found-harmless word mov-bits encodings (has-mov-bits word high middle) refl) to

-- B
jump-bits : List (ℕ × ℕ)
jump-bits = (31, 0) ∷ (30, 0) ∷ (29, 0) ∷ (28, 1) ∷ (27, 0) ∷ (26, 1) ∷ []

jump-class : (word : ℕ) → field word 31 26 ≡ 5 → class_of word ≡ class.Jump
unfolding conflicts jump-bits bit Bits
jump-class word is =
    class-from word jump-bits 9 (encoding 0xFC000000 0x14000000 class.Jump) (drop 10 encodings)
    (omega arith, (omega arith, (omega arith, (omega arith, (omega arith, (omega arith, tt)))))) refl refl masked
  where
    masked : bit_and word 0xFC000000 ≡ 0x14000000
    masked =
        let n = bit_and word 0xFC000000 in
        let most : n ≤ 0xFC000000 = and_le_r word 0xFC000000 in
        let top : n / 2 ^ 26 % 2 ^ 6 ≡ 5 = kept word 0xFC000000 26 6 refl ∙ is in
        let low : n / 2 ^ 0 % 2 ^ 26 ≡ 0 = dropped word 0xFC000000 0 26 refl in
        omega arith

-- BR, RET and their kin
register-bits : List (ℕ × ℕ)
register-bits = (31, 1) ∷ (30, 1) ∷ (29, 0) ∷ (28, 1) ∷ (27, 0) ∷ (26, 1) ∷ (25, 1) ∷ []

register-class : (word : ℕ) → field word 31 25 ≡ 0x6B → class_of word ≡ class.BranchRegister
unfolding conflicts register-bits bit Bits
register-class word is =
    class-from word register-bits 14 (encoding 0xFE000000 0xD6000000 class.BranchRegister) (drop 15 encodings)
    (omega arith, (omega arith, (omega arith, (omega arith, (omega arith, (omega arith, (omega arith, tt))))))) refl refl masked
  where
    masked : bit_and word 0xFE000000 ≡ 0xD6000000
    masked =
        let n = bit_and word 0xFE000000 in
        let most : n ≤ 0xFE000000 = and_le_r word 0xFE000000 in
        let top : n / 2 ^ 25 % 2 ^ 7 ≡ 0x6B = kept word 0xFE000000 25 7 refl ∙ is in
        let low : n / 2 ^ 0 % 2 ^ 25 ≡ 0 = dropped word 0xFE000000 0 25 refl in
        omega arith

-- by opc, which is bits 24 to 21
register-away : (word opc : ℕ) → field word 31 25 ≡ 0x6B → bits_at word 21 4 ≡ opc → (opc == 1) ≡ false → (opc == 9) ≡ false
    → is_away (effect_of word).flow ≡ true
unfolding effect_of
register-away word opc is opc_is not_1 not_9 =
    rw (register-class word is) (rw opc_is (rw not_1 (rw not_9
    (elim (cases_Bool (opc == 2)) [
      | inl returns ↦ rw returns refl
      | inr other ↦ rw other refl
    ]))))

register-keeps : (word : ℕ) → field word 31 25 ≡ 0x6B → Keeps (effect_of word)
unfolding effect_of
register-keeps word is = record { sp = rw (register-class word is) refl; fp = rw (register-class word is) refl }

jump-keeps : (word : ℕ) → field word 31 26 ≡ 5 → Keeps (effect_of word)
unfolding effect_of
jump-keeps word is = record { sp = rw (jump-class word is) refl; fp = rw (jump-class word is) refl }

jump-away : (word : ℕ) → field word 31 26 ≡ 5 → is_away (effect_of word).flow ≡ true
unfolding effect_of
jump-away word is = rw (jump-class word is) refl

word-keeps : (word constant : ℕ) → word ≡ constant → Keeps (effect_of constant) → Keeps (effect_of word)
word-keeps word constant is keeps = subst (λ (w : ℕ). Keeps (effect_of w)) (sym is) keeps

other-keeps : (word : ℕ) → IsOther word → Keeps (effect_of word)
unfolding effect_of class_of encoding_in
other-keeps word (machine.ret is) = word-keeps word 0xD65F03C0 is (record { sp = refl; fp = refl })
other-keeps word (machine.retab is) = word-keeps word 0xD65F0FFF is (record { sp = refl; fp = refl })
other-keeps word (machine.b is) = jump-keeps word is
other-keeps word (machine.br high low) = register-keeps word (omega (arith, high))
other-keeps word (machine.braa high low) = register-keeps word (omega (arith, high))
other-keeps word (machine.mov high middle to) = mov-keeps word high middle to
other-keeps word (machine.eor is) = word-keeps word 0xCA1E07D0 is (record { sp = refl; fp = refl })
other-keeps word (machine.tbz is) = word-keeps word 0xB6F00050 is (record { sp = refl; fp = refl })
other-keeps word (machine.brk is) = word-keeps word 0xD4388E20 is (record { sp = refl; fp = refl })

signing-keeps : (word : ℕ) → IsSigning word → Keeps (effect_of word)
unfolding effect_of class_of encoding_in
signing-keeps word (machine.pacibsp is) = word-keeps word 0xD503237F is (record { sp = refl; fp = refl })
signing-keeps word (machine.autibsp is) = word-keeps word 0xD50323FF is (record { sp = refl; fp = refl })

word-away : (word constant : ℕ) → word ≡ constant → is_away (effect_of constant).flow ≡ true → is_away (effect_of word).flow ≡ true
word-away word constant is away = subst (λ (w : ℕ). is_away (effect_of w).flow ≡ true) (sym is) away

not-branch : (word constant : ℕ) → word ≡ constant → IsBranch word → (field constant 31 26 ≡ 5 → ⊥) → (field constant 31 25 ≡ 0x6B → ⊥) → ⊥
not-branch word constant is (inl b) one two = one (subst (λ (w : ℕ). field w 31 26 ≡ 5) is b)
not-branch word constant is (inr r) one two = two (subst (λ (w : ℕ). field w 31 25 ≡ 0x6B) is r)

not-opc : (opc other : ℕ) → (opc ≡ other → ⊥) → (opc == other) ≡ false
not-opc opc other apart =
    elim (cases_Bool (opc == other)) [
      | inl same_opc ↦ absurd (apart (eqb-true opc other same_opc))
      | inr differs ↦ differs
    ]

other-away : (word : ℕ) → IsOther word → IsBranch word → is_away (effect_of word).flow ≡ true
unfolding effect_of class_of encoding_in
other-away word (machine.ret is) branch = word-away word 0xD65F03C0 is refl
other-away word (machine.retab is) branch = word-away word 0xD65F0FFF is refl
other-away word (machine.b is) branch = jump-away word is
other-away word (machine.br high low) branch = register-away word 0 (omega (arith, high)) (omega (arith, high)) refl refl
other-away word (machine.braa high low) branch = register-away word 8 (omega (arith, high)) (omega (arith, high)) refl refl
other-away word (machine.mov high middle to) (inl b) = absurd (omega (arith, high, b))
other-away word (machine.mov high middle to) (inr r) =
    register-away word (bits_at word 21 4) r refl
    (not-opc (bits_at word 21 4) 1 (λ e. omega (arith, middle, e))) (not-opc (bits_at word 21 4) 9 (λ e. omega (arith, middle, e)))
other-away word (machine.eor is) branch = absurd (not-branch word 0xCA1E07D0 is branch (λ e. omega (arith, e)) (λ e. omega (arith, e)))
other-away word (machine.tbz is) branch = absurd (not-branch word 0xB6F00050 is branch (λ e. omega (arith, e)) (λ e. omega (arith, e)))
other-away word (machine.brk is) branch = absurd (not-branch word 0xD4388E20 is branch (λ e. omega (arith, e)) (λ e. omega (arith, e)))

-- each has four bytes
with-size : (e : Effect) (base : Option Base) (c : Change) → (with_register e base c).size ≡ e.size
with-size e (Some Sp) c = refl
with-size e (Some Fp) c = refl
with-size e None c = refl

writing-size : (e : Effect) (n : ℕ) → (writing e n).size ≡ e.size
writing-size e n =
    elim (cases_Bool (n == 29)) [
      | inl is ↦ rw is refl
      | inr other ↦ rw other refl
    ]

moving-size : (e : Effect) (number : ℕ) (bytes : Option ℤ) (base : Option Base) → (moving_base e number bytes base).size ≡ e.size
moving-size e number bytes (Some base) = with-size e (numbered number) (moved base bytes)
moving-size e number bytes None = refl

pair-size : (e : Effect) (word : ℕ) → (writing_pair e word).size ≡ e.size
pair-size e word = writing-size (writing e (rd word)) (rt2 word) ∙ writing-size e (rd word)

exclusive-size : (word : ℕ) → (exclusive word).size ≡ 4
exclusive-size word =
    elim (cases_Bool (bits_at word 22 1 == 1)) [
      | inl loads ↦
          rw loads
          (writing-size (writing (writing (plain 4) (rs word)) (rd word)) (rt2 word)
          ∙ (writing-size (writing (plain 4) (rs word)) (rd word) ∙ writing-size (plain 4) (rs word)))
      | inr stores ↦ rw stores (writing-size (plain 4) (rs word))
    ]

compare-size : (word : ℕ) → (compare_pair word).size ≡ 4
compare-size word =
    elim (cases_Bool (bits_at word 17 4 == 14)) [
      | inl is ↦ rw is refl
      | inr other ↦ rw other refl
    ]

copy-size : (word : ℕ) → (memory_copy word).size ≡ 4
copy-size word =
    writing-size (writing (writing (plain 4) (rd word)) (rn word)) (rs word)
    ∙ (writing-size (writing (plain 4) (rd word)) (rn word) ∙ writing-size (plain 4) (rd word))

size-of : (word : ℕ) (c : Class) → (effect_of_class word c).size ≡ 4
size-of word class.Keep = refl
size-of word class.Padding = refl
size-of word class.Stop = refl
size-of word class.Jump = refl
size-of word class.Call = refl
size-of word class.Branch = refl
size-of word class.TestBranch = refl
size-of word class.BranchRegister = refl
size-of word class.WriteRd = writing-size (plain 4) (rd word)
size-of word class.SetRd = with-size (plain 4) (numbered (rd word)) Unknown
size-of word class.AddImmediate = with-size (plain 4) (numbered (rd word)) (added word)
size-of word class.WriteRt2 = pair-size (plain 4) word
size-of word class.Indexed = moving-size (plain 4) (rn word) (Some (imm9 word)) (numbered (rn word))
size-of word class.LoadIndexed =
    writing-size (moving (plain 4) word (Some (imm9 word))) (rd word) ∙ moving-size (plain 4) (rn word) (Some (imm9 word)) (numbered (rn word))
size-of word class.TagIndexed = moving-size (plain 4) (rn word) (Some (imm9 word *ℤ pos 16)) (numbered (rn word))
size-of word class.PairIndexed = moving-size (plain 4) (rn word) (Some (pair_offset word class.PairIndexed)) (numbered (rn word))
size-of word class.LoadPairIndexed =
    pair-size (moving_by_pair (plain 4) word class.LoadPairIndexed) word
    ∙ moving-size (plain 4) (rn word) (Some (pair_offset word class.LoadPairIndexed)) (numbered (rn word))
size-of word class.VectorPairIndexed = moving-size (plain 4) (rn word) (Some (pair_offset word class.VectorPairIndexed)) (numbered (rn word))
size-of word class.WriteBack = moving-size (plain 4) (rn word) (None) (numbered (rn word))
size-of word class.WriteRtAndBack = moving-size (writing (plain 4) (rd word)) (rn word) (None) (numbered (rn word)) ∙ writing-size (plain 4) (rd word)
size-of word class.Exclusive = exclusive-size word
size-of word class.ComparePair = compare-size word
size-of word class.MemoryCopy = copy-size word

word-size : (word : ℕ) → (effect_of word).size ≡ 4
unfolding effect_of
word-size word = size-of word (class_of word)

-- ---- all of them

does : (word mask : ℕ) (s t : machine.State) → machine.Step mask word s t → DoesAs (effect_of word) s t
does word mask s t (machine.by_store a p to) =
    store-as (effect_of word) s t a (store-effect word a a.mode refl p.mode_known (mode-fits 0 word a p) p) to
does word mask s t (machine.by_load a p to) =
    load-as (effect_of word) s t a (load-effect word a a.mode refl p.mode_known (mode-fits 1 word a p) p) to
does word mask s t (machine.by_add bytes a to) =
    sum-as (effect_of word) s t (pos bytes) (sum-effect 0 word bytes (omega arith) a ∙ ap summed (sum-does 0 word bytes (omega arith) a)) to
does word mask s t (machine.by_sub bytes a to) =
    sum-as (effect_of word) s t (pos 0 -ℤ pos bytes) (sum-effect 1 word bytes (omega arith) a ∙ ap summed (sum-does 1 word bytes (omega arith) a)) to
does word mask s t (machine.by_signing g signs) =
    let keeps = signing-keeps word g in
    unchanged (effect_of word) s t keeps.sp keeps.fp (ap (λ (x : machine.State). x.sp) signs.others) (ap (λ (x : machine.State). x.fp) signs.others)
does word mask s t (machine.by_other o to) =
    let keeps = other-keeps word o in
    unchanged (effect_of word) s t keeps.sp keeps.fp (ap (λ (x : machine.State). x.sp) to) (ap (λ (x : machine.State). x.fp) to)

returns : (word : ℕ) → (word ≡ 0xD65F03C0) ⊎ (word ≡ 0xD65F0FFF) → (effect_of word).flow ≡ flow.Return
unfolding effect_of class_of encoding_in
returns word (inl is) = subst (λ (w : ℕ). (effect_of w).flow ≡ flow.Return) (sym is) refl
returns word (inr is) = subst (λ (w : ℕ). (effect_of w).flow ≡ flow.Return) (sym is) refl

pair-next : (load word : ℕ) (a : machine.Access) → IsPair load word a → (load ≡ 0) ⊎ (load ≡ 1) → (effect_of word).flow ≡ Next
unfolding stored loaded
pair-next load word a p (inl is) =
    let q = subst (λ (l : ℕ). IsPair l word a) is p in
    ap (λ (x : Effect). x.flow) (store-effect word a a.mode refl q.mode_known (mode-fits 0 word a q) q)
pair-next load word a p (inr is) =
    let q = subst (λ (l : ℕ). IsPair l word a) is p in
    ap (λ (x : Effect). x.flow) (load-effect word a a.mode refl q.mode_known (mode-fits 1 word a q) q)

sum-next : (op word bytes : ℕ) → IsAddSub op word bytes → (op ≡ 0) ⊎ (op ≡ 1) → (effect_of word).flow ≡ Next
unfolding summed
sum-next op word bytes a (inl is) = ap (λ (x : Effect). x.flow) (sum-effect op word bytes (omega (arith, is)) a)
sum-next op word bytes a (inr is) = ap (λ (x : Effect). x.flow) (sum-effect op word bytes (omega (arith, is)) a)

signing-next : (word : ℕ) → IsSigning word → (effect_of word).flow ≡ Next
unfolding effect_of class_of encoding_in
signing-next word (machine.pacibsp is) = subst (λ (w : ℕ). (effect_of w).flow ≡ Next) (sym is) refl
signing-next word (machine.autibsp is) = subst (λ (w : ℕ). (effect_of w).flow ≡ Next) (sym is) refl

-- the word at an offset
pub word-read : (bytes : List ℕ) (at word : ℕ) → IsInstructionAt bytes at word → u32_at bytes at ≡ Ok (word, at + 4)
unfolding u32_at
word-read bytes at word i =
    let within = slice_get_within bytes (at + 3) i.fourth i.fourth_is in
    let first : slice_index bytes at ≡ i.first = get_or_from_slice_get bytes at i.first 0 i.first_is in
    let second : slice_index bytes (at + 1) ≡ i.second = get_or_from_slice_get bytes (at + 1) i.second 0 i.second_is in
    let third : slice_index bytes (at + 2) ≡ i.third = get_or_from_slice_get bytes (at + 2) i.third 0 i.third_is in
    let fourth : slice_index bytes (at + 2 + 1) ≡ i.fourth =
    (let three : at + 2 + 1 ≡ at + 3 = omega arith in ap (slice_index bytes) three ∙ get_or_from_slice_get bytes (at + 3) i.fourth 0 i.fourth_is) in
    let whole : le4 bytes at ≡ word = (let is = i.word_is in omega (arith, first, second, third, fourth, is)) in
    rw (le-leb (at + 4) (length bytes) (omega (arith, within))) (ap (λ (w : ℕ). Ok (w, at + 4)) whole)

word-at : (bytes : List ℕ) (at word : ℕ) → IsInstructionAt bytes at word → instruction_at bytes at ≡ Some (effect_of word)
unfolding instruction_at
word-at bytes at word i = ap effect_in (word-read bytes at word i)

pub as-machine : (bytes : List ℕ) (at : ℕ) → AreAsMachine bytes at (instruction_at bytes at)
as-machine bytes at word i = record {
  effect = effect_of word;
  is = word-at bytes at word i;
  size = word-size word;
  does = does word;
  leads = record {
    returns = returns word;
    leaves = other-away word;
    pairs = λ load a p which. pair-next load word a p which;
    sums = λ op bytes_added a which. sum-next op word bytes_added a which;
    signs = signing-next word;
  };
}
