-- The actions of the machine's instructions, read by the encodings.
use Rattle.std.proofs.Common.{◌≡◌, ◌≢◌, ℕ, zero, suc, ◌+◌, ◌*◌, ◌/◌, ◌%◌, ◌^◌, ◌<◌, ◌≤◌, ◌==◌, eq-eqb, pos, ◌-ℤ◌, Bool, true, false, not, ◌&&◌, ◌||◌, List, [], ◌∷◌, take, drop, Option, Some, None, refl, sym, ap, subst, ◌∙◌, arith, inl, inr, bit_and}
use Rattle.std.specs.List.{list_all}
use Rattle.std.proofs.lemmas.Nat.{and_le_r}
use Rattle.std.proofs.lemmas.Bool.{cases_Bool, eqb-true, and_parts}
use Rattle.framehop_analysis.specs.Laws.Aarch64.Masks.{kept, dropped}
use Rattle.framehop_analysis.specs.Aarch64.Machine.{field, IsPair, IsAddSub, IsSigning, IsInstructionAt}
use Rattle.framehop_analysis.specs.Aarch64.Machine as machine
use Rattle.framehop_core.specs.Bits.{bits_at}
use Rattle.framehop_bytes.specs.ByCode.{by_code}
use Rattle.framehop_cfi.specs.declared.rule.Register.{Register}
use Rattle.framehop_code.specs.declared.aarch64.action.Actions.{Actions}
use Rattle.framehop_code.specs.declared.aarch64.form.Addressing.TheVariants as addressing
use Rattle.framehop_code.specs.declared.aarch64.form.Form.{Form}
use Rattle.framehop_code.specs.declared.aarch64.form.Form.TheVariants as form
use Rattle.framehop_code.specs.declared.aarch64.form.Row.{Row}
use Rattle.framehop_code.specs.declared.action.Action.TheVariants.{Branch, BranchWithLink, Forget, Jump, Move, ReturnTo}
use Rattle.framehop_code.specs.declared.action.Source.TheVariants as source
use Rattle.framehop_code.specs.declared.action.Width.TheVariants.{Eight}
use Rattle.framehop_code.specs.Aarch64.Access.{overlaps}
use Rattle.framehop_code.specs.Aarch64.Pair.{pair}
use Rattle.framehop_code.specs.Aarch64.Action.{actions_of, actions_in, actions_at, imm12, wide}
use Rattle.framehop_code.specs.Aarch64.Fields.{is_set, rd, rn, rt2}
use Rattle.framehop_code.specs.Aarch64.Forms.{row, rows, row_in, form_in, form_of}
use Rattle.framehop_code.specs.Aarch64.MachineActions.{AreActionsAsMachine, Both, HasActions, Idles, Loads, MovesSp, Only, Stores, after_next, distance, general, register_of}
use Rattle.framehop_code.proofs.MachineAarch64.{bit, Bits, other-word, scaled, mode-fits, word-read}

-- ---- encodings

-- an encoding that wants another bit
conflicts : List (ℕ × ℕ) → Row → Bool
conflicts [] r = false
conflicts (known ∷ rest) r = ((bit r.0 known.0 == 1) && not (bit r.1 known.0 == known.1)) || conflicts rest r

no-match : (word : ℕ) (known : List (ℕ × ℕ)) (r : Row) → Bits word known → conflicts known r ≡ true
    → (bit_and word r.0 == r.1) ≡ false
unfolding Bits conflicts
no-match word [] r has conflict = cc
no-match word (first ∷ rest) r has conflict =
    elim (cases_Bool ((bit r.0 first.0 == 1) && not (bit r.1 first.0 == first.1))) [
      | inl here ↦ other-word word r.0 r.1 first.0 first.1 has.0 here
      | inr there ↦ no-match word rest r has.1 (rw there at conflict)
    ]

-- the first of encodings after those that want other bits
skipped : (word : ℕ) (known : List (ℕ × ℕ)) (count : ℕ) (table : List Row) → Bits word known
    → list_all (conflicts known) (take count table) ≡ true → row_in table word ≡ row_in (drop count table) word
unfolding row_in
skipped word known zero table has all = refl
skipped word known (suc count) [] has all = refl
skipped word known (suc count) (r ∷ table) has all =
    let parts = and_parts (conflicts known r) (list_all (conflicts known) (take count table)) all in
    rw (no-match word known r has parts.0) (skipped word known count table has parts.1)

found-first : (word : ℕ) (r : Row) (table : List Row) → bit_and word r.0 ≡ r.1 → row_in (r ∷ table) word ≡ Some r
unfolding row_in
found-first word r table is = rw (eq-eqb (bit_and word r.0) r.1 is) refl

form-from : (word : ℕ) (known : List (ℕ × ℕ)) (count : ℕ) (r : Row) (table : List Row) → Bits word known
    → list_all (conflicts known) (take count rows) ≡ true → drop count rows ≡ r ∷ table → bit_and word r.0 ≡ r.1 → form_of word ≡ r.2
unfolding form_of
form-from word known count r table has all rest is =
    ap form_in (skipped word known count rows has all ∙ (ap (λ (x : List Row). row_in x word) rest ∙ found-first word r table is))

-- the actions of a form
by-form : (word : ℕ) (f : Form) (told : Option Actions) → form_of word ≡ f → actions_of word f ≡ told → actions_of word (form_of word) ≡ told
by-form word f told is does = ap (actions_of word) is ∙ does

Has : ℕ → Option Actions → Type 0
Has word told = actions_of word (form_of word) ≡ told

by-word : (word constant : ℕ) (told : Option Actions) → word ≡ constant → Has constant told → Has word told
unfolding Has
by-word word constant told is has = subst (λ (w : ℕ). actions_of w (form_of w) ≡ told) (sym is) has

-- ---- pairs

pair-bits : ℕ → List (ℕ × ℕ)
pair-bits mode =
    (31, 1) ∷ (30, 0) ∷ (29, 1) ∷ (28, 0) ∷ (27, 1) ∷ (26, 0) ∷ (25, 0) ∷ (24, mode / 2) ∷ (23, mode % 2) ∷ []

has-pair-bits : (load word : ℕ) (a : machine.Access) → IsPair load word a → field word 30 30 ≡ 0 → Bits word (pair-bits a.mode)
unfolding Bits bit pair-bits
has-pair-bits load word a p plain =
    let top = p.opc in
    let c = p.class in
    let m = p.mode_is in
    (omega arith, (omega arith, (omega arith, (omega arith, (omega arith, (omega arith, (omega arith, (omega arith, (omega arith, tt)))))))))

pair-masked : (load word : ℕ) (a : machine.Access) → IsPair load word a → bit_and word 0x3B800000 ≡ 0x28000000 + 2 ^ 23 * a.mode
pair-masked load word a p =
    let c = p.class in
    let m = p.mode_is in
    let n = bit_and word 0x3B800000 in
    let most : n ≤ 0x3B800000 = and_le_r word 0x3B800000 in
    let top : n / 2 ^ 27 % 2 ^ 3 ≡ 5 = kept word 0x3B800000 27 3 refl ∙ (let e : word / 2 ^ 27 % 2 ^ 3 ≡ 5 = omega arith in e) in
    let free : n / 2 ^ 26 % 2 ^ 1 ≡ 0 = dropped word 0x3B800000 26 1 refl in
    let middle : n / 2 ^ 25 % 2 ^ 1 ≡ 0 = kept word 0x3B800000 25 1 refl ∙ (let e : word / 2 ^ 25 % 2 ^ 1 ≡ 0 = omega arith in e) in
    let mode : n / 2 ^ 23 % 2 ^ 2 ≡ a.mode = kept word 0x3B800000 23 2 refl ∙ sym m in
    let low : n / 2 ^ 0 % 2 ^ 23 ≡ 0 = dropped word 0x3B800000 0 23 refl in
    omega arith

pair-form : (mode load word : ℕ) (a : machine.Access) → a.mode ≡ mode → IsPair load word a → field word 30 30 ≡ 0 → (count : ℕ) (r : Row)
    → list_all (conflicts (pair-bits mode)) (take count rows) ≡ true → drop count rows ≡ r ∷ drop (suc count) rows
    → r.0 ≡ 0x3B800000 → r.1 ≡ 0x28000000 + 2 ^ 23 * mode → form_of word ≡ r.2
pair-form mode load word a is p plain count r has rest mask value =
    form-from word (pair-bits mode) count r (drop (suc count) rows)
    (subst (λ (m : ℕ). Bits word (pair-bits m)) is (has-pair-bits load word a p plain)) has rest
    (ap (bit_and word) mask ∙ (pair-masked load word a p ∙ (ap (λ (m : ℕ). 0x28000000 + 2 ^ 23 * m) is ∙ sym value)))

offset-form : (load word : ℕ) (a : machine.Access) → a.mode ≡ 2 → IsPair load word a → field word 30 30 ≡ 0
    → form_of word ≡ form.Pair addressing.Offset
unfolding conflicts pair-bits bit
offset-form load word a is p plain =
    pair-form 2 load word a is p plain 71 (row 0x3B800000 0x29000000 (form.Pair addressing.Offset)) refl refl refl refl

after-form : (load word : ℕ) (a : machine.Access) → a.mode ≡ 1 → IsPair load word a → field word 30 30 ≡ 0
    → form_of word ≡ form.Pair addressing.PostIndexed
unfolding conflicts pair-bits bit
after-form load word a is p plain =
    pair-form 1 load word a is p plain 72 (row 0x3B800000 0x28800000 (form.Pair addressing.PostIndexed)) refl refl refl refl

before-form : (load word : ℕ) (a : machine.Access) → a.mode ≡ 3 → IsPair load word a → field word 30 30 ≡ 0
    → form_of word ≡ form.Pair addressing.PreIndexed
unfolding conflicts pair-bits bit
before-form load word a is p plain =
    pair-form 3 load word a is p plain 73 (row 0x3B800000 0x29800000 (form.Pair addressing.PreIndexed)) refl refl refl refl

-- sp is no general register
apart : (word : ℕ) (register : Register) → (rn word).0 ≡ 31 → overlaps word register ≡ false
apart word register is = rw is (both (is_set word 26) (register.0 == 31))
  where
    both : (vector zero_register : Bool) → ((not vector && not zero_register) && zero_register) ≡ false
    both true true = refl
    both true false = refl
    both false true = refl
    both false false = refl

differ : (n m : ℕ) → n ≢ m → (n == m) ≡ false
differ n m other =
    elim (cases_Bool (n == m)) [
      | inl same ↦ absurd (other (eqb-true n m same))
      | inr is ↦ is
    ]

-- no register is loaded twice
twice : (word : ℕ) (a : machine.Access) → IsPair 1 word a → a.first ≢ a.second → ((rd word).0 == (rt2 word).0) ≡ false
twice word a p two = differ (rd word).0 (rt2 word).0 (λ same. two (p.rt ∙ (same ∙ sym p.rt2)))

-- what the fields of a pair are
record Fields (load word : ℕ) (a : machine.Access) : Type 0 where
  vector : bits_at word 26 1 ≡ 0
  opc : bits_at word 30 2 ≡ 2
  load_is : bits_at word 22 1 ≡ load

fields-of : (load word : ℕ) (a : machine.Access) → IsPair load word a → field word 30 30 ≡ 0 → Fields load word a
fields-of load word a p plain =
    let top = p.opc in
    let c = p.class in
    record { vector = omega arith; opc = omega arith; load_is = p.l }

-- stores
store-offset : (word : ℕ) (a : machine.Access) → a.mode ≡ 2 → IsPair 0 word a → Fields 0 word a
    → Some (pair word addressing.Offset) ≡ Both Stores a
store-offset word a is p f =
    let from_sp : (rn word).0 ≡ 31 = p.rn in
    rw (apart word (rd word) from_sp) (rw (f.vector, f.opc, f.load_is, is)
    (rw from_sp (rw (p.imm7) (rw (p.rt) (rw (p.rt2) refl)))))

store-after : (word : ℕ) (a : machine.Access) → a.mode ≡ 1 → IsPair 0 word a → Fields 0 word a
    → Some (pair word addressing.PostIndexed) ≡ Both Stores a
store-after word a is p f =
    let from_sp : (rn word).0 ≡ 31 = p.rn in
    rw (apart word (rd word) from_sp, apart word (rt2 word) from_sp) (rw (f.vector, f.opc, f.load_is, is)
    (rw from_sp (rw (p.imm7) (rw (p.rt) (rw (p.rt2) refl)))))

store-before : (word : ℕ) (a : machine.Access) → a.mode ≡ 3 → IsPair 0 word a → Fields 0 word a
    → Some (pair word addressing.PreIndexed) ≡ Both Stores a
store-before word a is p f =
    let from_sp : (rn word).0 ≡ 31 = p.rn in
    rw (apart word (rd word) from_sp, apart word (rt2 word) from_sp) (rw (f.vector, f.opc, f.load_is, is)
    (rw from_sp (rw (p.imm7) (rw (p.rt) (rw (p.rt2) refl)))))

stores : (word : ℕ) (a : machine.Access) (mode : ℕ) → a.mode ≡ mode → mode ≢ 0 → mode < 4 → IsPair 0 word a → field word 30 30 ≡ 0
    → Has word (Both Stores a)
unfolding Has
stores word a zero is some fits p plain = absurd (some refl)
stores word a (suc zero) is some fits p plain =
    by-form word (form.Pair addressing.PostIndexed) (Both Stores a) (after-form 0 word a is p plain) (store-after word a is p (fields-of 0 word a p plain))
stores word a (suc (suc zero)) is some fits p plain =
    by-form word (form.Pair addressing.Offset) (Both Stores a) (offset-form 0 word a is p plain) (store-offset word a is p (fields-of 0 word a p plain))
stores word a (suc (suc (suc zero))) is some fits p plain =
    by-form word (form.Pair addressing.PreIndexed) (Both Stores a) (before-form 0 word a is p plain) (store-before word a is p (fields-of 0 word a p plain))
stores word a (suc (suc (suc (suc mode)))) is some fits p plain = absurd (omega (arith, fits))

-- loads
load-offset : (word : ℕ) (a : machine.Access) → a.mode ≡ 2 → IsPair 1 word a → Fields 1 word a → a.first ≢ a.second
    → Some (pair word addressing.Offset) ≡ Both Loads a
load-offset word a is p f two =
    let from_sp : (rn word).0 ≡ 31 = p.rn in
    rw (apart word (rd word) from_sp, twice word a p two) (rw (f.vector, f.opc, f.load_is, is)
    (rw from_sp (rw (p.imm7) (rw (p.rt) (rw (p.rt2) refl)))))

load-after : (word : ℕ) (a : machine.Access) → a.mode ≡ 1 → IsPair 1 word a → Fields 1 word a → a.first ≢ a.second
    → Some (pair word addressing.PostIndexed) ≡ Both Loads a
load-after word a is p f two =
    let from_sp : (rn word).0 ≡ 31 = p.rn in
    rw (apart word (rd word) from_sp, apart word (rt2 word) from_sp, twice word a p two) (rw (f.vector, f.opc, f.load_is, is)
    (rw from_sp (rw (p.imm7) (rw (p.rt) (rw (p.rt2) refl)))))

load-before : (word : ℕ) (a : machine.Access) → a.mode ≡ 3 → IsPair 1 word a → Fields 1 word a → a.first ≢ a.second
    → Some (pair word addressing.PreIndexed) ≡ Both Loads a
load-before word a is p f two =
    let from_sp : (rn word).0 ≡ 31 = p.rn in
    rw (apart word (rd word) from_sp, apart word (rt2 word) from_sp, twice word a p two) (rw (f.vector, f.opc, f.load_is, is)
    (rw from_sp (rw (p.imm7) (rw (p.rt) (rw (p.rt2) refl)))))

loads : (word : ℕ) (a : machine.Access) (mode : ℕ) → a.mode ≡ mode → mode ≢ 0 → mode < 4 → IsPair 1 word a → field word 30 30 ≡ 0
    → a.first ≢ a.second → Has word (Both Loads a)
unfolding Has
loads word a zero is some fits p plain two = absurd (some refl)
loads word a (suc zero) is some fits p plain two =
    by-form word (form.Pair addressing.PostIndexed) (Both Loads a) (after-form 1 word a is p plain) (load-after word a is p (fields-of 1 word a p plain) two)
loads word a (suc (suc zero)) is some fits p plain two =
    by-form word (form.Pair addressing.Offset) (Both Loads a) (offset-form 1 word a is p plain) (load-offset word a is p (fields-of 1 word a p plain) two)
loads word a (suc (suc (suc zero))) is some fits p plain two =
    by-form word (form.Pair addressing.PreIndexed) (Both Loads a) (before-form 1 word a is p plain) (load-before word a is p (fields-of 1 word a p plain) two)
loads word a (suc (suc (suc (suc mode)))) is some fits p plain two = absurd (omega (arith, fits))

-- ---- sums

sum-bits : List (ℕ × ℕ)
sum-bits = (29, 0) ∷ (28, 1) ∷ (27, 0) ∷ (26, 0) ∷ (25, 0) ∷ (24, 1) ∷ (23, 0) ∷ []

has-sum-bits : (op word bytes : ℕ) → op < 2 → IsAddSub op word bytes → Bits word sum-bits
unfolding Bits bit sum-bits
has-sum-bits op word bytes fits a =
    let o = a.opcode in
    (omega arith, (omega arith, (omega arith, (omega arith, (omega arith, (omega arith, (omega arith, tt)))))))

sum-masked : (op word bytes : ℕ) → op < 2 → IsAddSub op word bytes → bit_and word 0x3F800000 ≡ 0x11000000
sum-masked op word bytes fits a =
    let o = a.opcode in
    let n = bit_and word 0x3F800000 in
    let most : n ≤ 0x3F800000 = and_le_r word 0x3F800000 in
    let middle : n / 2 ^ 23 % 2 ^ 7 ≡ 0x22 = kept word 0x3F800000 23 7 refl ∙ (let e : word / 2 ^ 23 % 2 ^ 7 ≡ 0x22 = omega arith in e) in
    let low : n / 2 ^ 0 % 2 ^ 23 ≡ 0 = dropped word 0x3F800000 0 23 refl in
    omega arith

sum-form : (op word bytes : ℕ) → op < 2 → IsAddSub op word bytes → form_of word ≡ form.AddImmediate
unfolding conflicts sum-bits bit
sum-form op word bytes fits a =
    form-from word sum-bits 7 (row 0x3F800000 0x11000000 form.AddImmediate) (drop 8 rows) (has-sum-bits op word bytes fits a) refl refl
    (sum-masked op word bytes fits a)

sum-bytes : (op word bytes : ℕ) → IsAddSub op word bytes → imm12 word ≡ pos bytes
sum-bytes op word bytes a = scaled (bits_at word 10 12) (bits_at word 22 1 == 1) ∙ ap pos (sym a.imm12)

adds : (word bytes : ℕ) → IsAddSub 0 word bytes → Has word (Only (MovesSp (pos bytes)))
unfolding Has
adds word bytes a =
    let o = a.opcode in
    let plus : bits_at word 30 1 ≡ 0 = omega arith in
    let wide : bits_at word 31 1 ≡ 1 = omega arith in
    let to_sp : (rd word).0 ≡ 31 = a.rd in
    let from_sp : (rn word).0 ≡ 31 = a.rn in
    by-form word form.AddImmediate (Only (MovesSp (pos bytes))) (sum-form 0 word bytes (omega arith) a)
    (rw (sum-bytes 0 word bytes a) (rw (plus, wide) (rw to_sp (rw from_sp refl))))

subs : (word bytes : ℕ) → IsAddSub 1 word bytes → Has word (Only (MovesSp (pos 0 -ℤ pos bytes)))
unfolding Has
subs word bytes a =
    let o = a.opcode in
    let minus : bits_at word 30 1 ≡ 1 = omega arith in
    let wide : bits_at word 31 1 ≡ 1 = omega arith in
    let to_sp : (rd word).0 ≡ 31 = a.rd in
    let from_sp : (rn word).0 ≡ 31 = a.rn in
    by-form word form.AddImmediate (Only (MovesSp (pos 0 -ℤ pos bytes))) (sum-form 1 word bytes (omega arith) a)
    (rw (sum-bytes 1 word bytes a) (rw (minus, wide) (rw to_sp (rw from_sp refl))))

-- ---- branches

jump-bits : ℕ → List (ℕ × ℕ)
jump-bits link = (31, link) ∷ (30, 0) ∷ (29, 0) ∷ (28, 1) ∷ (27, 0) ∷ (26, 1) ∷ []

jump-masked : (word top : ℕ) → field word 31 26 ≡ top → bit_and word 0xFC000000 ≡ 2 ^ 26 * top
jump-masked word top is =
    let n = bit_and word 0xFC000000 in
    let most : n ≤ 0xFC000000 = and_le_r word 0xFC000000 in
    let high : n / 2 ^ 26 % 2 ^ 6 ≡ top = kept word 0xFC000000 26 6 refl ∙ is in
    let low : n / 2 ^ 0 % 2 ^ 26 ≡ 0 = dropped word 0xFC000000 0 26 refl in
    omega arith

jump-form : (word : ℕ) → field word 31 26 ≡ 5 → form_of word ≡ form.Jump
unfolding conflicts jump-bits bit Bits
jump-form word is =
    form-from word (jump-bits 0) 18 (row 0xFC000000 0x14000000 form.Jump) (drop 19 rows)
    (omega arith, (omega arith, (omega arith, (omega arith, (omega arith, (omega arith, tt)))))) refl refl (jump-masked word 5 is)

call-form : (word : ℕ) → field word 31 26 ≡ 0x25 → form_of word ≡ form.Call
unfolding conflicts jump-bits bit Bits
call-form word is =
    form-from word (jump-bits 1) 19 (row 0xFC000000 0x94000000 form.Call) (drop 20 rows)
    (omega arith, (omega arith, (omega arith, (omega arith, (omega arith, (omega arith, tt)))))) refl refl (jump-masked word 0x25 is)

jumps : (word : ℕ) → field word 31 26 ≡ 5 → Has word (Only (Jump (source.Address (after_next (distance word)))))
unfolding Has
jumps word is = by-form word form.Jump (Only (Jump (source.Address (after_next (distance word))))) (jump-form word is) refl

calls : (word : ℕ) → field word 31 26 ≡ 0x25 → Has word (Only (BranchWithLink (source.Address (after_next (distance word)))))
unfolding Has
calls word is = by-form word form.Call (Only (BranchWithLink (source.Address (after_next (distance word))))) (call-form word is) refl

register-bits : ℕ → List (ℕ × ℕ)
register-bits signed = (31, 1) ∷ (30, 1) ∷ (29, 0) ∷ (28, 1) ∷ (27, 0) ∷ (26, 1) ∷ (25, 1) ∷ (24, signed) ∷ []

br-form : (word : ℕ) → field word 31 10 ≡ 0x3587C0 → field word 4 0 ≡ 0 → form_of word ≡ form.JumpRegister
unfolding conflicts register-bits bit Bits
br-form word high low =
    form-from word (register-bits 0) 23 (row 0xFFFFFC1F 0xD61F0000 form.JumpRegister) (drop 24 rows)
    (omega arith, (omega arith, (omega arith, (omega arith, (omega arith, (omega arith, (omega arith, (omega arith, tt)))))))) refl refl masked
  where
    masked : bit_and word 0xFFFFFC1F ≡ 0xD61F0000
    masked =
        let n = bit_and word 0xFFFFFC1F in
        let most : n ≤ 0xFFFFFC1F = and_le_r word 0xFFFFFC1F in
        let top : n / 2 ^ 10 % 2 ^ 22 ≡ 0x3587C0 = kept word 0xFFFFFC1F 10 22 refl ∙ high in
        let free : n / 2 ^ 5 % 2 ^ 5 ≡ 0 = dropped word 0xFFFFFC1F 5 5 refl in
        let bottom : n / 2 ^ 0 % 2 ^ 5 ≡ 0 = kept word 0xFFFFFC1F 0 5 refl ∙ low in
        omega arith

braa-form : (word : ℕ) → field word 31 10 ≡ 0x35C7C2 → form_of word ≡ form.JumpRegister
unfolding conflicts register-bits bit Bits
braa-form word high =
    form-from word (register-bits 1) 25 (row 0xFFFFF800 0xD71F0800 form.JumpRegister) (drop 26 rows)
    (omega arith, (omega arith, (omega arith, (omega arith, (omega arith, (omega arith, (omega arith, (omega arith, tt)))))))) refl refl masked
  where
    masked : bit_and word 0xFFFFF800 ≡ 0xD71F0800
    masked =
        let n = bit_and word 0xFFFFF800 in
        let most : n ≤ 0xFFFFF800 = and_le_r word 0xFFFFF800 in
        let above : word / 2 ^ 11 % 2 ^ 21 ≡ 0x1AE3E1 = omega (arith, high) in
        let top : n / 2 ^ 11 % 2 ^ 21 ≡ 0x1AE3E1 = kept word 0xFFFFF800 11 21 refl ∙ above in
        let low : n / 2 ^ 0 % 2 ^ 11 ≡ 0 = dropped word 0xFFFFF800 0 11 refl in
        omega arith

jumps-register : (word : ℕ) → form_of word ≡ form.JumpRegister → Has word (Only (Jump (general (field word 9 5))))
unfolding Has
jumps-register word found = by-form word form.JumpRegister (Only (Jump (general (field word 9 5)))) found refl

-- ---- MOVZ

wide-bits : List (ℕ × ℕ)
wide-bits = (31, 1) ∷ (30, 1) ∷ (29, 0) ∷ (28, 1) ∷ (27, 0) ∷ (26, 0) ∷ (25, 1) ∷ (24, 0) ∷ (23, 1) ∷ []

wide-form : (word : ℕ) → field word 31 23 ≡ 0x1A5 → form_of word ≡ form.MoveWide
unfolding conflicts wide-bits bit Bits
wide-form word is =
    form-from word wide-bits 15 (row 0x7F800000 0x52800000 form.MoveWide) (drop 16 rows)
    (omega arith, (omega arith, (omega arith, (omega arith, (omega arith, (omega arith, (omega arith, (omega arith, (omega arith, tt))))))))) refl refl
    masked
  where
    masked : bit_and word 0x7F800000 ≡ 0x52800000
    masked =
        let n = bit_and word 0x7F800000 in
        let most : n ≤ 0x7F800000 = and_le_r word 0x7F800000 in
        let middle : word / 2 ^ 23 % 2 ^ 8 ≡ 0xA5 = omega (arith, is) in
        let top : n / 2 ^ 23 % 2 ^ 8 ≡ 0xA5 = kept word 0x7F800000 23 8 refl ∙ middle in
        let low : n / 2 ^ 0 % 2 ^ 23 ≡ 0 = dropped word 0x7F800000 0 23 refl in
        omega arith

shifted : (number hw : ℕ) → hw < 4 → number * by_code hw ((0, 1) ∷ (1, 2 ^ 16) ∷ (2, 2 ^ 32) ∷ []) (2 ^ 48) ≡ number * 2 ^ (16 * hw)
shifted number zero fits = refl
shifted number (suc zero) fits = refl
shifted number (suc (suc zero)) fits = refl
shifted number (suc (suc (suc zero))) fits = refl
shifted number (suc (suc (suc (suc hw)))) fits = absurd (omega (arith, fits))

moves : (word : ℕ) → field word 31 23 ≡ 0x1A5 → field word 4 0 ≡ 16
    → Has word (Only (Move (register_of 16) (source.Immediate (field word 20 5 * 2 ^ (16 * field word 22 21))) Eight))
unfolding Has
moves word is to =
    let long : bits_at word 31 1 ≡ 1 = omega (arith, is) in
    let number : wide word ≡ field word 20 5 * 2 ^ (16 * field word 22 21) = shifted (field word 20 5) (field word 22 21) (omega arith) in
    let to_16 : (rd word).0 ≡ 16 = to in
    by-form word form.MoveWide (Only (Move (register_of 16) (source.Immediate (field word 20 5 * 2 ^ (16 * field word 22 21))) Eight)) (wide-form word is)
    (rw number (rw long (rw to_16 refl)))

-- ---- all of them

signs : (word : ℕ) → IsSigning word → Has word (Only Idles)
unfolding Has form_of row_in
signs word (machine.pacibsp is) = by-word word 0xD503237F (Only Idles) is refl
signs word (machine.autibsp is) = by-word word 0xD50323FF (Only Idles) is refl

ret : (word : ℕ) → word ≡ 0xD65F03C0 → Has word (Only (ReturnTo (record { 0 = 30 })))
unfolding Has form_of row_in
ret word is = by-word word 0xD65F03C0 (Only (ReturnTo (record { 0 = 30 }))) is refl

retab : (word : ℕ) → word ≡ 0xD65F0FFF → Has word (Only (ReturnTo (record { 0 = 30 })))
unfolding Has form_of row_in
retab word is = by-word word 0xD65F0FFF (Only (ReturnTo (record { 0 = 30 }))) is refl

eor : (word : ℕ) → word ≡ 0xCA1E07D0 → Has word (Only (Forget (record { 0 = 2 ^ 16 }) None))
unfolding Has form_of row_in
eor word is = by-word word 0xCA1E07D0 (Only (Forget (record { 0 = 2 ^ 16 }) None)) is refl

tbz : (word : ℕ) → word ≡ 0xB6F00050 → Has word (Only (Branch (after_next (pos 4))))
unfolding Has form_of row_in
tbz word is = by-word word 0xB6F00050 (Only (Branch (after_next (pos 4)))) is refl

brk : (word : ℕ) → word ≡ 0xD4388E20 → Has word None
unfolding Has form_of row_in
brk word is = by-word word 0xD4388E20 None is refl

-- the word at an offset
word-at : (bytes : List ℕ) (at word : ℕ) → IsInstructionAt bytes at word → actions_at bytes at ≡ actions_of word (form_of word)
unfolding actions_at
word-at bytes at word i = ap actions_in (word-read bytes at word i)

has-actions : (word : ℕ) → HasActions (actions_of word (form_of word)) word
unfolding Has
has-actions word = record {
  stores = λ a p plain. stores word a a.mode refl p.mode_known (mode-fits 0 word a p) p plain;
  loads = λ a p plain two. loads word a a.mode refl p.mode_known (mode-fits 1 word a p) p plain two;
  adds = adds word;
  subs = subs word;
  signs = signs word;
  ret = ret word;
  retab = retab word;
  b = jumps word;
  bl = calls word;
  br = λ high low. jumps-register word (br-form word high low);
  braa = λ high low. jumps-register word (braa-form word high);
  movz = moves word;
  eor = eor word;
  tbz = tbz word;
  brk = brk word;
}

pub as-machine : (bytes : List ℕ) (at : ℕ) → AreActionsAsMachine bytes at (actions_at bytes at)
as-machine bytes at word i = subst (λ (found : Option Actions). HasActions found word) (sym (word-at bytes at word i)) (has-actions word)
