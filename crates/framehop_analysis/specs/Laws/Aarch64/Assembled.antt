-- The machine reads instructions as an assembler (llvm-mc) writes them: at least one of each shape.
use Rattle.std.proofs.Common.{inl, inr, pos, negsuc, refl, arith}
use Rattle.framehop_analysis.specs.Aarch64.Machine.{IsPair, IsAddSub, IsSigning, pacibsp, autibsp, IsOther, ret, retab, b, br, braa, mov, eor, tbz, brk, IsBranch}
use Rattle.framehop_analysis.specs.Laws.Aarch64.Encodings.{access}

-- stp x29, x30, [sp, #-16]!
stp_pre : IsPair 0 0xA9BF7BFD (access 3 (negsuc 15) 29 30)
stp_pre = record {
  opc = refl;
  class = refl;
  mode_is = refl;
  mode_known = λ e. omega arith;
  l = refl;
  imm7 = refl;
  rt2 = refl;
  rn = refl;
  rt = refl;
}

-- stp x20, x19, [sp, #16]
stp_offset : IsPair 0 0xA9014FF4 (access 2 (pos 16) 20 19)
stp_offset = record {
  opc = refl;
  class = refl;
  mode_is = refl;
  mode_known = λ e. omega arith;
  l = refl;
  imm7 = refl;
  rt2 = refl;
  rn = refl;
  rt = refl;
}

-- stp x1, x2, [sp], #-512
stp_post : IsPair 0 0xA8A00BE1 (access 1 (negsuc 511) 1 2)
stp_post = record {
  opc = refl;
  class = refl;
  mode_is = refl;
  mode_known = λ e. omega arith;
  l = refl;
  imm7 = refl;
  rt2 = refl;
  rn = refl;
  rt = refl;
}

-- ldp x0, x30, [sp, #32]!
ldp_pre : IsPair 1 0xA9C27BE0 (access 3 (pos 32) 0 30)
ldp_pre = record {
  opc = refl;
  class = refl;
  mode_is = refl;
  mode_known = λ e. omega arith;
  l = refl;
  imm7 = refl;
  rt2 = refl;
  rn = refl;
  rt = refl;
}

-- ldp x20, x19, [sp, #-8]
ldp_offset : IsPair 1 0xA97FCFF4 (access 2 (negsuc 7) 20 19)
ldp_offset = record {
  opc = refl;
  class = refl;
  mode_is = refl;
  mode_known = λ e. omega arith;
  l = refl;
  imm7 = refl;
  rt2 = refl;
  rn = refl;
  rt = refl;
}

-- ldp x29, x30, [sp], #504
ldp_post : IsPair 1 0xA8DFFBFD (access 1 (pos 504) 29 30)
ldp_post = record {
  opc = refl;
  class = refl;
  mode_is = refl;
  mode_known = λ e. omega arith;
  l = refl;
  imm7 = refl;
  rt2 = refl;
  rn = refl;
  rt = refl;
}

-- sub sp, sp, #32
sub_plain : IsAddSub 1 0xD10083FF 32
sub_plain = record { opcode = refl; imm12 = refl; rn = refl; rd = refl }

-- sub sp, sp, #4095, lsl #12
sub_shifted : IsAddSub 1 0xD17FFFFF 16773120
sub_shifted = record { opcode = refl; imm12 = refl; rn = refl; rd = refl }

-- add sp, sp, #48
add_plain : IsAddSub 0 0x9100C3FF 48
add_plain = record { opcode = refl; imm12 = refl; rn = refl; rd = refl }

-- add sp, sp, #1, lsl #12
add_shifted : IsAddSub 0 0x914007FF 4096
add_shifted = record { opcode = refl; imm12 = refl; rn = refl; rd = refl }

signs : IsSigning 0xD503237F
signs = pacibsp refl

authenticates : IsSigning 0xD50323FF
authenticates = autibsp refl

-- ret, retab, b #0x100, br x9 and braa x17, x16 are branches that change no register
ret_is : IsOther 0xD65F03C0 × IsBranch 0xD65F03C0
ret_is = (ret refl, inr refl)

retab_is : IsOther 0xD65F0FFF × IsBranch 0xD65F0FFF
retab_is = (retab refl, inr refl)

b_is : IsOther 0x14000040 × IsBranch 0x14000040
b_is = (b refl, inl refl)

br_is : IsOther 0xD61F0120 × IsBranch 0xD61F0120
br_is = (br refl refl, inr refl)

braa_is : IsOther 0xD71F0A30 × IsBranch 0xD71F0A30
braa_is = (braa refl refl, inr refl)

-- mov x16, #0x1234
mov_is : IsOther 0xD2824690
mov_is = mov refl refl refl

-- eor x16, x30, x30, lsl #1; tbz x16, #62, #8; brk #0xc471
eor_is : IsOther 0xCA1E07D0
eor_is = eor refl

tbz_is : IsOther 0xB6F00050
tbz_is = tbz refl

brk_is : IsOther 0xD4388E20
brk_is = brk refl
