-- The lines that the program prints for a reply.
use Rattle.std.specs.Prelude.{ℕ, false, List, [], ◌∷◌, ◌++◌, codes, Option, Some, None, Result, Ok, Err}
use Rattle.std.specs.Fmt.{decimal, digits}
use Rattle.framehop.specs.CodeAddress.{FrameLocation, at_instruction_pointer, at_return_address}
use Rattle.framehop.specs.Walk.{End, at_root, at_refusal, at_limit}
use Rattle.framehop.specs.World.{WorldReply, made, done, stepped, walked}
use Rattle.framehop.specs.CachedWorld.{CachedReply, of_world, counts}
use Rattle.framehop_cache.specs.declared.rule_cache.CacheStats.{CacheStats}
use Rattle.framehop_core.specs.Aarch64.Registers.{Registers}
use Rattle.framehop_core.specs.X86_64.Registers.{Registers as RegistersX86_64}
use Rattle.framehop_core.specs.declared.error.Error.{Error}
use Rattle.framehop_core.specs.ErrorText.{error_text}

-- a line: the text and a line feed
abbrev pub line : List ℕ → List ℕ
line text = text ++ 10 ∷ []

-- an address or a register, in lower-case hexadecimal without leading zeros
abbrev pub hexadecimal : ℕ → List ℕ
hexadecimal address = digits 16 false address

-- a frame of a walk
abbrev pub frame_line : FrameLocation → List ℕ
frame_line (at_instruction_pointer address) = line (codes "ip " ++ hexadecimal address)
frame_line (at_return_address address) = line (codes "ra " ++ hexadecimal address)

abbrev pub frame_lines : List FrameLocation → List ℕ
frame_lines [] = []
frame_lines (frame ∷ frames) = frame_line frame ++ frame_lines frames

-- how a walk ended
abbrev pub end_line : End → List ℕ
end_line at_root = line (codes "end")
end_line (at_refusal error) = line (codes "stopped: " ++ error_text error)
end_line at_limit = line (codes "limit")

-- what a step answered
abbrev pub step_line : Result (Option ℕ) Error → List ℕ
step_line (Ok (Some address)) = line (codes "step " ++ hexadecimal address)
step_line (Ok None) = line (codes "step end")
step_line (Err error) = line (codes "step stopped: " ++ error_text error)

-- a count after its name
unfoldable pub count_text : List ℕ → ℕ → List ℕ
count_text name count = 32 ∷ name ++ 61 ∷ decimal count

-- the counts of a cache
abbrev pub stats_line : CacheStats → List ℕ
stats_line stats =
    line (codes "stats" ++ count_text (codes "hits") stats.hit_count
    ++ count_text (codes "empty") stats.miss_empty_slot_count
    ++ count_text (codes "modules") stats.miss_wrong_modules_count
    ++ count_text (codes "address") stats.miss_wrong_address_count)

-- the registers of aarch64, each after a blank
abbrev pub aarch64_text : Registers → List ℕ
aarch64_text regs =
    codes " lr=" ++ hexadecimal regs.lr ++ codes " sp=" ++ hexadecimal regs.sp ++ codes " fp=" ++ hexadecimal regs.fp

-- a register after its name
unfoldable pub register_text : List ℕ → ℕ → List ℕ
register_text name value = 32 ∷ name ++ 61 ∷ hexadecimal value

-- the registers of x86_64 in the order of their numbers in DWARF: those with names, and those with numbers
abbrev pub named_registers_text : RegistersX86_64 → List ℕ
named_registers_text regs =
    register_text (codes "ip") regs.ip ++ register_text (codes "rax") regs.rax ++ register_text (codes "rdx") regs.rdx
    ++ register_text (codes "rcx") regs.rcx ++ register_text (codes "rbx") regs.rbx
    ++ register_text (codes "rsi") regs.rsi
    ++ register_text (codes "rdi") regs.rdi ++ register_text (codes "rbp") regs.rbp
    ++ register_text (codes "rsp") regs.rsp

abbrev pub numbered_registers_text : RegistersX86_64 → List ℕ
numbered_registers_text regs =
    register_text (codes "r8") regs.r8 ++ register_text (codes "r9") regs.r9 ++ register_text (codes "r10") regs.r10
    ++ register_text (codes "r11") regs.r11 ++ register_text (codes "r12") regs.r12
    ++ register_text (codes "r13") regs.r13
    ++ register_text (codes "r14") regs.r14 ++ register_text (codes "r15") regs.r15

-- the registers of x86_64, and the line of registers
unfoldable pub x86_64_text : RegistersX86_64 → List ℕ
x86_64_text regs = named_registers_text regs ++ numbered_registers_text regs

abbrev pub registers_line : List ℕ → List ℕ
registers_line registers = line (codes "regs" ++ registers)

-- the reply of the world to a command of this verb, over what is printed of registers
abbrev pub world_lines : {Regs : Type 0} → (Regs → List ℕ) → List ℕ → WorldReply Regs → List ℕ
world_lines text verb (made unwinder) = line (verb ++ 32 ∷ decimal unwinder)
world_lines text verb done = line verb
world_lines text verb (stepped answer regs) = step_line answer ++ registers_line (text regs)
world_lines text verb (walked walk) = frame_lines walk.frames ++ end_line walk.end ++ registers_line (text walk.regs)

-- the lines of a reply
abbrev pub reply_lines : {Regs : Type 0} → (Regs → List ℕ) → List ℕ → CachedReply Regs → List ℕ
reply_lines text verb (of_world reply) = world_lines text verb reply
reply_lines text verb (counts stats) = stats_line stats
