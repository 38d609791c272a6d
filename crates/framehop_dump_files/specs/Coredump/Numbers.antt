-- The numbers of the format, under the names of their sources: the System V gABI, Linux's include/uapi/linux/elf.h and
-- elf-em.h and auxvec.h, and include/linux/elfcore.h. Sizes and places of fields are in bytes.
use Rattle.std.specs.Prelude.{ℕ, List, [], ◌∷◌, ◌++◌, codes}

-- e_type and e_machine
abbrev pub ET_CORE : ℕ
ET_CORE = 4

abbrev pub EM_X86_64 : ℕ
EM_X86_64 = 62

abbrev pub EM_AARCH64 : ℕ
EM_AARCH64 = 183

-- the owners of notes: "CORE" and "LINUX", with the 0 after them
abbrev pub CORE : List ℕ
CORE = 67 ∷ 79 ∷ 82 ∷ 69 ∷ 0 ∷ []

abbrev pub LINUX : List ℕ
LINUX = 76 ∷ 73 ∷ 78 ∷ 85 ∷ 88 ∷ 0 ∷ []

-- those of other systems: FreeBSD's sys/elf_common.h, OpenBSD's sys/exec_elf.h, and of NetBSD's sys/exec_elf.h how they
-- begin ("NetBSD-CORE" of the process, "NetBSD-CORE@1" of a thread)
abbrev pub FREEBSD : List ℕ
FREEBSD = codes "FreeBSD" ++ 0 ∷ []

abbrev pub OPENBSD : List ℕ
OPENBSD = codes "OpenBSD" ++ 0 ∷ []

abbrev pub NETBSD_CORE : List ℕ
NETBSD_CORE = codes "NetBSD-CORE"

-- n_type of notes of "CORE", and the last of "LINUX"
abbrev pub NT_PRSTATUS : ℕ
NT_PRSTATUS = 1

abbrev pub NT_PRPSINFO : ℕ
NT_PRPSINFO = 3

abbrev pub NT_AUXV : ℕ
NT_AUXV = 6

abbrev pub NT_SIGINFO : ℕ
NT_SIGINFO = 0x53494749

abbrev pub NT_FILE : ℕ
NT_FILE = 0x46494c45

-- a_type of the entry of the auxiliary vector that has where the vdso begins
abbrev pub AT_SYSINFO_EHDR : ℕ
AT_SYSINFO_EHDR = 33

abbrev pub NT_ARM_PAC_MASK : ℕ
NT_ARM_PAC_MASK = 0x406

-- struct elf_prstatus
abbrev pub PR_CURSIG : ℕ
PR_CURSIG = 12

abbrev pub PR_PID : ℕ
PR_PID = 32

abbrev pub PR_REG : ℕ
PR_REG = 112

-- struct elf_prpsinfo, and its size
abbrev pub PRPSINFO_SIZE : ℕ
PRPSINFO_SIZE = 136

abbrev pub PRPSINFO_PID : ℕ
PRPSINFO_PID = 24

abbrev pub PRPSINFO_FNAME : ℕ
PRPSINFO_FNAME = 40

-- struct user_pac_mask (arch/arm64/include/uapi/asm/ptrace.h), and its size
abbrev pub PAC_MASK_SIZE : ℕ
PAC_MASK_SIZE = 16

abbrev pub INSN_MASK : ℕ
INSN_MASK = 8

-- siginfo_t (include/uapi/asm-generic/siginfo.h), its size, and where its union is, of which what comes first is
-- `_sifields._sigfault._addr`, or `_sifields._kill._pid` and `_uid`
abbrev pub SIGINFO_SIZE : ℕ
SIGINFO_SIZE = 128

abbrev pub SI_SIGNO : ℕ
SI_SIGNO = 0

abbrev pub SI_CODE : ℕ
SI_CODE = 8

abbrev pub SI_FIELDS : ℕ
SI_FIELDS = 16
