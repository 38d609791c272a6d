-- The fields of PERF_RECORD_SAMPLE (9), in the order of perf_event.h.
use Rattle.std.specs.Prelude.{ℕ, ◌*◌, List, Bool, not, ◌&&◌, ◌||◌, count_ones, Option, None, Result, Ok, Err, ◌==◌, if◌then◌else◌}
use Rattle.framehop_bytes.specs.Bytes.{◌>>=◌}
use Rattle.framehop_recording.specs.Numbers.{PERF_RECORD_SAMPLE, PERF_SAMPLE_IP, PERF_SAMPLE_TID, PERF_SAMPLE_TIME, PERF_SAMPLE_ADDR, PERF_SAMPLE_READ, PERF_SAMPLE_CALLCHAIN, PERF_SAMPLE_ID, PERF_SAMPLE_CPU, PERF_SAMPLE_PERIOD, PERF_SAMPLE_STREAM_ID, PERF_SAMPLE_RAW, PERF_SAMPLE_BRANCH_STACK, PERF_SAMPLE_REGS_USER, PERF_SAMPLE_STACK_USER, PERF_SAMPLE_IDENTIFIER, PERF_SAMPLE_REGS_ABI_NONE, PERF_SAMPLE_REGS_ABI_32, PERF_SAMPLE_REGS_ABI_64}
use Rattle.framehop_recording.specs.Bytes.{Reading, u32_at, u64_at, block_at, has_bit}
use Rattle.framehop_recording.specs.Attributes.{AttributeView}
use Rattle.framehop_recording.specs.Records.{RecordView}
use Rattle.framehop_recording.specs.Events.{known_time}
use Rattle.framehop_recording.specs.declared.error.RecordingError.{RecordingError}
use Rattle.framehop_recording.specs.declared.error.RecordingError.TheVariants.{OtherKind, ShortRecord, NoThread, NoUserStack, UnsupportedField, NoCallChain, NoUserRegisters, Process32Bit, UnknownAbi}
use Rattle.framehop_recording.specs.declared.sample.Sample.{Sample}
use Rattle.framehop_recording.specs.declared.sample.UserStack.{UserStack}
use Rattle.framehop_recording.specs.declared.sample.CallChain.{CallChain}

-- the registers and the stack of the user's side, and whether the kernel copied all bytes of the stack that it was to copy
pub record UserView : Type 0 where
  pub registers : List ℕ
  pub stack : List ℕ
  pub is_full : Bool

abbrev pub user_view : UserStack → UserView
user_view u = record { registers = u.registers.now; stack = u.stack.now; is_full = u.is_full }

-- a sample by its values
pub record SampleView : Type 0 where
  pub ip : ℕ
  pub pid : ℕ
  pub tid : ℕ
  pub time : Option ℕ
  pub chain : Result (List ℕ) RecordingError
  pub user : Result UserView RecordingError

-- the user's side of a sample, or why it is refused
abbrev pub read_user_view : Result UserStack RecordingError → Result UserView RecordingError
read_user_view (Ok user) = Ok (user_view user)
read_user_view (Err error) = Err error

-- the bytes of its call chain, or why they are refused
abbrev pub read_chain_view : Result CallChain RecordingError → Result (List ℕ) RecordingError
read_chain_view (Ok chain) = Ok chain.bytes.now
read_chain_view (Err error) = Err error

abbrev pub sample_view : Sample → SampleView
sample_view s = record { ip = s.ip; pid = s.pid; tid = s.tid; time = s.time; chain = read_chain_view s.chain; user = read_user_view s.user }

-- a number that is there or not
abbrev pub optional_at : Bool → List ℕ → ℕ → RecordingError → Reading ℕ
optional_at present bytes at short = if present then u64_at bytes at short else Ok (0, at)

-- a count and so many numbers of eight bytes
unfoldable pub chain_at : List ℕ → ℕ → RecordingError → Reading (List ℕ)
chain_at bytes at short = do
  count ← u64_at bytes at short
  block_at bytes count.1 (8 * count.0) short

-- the offset after them, where they are there
unfoldable pub after_chain : Bool → List ℕ → ℕ → RecordingError → Result ℕ RecordingError
after_chain present bytes at short = if present then (do
  chain ← chain_at bytes at short
  Ok chain.1) else Ok at

-- The ABI and a register for each bit of the mask; then the size of the stack's copy, its bytes, and how many of them
-- are of the stack. Where the size is 0, nothing follows it.
unfoldable pub user_at : ℕ → ℕ → List ℕ → ℕ → Result UserView RecordingError
user_at offset mask bytes at = do
  abi ← u64_at bytes at (ShortRecord offset)
  if abi.0 == PERF_SAMPLE_REGS_ABI_NONE then Err (NoUserRegisters offset)
      else if abi.0 == PERF_SAMPLE_REGS_ABI_32 then Err (Process32Bit offset)
      else if not (abi.0 == PERF_SAMPLE_REGS_ABI_64) then Err (UnknownAbi offset)
      else (do
        registers ← block_at bytes abi.1 (8 * count_ones mask) (ShortRecord offset)
        size ← u64_at bytes registers.1 (ShortRecord offset)
        copied ← block_at bytes size.1 size.0 (ShortRecord offset)
        filled ← optional_at (not (size.0 == 0)) bytes copied.1 (ShortRecord offset)
        stack ← block_at copied.0 0 filled.0 (ShortRecord offset)
        Ok (record { registers = registers.0; stack = stack.0; is_full = not (size.0 == 0) && (filled.0 == size.0) }))

-- The offset after the fields of eight bytes that lie between the time of a sample and the values of its counters.
unfoldable pub after_period : AttributeView → RecordView → ℕ → Result ℕ RecordingError
after_period a r at = do
  address ← optional_at (has_bit a.sample_type PERF_SAMPLE_ADDR) r.body at (ShortRecord r.offset)
  id ← optional_at (has_bit a.sample_type PERF_SAMPLE_ID) r.body address.1 (ShortRecord r.offset)
  stream ← optional_at (has_bit a.sample_type PERF_SAMPLE_STREAM_ID) r.body id.1 (ShortRecord r.offset)
  cpu ← optional_at (has_bit a.sample_type PERF_SAMPLE_CPU) r.body stream.1 (ShortRecord r.offset)
  period ← optional_at (has_bit a.sample_type PERF_SAMPLE_PERIOD) r.body cpu.1 (ShortRecord r.offset)
  Ok period.1

-- The call chain of a sample, after its time: those fields, and the chain. An event must have it, and may have no values of
-- counters before it, whose size is not known.
unfoldable pub chain_side : AttributeView → RecordView → ℕ → Result (List ℕ) RecordingError
chain_side a r at =
    if not (has_bit a.sample_type PERF_SAMPLE_CALLCHAIN) then Err (NoCallChain r.offset)
    else if has_bit a.sample_type PERF_SAMPLE_READ then Err (UnsupportedField r.offset)
    else (do
      period ← after_period a r at
      chain ← chain_at r.body period (ShortRecord r.offset)
      Ok chain.0)

-- The user's side of a sample, after its time: the fields before it, and the registers and the stack. An event must have
-- these, and may have no field before them whose size is not known.
unfoldable pub user_side : AttributeView → RecordView → ℕ → Result UserView RecordingError
user_side a r at =
    if not (has_bit a.sample_type PERF_SAMPLE_REGS_USER && has_bit a.sample_type PERF_SAMPLE_STACK_USER)
    then Err (NoUserStack r.offset)
    else if has_bit a.sample_type PERF_SAMPLE_READ || has_bit a.sample_type PERF_SAMPLE_RAW
    || has_bit a.sample_type PERF_SAMPLE_BRANCH_STACK then Err (UnsupportedField r.offset)
    else (do
      period ← after_period a r at
      chain ← after_chain (has_bit a.sample_type PERF_SAMPLE_CALLCHAIN) r.body period (ShortRecord r.offset)
      user_at r.offset a.sample_regs_user r.body chain)

-- A sample of an event, whose fields begin with the instruction pointer and the thread, and the time if it has one. Why
-- its call chain or the user's side can't be read is part of it. Fields after the stack are passed over.
unfoldable pub sample_at : AttributeView → RecordView → Result SampleView RecordingError
sample_at a r =
    if not (r.kind == PERF_RECORD_SAMPLE) then Err (OtherKind r.offset)
    else if not (has_bit a.sample_type PERF_SAMPLE_IP && has_bit a.sample_type PERF_SAMPLE_TID) then Err (NoThread r.offset)
    else (do
      identifier ← optional_at (has_bit a.sample_type PERF_SAMPLE_IDENTIFIER) r.body 0 (ShortRecord r.offset)
      ip ← u64_at r.body identifier.1 (ShortRecord r.offset)
      pid ← u32_at r.body ip.1 (ShortRecord r.offset)
      tid ← u32_at r.body pid.1 (ShortRecord r.offset)
      time ← optional_at (has_bit a.sample_type PERF_SAMPLE_TIME) r.body tid.1 (ShortRecord r.offset)
      Ok (record { ip = ip.0; pid = pid.0; tid = tid.0; time = if has_bit a.sample_type PERF_SAMPLE_TIME then known_time time.0 else None; chain = chain_side a r time.1; user = user_side a r time.1 }))
