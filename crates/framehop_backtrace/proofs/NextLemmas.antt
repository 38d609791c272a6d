-- The caller of a frame by the part of the definition that it falls under.
use Rattle.std.proofs.Common.{◌≡◌, ℕ, Bool, true, false, List, length, Option, Ok, refl, ap, sym, ◌∙◌}
use Rattle.framehop_core.specs.Memory.{Memory}
use Rattle.framehop_cfi.specs.Row.{Row}
use Rattle.framehop_callers.specs.Caller.{HasColumns, caller_column, step_of}
use Rattle.framehop_callers.specs.Rules.{Source}
use Rattle.framehop_callers.specs.declared.convention.Convention.{Convention}
use Rattle.framehop_backtrace.proofs.ColumnsLemmas.{columns-are}
use Rattle.framehop_backtrace.specs.Code.{Code, is_in_trampoline}
use Rattle.framehop_backtrace.specs.Columns.{columns_by, returned_to}
use Rattle.framehop_backtrace.specs.Machine.{Machine}
use Rattle.framehop_backtrace.specs.Rows.{Finding}
use Rattle.framehop_backtrace.specs.Backtrace.{FrameView, Stack, Next, next_of, by_signal, by_finding, by_row_of, by_row_step, restored_columns, returned_as, run_source}

module _ {Regs : Type 0} (stack : Stack Regs) (callee : Option (FrameView Regs)) (frame : FrameView Regs) where
  pub at-signal : is_in_trampoline stack.code frame.location ≡ true
      → next_of stack callee frame ≡ by_signal stack.machine stack.code frame
  unfolding next_of
  at-signal here = rw here refl

  pub at-finding : (finding : Finding) → is_in_trampoline stack.code frame.location ≡ false
      → finding ≡ stack.rows frame.location → next_of stack callee frame ≡ by_finding stack callee frame finding
  unfolding next_of
  at-finding finding apart is = rw apart (ap (by_finding stack callee frame) (sym is))

module _ {Regs : Type 0} (machine : Machine Regs) (code : Code) (memory : Memory) (covers : ℕ → Bool) (frame : FrameView Regs) (section : List ℕ) (row : Row) where
  abbrev source : Source
  source = record { bytes = section; words = frame.columns; memory = memory }

  -- a row's columns with the registers that the frame has restored
  abbrev restored : List (Option ℕ) → List (Option ℕ)
  restored columns = restored_columns machine (run_source machine.convention memory code covers) frame columns

  pub by-row-is : (convention : Convention) (cfa return_address address : ℕ) (columns completed returned : List (Option ℕ)) (next : Next Regs)
      → convention ≡ machine.convention → step_of convention source row ≡ Ok (cfa, return_address)
      → length columns ≡ 33 → HasColumns (caller_column convention source row cfa) columns
      → address ≡ machine.strip frame.regs return_address
      → completed ≡ restored columns
      → returned ≡ returned_to machine.convention (machine.strip frame.regs) address completed
      → next ≡ returned_as machine code frame address returned → next ≡ by_row_of machine code memory covers frame section row
  by-row-is convention cfa return_address address columns completed returned next same step long has strips restores back is =
      let values : ℕ → Option ℕ = caller_column machine.convention source row cfa in
      let there : HasColumns values columns = λ column less. has column less ∙ ap (λ k. caller_column k source row cfa column) same in
      is ∙ ap (returned_as machine code frame address) back
      ∙ ap (λ words. returned_as machine code frame address (returned_to machine.convention (machine.strip frame.regs) address words))
      (restores ∙ ap restored (columns-are values columns long there))
      ∙ ap (λ a. returned_as machine code frame a (returned_to machine.convention (machine.strip frame.regs) a (restored (columns_by values)))) strips
      ∙ ap (by_row_step machine code (run_source machine.convention memory code covers) frame source row) (sym step ∙ ap (λ k. step_of k source row) same)
