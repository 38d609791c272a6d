-- The room that rows one after another need.
use Rattle.std.proofs.Common.{◌≡◌, ℕ, ◌+◌, ◌<◌, ◌≤◌, Bool, true, false, [], length, take, Option, Some, Ok, subst, arith}
use Rattle.std.proofs.lemmas.Bool.{le-ltb}
use Rattle.framehop_cfi.specs.Instruction.{instruction_at}
use Rattle.framehop_cfi.specs.Section.{Section}
use Rattle.framehop_cfi.specs.TableRows.{TableRows, effect}
use Rattle.framehop_cfi.specs.RowAt.{location_after, instructions_of_fde}
use Rattle.framehop_cfi.specs.RowRoom.{needs_room, one_needs_room}
use Rattle.framehop_cfi.specs.declared.storage.StorageLimits.{StorageLimits}
use Rattle.framehop_cfi.specs.declared.entry.FrameDescriptionEntry.{FrameDescriptionEntry}
use Rattle.framehop_cfi.specs.declared.instruction.CallFrameInstruction.{CallFrameInstruction}
use Rattle.framehop_cfi.proofs.Cursor.{not-back}
use Rattle.framehop_cfi.proofs.Forward.{instruction-forward}
use Rattle.framehop_cfi.proofs.Room.{needless, needs-here, needs-on, none-stays}

-- an instruction that does not move, of the instructions of an FDE, of which the whole is known to need room where one does
module _ (limits : Option StorageLimits) (section : Section) (fde : FrameDescriptionEntry)
    (n at location next moved : ℕ) (instruction : CallFrameInstruction) (needed : Bool)
    (enough : length (take fde.end section.bytes) < n + at) (inside : at < length (take fde.end section.bytes))
    (reads : instruction_at fde.cie section.bases (take fde.end section.bytes) at ≡ Ok (instruction, next))
    (moves : location_after fde.cie (Some location) location instruction ≡ Ok moved) (near : moved ≤ location)
    (needs : one_needs_room (instructions_of_fde section fde location) n at location ≡ true → needed ≡ true) where
  pub room-here : needs_room instruction ≡ true → needed ≡ true
  room-here room =
      needs (needs-here (instructions_of_fde section fde location) n at location moved (instruction, next) (enough, inside)
      reads moves (le-ltb location moved near) room)

  pub room-on : (m : ℕ) × (length (take fde.end section.bytes) < m + next)
      × (one_needs_room (instructions_of_fde section fde location) m next location ≡ true → needed ≡ true)
  room-on =
      let back = not-back fde.cie location location moved instruction moves in
      let still : moved ≡ location = omega (arith, back, near) in
      let past = instruction-forward fde.cie section.bases (take fde.end section.bytes) at (instruction, next) reads in
      let on = needs-on (instructions_of_fde section fde location) n at location moved (instruction, next) needed
      (enough, inside) reads moves (le-ltb location moved near) past needs in
      (on.0, on.1, subst (λ to. one_needs_room (instructions_of_fde section fde location) on.0 next to ≡ true → needed ≡ true) still on.2)

  pub room-forgets : (rows after : TableRows) → effect limits instruction rows ≡ Ok after → needed ≡ false
      → rows.remembered ≡ [] → after.remembered ≡ []
  room-forgets rows after does none bare =
      none-stays limits instruction rows after (needless (needs_room instruction) needed room-here none) bare does
