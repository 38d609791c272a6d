-- What the program prints: the lines of the replies, or the refusal.
use Rattle.std.specs.Prelude.{◌≡◌, ℕ, List, [], ◌∷◌, ◌++◌, map, codes, Result, Ok, Err, ⊤}
use Rattle.std.specs.Global.{Global}
use Rattle.std.specs.declared.vec.Vec.{Vec}
use Rattle.serde_json.specs.Data.{Data, Items}
use Rattle.serde_json.specs.Find.{as_str}
use Rattle.framehop.specs.declared.session.Command.{Command}
use Rattle.framehop_walk.specs.Fields.{field_as, each}
use Rattle.framehop_walk.specs.Commands.{Written, Says, read_command}
use Rattle.framehop.specs.CachedWorld.{CachedReply}
use Rattle.framehop.specs.declared.session.SessionError.{SessionError}
use Rattle.framehop_walk.specs.Refusals.{Reading, and_then, refusal_text, of_session}
use Rattle.framehop_walk.specs.Text.{reply_lines}

-- the lines of replies to commands of these verbs
unfoldable pub lines_of : {Regs : Type 0} → (Regs → List ℕ) → List (List ℕ) → List (CachedReply Regs) → List ℕ
lines_of text [] replies = []
lines_of text (verb ∷ verbs) [] = []
lines_of text (verb ∷ verbs) (reply ∷ replies) = reply_lines text verb reply ++ lines_of text verbs replies

-- the lines, or why the session was refused
abbrev pub printed : {Regs : Type 0} → (Regs → List ℕ) → List (List ℕ) → Result (List (CachedReply Regs)) SessionError
    → Reading (List ℕ)
printed text verbs (Ok replies) = Ok (lines_of text verbs replies)
printed text verbs (Err error) = Err (refusal_text (of_session error))

-- a command with its field `do`
unfoldable pub read_next : {Regs : Type 0} → (Data → Reading Regs) → List (List ℕ × Written Regs) → Data
    → Reading (List ℕ × Written Regs)
read_next registers before fields =
    and_then (field_as as_str (codes "do") fields) (λ verb.
    and_then (read_command registers verb fields) (λ command. Ok (verb, command)))

-- the commands in memory are those that are written
unfoldable pub AreSaid : {Regs : Type 0} → List (List ℕ × Written Regs) → List (Command (Vec ℕ Global) Regs) → Type 0
AreSaid [] [] = ⊤
AreSaid [] (command ∷ commands) = ⊥
AreSaid (written ∷ others) [] = ⊥
AreSaid (written ∷ others) (command ∷ commands) = Says (Ok written.1) command × AreSaid others commands

-- the commands that are read, in memory, and their verbs
abbrev pub AreRead : {Regs : Type 0} → (Data → Reading Regs) → Items → List (List ℕ)
    → List (Command (Vec ℕ Global) Regs) → Type 0
AreRead {Regs} registers items verbs commands =
    (written : List (List ℕ × Written Regs)) × (each (read_next registers) [] items ≡ Ok written)
    × (map (λ (w : List ℕ × Written Regs). w.0) written ≡ verbs) × AreSaid written commands
