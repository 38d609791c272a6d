-- The names of threads that a minidump has.
use Rattle.std.specs.Prelude.{◌≡◌, ℕ, List, Option, Some, None, option_map, fold, ◌==◌, if◌then◌else◌}
use Rattle.std.specs.BTreeMap.{BTreeMap, get}
use Rattle.std.specs.Ordering.{nat_cmp}
use denote.Ref.{Bor}
use Rattle.framehop_dumps.specs.declared.thread_names.NamedThread.{NamedThread}

-- a thread and its name, by its values
pub record NamedView : Type 0 where
  pub tid : ℕ
  pub name : List ℕ

abbrev pub named_view : NamedThread → NamedView
named_view named = record { tid = named.tid; name = named.name.items }

-- the name of a thread: the last that is listed for its number
abbrev pub name_among : List NamedView → ℕ → Option (List ℕ)
name_among names tid = fold (λ found named. if named.tid == tid then Some named.name else found) None names

-- what is kept for a thread
abbrev pub name_kept : BTreeMap ℕ (Bor (List ℕ)) → ℕ → Option (List ℕ)
name_kept by_tid tid = option_map (λ name. name.now) (get nat_cmp by_tid tid)

-- for each thread its name
abbrev pub HasNames : List NamedView → BTreeMap ℕ (Bor (List ℕ)) → Type 0
HasNames names by_tid = (tid : ℕ) → name_kept by_tid tid ≡ name_among names tid
