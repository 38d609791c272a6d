-- The commands of the input, each from its fields in order.
use Rattle.std.specs.Prelude.{◌≡◌, ℕ, ◌^◌, ◌==◌, Bool, true, false, List, [], codes, Option, Some, None, Ok, Err, if◌then◌else◌}
use Rattle.std.specs.Str.{bytes_eq}
use Rattle.std.specs.Global.{Global}
use Rattle.std.specs.declared.vec.Vec.{Vec}
use Rattle.serde_json.specs.Data.{Data}
use Rattle.serde_json.specs.Find.{as_str, as_array}
use Rattle.framehop_core.specs.CodeAddress.{FrameLocation, location_of, at_instruction_pointer, at_return_address}
use Rattle.framehop_bytes.specs.SectionTable.{SectionTable}
use Rattle.framehop.specs.Modules.{ModuleView}
use Rattle.framehop.specs.ModuleData.{unwind_data_in}
use Rattle.framehop.specs.declared.session.Memory.{Memory}
use Rattle.framehop.specs.declared.session.Command.{Command}
use Rattle.framehop.specs.declared.session.Command.TheVariants.{New, Clone, Add, Remove, Step, Walk, Stats}
use Rattle.framehop_walk.specs.Refusals.{Reading, and_then, bad_field}
use Rattle.framehop_walk.specs.Fields.{field_as, field_below, address, whole_number, group, required, each}
use Rattle.framehop_walk.specs.Sections.{read_table}

-- stack words from a base on
pub record Stack : Type 0 where
  pub base : ℕ
  pub words : List ℕ

abbrev pub stack_view : Memory → Stack
stack_view memory = record { base = memory.base; words = memory.words.items }

-- a module: its name, its addresses, and the table of its sections
pub record LoadedModule : Type 0 where
  pub name : List ℕ
  pub start : ℕ
  pub end : ℕ
  pub base : ℕ
  pub table : SectionTable (List ℕ)

-- a command as it is written
pub data Written (Regs : Type 0) : Type 0 where
  make : Written Regs
  clone : ℕ → Written Regs
  add : ℕ → LoadedModule → Written Regs
  remove : ℕ → ℕ → Written Regs
  step : ℕ → ℕ → FrameLocation → Regs → Stack → Written Regs
  walk : ℕ → ℕ → ℕ → Regs → Stack → ℕ → Written Regs
  stats : ℕ → Written Regs

-- the number of an unwinder or a cache
abbrev pub unwinder_in : Data → Reading ℕ
unwinder_in fields = field_as whole_number (codes "unwinder") fields

abbrev pub cache_in : Data → Reading ℕ
cache_in fields = field_as whole_number (codes "cache") fields

-- the module of `add`
unfoldable pub read_module : Data → Reading LoadedModule
read_module fields =
    and_then (field_as as_str (codes "name") fields) (λ name.
    and_then (field_as address (codes "start") fields) (λ start.
    and_then (field_as address (codes "end") fields) (λ end.
    and_then (field_as address (codes "base") fields) (λ base.
    and_then (read_table fields) (λ table.
    Ok (record { name = name; start = start; end = end; base = base; table = table }))))))

-- `kind`: whether the address is a return address
abbrev pub is_return : List ℕ → Option Bool
is_return kind =
    if bytes_eq kind (codes "ip") then Some false else if bytes_eq kind (codes "ra") then Some true else None

-- a return address is not 0
abbrev pub location : Bool → ℕ → Option FrameLocation
location false at = Some (at_instruction_pointer at)
location true at = if at == 0 then None else Some (at_return_address at)

-- `kind` and `address`: an instruction pointer or a return address
unfoldable pub read_location : Data → Reading FrameLocation
read_location fields =
    and_then (field_as as_str (codes "kind") fields) (λ kind.
    and_then (required (codes "kind") (is_return kind)) (λ is_return.
    and_then (field_as address (codes "address") fields) (λ at. required (codes "address") (location is_return at))))

-- `memory`: `base` and `words`
abbrev pub read_word : List ℕ → Data → Reading ℕ
read_word before word = required (codes "words") (address word)

unfoldable pub read_memory : Data → Reading Stack
read_memory fields =
    and_then (field_as group (codes "memory") fields) (λ memory.
    and_then (field_as address (codes "base") memory) (λ base.
    and_then (field_as as_array (codes "words") memory) (λ items.
    and_then (each read_word [] items) (λ words. Ok (record { base = base; words = words })))))

module _ {Regs : Type 0} (registers : Data → Reading Regs) where
  -- the commands `step`, `walk`, `clone`, `add`, `remove` and `stats`
  unfoldable pub read_step : Data → Reading (Written Regs)
  read_step fields =
      and_then (unwinder_in fields) (λ unwinder.
      and_then (cache_in fields) (λ cache.
      and_then (read_location fields) (λ location.
      and_then (field_as group (codes "regs") fields) (λ regs.
      and_then (registers regs) (λ regs.
      and_then (read_memory fields) (λ memory. Ok (step unwinder cache location regs memory)))))))

  unfoldable pub read_walk : Data → Reading (Written Regs)
  read_walk fields =
      and_then (unwinder_in fields) (λ unwinder.
      and_then (cache_in fields) (λ cache.
      and_then (field_as address (codes "pc") fields) (λ pc.
      and_then (field_as group (codes "regs") fields) (λ regs.
      and_then (registers regs) (λ regs.
      and_then (read_memory fields) (λ memory.
      and_then (field_below (2 ^ 32) (codes "limit") fields) (λ limit.
      Ok (walk unwinder cache pc regs memory limit))))))))

  abbrev pub read_clone : Data → Reading (Written Regs)
  read_clone fields = and_then (unwinder_in fields) (λ unwinder. Ok (clone unwinder))

  unfoldable pub read_add : Data → Reading (Written Regs)
  read_add fields =
      and_then (unwinder_in fields) (λ unwinder. and_then (read_module fields) (λ loaded. Ok (add unwinder loaded)))

  abbrev pub read_remove : Data → Reading (Written Regs)
  read_remove fields =
      and_then (unwinder_in fields) (λ unwinder.
      and_then (field_as address (codes "start") fields) (λ start. Ok (remove unwinder start)))

  abbrev pub read_stats : Data → Reading (Written Regs)
  read_stats fields = and_then (cache_in fields) (λ cache. Ok (stats cache))

  -- a command by its field `do`
  unfoldable pub read_command : List ℕ → Data → Reading (Written Regs)
  read_command verb fields =
      if bytes_eq verb (codes "new") then Ok make
      else if bytes_eq verb (codes "clone") then read_clone fields
      else if bytes_eq verb (codes "add") then read_add fields
      else if bytes_eq verb (codes "remove") then read_remove fields
      else if bytes_eq verb (codes "step") then read_step fields
      else if bytes_eq verb (codes "walk") then read_walk fields
      else if bytes_eq verb (codes "stats") then read_stats fields
      else Err (bad_field (codes "do"))

-- a module in memory is what is read: its unwind data is that of the table's bytes
abbrev pub module_of : LoadedModule → ModuleView
module_of told = record {
  name = told.name;
  start = told.start;
  end = told.end;
  base_avma = told.base;
  unwind_data = unwind_data_in (λ bytes. bytes) told.table;
}

-- the module in memory is the one that is read
abbrev pub IsModule : Reading LoadedModule → ModuleView → Type 0
IsModule reading loaded = (told : LoadedModule) × (reading ≡ Ok told) × (loaded ≡ module_of told)

-- the command in memory is what is read
abbrev pub Says : {Regs : Type 0} → Reading (Written Regs) → Command (Vec ℕ Global) Regs → Type 0
Says reading New = reading ≡ Ok make
Says reading (Clone unwinder) = reading ≡ Ok (clone unwinder)
Says reading (Add unwinder loaded) =
    (told : LoadedModule) × (reading ≡ Ok (add unwinder told)) × (loaded ≡ module_of told)
Says reading (Remove unwinder start) = reading ≡ Ok (remove unwinder start)
Says reading (Step unwinder cache address regs memory) =
    reading ≡ Ok (step unwinder cache (location_of address) regs (stack_view memory))
Says reading (Walk unwinder cache pc regs memory limit) =
    reading ≡ Ok (walk unwinder cache pc regs (stack_view memory) limit)
Says reading (Stats cache) = reading ≡ Ok (stats cache)
