-- What a handle owns: the object in memory of its own, as a `Box` of it does.
use base.Fml.{Fml}
use base.Stored.{Coded}
use denote.RawPtr.{Ptr}
use Rattle.std.specs.Box.Ownership.{box_owns}
use Rattle.std.specs.Global.{Global}
use Rattle.std_heap.specs.contracts.GlobalAllocator.TheImpl.{ghosts}
use Rattle.framehop_c.specs.contracts.object.Object.{the_row}

-- the memory at a pointer is the object's own
abbrev pub owns_object : Global → Ptr → the_row.Denot → Fml
owns_object alloc = box_owns (ghosts.dealloc_token alloc) the_row

-- how a ghost object is stored
abbrev pub object_coded : Coded the_row.Denot
object_coded = the_row.coded
