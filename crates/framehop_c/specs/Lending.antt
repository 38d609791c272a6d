-- What a handle leads to once its object was lent.
use Rattle.std.specs.Borrow.{Lends, MutBor, Fml}
use Rattle.framehop_c.specs.declared.object.Object.{Object}
use Rattle.framehop_c.specs.declared.handle.Handle.{Handle}
use Rattle.framehop_c.specs.contracts.object.Object.{the_row as object_row}
use Rattle.framehop_c.specs.contracts.handle.Handle.{the_row}

-- the same handle to another object
abbrev pub with_object : Handle → Object → Handle
with_object handle object = record handle { object = object }

-- the handle behind one reference leads, at the end of its loan, to the last object behind the other
abbrev pub LendsObject : MutBor Handle → MutBor Object → Fml
LendsObject handle object = Lends the_row object_row handle object (with_object handle.now)
