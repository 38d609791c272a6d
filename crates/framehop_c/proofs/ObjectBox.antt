-- A handle and a raw box own what a `Box<Object>` does.
use mir.Syntax.{impl, tnil, dnil}
use mathlib.Core.List.{[]}
use denote.Signature.{Slot, plain}
use Rattle.std_alloc.proofs.BoxSteps.Form.{Bx}
use Rattle.std_heap.specs.contracts.Global as Heap
use Rattle.std_heap.specs.contracts.GlobalAllocator.TheImpl.{ghosts, dict}
use Rattle.std_heap.proofs.Global.TheLaws as heap_laws
use Rattle.framehop_c.specs.contracts.object.Object as Object
use Rattle.framehop_c.proofs.object.Object.TheLaws as object_laws
use Rattle.framehop_c.specs.contracts.handle.raw_box.RawBox as RawBox
use Rattle.framehop_c.specs.contracts.handle.Handle as Handle

-- a box of an object on the heap
abbrev pub object_box : Bx
object_box = record {
  row = Object.the_row;
  laws = object_laws.the_row_laws;
  al = record {
    row = Heap.the_row;
    laws = heap_laws.the_row_laws;
    g = ghosts;
    d = dict;
    drops = impl [] tnil dnil;
  };
}

-- the parameters of the functions that take one of the two
abbrev pub raw_box : Slot 0
raw_box = plain (λ _. RawBox.the_row Object.the_row Heap.the_row ghosts)

abbrev pub handle : Slot 0
handle = plain (λ _. Handle.the_row)
