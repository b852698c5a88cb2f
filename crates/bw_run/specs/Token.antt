-- The right to free a block, as the heap of the program gives it.

use mir.Syntax.{Ty}
use base.Fml.{Fml}
use denote.RawPtr.{Ptr}
use Rattle.std_heap.specs.declared.Global.{Global}
use Rattle.std_heap.specs.contracts.GlobalAllocator.TheImpl.{ghosts}

abbrev heap : Global
heap = record { memory = record { seal = tt } }

abbrev pub chunk : Ty → Ptr → Fml
chunk τ p = ghosts.dealloc_token heap τ p
