-- The bytes so far are fetched.
use Rattle.std.proofs.Common.{◌≡◌, None, map}
use Rattle.std.specs.FinSet.{items}
use Rattle.z_instr.specs.Operands.{from_up}
use Rattle.z_instr.specs.Access.{accessible_pages, text_pages, byte_unfetched, first_some}
use Rattle.z_touch.proofs.fetch.bytes_refused.Given as goal

abbrev pub invariant-loop-k : goal.invariant-loop-k
invariant-loop-k l =
    first_some (map
    (byte_unfetched (accessible_pages l.image.prefix) (text_pages l.image.prefix (items l.guard)))
    (from_up l.image.address l.k)) ≡ None
