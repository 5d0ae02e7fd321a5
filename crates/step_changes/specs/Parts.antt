-- The parts of what is shown of a CPU, and changes of them.
use Rattle.std.specs.Prelude.{◌≡◌, ℕ, zero, suc, ◌<◌, List, [], ◌∷◌, ◌++◌, length, slice_set}
use Rattle.step_changes.specs.Changes.{Leads}
use Rattle.step_changes.specs.Seen.{CpuSeen}
use Rattle.step_changes.specs.declared.changes.Change.{Change}
use Rattle.step_changes.specs.declared.parts.Part.{Part}
use Rattle.step_changes.specs.declared.parts.Part.TheVariants as part

abbrev pub with_general : CpuSeen → List ℕ → CpuSeen
with_general c registers = record c { cpu = record c.cpu { general = registers } }

abbrev pub with_access : CpuSeen → List ℕ → CpuSeen
with_access c registers = record c { cpu = record c.cpu { access = registers } }

-- all but the registers as another has it
abbrev pub with_rest : CpuSeen → CpuSeen → CpuSeen
with_rest c other = with_access (with_general other c.cpu.general) c.cpu.access

-- a CPU with one part of it as given, and all others as they are
abbrev pub with_part : CpuSeen → Part → CpuSeen
with_part c (part.General r value) = with_general c (slice_set c.cpu.general r.number value)
with_part c (part.Access r value) = with_access c (slice_set c.cpu.access r.number value)
with_part c (part.Address address) = record c { cpu = record c.cpu { address = address } }
with_part c (part.Control k) = record c {
  cpu = record c.cpu { condition = k.condition; mask = k.mask; state = k.state; prefix = k.prefix };
}
with_part c (part.Live live) = record c { live = live }
with_part c (part.Pending pending) = record c { pending = pending }

-- CPUs with a part of the one at a place as given
unfoldable pub put_part : List CpuSeen → ℕ → Part → List CpuSeen
put_part [] at p = []
put_part (c ∷ rest) zero p = with_part c p ∷ rest
put_part (c ∷ rest) (suc at) p = c ∷ put_part rest at p

-- changes that are added behind others lead from what is shown of the CPU at a place to something else, and back,
-- whatever the other CPUs are
pub record AddsAt (at : ℕ) (before after : List (Change Part)) (from to : CpuSeen) : Type 0 where
  pub more : List (Change Part)
  pub is : after ≡ before ++ more
  pub leads : (table : List CpuSeen) → at < length table
      → Leads put_part (slice_set table at from) more (slice_set table at to)
