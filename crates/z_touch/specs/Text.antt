-- Operands that reach into text.
use Rattle.std.specs.Prelude.{◌≡◌, ℕ, ◌+◌, ◌/◌, ◌<◌, nat_eq, true, List, Option}
use Rattle.std.specs.List.{list_any}
use Rattle.z_regs.specs.Prefix.{absolute_of, storage_size}
use Rattle.z_instr.specs.Operands.{Span}

-- the byte at a real address lies in a text page of storage
abbrev pub IsText : Option ℕ → List ℕ → ℕ → Type 0
IsText prefix text a = (a < storage_size) × (list_any (nat_eq (absolute_of prefix a / 4096)) text ≡ true)

-- the operand is stored, and one of its bytes is text
abbrev pub HasStoredText : Option ℕ → List ℕ → Span → Type 0
HasStoredText prefix text s = (s.store ≡ true) × ((k : ℕ) × (k < s.length) × IsText prefix text (s.first + k))
