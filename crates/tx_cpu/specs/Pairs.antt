-- Instructions on two blocks of bytes in storage, and when a CPU without a prefix may touch these.
use Rattle.std.specs.Prelude.{◌≡◌, ℕ, ◌+◌, ◌-◌, ◌/◌, ◌<◌, ◌≤◌, Bool, true, false, nat_eq, List, [], ◌∷◌}
use Rattle.std.specs.List.{list_any}
use Rattle.z_regs.specs.Prefix.{storage_size}
use Rattle.z_regs.specs.declared.ranges.Range.{Range}
use Rattle.z_instr.specs.Operands.{first_address, second_address, length_of}
use Rattle.z_instr.specs.Table.{Entry, entry_at}
use Rattle.z_instr.specs.declared.instr.Instr.{Instr}
use Rattle.z_instr.specs.declared.operand.Operands.{Operands}
use Rattle.z_instr.specs.declared.operand.Operands.TheVariants.{StoredAndFetched, BothFetched}
use Rattle.z_instr.specs.declared.operand.Demand.TheVariants as demand

-- the first block is stored, or both are fetched
abbrev pub pair_operands : Bool → Operands
pair_operands true = StoredAndFetched
pair_operands false = BothFetched

-- an operation on two blocks that demands nothing
pub record IsPaired (store : Bool) (e : Entry) : Type 0 where
  pub operands : e.operands ≡ pair_operands store
  pub demand : e.demand ≡ demand.Nothing

-- where the blocks of an instruction are, by the general registers, and how many bytes each has
pub record IsPairOf (i : Instr) (general : List ℕ) (store : Bool) (first second size : ℕ) : Type 0 where
  pub row : IsPaired store (entry_at i.op.number)
  pub first_is : first ≡ first_address i general
  pub second_is : second ≡ second_address i general
  pub size_is : size ≡ length_of i
  pub some : 0 < size
  pub most : size ≤ 256

abbrev pub pair_ranges : Bool → ℕ → ℕ → ℕ → List Range
pair_ranges store first second size =
    record { first = first; length = size; store = store } ∷
    record { first = second; length = size; store = false } ∷ []

-- storage has 256 bytes from each address on, behind the first area, and no byte is stored into a text page
pub record IsOpenPair (store : Bool) (first second size : ℕ) (text : List ℕ) : Type 0 where
  pub first_low : 8192 ≤ first
  pub first_ends : first + 256 ≤ storage_size
  pub second_low : 8192 ≤ second
  pub second_ends : second + 256 ≤ storage_size
  pub free_first : store ≡ true → list_any (nat_eq (first / 4096)) text ≡ false
  pub free_last : store ≡ true → list_any (nat_eq ((first + size - 1) / 4096)) text ≡ false
