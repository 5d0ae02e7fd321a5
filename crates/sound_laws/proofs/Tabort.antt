-- Only TABORT aborts its own transaction. Its code is the address of its operand: above 255, since a test has
-- asked for that, and below 2 ^ 64, as every address.
use Rattle.std.proofs.Common.{◌≡◌, ℕ, ◌<◌, ◌≤◌, ◌^◌, Bool, true, false, List, None}
use Rattle.std.proofs.Common.{refl, sym, subst, not, arith, lit<, length}
use Rattle.std.specs.Prelude.{◌||◌, nat_eq, nat_lt}
use Rattle.std.proofs.lemmas.Bool.{true≢false, ltb-false}
use Rattle.z_regs.specs.Cpu.{Cpu}
use Rattle.z_regs.specs.declared.ranges.Range.{Range}
use Rattle.z_instr.specs.declared.instr.Instr.{Instr}
use Rattle.z_instr.specs.declared.operand.Operands.{Operands}
use Rattle.z_instr.specs.declared.operand.Demand.{Demand}
use Rattle.z_instr.specs.declared.operand.Demand.TheVariants as demand
use Rattle.z_instr.specs.Operands.{first_address, where_wrong, specification, special_operation}
use Rattle.z_instr.specs.Operands.{unspecified_in}
use Rattle.z_instr.specs.Table.{Entry, entry_at, kind_at}
use Rattle.z_instr.proofs.OneSpelling.{modulo_below}
use Rattle.z_instr.proofs.PlainImmediates.{implied}
use Rattle.z_effect.specs.One.{one, length_of}
use Rattle.z_effect.specs.Outcome.{Aborts}
use Rattle.z_effect.proofs.Aborting.{AbortsBy, aborts_itself, effect_by}
use Rattle.tx_progress.proofs.Rows.{any_row}
use Rattle.tx_progress.proofs.Standing.{tests_find_nothing}
use Rattle.tx_serial.specs.Attempt.{Run}
use Rattle.tx_serial.specs.Fate.{Goes, fate}
use Rattle.tx_serial.specs.Run.{outcome_of}
use Rattle.tx_serial.proofs.Passing.{passes}
use Rattle.tx_serial.proofs.FreeOperands.{not_excepted}

-- ---- its operand is tested

-- a code above 255 is asked for
abbrev demands_code : Demand → Bool
demands_code demand.AbortCode = true
demands_code _ = false

-- an instruction that aborts is one whose code is tested
abbrev tests_code : Entry → Bool
tests_code e = not (aborts_itself e.kind) || demands_code e.demand

-- that is so of each row of the table
code_rows : (n : ℕ) → tests_code (entry_at n) ≡ true
code_rows = any_row tests_code refl refl

-- what an instruction does aborts only where a code is asked for
one_by : (i : Instr) (c : Cpu) (depth : ℕ) (bytes : List ℕ)
    → AbortsBy (demands_code (entry_at i.op.number).demand) (first_address i c.general) (one i c depth bytes)
unfolding kind_at
one_by i c depth bytes =
    effect_by (demands_code (entry_at i.op.number).demand) (kind_at i.op.number) (length_of i) i c depth bytes
    (implied (aborts_itself (entry_at i.op.number).kind) _ (code_rows i.op.number))

-- neither of two tests has found anything wrong
neither_wrong : (a b : Bool) → where_wrong a special_operation (where_wrong b specification None) ≡ None
    → b ≡ false
neither_wrong true b h = absurd cc
neither_wrong false true h = absurd cc
neither_wrong false false h = refl

-- where that test finds nothing, the address is above 255
high_code : (d : Demand) (o : Operands) (i : Instr) (general : List ℕ) (depth : ℕ) → demands_code d ≡ true
    → unspecified_in d o i general depth ≡ None → 256 ≤ first_address i general
unfolding unspecified_in
high_code demand.AbortCode o i general depth is h =
    ltb-false (first_address i general) 256
    (neither_wrong (nat_eq depth 0) (nat_lt (first_address i general) 256) h)
high_code demand.Nothing o i general depth is h = absurd (true≢false (sym is))
high_code demand.EvenPair o i general depth is h = absurd (true≢false (sym is))
high_code demand.Boundary o i general depth is h = absurd (true≢false (sym is))
high_code demand.Begin o i general depth is h = absurd (true≢false (sym is))
high_code demand.BeginConstrained o i general depth is h = absurd (true≢false (sym is))
high_code demand.ServiceZero o i general depth is h = absurd (true≢false (sym is))

-- ---- the code of an instruction that goes

-- an instruction that goes and aborts has a code above 255, below 2 ^ 64
pub tabort_code : (text : List ℕ) (p : Run) (i : Instr) (ranges : List Range) (code : ℕ)
    → fate text p ≡ Goes i ranges → outcome_of i ranges p ≡ Aborts code → (255 < code) × (code < 2 ^ 64)
tabort_code text p i ranges code goes is =
    let e = entry_at i.op.number in
    let general = p.cpu.general in
    let pass = passes text p i ranges goes in
    let nothing = tests_find_nothing text p i pass.passed in
    let by : (demands_code e.demand ≡ true) × (code ≡ first_address i general) =
    subst (AbortsBy (demands_code e.demand) (first_address i general)) is
    (one_by i p.cpu (length p.nest) _) in
    let high = high_code e.demand e.operands i general (length p.nest) by.0
    (not_excepted i _ nothing.specified) in
    let low : first_address i general < 2 ^ 64 = modulo_below 64 _ (lit< tt) in
    let same = by.1 in
    (omega (arith, high, same), subst (λ c. c < 2 ^ 64) (sym same) low)
