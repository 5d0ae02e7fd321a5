-- Private runs: a CPU alone, from its outermost begin on.
use Rattle.std.specs.Prelude.{ℕ, zero, suc, ◌-◌, Bool, true, false, if◌then◌else◌, length, take, List, []}
use Rattle.std.specs.Prelude.{◌∷◌, ◌++◌}
use Rattle.z_regs.specs.Cpu.{Cpu}
use Rattle.z_regs.specs.Absolute.{absolute_ranges}
use Rattle.z_regs.specs.declared.ranges.Range.{Range}
use Rattle.z_instr.specs.declared.instr.Instr.{Instr}
use Rattle.z_instr.specs.Table.{entry_at}
use Rattle.z_instr.specs.Roles.{stores_lastingly, is_end, begins}
use Rattle.z_effect.specs.One.{one}
use Rattle.z_effect.specs.Outcome.{Outcome, Did, Divides, Aborts}
use Rattle.z_effect.specs.Outcome as outcome
use Rattle.z_effect.specs.Beginning.{begin_of}
use Rattle.tx_control.specs.declared.begins.Begin.{Begin}
use Rattle.store_cache.specs.Overlay.{Store}
use Rattle.tx_serial.specs.Flat.{FlatState, operand_bytes, operand_stores, laid_over}
use Rattle.tx_serial.specs.Attempt.{Run, Mark, Open, Committed, Overflowed, Missing, at_rest, missing}
use Rattle.tx_serial.specs.Fate.{Fate, Goes, Ends, Stops, fate, step_of}

-- ---- what an instruction is to a transaction

abbrev pub lasting_of : Instr → List Store → List Store
lasting_of i stores = if stores_lastingly (entry_at i.op.number) then stores else []

-- the open begins after it: one more, or the last one closed
abbrev pub nest_after : Instr → List ℕ → List Begin → List Begin
nest_after i general nest =
    if begins (entry_at i.op.number) then nest ++ begin_of i general ∷ []
    else if is_end (entry_at i.op.number) then take (length nest - 1) nest
    else nest

-- the transaction is committed where its end leaves no begin open
abbrev pub mark_in : List Begin → Mark
mark_in [] = Committed
mark_in (outermost ∷ inner) = Open

-- only a begin may be the first
abbrev pub may_follow : List Begin → Instr → Bool
may_follow [] i = begins (entry_at i.op.number)
may_follow (outermost ∷ inner) i = true

-- ---- one instruction more

-- what it does, by the bytes of its operands
abbrev pub outcome_of : Instr → List Range → Run → Outcome
outcome_of i ranges p = one i p.cpu (length p.nest) (operand_bytes p.cpu.prefix p.copy ranges)

-- the run with an instruction that has left this CPU and made these stores
abbrev pub with_instruction : Instr → List Range → Cpu → List Store → Run → Run
with_instruction i ranges c stores p = record {
  cpu = c;
  copy = laid_over p.copy stores;
  stores = p.stores ++ stores;
  lasting = p.lasting ++ lasting_of i stores;
  nest = nest_after i p.cpu.general p.nest;
  touched = p.touched ++ absolute_ranges p.cpu.prefix ranges;
  steps = p.steps ++ step_of i ranges p.cpu ∷ [];
  mark = mark_in (nest_after i p.cpu.general p.nest);
}

abbrev pub overflowed : Run → Run
overflowed p = record p { mark = Overflowed }

abbrev pub after : Instr → List Range → Run → Outcome → Run
after i ranges p (Did c bytes) = with_instruction i ranges c (operand_stores p.cpu.prefix ranges bytes) p
after i ranges p (outcome.Overflowed c bytes) =
    overflowed (with_instruction i ranges c (operand_stores p.cpu.prefix ranges bytes) p)
after i ranges p Divides = missing p
after i ranges p (Aborts code) = missing p

abbrev pub after_where : Bool → Instr → List Range → Run → Run
after_where true i ranges p = after i ranges p (outcome_of i ranges p)
after_where false i ranges p = missing p

abbrev pub after_fate : Fate → Run → Run
after_fate (Goes i ranges) p = after_where (may_follow p.nest i) i ranges p
after_fate (Ends why) p = missing p
after_fate (Stops e) p = missing p

-- only an open run goes on
abbrev pub more_of : Mark → List ℕ → Run → Run
more_of Open text p = after_fate (fate text p) p
more_of Committed text p = missing p
more_of Overflowed text p = missing p
more_of Missing text p = missing p

-- one instruction more, by the text pages of storage
unfoldable pub more : List ℕ → Run → Run
more text p = more_of p.mark text p

-- ---- the run

-- so many instructions of a CPU alone, on a copy of storage
unfoldable pub run : FlatState → ℕ → ℕ → Run
run f i zero = at_rest f.storage (f.cpus i)
run f i (suc k) = more f.text (run f i k)
