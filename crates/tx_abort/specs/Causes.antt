-- The table of the causes of aborts.
use Rattle.std.specs.Prelude.{ℕ, ◌+◌, ◌*◌, ◌%◌, Option, Some, None}
use Rattle.tx_control.specs.Causes.{code_number}
use Rattle.tx_control.specs.declared.exceptions.Exception.{Exception}
use Rattle.tx_control.specs.declared.causes.Why.{Why}
use Rattle.tx_control.specs.declared.causes.Why.TheVariants.{External, Program, FetchConflict, StoreConflict, FetchOverflow, StoreOverflow, Restricted, Filtered, Depth, Starved, Tabort}

-- The abort code, the condition code that the abort sets, and the detail that is told of it: for a conflict
-- the first
-- address of the line, for an exception its code and its length; of any other cause there is none.
pub record Cause : Type 0 where
  pub code : ℕ
  pub condition : ℕ
  pub conflict : Option ℕ
  pub exception : Option Exception

abbrev pub plain : ℕ → ℕ → Cause
plain code condition = record { code = code; condition = condition; conflict = None; exception = None }

-- a line is named by its number, and has 256 bytes
abbrev pub conflict : ℕ → ℕ → ℕ → Cause
conflict code condition line =
    record { code = code; condition = condition; conflict = Some (line * 256); exception = None }

abbrev pub exception : ℕ → ℕ → Exception → Cause
exception code condition e =
    record { code = code; condition = condition; conflict = None; exception = Some e }

-- condition code 2 where another attempt may well go through, 3 where it would probably end in the same way;
-- TABORT
-- has the last bit of its abort code choose
abbrev pub cause_of : Why → Cause
cause_of External = plain (code_number External) 2
cause_of (Program e) = exception (code_number (Program e)) 3 e
cause_of FetchOverflow = plain (code_number FetchOverflow) 3
cause_of StoreOverflow = plain (code_number StoreOverflow) 3
cause_of (FetchConflict line) = conflict (code_number (FetchConflict line)) 2 line
cause_of (StoreConflict line) = conflict (code_number (StoreConflict line)) 2 line
cause_of Restricted = plain (code_number Restricted) 3
cause_of (Filtered e) = exception (code_number (Filtered e)) 3 e
cause_of Depth = plain (code_number Depth) 3
cause_of Starved = plain (code_number Starved) 2
cause_of (Tabort code) = plain (code_number (Tabort code)) (2 + code % 2)
