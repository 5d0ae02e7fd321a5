-- The abort codes of the causes of aborts.
use Rattle.std.specs.Prelude.{ℕ}
use Rattle.tx_control.specs.AbortCodes as abort
use Rattle.tx_control.specs.declared.causes.Why.{Why}
use Rattle.tx_control.specs.declared.causes.Why.TheVariants as why

abbrev pub code_number : Why → ℕ
code_number why.External = abort.external_interruption
code_number (why.Program e) = abort.program_interruption
code_number why.FetchOverflow = abort.fetch_overflow
code_number why.StoreOverflow = abort.store_overflow
code_number (why.FetchConflict line) = abort.fetch_conflict
code_number (why.StoreConflict line) = abort.store_conflict
code_number why.Restricted = abort.restricted_instruction
code_number (why.Filtered e) = abort.filtered_exception
code_number why.Depth = abort.nesting_depth
code_number why.Starved = abort.starved
code_number (why.Tabort code) = code
