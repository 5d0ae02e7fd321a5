-- Where commands lead in a run, and what they show of it.
use Rattle.std.specs.Prelude.{ℕ, min, List, [], ◌∷◌, ◌++◌, length, codes}
use Rattle.report_text.specs.Digits.{labelled, number_line}
use Rattle.report_text.specs.Processor.{image_lines, progress_lines}
use Rattle.report_text.specs.Storage.{bytes_text}
use Rattle.step_words.specs.declared.command.StepCommand.{StepCommand}
use Rattle.step_words.specs.declared.command.StepCommand.TheVariants.{Forward, Back, Go, Cpu, Bytes, History}
use Rattle.tx_meaning.specs.State.{flat_of}
use Rattle.tx_report.specs.Shown.{cpu_shown}
use Rattle.tx_serial.specs.Flat.{bytes_of}
use Rattle.tx_step.specs.Traces.{Traced, setting_in, state_at, moved_to, forward_from, back_from}

-- where the run stands, and how many events are recorded
unfoldable pub position_line : Traced → List ℕ
position_line t = labelled (codes "AT ") t.position ++ number_line (codes " OF ") (length t.events)

-- a CPU as its program sees it, what it has under way, and the block that it has still to store
unfoldable pub cpu_lines : Traced → ℕ → List ℕ
cpu_lines t i =
    let c = cpu_shown (setting_in t) (state_at t) i in
    image_lines i c.cpu ++ progress_lines c.attempt c.pending

-- storage, as the events behind the run leave it
abbrev pub shared_bytes : Traced → List ℕ
shared_bytes t = bytes_of (flat_of (setting_in t) (state_at t)).storage

unfoldable pub history_line : Traced → List ℕ
history_line t = number_line (codes "HISTORY ") (length (state_at t).history)

-- where a command leads: so many events forward or back, or to a position, never past the ends
abbrev pub target_of : StepCommand → Traced → Traced
target_of (Forward n) t = forward_from n t
target_of (Back n) t = back_from n t
target_of (Go n) t = moved_to (min n (length t.events)) t
target_of (Cpu cpu) t = t
target_of (Bytes first count) t = t
target_of History t = t

-- what it shows of a run that stands where it leads
abbrev pub reply_at : StepCommand → Traced → List ℕ
reply_at (Forward n) t = position_line t
reply_at (Back n) t = position_line t
reply_at (Go n) t = position_line t
reply_at (Cpu cpu) t = cpu_lines t cpu
reply_at (Bytes first count) t = bytes_text (shared_bytes t) first count
reply_at History t = history_line t

-- commands one after the other
unfoldable pub replies_from : Traced → List StepCommand → List ℕ
replies_from t [] = []
replies_from t (command ∷ others) =
    reply_at command (target_of command t) ++ replies_from (target_of command t) others
