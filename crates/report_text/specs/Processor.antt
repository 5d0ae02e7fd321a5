-- The lines of a CPU.
use Rattle.std.specs.Prelude.{ℕ, List, ◌++◌, take, drop, Option, Some, None, codes}
use Rattle.std.specs.List.{enumerate_from, flat_map}
use Rattle.std.specs.Fmt.{decimal}
use Rattle.z_regs.specs.Cpu.{Cpu}
use Rattle.z_regs.specs.declared.image.RunState.{RunState}
use Rattle.z_regs.specs.declared.image.RunState.TheVariants.{Running, Halted, Interrupted}
use Rattle.report_text.specs.declared.processors.Attempt.{Attempt}
use Rattle.report_text.specs.declared.processors.Counts.{Counts}
use Rattle.report_text.specs.Digits.{labelled, digit_text, halfword_text, word_text, doubleword_text}
use Rattle.report_text.specs.Shown.{ShownCpu}

unfoldable pub interrupted_text : ℕ → List ℕ
interrupted_text code = codes "INTERRUPTED " ++ halfword_text code

-- a CPU stays interrupted while its interruption waits to be taken
unfoldable pub state_text : RunState → List ℕ
state_text Running = codes "RUNNING"
state_text Halted = codes "HALTED"
state_text (Interrupted code) = interrupted_text code

unfoldable pub state_line : ℕ → RunState → List ℕ
state_line number state = codes "CPU " ++ (decimal number ++ (codes " " ++ (state_text state ++ codes "\n")))

unfoldable pub psw_line : Cpu → List ℕ
psw_line c =
    codes "PSW " ++ (doubleword_text c.address ++ (codes " CC " ++ (decimal c.condition
    ++ (codes " MASK " ++ (digit_text c.mask ++ codes "\n")))))

-- registers, each behind a blank
abbrev pub general_text : List ℕ → List ℕ
general_text values = flat_map (λ value. codes " " ++ doubleword_text value) values

abbrev pub access_text : List ℕ → List ℕ
access_text values = flat_map (λ value. codes " " ++ word_text value) values

-- registers behind their label
unfoldable pub general_line : List ℕ → List ℕ → List ℕ
general_line label values = label ++ (general_text values ++ codes "\n")

unfoldable pub access_line : List ℕ → List ℕ → List ℕ
access_line label values = label ++ (access_text values ++ codes "\n")

-- four general registers to a line, and eight access registers
unfoldable pub general_lines : List ℕ → List ℕ
general_lines general =
    general_line (codes "GR 00") (take 4 general) ++ (general_line (codes "GR 04") (take 4 (drop 4 general))
    ++ (general_line (codes "GR 08") (take 4 (drop 8 general))
    ++ general_line (codes "GR 12") (take 4 (drop 12 general))))

unfoldable pub access_lines : List ℕ → List ℕ
access_lines access =
    access_line (codes "AR 00") (take 8 access) ++ access_line (codes "AR 08") (take 8 (drop 8 access))

unfoldable pub live_line : Attempt → List ℕ
live_line a =
    labelled (codes "TX DEPTH ") a.depth ++ (labelled (codes " COMPLETED ") a.completed ++ codes "\n")

unfoldable pub attempt_line : Option Attempt → List ℕ
attempt_line None = codes "TX NONE\n"
attempt_line (Some attempt) = live_line attempt

unfoldable pub pending_line : Option ℕ → List ℕ
pending_line None = codes "PENDING NONE\n"
pending_line (Some address) = codes "PENDING " ++ (doubleword_text address ++ codes "\n")

unfoldable pub counts_line : Counts → List ℕ
counts_line c =
    labelled (codes "COUNTS TURNS ") c.turns ++ (labelled (codes " ASKED ") c.asked
    ++ (labelled (codes " REJECTED ") c.rejected ++ (labelled (codes " COMMITS ") c.commits
    ++ (labelled (codes " ABORTS ") c.aborts ++ codes "\n"))))

-- the registers and the state
unfoldable pub image_lines : ℕ → Cpu → List ℕ
image_lines number c =
    state_line number c.state ++ (psw_line c ++ (general_lines c.general ++ access_lines c.access))

-- what is under way
unfoldable pub progress_lines : Option Attempt → Option ℕ → List ℕ
progress_lines attempt pending = attempt_line attempt ++ pending_line pending

-- all lines of the CPU with this number
unfoldable pub cpu_lines : ℕ → ShownCpu → List ℕ
cpu_lines number c =
    image_lines number c.cpu ++ (progress_lines c.attempt c.pending ++ counts_line c.counts)

-- the CPUs in the order of their numbers, from 0 on
abbrev pub cpus_text : List ShownCpu → List ℕ
cpus_text cpus = flat_map (λ numbered. cpu_lines numbered.0 numbered.1) (enumerate_from 0 cpus)
