-- The listing of a number: some CPUs, each of which counts up one of four counters so many times in transactions.
use Rattle.std.specs.Prelude.{ℕ, zero, suc, ◌+◌, ◌*◌, ◌/◌, ◌%◌, ◌^◌, ◌==◌, if◌then◌else◌, List, [], ◌++◌, codes}
use Rattle.std.specs.Fmt.{decimal}
use Rattle.tx_gen.specs.Draws.{draw, state_after}

-- ---- what is drawn

-- two to eight
abbrev pub cpus : ℕ → ℕ
cpus number = 2 + draw number 0 % 7

-- how far counters are apart, in bytes: some share a line, or each has its own
abbrev pub stride : ℕ → ℕ
stride number = if draw number 1 % 2 == 0 then 8 else 256

-- the address of a counter, 0 to 3
abbrev pub counter_at : ℕ → ℕ → ℕ
counter_at number t = 65536 + t * stride number

-- how many times a CPU counts
abbrev pub rounds : ℕ → ℕ → ℕ
rounds number cpu = 20 + draw number (2 * cpu + 2) % 81

-- the address of the counter that it counts up
abbrev pub counter : ℕ → ℕ → ℕ
counter number cpu = counter_at number (draw number (2 * cpu + 3) % 4)

-- ---- lines

-- a line of these words
abbrev pub line : List ℕ → List ℕ
line words = words ++ codes "\n"

abbrev pub cpu_line : ℕ → List ℕ
cpu_line cpu = line (codes " CPU P" ++ decimal cpu)

-- the number of rounds, and the begin of a transaction
abbrev pub begin_text : ℕ → ℕ → List ℕ
begin_text cpu rounds =
    line (codes "P" ++ (decimal cpu ++ (codes " LGHI 2," ++ decimal rounds)))
    ++ line (codes "L" ++ (decimal cpu ++ codes " TBEGINC 0,65280"))

-- 1 is added to the doubleword at an address, and the transaction ends
abbrev pub count_text : ℕ → List ℕ
count_text counter =
    line (codes " LG 1," ++ decimal counter)
    ++ (line (codes " AGHI 1,1") ++ (line (codes " STG 1," ++ decimal counter) ++ line (codes " TEND")))

-- the branch to the next round, and the halt
abbrev pub end_text : ℕ → List ℕ
end_text cpu = line (codes " BRCTG 2,L" ++ decimal cpu) ++ line (codes " SVC 0")

-- the program of a CPU: so many transactions that each count up the counter at an address
unfoldable pub program_text : ℕ → ℕ → ℕ → List ℕ
program_text cpu rounds counter = begin_text cpu rounds ++ (count_text counter ++ end_text cpu)

-- the program of a CPU for which two numbers are drawn from a state
abbrev pub drawn_program : ℕ → ℕ → ℕ → List ℕ
drawn_program cpu before stride =
    let after = state_after before in
    program_text cpu (20 + after / 2 ^ 33 % 81) (65536 + state_after after / 2 ^ 33 % 4 * stride)

-- the counters are shown, from the first byte of the first to the last byte of the fourth
abbrev pub show_line : ℕ → List ℕ
show_line stride = line (codes " SHOW 65536," ++ decimal (3 * stride + 8))

-- ---- the whole

-- what stands for the first so many numbers, from 0 on
abbrev pub for_first : ℕ → (ℕ → List ℕ) → List ℕ
for_first zero text = []
for_first (suc n) text = for_first n text ++ text n

abbrev pub cpu_lines : ℕ → List ℕ
cpu_lines number = for_first (cpus number) cpu_line

abbrev pub program_of : ℕ → ℕ → List ℕ
program_of number cpu = program_text cpu (rounds number cpu) (counter number cpu)

abbrev pub programs : ℕ → List ℕ
programs number = for_first (cpus number) (program_of number)

unfoldable pub listing_of : ℕ → List ℕ
listing_of number = cpu_lines number ++ (programs
    number ++ (show_line (stride number) ++ line (codes " END")))
