-- The lines of a report one by one, of any state: that each is one line, and that together they are its text.
use Rattle.std.proofs.Common.{◌≡◌, ◌∙◌, ap, ap₂, sym, refl, ℕ, zero, suc, ◌+◌, ◌-◌, ◌*◌, ◌/◌}
use Rattle.std.proofs.Common.{arith, Bool, true, false, List, [], ◌∷◌, ◌++◌, append_assoc, append-nil, length}
use Rattle.std.proofs.Common.{take, drop}
use Rattle.std.proofs.Common.{map, slice_index, Option, Some, None}
use Rattle.std.specs.Prelude.{codes, min, if◌then◌else◌, nat_lt}
use Rattle.std.specs.List.{flat_map, list_all, enumerate_from}
use Rattle.std.specs.Fmt.{decimal}
use Rattle.std.specs.Int.{to_be_bytes}
use mir.Syntax.{w16, w32, w64}
use Rattle.std.proofs.lemmas.List.Concat.{flat_map-append}
use Rattle.std.proofs.lemmas.List.Folds.{flat_map-map}
use Rattle.hex.specs.Hex.{encode_lower}
use Rattle.z_regs.specs.Cpu.{Cpu}
use Rattle.z_regs.specs.declared.image.RunState.{RunState}
use Rattle.z_regs.specs.declared.image.RunState.TheVariants.{Running, Halted, Interrupted}
use Rattle.tx_control.specs.Causes.{code_number}
use Rattle.tx_control.specs.declared.causes.Why.{Why}
use Rattle.tx_control.specs.declared.causes.Why.TheVariants as why
use Rattle.tx_journal.specs.Numbers.{Lacks}
use Rattle.tx_journal.specs.Lines.{entry_text, history_text, words_text, detail_text, detail_of, line_of}
use Rattle.tx_journal.specs.Schedule.{event_text, further_text, events_text, row_text, rows_text}
use Rattle.tx_journal.specs.Schedule.{schedule_text}
use Rattle.tx_journal.specs.declared.entries.Entry.{Entry}
use Rattle.tx_journal.specs.declared.entries.Entry.TheVariants.{Step, Commit, Abort, Tdb, Interrupt}
use Rattle.tx_journal.specs.declared.events.Event.{Event}
use Rattle.tx_journal.specs.declared.events.Event.TheVariants.{Turn, External}
use Rattle.tx_journal.specs.declared.image.Show.{Show}
use Rattle.report_text.specs.Digits.{labelled, number_line, halfword_text, word_text, doubleword_text}
use Rattle.report_text.specs.Digits.{digit_text}
use Rattle.report_text.specs.Processor.{state_line, state_text, interrupted_text, psw_line, general_line}
use Rattle.report_text.specs.Processor.{access_line}
use Rattle.report_text.specs.Processor.{general_lines, access_lines, attempt_line, live_line, pending_line}
use Rattle.report_text.specs.Processor.{counts_line}
use Rattle.report_text.specs.Processor.{image_lines, progress_lines, cpu_lines, cpus_text}
use Rattle.report_text.specs.Storage.{bytes_at, bytes_line, bytes_lines, bytes_text, number_at, block_head}
use Rattle.report_text.specs.Storage.{block_tail}
use Rattle.report_text.specs.Storage.{block_line, show_text, shows_text}
use Rattle.report_text.specs.Report.{report_text, state_part, run_part, head_lines, history_lines}
use Rattle.report_text.specs.Report.{schedule_lines, status_of}
use Rattle.report_text.specs.Shown.{Shown, ShownCpu}
use Rattle.report_text.specs.declared.processors.Attempt.{Attempt}
use Rattle.report_text.specs.declared.processors.Counts.{Counts}
use Rattle.tx_check.specs.Lines.{lines_of}
use Rattle.form_laws.proofs.Cutting.{IsLine, AreLines, no_lines, line_before, lines_behind, line_end}
use Rattle.form_laws.proofs.Cutting.{line_with}
use Rattle.form_laws.proofs.Cutting.{plain_lack, digit_lacks, decimal_lacks, hex_lacks}
use Rattle.form_laws.proofs.Cutting.{lines_joined}
use Rattle.tx_journal.proofs.OneSchedule.{lacks_both, lacks_front}

-- the text of lines
abbrev pub joined : List (List ℕ) → List ℕ
joined lines = flat_map (λ (line : List ℕ). line) lines

-- ---- lines with numbers

-- the lines with the first so many numbers
unfoldable pub lines_to : (ℕ → List ℕ) → ℕ → List (List ℕ)
lines_to piece zero = []
lines_to piece (suc k) = lines_to piece k ++ piece k ∷ []

each_line : (piece : ℕ → List ℕ) → ((k : ℕ) → IsLine (piece k)) → (n : ℕ) → AreLines (lines_to piece n)
unfolding lines_to
each_line piece each zero = no_lines
each_line piece each (suc n) =
    lines_behind (lines_to piece n) (piece n ∷ []) (each_line piece each n)
    (line_before (piece n) [] (each n) no_lines)

-- ---- a CPU

-- a number behind its label
numbered : (label line : List ℕ) (n : ℕ) → list_all (λ b. nat_lt 31 b) label ≡ true → IsLine line
    → IsLine (labelled label n ++ line)
unfolding labelled
numbered label line n plain more =
    line_with (label ++ decimal n) line
    (lacks_both 10 label (decimal n) (plain_lack label plain) (decimal_lacks 10 n (omega arith))) more

-- a label in front
named : (label line : List ℕ) → list_all (λ b. nat_lt 31 b) label ≡ true → IsLine line
    → IsLine (label ++ line)
named label line plain more = line_with label line (plain_lack label plain) more

state_lacks : (s : RunState) → Lacks 10 (state_text s)
unfolding state_text interrupted_text
state_lacks Running = plain_lack (codes "RUNNING") refl
state_lacks Halted = plain_lack (codes "HALTED") refl
state_lacks (Interrupted code) =
    lacks_both 10 (codes "INTERRUPTED ") (halfword_text code) (plain_lack (codes "INTERRUPTED ") refl)
    (hex_lacks (to_be_bytes w16 code))

state_is : (i : ℕ) (s : RunState) → IsLine (state_line i s)
unfolding state_line
state_is i s =
    named (codes "CPU ") _ refl (line_with (decimal i) _ (decimal_lacks 10 i (omega arith))
    (named (codes " ") _ refl (line_with (state_text s) _ (state_lacks s) line_end)))

psw_is : (c : Cpu) → IsLine (psw_line c)
unfolding psw_line
psw_is c =
    named (codes "PSW ") _ refl (line_with (doubleword_text c.address) _ (hex_lacks
    (to_be_bytes w64 c.address))
    (named (codes " CC ") _ refl (line_with (decimal c.condition) _ (decimal_lacks 10 c.condition
    (omega arith))
    (named (codes " MASK ") _ refl (line_with (digit_text c.mask) _ (digit_lacks 10 c.mask
    (omega arith)) line_end)))))

many_lack : (f : ℕ → List ℕ) → ((v : ℕ) → Lacks 10 (f v)) → (values : List ℕ)
    → Lacks 10 (flat_map (λ v. 32 ∷ f v) values)
many_lack f each [] = λ i within. absurd (omega arith)
many_lack f each (v ∷ vs) =
    lacks_both 10 (32 ∷ f v) (flat_map (λ v. 32
    ∷ f v) vs) (lacks_front 10 32 (f v) (λ e. omega (arith, e)) (each v))
    (many_lack f each vs)

general_is : (label values : List ℕ) → list_all (λ b. nat_lt 31 b) label ≡ true
    → IsLine (general_line label values)
unfolding general_line
general_is label values plain =
    named label _ plain (line_with _ _ (many_lack doubleword_text (λ v. hex_lacks
    (to_be_bytes w64 v)) values) line_end)

access_is : (label values : List ℕ) → list_all (λ b. nat_lt 31 b) label ≡ true
    → IsLine (access_line label values)
unfolding access_line
access_is label values plain =
    named label _ plain (line_with _ _ (many_lack word_text (λ v. hex_lacks
    (to_be_bytes w32 v)) values) line_end)

attempt_is : (o : Option Attempt) → IsLine (attempt_line o)
unfolding attempt_line live_line
attempt_is None = named (codes "TX NONE") (codes "\n") refl line_end
attempt_is (Some a) =
    numbered (codes "TX DEPTH ") _ a.depth refl (numbered (codes " COMPLETED ") _ a.completed refl line_end)

pending_is : (o : Option ℕ) → IsLine (pending_line o)
unfolding pending_line
pending_is None = named (codes "PENDING NONE") (codes "\n") refl line_end
pending_is (Some address) =
    named (codes "PENDING ") _ refl (line_with (doubleword_text address) _ (hex_lacks
    (to_be_bytes w64 address)) line_end)

counts_is : (c : Counts) → IsLine (counts_line c)
unfolding counts_line
counts_is c =
    numbered (codes "COUNTS TURNS ") _ c.turns refl (numbered (codes " ASKED ") _ c.asked refl
    (numbered (codes " REJECTED ") _ c.rejected refl (numbered (codes " COMMITS ") _ c.commits refl
    (numbered (codes " ABORTS ") _ c.aborts refl line_end))))

-- its lines
abbrev pub cpu_list : ℕ → ShownCpu → List (List ℕ)
cpu_list i c =
    let general = c.cpu.general in
    let access = c.cpu.access in
    state_line i c.cpu.state ∷ psw_line c.cpu
    ∷ general_line (codes "GR 00") (take 4 general) ∷ general_line (codes "GR 04") (take 4 (drop 4 general))
    ∷ general_line (codes "GR 08") (take 4 (drop 8 general))
    ∷ general_line (codes "GR 12") (take 4 (drop 12 general))
    ∷ access_line (codes "AR 00") (take 8 access) ∷ access_line (codes "AR 08") (take 8 (drop 8 access))
    ∷ attempt_line c.attempt ∷ pending_line c.pending ∷ counts_line c.counts ∷ []

eleven : (a b c d e f g h i j k : List ℕ)
    → a ++ (b ++ (c ++ (d ++ (e ++ (f ++ (g ++ (h ++ (i ++ (j ++ (k ++ []))))))))))
    ≡ (a ++ (b ++ ((c ++ (d ++ (e ++ f))) ++ (g ++ h)))) ++ ((i ++ j) ++ k)
eleven a b c d e f g h i j k = simp (append_assoc, append-nil)

cpu_told : (i : ℕ) (c : ShownCpu) → joined (cpu_list i c) ≡ cpu_lines i c
unfolding cpu_lines image_lines progress_lines general_lines access_lines
cpu_told i c =
    let general = c.cpu.general in
    let access = c.cpu.access in
    eleven (state_line i c.cpu.state) (psw_line c.cpu)
    (general_line (codes "GR 00") (take 4 general)) (general_line (codes "GR 04") (take 4 (drop 4 general)))
    (general_line (codes "GR 08") (take 4 (drop 8 general))) (general_line (codes "GR 12") (take 4
    (drop 12 general)))
    (access_line (codes "AR 00") (take 8 access)) (access_line (codes "AR 08") (take 8 (drop 8 access)))
    (attempt_line c.attempt) (pending_line c.pending) (counts_line c.counts)

cpu_are : (i : ℕ) (c : ShownCpu) → AreLines (cpu_list i c)
cpu_are i c =
    let general = c.cpu.general in
    let access = c.cpu.access in
    line_before _ _ (state_is i c.cpu.state) (line_before _ _ (psw_is c.cpu)
    (line_before _ _ (general_is (codes "GR 00") (take 4 general) refl)
    (line_before _ _ (general_is (codes "GR 04") (take 4 (drop 4 general)) refl)
    (line_before _ _ (general_is (codes "GR 08") (take 4 (drop 8 general)) refl)
    (line_before _ _ (general_is (codes "GR 12") (take 4 (drop 12 general)) refl)
    (line_before _ _ (access_is (codes "AR 00") (take 8 access) refl)
    (line_before _ _ (access_is (codes "AR 08") (take 8 (drop 8 access)) refl)
    (line_before _ _ (attempt_is c.attempt) (line_before _ _ (pending_is c.pending)
    (line_before _ _ (counts_is c.counts) no_lines))))))))))

-- the lines of CPUs, whose numbers begin with this
unfoldable pub cpus_list : ℕ → List ShownCpu → List (List ℕ)
cpus_list n [] = []
cpus_list n (c ∷ cs) = cpu_list n c ++ cpus_list (n + 1) cs

cpus_told : (n : ℕ) (cpus : List ShownCpu)
    → joined (cpus_list n cpus) ≡ flat_map (λ p. cpu_lines p.0 p.1) (enumerate_from n cpus)
unfolding cpus_list
cpus_told n [] = refl
cpus_told n (c ∷ cs) =
    flat_map-append (λ (l : List ℕ). l) (cpu_list n c) (cpus_list (n + 1) cs)
    ∙ ap₂ (λ (a b : List ℕ). a ++ b) (cpu_told n c) (cpus_told (n + 1) cs)

cpus_are : (n : ℕ) (cpus : List ShownCpu) → AreLines (cpus_list n cpus)
unfolding cpus_list
cpus_are n [] = no_lines
cpus_are n (c ∷ cs) = lines_behind (cpu_list n c) (cpus_list (n + 1) cs) (cpu_are n c) (cpus_are (n + 1) cs)

-- ---- shown storage

-- the line of bytes with this number
abbrev pub bytes_piece : List ℕ → ℕ → ℕ → ℕ → List ℕ
bytes_piece storage first count k =
    bytes_line (first + 16 * k) (bytes_at storage (first + 16 * k) (min 16 (count - 16 * k)))

abbrev pub bytes_list : List ℕ → ℕ → ℕ → List (List ℕ)
bytes_list storage first count = lines_to (bytes_piece storage first count) ((count + 15) / 16)

bytes_is : (address : ℕ) (bytes : List ℕ) → IsLine (bytes_line address bytes)
unfolding bytes_line
bytes_is address bytes =
    named (codes "M ") _ refl (line_with (word_text address) _ (hex_lacks (to_be_bytes w32 address))
    (named (codes " ") _ refl (line_with (encode_lower bytes) _ (hex_lacks bytes) line_end)))

bytes_told : (storage : List ℕ) (first count n : ℕ)
    → joined (lines_to (bytes_piece storage first count) n) ≡ bytes_lines storage first count n
unfolding lines_to
bytes_told storage first count zero = refl
bytes_told storage first count (suc n) =
    let piece = bytes_piece storage first count in
    flat_map-append (λ (l : List ℕ). l) (lines_to piece n) (piece n ∷ [])
    ∙ ap₂ (λ (a b : List ℕ). a ++ b) (bytes_told storage first count n) (append-nil (piece n))

head_lacks : (block : List ℕ) → Lacks 10 (block_head block)
unfolding block_head labelled
head_lacks block =
    let number = λ (n : ℕ). decimal_lacks 10 n (omega arith) in
    lacks_both 10 (codes " FORMAT " ++ decimal (slice_index block 0)) _
    (lacks_both 10 (codes " FORMAT ") _ (plain_lack (codes " FORMAT ") refl) (number (slice_index block 0)))
    (lacks_both 10 (codes " FLAGS ") _ (plain_lack (codes " FLAGS ") refl)
    (lacks_both 10 (encode_lower (bytes_at block 1 1)) _ (hex_lacks (bytes_at block 1 1))
    (lacks_both 10 (codes " DEPTH " ++ decimal (number_at block 6 2)) _
    (lacks_both 10 (codes " DEPTH ") _ (plain_lack (codes " DEPTH ") refl) (number (number_at block 6 2)))
    (lacks_both 10 (codes " CODE ") _ (plain_lack (codes " CODE ") refl) (number (number_at block 8 8))))))

tail_is : (block : List ℕ) → IsLine (block_tail block)
unfolding block_tail
tail_is block =
    named (codes " TOKEN ") _ refl (line_with (encode_lower (bytes_at block 16 8)) _ (hex_lacks
    (bytes_at block 16 8))
    (named (codes " AT ") _ refl (line_with (encode_lower (bytes_at block 24 8)) _ (hex_lacks
    (bytes_at block 24 8))
    (named (codes " PI ") _ refl (line_with (encode_lower (bytes_at block 38 2)) _ (hex_lacks
    (bytes_at block 38 2)) line_end)))))

block_is : (first : ℕ) (block : List ℕ) → IsLine (block_line first block)
unfolding block_line
block_is first block =
    named (codes "D ") _ refl (line_with (word_text first) _ (hex_lacks (to_be_bytes w32 first))
    (line_with (block_head block) (block_tail block) (head_lacks block) (tail_is block)))

unfoldable pub show_list : List ℕ → Show → List (List ℕ)
show_list storage s =
    if s.fields then block_line s.first (bytes_at storage s.first 256)
    ∷ [] else bytes_list storage s.first s.length

show_told : (storage : List ℕ) (s : Show) → joined (show_list storage s) ≡ show_text storage s
unfolding show_list show_text
show_told storage s = by s.fields
  where
    by : (b : Bool)
        → joined (if b then block_line s.first (bytes_at storage s.first 256)
        ∷ [] else bytes_list storage s.first s.length)
        ≡ (if b then block_line s.first (bytes_at storage s.first 256) else bytes_text storage s.first s.length)
    by true = append-nil (block_line s.first (bytes_at storage s.first 256))
    by false = bytes_told storage s.first s.length ((s.length + 15) / 16)

show_are : (storage : List ℕ) (s : Show) → AreLines (show_list storage s)
unfolding show_list
show_are storage s = by s.fields
  where
    by : (b : Bool) → AreLines
        (if b then block_line s.first (bytes_at storage s.first 256)
        ∷ [] else bytes_list storage s.first s.length)
    by true = line_before _ [] (block_is s.first (bytes_at storage s.first 256)) no_lines
    by false =
        each_line (bytes_piece storage s.first s.length)
        (λ k. bytes_is (s.first + 16 * k) (bytes_at storage (s.first + 16 * k) (min 16 (s.length - 16 * k))))
        ((s.length + 15) / 16)

unfoldable pub shows_list : List ℕ → List Show → List (List ℕ)
shows_list storage [] = []
shows_list storage (s ∷ shows) = show_list storage s ++ shows_list storage shows

shows_told : (storage : List ℕ) (shows : List Show)
    → joined (shows_list storage shows) ≡ shows_text storage shows
unfolding shows_list
shows_told storage [] = refl
shows_told storage (s ∷ shows) =
    flat_map-append (λ (l : List ℕ). l) (show_list storage s) (shows_list storage shows)
    ∙ ap₂ (λ (a b : List ℕ). a ++ b) (show_told storage s) (shows_told storage shows)

shows_are : (storage : List ℕ) (shows : List Show) → AreLines (shows_list storage shows)
unfolding shows_list
shows_are storage [] = no_lines
shows_are storage (s ∷ shows) =
    lines_behind (show_list storage s) (shows_list storage shows) (show_are storage s)
    (shows_are storage shows)

-- ---- entries

detail_lacks : (w : Why) → Lacks 10 (detail_text (detail_of w))
detail_lacks (why.Program e) = hex_lacks (to_be_bytes w16 e.code)
detail_lacks (why.Filtered e) = hex_lacks (to_be_bytes w16 e.code)
detail_lacks (why.FetchConflict line) = hex_lacks (to_be_bytes w64 (line * 256))
detail_lacks (why.StoreConflict line) = hex_lacks (to_be_bytes w64 (line * 256))
detail_lacks why.External = plain_lack (codes "-") refl
detail_lacks why.FetchOverflow = plain_lack (codes "-") refl
detail_lacks why.StoreOverflow = plain_lack (codes "-") refl
detail_lacks why.Restricted = plain_lack (codes "-") refl
detail_lacks why.Depth = plain_lack (codes "-") refl
detail_lacks why.Starved = plain_lack (codes "-") refl
detail_lacks (why.Tabort code) = plain_lack (codes "-") refl

number_lacks : (n : ℕ) → Lacks 10 (decimal n)
number_lacks n = decimal_lacks 10 n (omega arith)

-- a text behind a label
behind_label : (label text : List ℕ) → list_all (λ b. nat_lt 31 b) label ≡ true → Lacks 10 text
    → Lacks 10 (label ++ text)
behind_label label text plain lacks = lacks_both 10 label text (plain_lack label plain) lacks

entry_lacks : (e : Entry) → Lacks 10 (words_text (line_of e))
entry_lacks (Step cpu) = behind_label (codes "S ") (decimal cpu) refl (number_lacks cpu)
entry_lacks (Tdb cpu) = behind_label (codes "T ") (decimal cpu) refl (number_lacks cpu)
entry_lacks (Interrupt cpu) = behind_label (codes "I ") (decimal cpu) refl (number_lacks cpu)
entry_lacks (Commit cpu count) =
    behind_label (codes "C ") _ refl (lacks_both 10 (decimal cpu) _ (number_lacks cpu)
    (behind_label (codes " ") (decimal count) refl (number_lacks count)))
entry_lacks (Abort cpu count w) =
    behind_label (codes "A ") _ refl (lacks_both 10 (decimal cpu) _ (number_lacks cpu)
    (behind_label (codes " ") _ refl (lacks_both 10 (decimal count) _ (number_lacks count)
    (behind_label (codes " ") _ refl (lacks_both 10 (decimal (code_number w)) _ (number_lacks (code_number w))
    (behind_label (codes " ") _ refl (detail_lacks w)))))))

entries_are : (history : List Entry) → AreLines (map entry_text history)
entries_are [] = no_lines
entries_are (e ∷ history) =
    line_before (entry_text e) (map entry_text history)
    (line_with (words_text (line_of e)) (codes "\n") (entry_lacks e) line_end) (entries_are history)

-- ---- events

abbrev pub events_at : List Event → ℕ → List Event
events_at events k = take 16 (drop (16 * k) events)

abbrev pub events_piece : List Event → ℕ → List ℕ
events_piece events k = row_text (events_at events k)

event_lacks : (e : Event) → Lacks 10 (event_text e)
event_lacks (Turn cpu) = number_lacks cpu
event_lacks (External cpu) = behind_label (codes "X") (decimal cpu) refl (number_lacks cpu)

further_lacks : (events : List Event) → Lacks 10 (further_text events)
further_lacks [] = λ i within. absurd (omega arith)
further_lacks (e ∷ events) =
    lacks_both 10 (codes "," ++ event_text e) (further_text events)
    (behind_label (codes ",") (event_text e) refl (event_lacks e)) (further_lacks events)

events_lack : (events : List Event) → Lacks 10 (events_text events)
events_lack [] = λ i within. absurd (omega arith)
events_lack (e ∷ events) = lacks_both 10 (event_text e) (further_text events) (event_lacks e)
    (further_lacks events)

row_is : (events : List Event) → IsLine (row_text events)
row_is events = named (codes " SCHED ") _ refl (line_with (events_text events) _
    (events_lack events) line_end)

events_told : (events : List Event) (n : ℕ) → joined (lines_to (events_piece events) n) ≡ rows_text events n
unfolding lines_to
events_told events zero = refl
events_told events (suc n) =
    flat_map-append (λ (l : List ℕ). l) (lines_to (events_piece events) n) (events_piece events n ∷ [])
    ∙ ap₂ (λ (a b : List ℕ). a ++ b) (events_told events n) (append-nil (events_piece events n))

-- the lines of the events, and the end
abbrev pub schedule_list : List Event → List (List ℕ)
schedule_list events = lines_to (events_piece events) ((length events + 15) / 16) ++ codes "END\n" ∷ []

pub schedule_told : (events : List Event)
    → joined (schedule_list events) ≡ schedule_text events ++ codes "END\n"
schedule_told events =
    let n = (length events + 15) / 16 in
    flat_map-append (λ (l : List ℕ). l) (lines_to (events_piece events) n) (codes "END\n" ∷ [])
    ∙ ap (λ t. t ++ codes "END\n") (events_told events n)

schedule_are : (events : List Event) → AreLines (schedule_list events)
schedule_are events =
    lines_behind (lines_to (events_piece events) ((length events + 15) / 16)) (codes "END\n" ∷ [])
    (each_line (events_piece events) (λ k. row_is (events_at events k)) ((length events + 15) / 16))
    (line_before (codes "END\n") [] (named (codes "END") (codes "\n") refl line_end) no_lines)

-- ---- the whole

abbrev pub head_list : Shown → List (List ℕ)
head_list s =
    codes "ZTX REPORT\n" ∷ number_line (codes "STATUS ") (status_of s.cpus)
    ∷ (cpus_list 0 s.cpus ++ shows_list s.storage s.shows)

-- from the count of events on
abbrev pub behind_entries : Shown → List (List ℕ)
behind_entries s = number_line (codes "SCHEDULE ") (length s.events) ∷ schedule_list s.events

-- behind the count of entries
abbrev pub behind_head : Shown → List (List ℕ)
behind_head s = map entry_text s.history ++ behind_entries s

abbrev pub report_list : Shown → List (List ℕ)
report_list s = head_list s ++ number_line (codes "HISTORY ") (length s.history) ∷ behind_head s

all_told : (a b c d e f g h i : List ℕ)
    → (a ++ (b ++ (c ++ d))) ++ (e ++ (f ++ (g ++ (h ++ i))))
    ≡ ((a ++ b) ++ (c ++ d)) ++ ((e ++ f) ++ ((g ++ h) ++ i))
all_told a b c d e f g h i = simp append_assoc

list_told : (s : Shown) → joined (report_list s) ≡ report_text s
unfolding report_text state_part run_part head_lines history_lines schedule_lines
list_told s =
    let counted = number_line (codes "HISTORY ") (length s.history) in
    let recorded = number_line (codes "SCHEDULE ") (length s.events) in
    let status = number_line (codes "STATUS ") (status_of s.cpus) in
    let title = codes "ZTX REPORT\n" in
    flat_map-append (λ (l : List ℕ). l) (head_list s) (counted ∷ behind_head s)
    ∙ ap₂ (λ (a b : List ℕ). (title ++ (status ++ a)) ++ (counted ++ b))
    (flat_map-append (λ (l : List ℕ). l) (cpus_list 0 s.cpus) (shows_list s.storage s.shows)
    ∙ ap₂ (λ (a b : List ℕ). a ++ b) (cpus_told 0 s.cpus) (shows_told s.storage s.shows))
    (flat_map-append (λ (l : List ℕ). l) (map entry_text s.history) (behind_entries s)
    ∙ ap₂ (λ (a b : List ℕ). a ++ (recorded ++ b)) (flat_map-map (λ (l : List ℕ). l) entry_text s.history)
    (schedule_told s.events))
    ∙ all_told title status (cpus_text s.cpus) (shows_text s.storage s.shows) counted
    (history_text s.history) recorded
    (schedule_text s.events) (codes "END\n")

number_is : (label : List ℕ) (n : ℕ) → list_all (λ b. nat_lt 31 b) label ≡ true → IsLine (number_line label n)
unfolding number_line
number_is label n plain = numbered label (codes "\n") n plain line_end

list_are : (s : Shown) → AreLines (report_list s)
list_are s =
    lines_behind (head_list s) (number_line (codes "HISTORY ") (length s.history) ∷ behind_head s)
    (line_before _ _ (named (codes "ZTX REPORT") (codes "\n") refl line_end)
    (line_before _ _ (number_is (codes "STATUS ") (status_of s.cpus) refl)
    (lines_behind (cpus_list 0 s.cpus) (shows_list s.storage s.shows) (cpus_are 0 s.cpus)
    (shows_are s.storage s.shows))))
    (line_before _ _ (number_is (codes "HISTORY ") (length s.history) refl)
    (lines_behind (map entry_text s.history) (behind_entries s) (entries_are s.history)
    (line_before _ _ (number_is (codes "SCHEDULE ") (length s.events) refl) (schedule_are s.events))))

-- the text of a state has these lines
pub report_lines : (s : Shown) → lines_of (report_text s) ≡ report_list s
report_lines s = ap lines_of (sym (list_told s)) ∙ lines_joined (report_list s) (list_are s)
