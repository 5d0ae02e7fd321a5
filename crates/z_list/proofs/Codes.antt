-- The bytes of instructions in storage, and their lines.
use Rattle.std.proofs.Common.{◌≡◌, ℕ, ◌+◌, ◌<◌, ◌≤◌, zero, suc, List, [], ◌∷◌}
use Rattle.std.proofs.Common.{length, get_or, take, drop, arith, sym, ap, ◌∙◌, refl}
use Rattle.std.specs.Prelude.{All}
use Rattle.std.proofs.lemmas.List.{length-take, length-drop}
use Rattle.z_instr.specs.declared.instr.Instr.{Instr}
use Rattle.z_instr.specs.Computing.{reading_of}
use Rattle.z_instr.specs.Layout.{length_by}
use Rattle.z_instr.specs.Reading.{Reads}
use Rattle.z_instr.proofs.ComputedReading.{computes}
use Rattle.z_instr.proofs.Distinct.{some_length}
use Rattle.z_instr.proofs.Spelled.{read_size}
use Rattle.tx_journal.specs.Image.{HasReading, length_at}
use Rattle.z_list.specs.Listing.{code_at, line_text, line_for, line_at, HasLine}

-- ---- the bytes are all there

first_of : (n : ℕ) (bytes : List ℕ) → 0 < length (take n bytes) → get_or (take n bytes) 0 0 ≡ get_or bytes 0 0
first_of zero bytes some = absurd (omega arith)
first_of (suc n) [] some = refl
first_of (suc n) (b ∷ bytes) some = refl

first_in : (start : ℕ) (storage : List ℕ) → get_or (drop start storage) 0 0 ≡ get_or storage start 0
first_in zero storage = refl
first_in (suc start) [] = refl
first_in (suc start) (b ∷ storage) = first_in start storage

pub code_is_whole : (storage : List ℕ) (start : ℕ) → HasReading storage start
    → start + length_at storage start ≤ length storage
code_is_whole storage start has =
    let n = length_at storage start in
    let whole = read_size (code_at storage start) has.instr has.reads in
    let some : 0 < length (code_at storage start) =
    omega (arith, some_length (get_or (code_at storage start) 0 0)) in
    let same = ap length_by (first_of n (drop start storage) some ∙ first_in start storage) in
    let all : length (code_at storage start) ≡ n = whole ∙ same in
    omega (arith, length-take n (drop start storage), length-drop start storage)

-- ---- their line

pub line_is : (storage code : List ℕ) (start : ℕ) (i : Instr) → code ≡ code_at storage start → Reads code i
    → line_text start code i ≡ line_at storage start
line_is storage code start i there reads =
    ap (line_for start code) (sym (computes code i reads))
    ∙ ap (λ (c : List ℕ). line_for start c (reading_of c)) there

pub lines_are : (storage starts : List ℕ) → All (HasReading storage) starts → All (HasLine storage) starts
lines_are storage starts readings = λ k d within.
    let has = readings k d within in
    let start = get_or starts k d in
    record {
      instr = has.instr;
      reads = has.reads;
      line = ap (line_for start (code_at storage start)) (computes (code_at storage start) has.instr has.reads);
    }
