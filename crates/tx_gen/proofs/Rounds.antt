-- What is drawn for each CPU.
use Rattle.std.proofs.Common.{◌≡◌, ℕ, ◌+◌, ◌*◌, ◌/◌, ◌%◌, ◌^◌, suc, List, ◌++◌, ap, ap₂, sym, ◌∙◌, arith, append_assoc, codes, ◌==◌, if◌then◌else◌}
use Rattle.tx_gen.specs.Draws.{state_after, state}
use Rattle.tx_gen.specs.Programs.{stride, cpus, program_text, drawn_program, program_of, for_first, cpu_line, cpu_lines, programs, show_line, line, listing_of}

one_on : (number cpu : ℕ) → state number (2 * cpu + 3) ≡ state_after (state number (2 * cpu + 2))
one_on number cpu = let next : 2 * cpu + 3 ≡ suc (2 * cpu + 2) = omega arith in ap (state number) next

-- two numbers are drawn for a CPU
pub two_on : (number cpu s : ℕ) → s ≡ state number (2 * cpu + 2)
    → state_after (state_after s) ≡ state number (2 * (cpu + 1) + 2)
two_on number cpu s is =
    let next : 2 * (cpu + 1) + 2 ≡ suc (2 * cpu + 3) = omega arith in
    ap (λ x. state_after (state_after x)) is ∙ sym (ap state_after (one_on number cpu))
    ∙ sym (ap (state number) next)

-- and its program is made of them
pub program_drawn : (number cpu s apart : ℕ) → s ≡ state number (2 * cpu + 2) → apart ≡ stride number
    → drawn_program cpu s apart ≡ program_of number cpu
program_drawn number cpu s apart is also =
    let again = ap state_after is ∙ sym (one_on number cpu) in
    ap₂ (program_text cpu) (ap (λ x. 20 + state_after x / 2 ^ 33 % 81) is)
    (ap₂ (λ (x d : ℕ). 65536 + state_after x / 2 ^ 33 % 4 * d) again also)

pub apart_drawn : (number s drawn apart : ℕ) → s ≡ state_after number → drawn ≡ state_after s / 2 ^ 33
    → apart ≡ (if drawn % 2 == 0 then 8 else 256) → apart ≡ stride number
apart_drawn number s drawn apart first second is =
    is ∙ ap (λ (x : ℕ). if x % 2 == 0 then 8 else 256) (second ∙ ap (λ (x : ℕ). state_after x / 2 ^ 33) first)

-- one more
pub one_more : (n : ℕ) (text : ℕ → List ℕ) → for_first (n + 1) text ≡ for_first n text ++ text n
one_more n text = let next : n + 1 ≡ suc n = omega arith in ap (λ (m : ℕ). for_first m text) next

grown : (old a b c d : List ℕ) → (((old ++ a) ++ b) ++ c) ++ d ≡ old ++ (a ++ (b ++ (c ++ d)))
grown old a b c d = simp append_assoc

-- the whole, from its parts
pub whole : (number count cpu apart : ℕ) (old lines all shown new : List ℕ) → count ≡ cpus number
    → cpu ≡ cpus number → apart ≡ stride number
    → lines ≡ old ++ for_first count cpu_line → all ≡ lines ++ for_first cpu (program_of number)
    → shown ≡ all ++ show_line apart
    → new ≡ shown ++ line (codes " END") → new ≡ old ++ listing_of number
unfolding listing_of
whole number count cpu apart old lines all shown new counted reached also lines_are all_are shown_are new_is =
    let a = ap (λ (n : ℕ). for_first n cpu_line) counted in
    let b = ap (λ (n : ℕ). for_first n (program_of number)) reached in
    let c = ap show_line also in
    let last = line (codes " END") in
    let all_in = all_are ∙ ap₂ (λ (t p : List ℕ). t ++ p) (lines_are ∙ ap (λ (t : List ℕ). old ++ t) a) b in
    let shown_in = shown_are ∙ ap₂ (λ (t p : List ℕ). t ++ p) all_in c in
    new_is ∙ ap (λ (t : List ℕ). t ++ last) shown_in
    ∙ grown old (cpu_lines number) (programs number) (show_line (stride number)) last
