-- What the calls of the instruction crates tell and leave, as outcomes.
use Rattle.std.proofs.Common.{◌≡◌, ℕ, ◌≤◌, Bool, true, false, List, [], ◌++◌, take, drop, length, refl}
use Rattle.std.proofs.Common.{sym}
use Rattle.std.proofs.Common.{ap, subst, ◌∙◌, arith}
use Rattle.std.specs.Prelude.{map, Result, Ok, Err}
use Rattle.std.proofs.lemmas.List.{take-append-le, take_all}
use Rattle.byteorder.specs.Endian.{big_bytes}
use Rattle.byteorder.specs.Numbers.{length-bytes_high_first}
use Rattle.z_regs.specs.Cpu.{Cpu}
use Rattle.z_regs.specs.declared.ranges.Range.{Range}
use Rattle.z_instr.specs.declared.instr.Instr.{Instr}
use Rattle.z_instr.specs.Operands.{Span, first_address}
use Rattle.z_touch.specs.Refusals.{span_of}
use Rattle.z_effect.specs.Registers.{register}
use Rattle.z_effect.specs.One.{one, length_of}
use Rattle.z_effect.specs.After.{Raises, answer_of, told, exception, Executes, Leaves}
use Rattle.z_effect.specs.After.{touched, ranges_of, cpu_after}
use Rattle.z_effect.specs.Outcome.{Outcome, Did, Overflowed, Divides, Aborts}
use Rattle.z_effect.specs.TransactionEffect.{transaction_effect}
use Rattle.z_instr.specs.declared.kind.Transaction.{Transaction}
use Rattle.z_instr.specs.declared.kind.Transaction.TheVariants.{Begin, BeginConstrained, End, Abort}
use Rattle.z_instr.specs.declared.kind.Transaction.TheVariants.{ExtractDepth}
use Rattle.z_instr.specs.declared.kind.Transaction.TheVariants.{StoreLasting, Assist}
use Rattle.tx_control.specs.Codes.{fixed_point_overflow_code, fixed_point_divide_code}
use Rattle.tx_control.specs.declared.exceptions.Exception.{Exception}
use Rattle.tx_serial.specs.Fate.{operands}
use Rattle.tx_attempt.specs.declared.performing.Ended.{Ended}
use Rattle.tx_attempt.specs.Performed.{ended_of, ended_in, IsLeft, lasting_size}
use Rattle.z_touch.proofs.Reach.{spans_back}

pub operand-spans : (i : Instr) (c : Cpu) (need : List Range) → need ≡ operands i c
    → map span_of need ≡ ranges_of i c
operand-spans i c need e = ap (map span_of) e ∙ spans_back (ranges_of i c)

raised : (x y : Exception) → Raises x ≡ Raises y → ended_in (Err x) ≡ ended_in (Err y)
raised x y h = let same : x ≡ y = cc in ap (λ (e : Exception). ended_in (Err e)) same

ended-told : (o : Outcome) (n : ℕ) (r : Result (Unit {0}) Exception) → told r ≡ answer_of n o
    → ended_in r ≡ ended_of o
ended-told (Did c bytes) n (Ok u) h = refl
ended-told (Did c bytes) n (Err x) h = absurd (cc)
ended-told (Overflowed c bytes) n (Ok u) h = absurd (cc)
ended-told (Overflowed c bytes) n (Err x) h = raised x (exception fixed_point_overflow_code n) h
ended-told Divides n (Ok u) h = absurd (cc)
ended-told Divides n (Err x) h = raised x (exception fixed_point_divide_code n) h
ended-told (Aborts code) n (Ok u) h = absurd (cc)
ended-told (Aborts code) n (Err x) h = absurd (cc)

pub plain-left : (depth : ℕ) (i : Instr) (need : List Range) (old new : Cpu) (s t : List ℕ)
    (r : Result (Unit {0}) Exception) (e : Ended) → need ≡ operands i old → Executes depth i old new s t r
    → e ≡ ended_in r → IsLeft (one i old depth (touched (map span_of need) s)) need old new s t e
plain-left depth i need old new s t r e en executes ee =
    let left : Leaves (one i old depth (touched (map span_of need) s)) (length_of i) (map span_of need) old
    new s
    t r = subst (λ (ss : List Span). Leaves (one i old depth (touched ss s)) (length_of i) ss old new s t r)
    (sym (operand-spans i old need en)) executes in
    record {
      told = ee ∙ ended-told (one i old depth (touched (map span_of need) s)) (length_of i) r left.answer;
      image = left.image;
      view = left.view;
    }

-- ---- transaction instructions

pub aborting-value : (k : Transaction) (n : ℕ) (i : Instr) (c : Cpu) (depth a : ℕ) → k ≡ Abort
    → a ≡ first_address i c.general → Aborts a ≡ transaction_effect k n i c depth
unfolding transaction_effect
aborting-value k n i c depth a ek ea = ap Aborts ea
    ∙ sym (ap (λ (t : Transaction). transaction_effect t n i c depth) ek)

lasting-by : (n : ℕ) (i : Instr) (c new : Cpu) (depth value : ℕ) (old : List ℕ)
    → value ≡ register c i.r1 → new ≡ cpu_after c (transaction_effect StoreLasting n i c depth)
    → Did new (take 8 (big_bytes 8 value ++ drop 8 old)) ≡ transaction_effect StoreLasting n i c depth
unfolding transaction_effect
lasting-by n i c new depth value old ev en =
    let size = length-bytes_high_first 8 value in
    let some : 8 ≤ length (big_bytes 8 value) = omega (arith, size) in
    let all : length (big_bytes 8 value) ≤ 8 = omega (arith, size) in
    let bytes : take 8 (big_bytes 8 value ++ drop 8 old) ≡ big_bytes 8 (register c i.r1) =
    take-append-le 8 (big_bytes 8 value) (drop 8 old) some ∙ take_all 8 (big_bytes 8 value) all
    ∙ ap (big_bytes 8) ev in
    λ j. Did (en j) (bytes j)

pub lasting-value : (k : Transaction) (n : ℕ) (i : Instr) (c new : Cpu) (depth value : ℕ) (old : List ℕ)
    → k ≡ StoreLasting → value ≡ register c i.r1 → new ≡ cpu_after c (transaction_effect k n i c depth)
    → Did new (take (lasting_size k) (big_bytes 8 value ++ drop 8 old)) ≡ transaction_effect k n i c depth
lasting-value k n i c new depth value old ek ev en =
    subst (λ (t : Transaction). new ≡ cpu_after c (transaction_effect t n i c depth)
    → Did new (take (lasting_size t) (big_bytes 8 value ++ drop 8 old)) ≡ transaction_effect t n i c depth)
    (sym
    ek) (lasting-by n i c new depth value old ev) en

abbrev pub has_no_store : Transaction → Bool
has_no_store Begin = true
has_no_store BeginConstrained = true
has_no_store End = true
has_no_store Abort = false
has_no_store ExtractDepth = true
has_no_store StoreLasting = false
has_no_store Assist = true

pub completed-value : (k : Transaction) (n : ℕ) (i : Instr) (c new : Cpu) (depth : ℕ) (buffer : List ℕ)
    → has_no_store k ≡ true → new ≡ cpu_after c (transaction_effect k n i c depth)
    → Did new (take (lasting_size k) buffer) ≡ transaction_effect k n i c depth
unfolding transaction_effect
completed-value Begin n i c new depth buffer h en = ap (λ (x : Cpu). Did x []) en
completed-value BeginConstrained n i c new depth buffer h en = ap (λ (x : Cpu). Did x []) en
completed-value End n i c new depth buffer h en = ap (λ (x : Cpu). Did x []) en
completed-value Abort n i c new depth buffer h en = absurd (cc)
completed-value ExtractDepth n i c new depth buffer h en = ap (λ (x : Cpu). Did x []) en
completed-value StoreLasting n i c new depth buffer h en = absurd (cc)
completed-value Assist n i c new depth buffer h en = ap (λ (x : Cpu). Did x []) en
