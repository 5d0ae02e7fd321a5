-- What an instruction leaves that works byte by byte.
use Rattle.std.proofs.Common.{◌≡◌, ℕ, ◌+◌, ◌≤◌, List, ◌++◌, length, take, drop, sym, ap, ◌∙◌}
use Rattle.std.proofs.Common.{arith, length-drop, Ok}
use Rattle.std.proofs.lemmas.List.{take_all, length-take-le, take_at, drop_at}
use Rattle.z_instr.specs.declared.instr.Instr.{Instr}
use Rattle.z_instr.specs.declared.operand.Operands.TheVariants.{StoredAndFetched}
use Rattle.z_instr.specs.Operands.{first_address, second_address, length_of, spans_in, Span}
use Rattle.z_regs.specs.Cpu.{Cpu}
use Rattle.z_instr.specs.declared.kind.Combination.{Combination}
use Rattle.z_instr.specs.declared.kind.Storage.TheVariants.{ByteByByte}
use Rattle.z_effect.specs.Registers.{advanced}
use Rattle.z_effect.specs.StorageEffect.{lead, results, with_code_of, storage_effect}
use Rattle.z_effect.specs.Outcome.{Did}
use Rattle.z_effect.specs.After.{range_at, written, touched, answer_of, cpu_after, storage_after, AreInside}
use Rattle.z_effect.specs.After.{Leaves}
use Rattle.z_storage.proofs.Bytewise.{made}
use Rattle.z_effect.proofs.Lengths.{length-results}

-- the bytes of both operands, first and second
firsts : (s : List ℕ) (a n : ℕ) (ys : List ℕ) → a + n ≤ length s →
    take n (range_at s a n ++ ys) ≡ range_at s a n
firsts s a n ys h =
    take_at (range_at s a n) ys n (length-take-le n (drop a s) (omega (arith, length-drop a s)))

seconds : (s : List ℕ) (a n : ℕ) (ys : List ℕ) → a + n ≤ length s → drop n (range_at s a n ++ ys) ≡ ys
seconds s a n ys h =
    drop_at (range_at s a n) ys n (length-take-le n (drop a s) (omega (arith, length-drop a s)))

-- the results of an instruction
abbrev all_made : Combination → Instr → Cpu → List ℕ → List ℕ
all_made m i c s =
    made m s (first_address i c.general) (second_address i c.general) (length_of i) (length_of i)

abbrev ranges : Instr → Cpu → List Span
ranges i c = spans_in StoredAndFetched i c.general c.condition

outcome_is : (m : Combination) (n : ℕ) (i : Instr) (c : Cpu) (s : List ℕ) →
    first_address i c.general + length_of i ≤ length s
    → storage_effect (ByteByByte m) n i c (touched (ranges i c) s) ≡
    Did (advanced n (with_code_of m (all_made m i c s) c)) (all_made m i c s)
unfolding storage_effect spans_in
outcome_is m n i c s h =
    let a = first_address i c.general in
    let b = second_address i c.general in
    let k = length_of i in
    let both = range_at s a k ++ range_at s b k in
    let end = λ (xs : List ℕ). Did (advanced n (with_code_of m xs c)) xs in
    ap (λ xs. end (results k m (lead k a b) xs (drop k both))) (firsts s a k (range_at s b k) h)
    ∙ ap (λ ys. end (results k m (lead k a b) (range_at s a k) ys)) (seconds s a k (range_at s b k) h)

pub leaves_results : (m : Combination) (n : ℕ) (i : Instr) (c coded new : Cpu) (s t : List ℕ) (a b k : ℕ)
    → a ≡ first_address i c.general → b ≡ second_address i c.general → k ≡ length_of i
    → AreInside (ranges i c) s → t ≡ written s a (made m s a b k k)
    → coded ≡ with_code_of m (made m s a b k k) c
    → new ≡ advanced n coded
    → Leaves (storage_effect (ByteByByte m) n i c (touched (ranges i c) s)) n (ranges i c) c new s t (Ok tt)
unfolding spans_in
leaves_results m n i c coded new s t a b k p q r inside view code next =
    let xs = all_made m i c s in
    let o = outcome_is m n i c s inside.0 in
    let same : made m s a b k k ≡ xs =
    ap (λ x. made m s x b k k) p ∙ ap (λ y. made m s (first_address i c.general) y k k) q ∙
    ap (λ j. made m s (first_address i c.general) (second_address i c.general) j j) r in
    let whole : take (length_of i) xs ≡ xs =
    take_all (length_of i) xs (omega (
      arith,
      length-results (length_of i) m (lead (length_of i) (first_address i c.general)
          (second_address i c.general)) (range_at s (first_address i c.general) (length_of i))
          (range_at s (second_address i c.general) (length_of i)),
    )) in
    record {
      answer = sym (ap (answer_of n) o);
      image = next ∙ ap (advanced n) (code ∙ ap (λ made. with_code_of m made c) same) ∙
          sym (ap (cpu_after c) o);
      view =
          view
          ∙ ap (λ x. written s x (made m s a b k k)) p
          ∙ ap (written s (first_address i c.general)) (same ∙ sym whole)
          ∙ sym (ap (storage_after (ranges i c) s) o);
    }
