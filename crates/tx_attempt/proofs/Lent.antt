-- An instruction that is performed on the bytes that storage has lent.
use Rattle.std.proofs.Common.{◌≡◌, ℕ, ◌≤◌, List, ◌++◌, Option, ap, subst, sym, ◌∙◌, arith, length, get_or, take}
use Rattle.std.specs.Prelude.{map, All}
use Rattle.std.proofs.lemmas.List.{length-map, get_or_past}
use Rattle.z_regs.specs.Absolute.{IsAccessible}
use Rattle.z_regs.specs.Cpu.{Cpu}
use Rattle.z_regs.specs.Prefix.{storage_size, absolute_of}
use Rattle.z_regs.specs.declared.ranges.Range.{Range}
use Rattle.z_instr.specs.declared.instr.Instr.{Instr}
use Rattle.z_instr.specs.Table.{entry_at}
use Rattle.z_instr.proofs.SmallOperands.{count}
use Rattle.z_touch.specs.Refusals.{range_of, span_of}
use Rattle.z_effect.specs.After.{AreInside, touched, range_at, written, cpu_after, ranges_of}
use Rattle.z_effect.specs.One.{one}
use Rattle.z_effect.proofs.Stored.{length-written}
use Rattle.tx_serial.specs.Fate.{operands}
use Rattle.tx_serial.specs.Flat.{Storage, bytes_seen, operand_bytes}
use Rattle.tx_attempt.specs.declared.performing.Ended.{Ended}
use Rattle.tx_attempt.specs.Performed.{IsLeft, IsFetched, no_range, outcome_from, trimmed, first_size}
use Rattle.tx_attempt.proofs.Fetching.{all-inside, touched-fetched}
use Rattle.tx_attempt.proofs.Returning.{lent, kept-apart, operand-end, length-seen}
use Rattle.tx_attempt.proofs.Stored.{plain-outcome}

-- an instruction has at most two operands
pub at-most-two : (i : Instr) (c : Cpu) (need : List Range) → need ≡ operands i c → length need ≤ 2
at-most-two i c need e =
    omega (
      arith,
      ap length e,
      length-map (ranges_of i c) range_of,
      count (entry_at i.op.number).operands i c.general c.condition,
    )

-- where there is no second operand

pub no-second : (need : List Range) → length need ≤ 1 → get_or need 1 no_range ≡ no_range
no-second need h = get_or_past need 1 no_range h

-- ---- both operands

module _ (prefix : Option ℕ) (seen : Storage) (need : List Range) (s mid now ys xs : List ℕ)
    (accessible : All (IsAccessible prefix) need) (few : length need ≤ 2) (size : length s ≡ storage_size)
    (ey : ys ≡ bytes_seen prefix seen (get_or need 1 no_range).first (get_or need 1 no_range).length)
    (ex : xs ≡ bytes_seen prefix seen (get_or need 0 no_range).first (get_or need 0 no_range).length)
    (em : mid ≡ written s (get_or need 1 no_range).first ys)
    (en : now ≡ written mid (get_or need 0 no_range).first xs) where
  pub mid-size : length mid ≡ storage_size
  mid-size =
      let end = operand-end prefix need 1 accessible in
      let long = ap length ey ∙ length-seen (λ a. seen (absolute_of prefix a)) (get_or need 1 no_range).first
      (get_or need 1 no_range).length in
      ap length em ∙ length-written s (get_or need 1 no_range).first ys (omega (arith, end, long, size)) ∙ size

  pub now-size : length now ≡ storage_size
  now-size =
      let end = operand-end prefix need 0 accessible in
      let long = ap length ex ∙ length-seen (λ a. seen (absolute_of prefix a)) (get_or need 0 no_range).first
      (get_or need 0 no_range).length in
      let there = mid-size in
      ap length en ∙ length-written mid (get_or need 0 no_range).first xs (omega (arith, end, long, there))
      ∙ mid-size

  pub now-inside : AreInside (map span_of need) now
  now-inside = all-inside prefix need now now-size accessible

  -- the operands are the bytes that the attempt sees
  pub now-fetched : touched (map span_of need) now ≡ operand_bytes prefix seen need
  now-fetched =
      let first = operand-end prefix need 0 accessible in
      let second = operand-end prefix need 1 accessible in
      let same : now ≡ written (written s (get_or need 1 no_range).first ys) (get_or need 0 no_range).first xs =
      en ∙ ap (λ (t : List ℕ). written t (get_or need 0 no_range).first xs) em in
      touched-fetched prefix seen need now now-inside
      (subst (λ (t : List ℕ). All (IsFetched prefix seen t) need) (sym same)
      (lent prefix seen need s ys xs few (omega (arith, first, size)) (omega (arith, second, size)) ey ex))

  -- what is kept apart is what it stores
  pub lent-outcome : (i : Instr) (c new : Cpu) (depth : ℕ) (t back rest : List ℕ) (e : Ended)
      → need ≡ operands i c
      → IsLeft (one i c depth (touched (map span_of need) now)) need c new now t e
      → back ≡ range_at t (get_or need 0 no_range).first (get_or need 0 no_range).length
      → length t ≡ storage_size
      → outcome_from e new (take (first_size need) (back ++ rest))
      ≡ trimmed (first_size need) (one i c depth (operand_bytes prefix seen need))
  lent-outcome i c new depth t back rest e ei left eb long =
      let end = operand-end prefix need 0 accessible in
      plain-outcome i c new depth prefix seen need now t (back ++ rest) e ei now-inside now-fetched left
      (kept-apart need t back rest (omega (arith, end, long)) eb)

  pub lent-image : (i : Instr) (c new : Cpu) (depth : ℕ) (t : List ℕ) (e : Ended)
      → IsLeft (one i c depth (touched (map span_of need) now)) need c new now t e
      → new ≡ cpu_after c (one i c depth (operand_bytes prefix seen need))
  lent-image i c new depth t e left =
      left.image ∙ ap (λ (bs : List ℕ). cpu_after c (one i c depth bs)) now-fetched
